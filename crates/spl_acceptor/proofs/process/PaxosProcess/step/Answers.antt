use Rattle.std.proofs.Common.{ℕ, subst}
use Rattle.spl_acceptor.specs.{Records.MakeDurable, Steps.CarriesOut, Worlds.round_of}
use Rattle.spl_acceptor.proofs.process.PaxosProcess.step.Goals as goal

pub returns-clause-done : goal.returns-clause-done
returns-clause-done g c =
    let k = g.K.Keeps in
    let p = c.args.self.now in
    let x = c.args.message.now in
    let plan = k.heard p.group (k.kept p.rounds (round_of x)) c.args.from x in
    subst (λ (r : ℕ). CarriesOut (MakeDurable k.with k.stopped k.first p.group.members) k.after (k.kept p.rounds) (k.kept c.carry_out.new.self.rounds) r plan
    (g.D.Disk.view c.args.disk.now) (g.D.Disk.view c.carry_out.new.disk) c.carry_out.result) c.round_of.ensures
    (c.carry_out.ensures.done plan c.plan-plan.ensures)

use Rattle.std.proofs.Common.{◌≡◌, rules, subst}
use Rattle.spl_edge.specs.Devices.{image_now}
use Rattle.spl_acceptor.specs.Rows.{member}
use Rattle.spl_paxos_run.{specs.{Seats.IsProcessUp, declared.process.Process.Process}, proofs.Hearings.votes}
use Rattle.spl_paxos_run.specs.declared.process.Process.TheVariants as process
use Rattle.spl_paxos_run.proofs.process.Process.vote.Goals as goal

pub returns-clause-moves : goal.returns-clause-moves
returns-clause-moves g c = λ run w i up.
    let x = g.D.Disk.view c.args.disk.now in
    let m = c.in-Member.member in
    let is : c.args.self.now ≡ process.Member m = search rules in
    votes run w i c.args.round c.args.yes m c.vote.new.member x (g.D.Disk.view c.vote.new.disk) c.vote.result
    (subst (λ (q : Process). IsProcessUp run w (member i) q (image_now x)) is up)
    c.vote.ensures.same c.vote.ensures.running c.vote.ensures.stands c.vote.ensures.told c.vote.ensures.done

use Rattle.spl_paxos_run.proofs.Hearings.{hears}
use Rattle.spl_paxos_run.proofs.process.Process.hear.Goals as goal

pub returns-clause-moves : goal.returns-clause-moves
returns-clause-moves g c =
    λ run w n named up. hears run w c.args.from n c.args.message.now named c.args.self.now c.step.new.self (g.D.Disk.view c.args.disk.now)
    (g.D.Disk.view c.step.new.disk) c.step.result up (c.step.ensures.done run n.number up.run)
    (c.step.ensures.run run n.number up.run) c.step.ensures.running c.step.ensures.stands c.step.ensures.told

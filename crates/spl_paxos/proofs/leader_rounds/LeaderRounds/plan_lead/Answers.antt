use Rattle.std.proofs.Common.{sym}
use Rattle.spl_paxos.specs.Leaders.{leader_in}
use Rattle.spl_paxos.proofs.leader_rounds.LeaderRounds.plan_lead.Goals as goal

pub returns : goal.returns
returns c = c.on_lead.ensures (leader_in c.args.self.now c.args.round) (sym c.used.ensures)

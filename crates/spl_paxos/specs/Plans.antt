-- Plans of the code, as the definitions have them (docs/RULES.md, Paxos Commit).
use Rattle.std.specs.Prelude.{Option, Some, None}
use Rattle.spl_acceptor.specs.{Rows.{Move, Keep, Count, Begin, Hear, Close, PaxosPlan, pair_among}, declared.message.Acceptance.Acceptance}
use Rattle.spl_paxos.specs.declared.plan.{LeaderMove.LeaderMove, LeaderPlan.LeaderPlan, MemberPlan.MemberPlan}
use Rattle.spl_paxos.specs.declared.plan.LeaderMove.TheVariants as opening

-- what a member counts
abbrev pub counting : Option Acceptance → Move
counting None = Keep
counting (Some x) = Count x

-- what becomes of an open ballot
abbrev pub move_of : LeaderMove → Move
move_of opening.Keep = Keep
move_of (opening.Begin b) = Begin b
move_of (opening.Hear a pairs) = Hear a (pair_among pairs)
move_of opening.Close = Close

abbrev pub member_plan : MemberPlan → PaxosPlan
member_plan p = record { note = p.note; change = p.change; move = counting p.count; sends = p.sends }

abbrev pub leader_plan : LeaderPlan → PaxosPlan
leader_plan p = record { note = p.note; change = p.change; move = move_of p.opening; sends = p.sends }

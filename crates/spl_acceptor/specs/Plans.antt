-- Plans of the code, as the definitions have them (docs/RULES.md, Paxos Commit).
use Rattle.spl_acceptor.specs.{Rows.{Keep, PaxosPlan}, declared.plan.AcceptorPlan.AcceptorPlan}

-- an acceptor has nothing volatile
abbrev pub acceptor_plan : AcceptorPlan → PaxosPlan
acceptor_plan p = record { note = p.note; change = p.change; move = Keep; sends = p.sends }

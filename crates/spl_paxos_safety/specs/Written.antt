-- The records that a process writes in a run (docs/RULES.md, Paxos Commit).
use Rattle.std.specs.Prelude.{List, [], ◌∷◌, ◌++◌, ◌&&◌, Option, Some, None, is_none, if◌then◌else◌}
use Rattle.spl_acceptor.specs.{Logs.one_or_none, Rows.{PaxosPlan, note_alone, member, leader, on_paxos_vote, on_lead}, Worlds.{PaxosCommitWorld, Happening}}
use Rattle.spl_acceptor.specs.Worlds.{Votes, Leads, Delivers, Shows, Stops, Starts, same_name, message_at, heard_plan, paxos_happens}
use Rattle.spl_acceptor.specs.declared.{group.Group.Group, message.{Name.Name, PaxosMsg.PaxosMsg}}
use Rattle.spl_acceptor.specs.declared.record.PaxosRecord.{PaxosRecord}
use Rattle.spl_acceptor.specs.declared.note.PaxosNote.TheVariants as note

-- the process of a line
abbrev pub process_of : Happening → Name
process_of (Votes i r aye) = member i
process_of (Leads l r) = leader l
process_of (Delivers from to k) = to
process_of (Shows i r) = member i
process_of (Stops n) = n
process_of (Starts n) = n

abbrev pub delivered_plan : Group → PaxosCommitWorld → Name → Name → Option PaxosMsg → PaxosPlan
delivered_plan g w from to None = note_alone note.Ignored
delivered_plan g w from to (Some m) = heard_plan g w from to m

-- what a line gives at its process; nothing where it is refused
abbrev pub happening_plan : Group → PaxosCommitWorld → Happening → PaxosPlan
happening_plan g w (Votes i r aye) = if w.up (member i) && is_none (w.member i r).vote then on_paxos_vote g i r aye else note_alone note.Ignored
happening_plan g w (Leads l r) = if w.up (leader l) then on_lead g l (w.leader l r) r else note_alone note.Ignored
happening_plan g w (Delivers from to k) = if w.up to then delivered_plan g w from to (message_at w from to k) else note_alone note.Ignored
happening_plan g w (Shows i r) = note_alone note.Ignored
happening_plan g w (Stops n) = note_alone note.Ignored
happening_plan g w (Starts n) = note_alone note.Ignored

-- those that a line writes at a process
abbrev pub written_by : Group → PaxosCommitWorld → Happening → Name → List PaxosRecord
written_by g w e n = if same_name (process_of e) n then one_or_none (happening_plan g w e).change else []

-- and those of all lines, in order
abbrev pub written : Group → PaxosCommitWorld → List Happening → Name → List PaxosRecord
written g w [] n = []
written g w (e ∷ es) n = written_by g w e n ++ written g (paxos_happens g w e) es n

-- What comes of a schedule of Paxos Commit, and what holds of every one (docs/RULES.md, Paxos Commit, Statuses).
use Rattle.std.specs.Prelude.{◌≡◌, ◌⊎◌, ◌≤◌, ◌+◌, ℕ, Bool, true, false, List, [], ◌++◌, length, Some, Ok, Err}
use Rattle.spl_acceptor.specs.{Quorums.IsWithin as IsMember, Rows.{member, acceptor, leader}, Worlds.{Happening, paxos_run, paxos_world_after}}
use Rattle.spl_acceptor.specs.declared.{group.Group.Group, message.Name.Name}
use Rattle.spl_edge.specs.{Devices.{Rose, SourceView}, Sources.{limit, given}}
use Rattle.spl_lines.specs.Lines.{run_of, rest_of}
use Rattle.spl_paxos.specs.{Lines.name_text, declared.line.PaxosLine.PaxosLine}
use Rattle.spl_paxos_run.specs.{Limits.AreLinesWithin, Run.{ArePaxosLines, PaxosDevices, PaxosEnded, PaxosEndsText, PaxosOutcome}, Schedule.happenings}
use Rattle.spl_paxos_run.specs.{Schedule.numbered_lines, Wholes.HasFailedAt}
use Rattle.spl_paxos_run.specs.declared.run.PaxosEnd.TheVariants as end
use Rattle.spl_paxos_run.specs.declared.fault.PaxosFault.TheVariants as fault
use Rattle.spl_paxos_safety.specs.{Begun.HasBegun, Settling.{Distinct, IsAmong, settling}}
use Rattle.spl_cli.specs.declared.status.Status.{Status}
use Rattle.spl_cli.specs.declared.status.Status.TheVariants as status

-- ---- a run

-- the status of an end; a process whose disk failed is named in the place of a node
abbrev pub status_of : PaxosEnded → Status
status_of (Ok end.Whole) = status.Ok
status_of (Ok end.TooLong) = status.TooLong
status_of (Ok end.Read) = status.ReadFault
status_of (Err (fault.BadLine n)) = status.BadSchedule n
status_of (Err (fault.TooMany which)) = status.TooMany which
status_of (Err (fault.Disk n)) = status.DiskFault (name_text n)
status_of (Err fault.Write) = status.WriteFault
status_of (Err fault.NoMemory) = status.NoMemory

-- what came of the bytes given: how the run of their lines ended, which the status names, how far they were read, and which
-- lines ran, what they wrote, and what they left on the disks
pub record CameOfGroup (s : Status) (g : Group) (c d : SourceView) (x y : PaxosDevices) : Type 0 where
  pub ended : PaxosEnded
  pub status : s ≡ status_of ended
  pub text : PaxosEndsText ended g (run_of (given c d)) c d
  pub ran : PaxosOutcome ended g (run_of (given c d)) x y

-- the schedule may have each of the text's lines, they are within the limits, and nothing stands after the last
pub record GroupCanEnd (g : Group) (text : List ℕ) : Type 0 where
  pub allowed : ArePaxosLines g (run_of text)
  pub within : AreLinesWithin (numbered_lines 1 (run_of text))
  pub short : length text ≤ limit
  pub whole : rest_of text ≡ []

-- neither the schedule's source, the sink nor the disk of a process failed
pub record NoneFailed (g : Group) (c d : SourceView) (x y : PaxosDevices) : Type 0 where
  pub schedule : Rose c.faults d.faults → ⊥
  pub sink : Rose x.sink.faults y.sink.faults → ⊥
  pub disks : (n : Name) → HasFailedAt g n x.disks y.disks → ⊥

-- ---- what holds of every schedule

-- After these lines no two members have decided a round differently, and no decision changes by others. Commit comes only where
-- every member voted yes, and abort only where a member voted no or a leader began a ballot of the round
pub record RoundsAgree (g : Group) (es : List Happening) : Type 0 where
  pub same : (r m n : ℕ) (p q : Bool) → ((paxos_world_after g es).member m r).decision ≡ Some p → ((paxos_world_after g es).member n r).decision ≡ Some q
      → p ≡ q
  pub stays : (fs : List Happening) (r m : ℕ) (d : Bool) → ((paxos_world_after g es).member m r).decision ≡ Some d
      → ((paxos_world_after g (es ++ fs)).member m r).decision ≡ Some d
  pub commit : (r m i : ℕ) → ((paxos_world_after g es).member m r).decision ≡ Some true → IsMember g.members i
      → ((paxos_world_after g es).member i r).vote ≡ Some true
  pub abort : (r m : ℕ) → ((paxos_world_after g es).member m r).decision ≡ Some false
      → ((i : ℕ) × IsMember g.members i × (((paxos_world_after g es).member i r).vote ≡ Some false)) ⊎ HasBegun g es r

-- a leader and F + 1 acceptors are up after these lines
pub record CanLead (g : Group) (es : List Happening) (l : ℕ) (those : List ℕ) : Type 0 where
  pub led : (paxos_world_after g es).up (leader l) ≡ true
  pub up : (a : ℕ) → IsAmong a those → (paxos_world_after g es).up (acceptor a) ≡ true
  pub distinct : Distinct those
  pub enough : g.faults + 1 ≤ length those

-- then two turns of the leader at these acceptors leave each of these members decided that is up
abbrev pub LeadersSettle : Group → List Happening → Type 0
LeadersSettle g es = (l r : ℕ) (those ms : List ℕ) → CanLead g es l those → (m : ℕ) → IsAmong m ms → (paxos_world_after g es).up (member m) ≡ true
    → (d : Bool) × (((paxos_run g (paxos_world_after g es) (settling g (paxos_world_after g es) l r those ms)).member m r).decision ≡ Some d)

-- so it is after every list of lines, and the second after each that is within the limits
pub record RoundsDecide (g : Group) (ls : List (ℕ × PaxosLine)) : Type 0 where
  pub agree : RoundsAgree g (happenings ls)
  pub settle : 1 ≤ g.members → AreLinesWithin ls → LeadersSettle g (happenings ls)

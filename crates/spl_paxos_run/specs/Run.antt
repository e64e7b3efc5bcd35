-- What comes of a run of Paxos Commit: every sentence speaks of the same lines, those that ran (docs/RULES.md, Statuses).
use Rattle.std.specs.{Prelude.{◌≡◌, ◌⊎◌, ◌<◌, ◌≤◌, ◌+◌, ◌-◌, ℕ, List, [], ◌∷◌, ◌++◌, Option, Result, Ok, Err, ⊤, length, take, drop}, List.AllByRecursion}
use Rattle.std.specs.Io.{appended_bytes, KnownBytes.{Appends, IsAtEnd}}
use Rattle.spl_lines.specs.Lines.{IsWholeText, IsOverlong, IsUnfinished, IsShort, rest_of}
use Rattle.spl_edge.specs.{Sources.{given, limit}, Devices.{AppendsPart, Rose, DiskView, PairView, SinkView, SourceView}}
use Rattle.spl_acceptor.specs.{Worlds.{Happening, first_paxos_world}, declared.{group.Group.Group, message.Name.Name}}
use Rattle.spl_paxos.specs.{Lines.happening_of, declared.line.PaxosLine.PaxosLine}
use Rattle.spl_paxos_run.specs.{Faults.IsOfWorld, Places.EachDisk, Wholes.{AreSpared, AreProcessesUnmade, HasFailedAt, HasFallen, ProcessHasPicked}}
use Rattle.spl_paxos_run.specs.{Wholes.HoldsAfter, Limits.{IsOverPaxosLimit, AreLinesWithin}, Schedule.{IsPaxosLine, happenings, numbered_lines, outputs}}
use Rattle.spl_paxos_run.specs.declared.{fault.PaxosFault.PaxosFault, run.PaxosEnd.PaxosEnd}
use Rattle.spl_paxos_run.specs.declared.fault.PaxosFault.TheVariants as fault
use Rattle.spl_paxos_run.specs.declared.run.PaxosEnd.TheVariants as end
use Rattle.spl_paxos_safety.specs.Written.{process_of}

-- how a run ended
abbrev pub PaxosEnded : Type 0
PaxosEnded = Result PaxosEnd PaxosFault

abbrev pub ArePaxosLines : Group → List (List ℕ) → Type 0
ArePaxosLines g lines = AllByRecursion (IsPaxosLine g) lines

-- what the devices of a run report: its sink, and its pairs of disks
pub record PaxosDevices : Type 0 where
  pub sink : SinkView
  pub disks : List PairView

abbrev pub paxos_devices : SinkView → List PairView → PaxosDevices
paxos_devices sink disks = record { sink = sink; disks = disks }

-- ---- the text

-- the line of this number is none that the schedule may have
pub record IsBadPaxosLine (g : Group) (lines : List (List ℕ)) (number : ℕ) : Type 0 where
  pub line : List ℕ
  pub more : List (List ℕ)
  pub counted : 0 < number
  pub place : drop (number - 1) lines ≡ line ∷ more
  pub bad : IsPaxosLine g line → ⊥

-- or the one after all lines given has it, and lacks its line feed or is too long
pub record IsBadPaxosRest (lines : List (List ℕ)) (text : List ℕ) (left : Option (List ℕ)) (number : ℕ) : Type 0 where
  pub last : number ≡ length lines + 1
  pub bad : IsUnfinished text left ⊎ IsOverlong text

-- what the source of the schedule gave, by how the run ended
abbrev pub PaxosEndsText : PaxosEnded → Group → List (List ℕ) → SourceView → SourceView → Type 0
PaxosEndsText (Ok end.Whole) g lines s t = IsWholeText (given s t) t.left
PaxosEndsText (Ok end.Read) g lines s t = Rose s.faults t.faults × (length (given s t) ≤ limit) × IsShort (rest_of (given s t))
PaxosEndsText (Ok end.TooLong) g lines s t = (limit < length (given s t)) × IsShort (rest_of (take limit (given s t)))
PaxosEndsText (Err (fault.BadLine n)) g lines s t = IsBadPaxosLine g lines n ⊎ IsBadPaxosRest lines (given s t) t.left n
PaxosEndsText e g lines s t = ⊤

-- ---- how far it came

-- the line after these passes a limit, or the disk of its process failed in it
abbrev pub IsCut : Group → List (ℕ × PaxosLine) → List (ℕ × PaxosLine) → PaxosDevices → PaxosDevices → Type 0
IsCut g before next x y = (t : ℕ × PaxosLine) × (next ≡ t ∷ [])
    × (((which : ℕ) × IsOverPaxosLimit (before ++ t ∷ []) which) ⊎ HasFailedAt g (process_of (happening_of t.1)) x.disks y.disks)

-- where each end came: after all lines given, or those before the bad one; before a line that passes a limit; in a line whose
-- process's disk failed; a failed write after a line, or where a line would have ended it for another fault of these; and want of
-- memory anywhere. `read` are the lines read, `before` what ran of them, and `next` the line at which it ended, where it ended at
-- one
abbrev pub PaxosRunEnds : PaxosEnded → Group → List (List ℕ) → List (List ℕ) → List (ℕ × PaxosLine) → List (ℕ × PaxosLine) → PaxosDevices → PaxosDevices
    → Type 0
PaxosRunEnds (Ok e) g lines read before next x y = (read ≡ lines) × (next ≡ [])
PaxosRunEnds (Err (fault.BadLine n)) g lines read before next x y = (read ≡ take (n - 1) lines) × (next ≡ [])
PaxosRunEnds (Err (fault.TooMany which)) g lines read before next x y = (t : ℕ × PaxosLine) × (next ≡ t ∷ []) × IsOverPaxosLimit (before ++ t ∷ []) which
PaxosRunEnds (Err (fault.Disk n)) g lines read before next x y =
    (t : ℕ × PaxosLine) × (next ≡ t ∷ []) × (n ≡ process_of (happening_of t.1)) × HasFailedAt g n x.disks y.disks
PaxosRunEnds (Err fault.Write) g lines read before next x y = Rose x.sink.faults y.sink.faults × ((next ≡ []) ⊎ IsCut g before next x y)
PaxosRunEnds (Err fault.NoMemory) g lines read before next x y = ⊤

-- ---- what it leaves

-- all of these answers are written, and a prefix of them where a write failed or memory ran out
abbrev pub AnswersWritten : PaxosEnded → Option (List ℕ) → Option (List ℕ) → List ℕ → Type 0
AnswersWritten (Err fault.Write) old new all = AppendsPart old new all
AnswersWritten (Err fault.NoMemory) old new all = AppendsPart old new all
AnswersWritten e old new all = Appends old new all

-- the disk of a process holds what it keeps after these lines, and picked at each that took it down
pub record IsDiskLeft (g : Group) (es : List Happening) (n : Name) (s p : DiskView) : Type 0 where
  pub held : HoldsAfter g es n p
  pub picked : ProcessHasPicked g es n s p

-- so it is of each process; where the run ended in a line, by a disk or for want of memory, as that line may leave it
abbrev pub Left : PaxosEnded → Group → List (ℕ × PaxosLine) → List (ℕ × PaxosLine) → List PairView → List PairView → Type 0
Left (Err (fault.TooMany which)) g before next start now = EachDisk (IsDiskLeft g (happenings before)) g start now
Left e g before [] start now = EachDisk (IsDiskLeft g (happenings before)) g start now
Left e g before (t ∷ ts) start now = EachDisk (HasFallen g (happenings before) (happening_of t.1)) g start now

-- ---- the run

-- a run of lines, from x to y
pub record PaxosRun (e : PaxosEnded) (g : Group) (lines : List (List ℕ)) (x y : PaxosDevices) : Type 0 where
  -- the lines that were read, which the schedule may have, and the others
  pub read : List (List ℕ)
  pub rest : List (List ℕ)
  pub place : lines ≡ read ++ rest
  pub allowed : ArePaxosLines g read
  -- what ran of them, within the limits, and the line at which it ended, where it ended at one
  pub before : List (ℕ × PaxosLine)
  pub next : List (ℕ × PaxosLine)
  pub all : numbered_lines 1 read ≡ before ++ next
  pub within : AreLinesWithin before
  pub ends : PaxosRunEnds e g lines read before next x y
  -- the answers to the lines that ran
  pub written : AnswersWritten e x.sink.written y.sink.written (outputs g (first_paxos_world g) before)
  -- what the disks hold and picked
  pub left : Left e g before next x.disks y.disks

-- not all processes were made, since a disk failed or memory ran out: nothing was written
pub record ProcessesUnmade (e : PaxosEnded) (g : Group) (x y : PaxosDevices) : Type 0 where
  pub fault : PaxosFault
  pub is : e ≡ Err fault
  pub cause : IsOfWorld fault
  pub disks : AreProcessesUnmade g fault x.disks y.disks
  pub written : Appends x.sink.written y.sink.written []

-- what came of lines
pub record PaxosOutcome (e : PaxosEnded) (g : Group) (lines : List (List ℕ)) (x y : PaxosDevices) : Type 0 where
  pub done : ProcessesUnmade e g x y ⊎ PaxosRun e g lines x y
  pub spared : AreSpared g x.disks y.disks

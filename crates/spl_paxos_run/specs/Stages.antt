-- Where a run of Paxos Commit stands, and where it stopped, while some of the answers wait to be written.
use Rattle.std.specs.Prelude.{◌≡◌, ◌⊎◌, ◌≤◌, ℕ, List, [], ◌∷◌, ◌++◌, Option, Ok, Err, ⊤, length}
use Rattle.spl_edge.specs.{Devices.Rose, declared.fault.DeviceError.DeviceError}
use Rattle.spl_edge.specs.declared.fault.DeviceError.TheVariants as device
use Rattle.spl_lines.specs.{Due.{IsOutputDue, IsDuePart}, declared.feed.FeedFault.FeedFault}
use Rattle.spl_lines.specs.declared.feed.FeedFault.TheVariants as feed
use Rattle.spl_acceptor.specs.{Worlds.first_paxos_world, declared.group.Group.Group}
use Rattle.spl_paxos.specs.{Lines.happening_of, declared.line.PaxosLine.PaxosLine}
use Rattle.spl_paxos_run.specs.{Places.EachDisk, Wholes.{AreSpared, HasFailedAt, ProcessHasPicked, WorldStands, group_of}, Limits.IsOverPaxosLimit}
use Rattle.spl_paxos_run.specs.{Limits.{AreLinesWithin, paxos_stops}, Run.{ArePaxosLines, PaxosDevices, PaxosEnded, PaxosRunEnds, Left}, Schedule.IsPaxosLine}
use Rattle.spl_paxos_run.specs.{Schedule.{happenings, numbered_lines, outputs, paxos_line_said, with_number}, declared.fault.PaxosFault.PaxosFault}
use Rattle.spl_paxos_run.specs.declared.run.Run.{Run}
use Rattle.spl_paxos_run.specs.declared.fault.PaxosFault.TheVariants as fault
use Rattle.spl_paxos_run.specs.declared.run.PaxosEnd.TheVariants as end
use Rattle.spl_paxos_safety.specs.Written.{process_of}

-- so it ends where the next line has this number, and doesn't come
abbrev pub paxos_feed_end : FeedFault → ℕ → PaxosEnded
paxos_feed_end feed.Unfinished n = Err (fault.BadLine n)
paxos_feed_end feed.Overlong n = Err (fault.BadLine n)
paxos_feed_end feed.TooLong n = Ok end.TooLong
paxos_feed_end feed.Read n = Ok end.Read
paxos_feed_end feed.NoMemory n = Err fault.NoMemory

-- what an error of the sink is to the run
abbrev pub paxos_fault : DeviceError → PaxosFault
paxos_fault device.Failed = fault.Write
paxos_fault device.NoMemory = fault.NoMemory

-- these lines ran since x, and their answers were written or wait
pub record AreLinesDone (g : Group) (ls : List (ℕ × PaxosLine)) (run : Run) (x y : PaxosDevices) : Type 0 where
  pub group : group_of run.world ≡ g
  pub stands : WorldStands (happenings ls) run.world y.disks
  pub picked : EachDisk (ProcessHasPicked g (happenings ls)) g x.disks y.disks
  pub spared : AreSpared g x.disks y.disks
  pub within : AreLinesWithin ls
  pub events : run.events ≡ length ls
  pub stops : run.stops ≡ paxos_stops ls
  pub due : IsOutputDue x.sink.written y.sink.written run.output (outputs g (first_paxos_world g) ls)
  pub later : x.sink.faults ≤ y.sink.faults

-- all of these answers were written or wait, and a prefix of them where a write failed or memory ran out
abbrev pub PaxosDue : PaxosEnded → Option (List ℕ) → Option (List ℕ) → List ℕ → List ℕ → Type 0
PaxosDue (Err fault.Write) old new waiting all = IsDuePart old new waiting all
PaxosDue (Err fault.NoMemory) old new waiting all = IsDuePart old new waiting all
PaxosDue e old new waiting all = IsOutputDue old new waiting all

-- why a fault ended a run: a limit that the next line passes, a disk that failed in it, or the sink
abbrev pub PaxosEndsAt : PaxosFault → Group → List (ℕ × PaxosLine) → List (ℕ × PaxosLine) → PaxosDevices → PaxosDevices → Type 0
PaxosEndsAt (fault.BadLine n) g before next x y = next ≡ []
PaxosEndsAt (fault.TooMany which) g before next x y = (t : ℕ × PaxosLine) × (next ≡ t ∷ []) × IsOverPaxosLimit (before ++ t ∷ []) which
PaxosEndsAt (fault.Disk n) g before next x y =
    (t : ℕ × PaxosLine) × (next ≡ t ∷ []) × (n ≡ process_of (happening_of t.1)) × HasFailedAt g n x.disks y.disks
PaxosEndsAt fault.Write g before next x y = (next ≡ []) × Rose x.sink.faults y.sink.faults
PaxosEndsAt fault.NoMemory g before next x y = ⊤

-- what a run that ended so leaves: these lines ran, of which the next is the one at which it ended, where it ended at one
pub record PaxosRunLeaves (e : PaxosEnded) (g : Group) (before next : List (ℕ × PaxosLine)) (waiting : List ℕ) (x y : PaxosDevices) : Type 0 where
  pub within : AreLinesWithin before
  pub left : Left e g before next x.disks y.disks
  pub spared : AreSpared g x.disks y.disks
  pub due : PaxosDue e x.sink.written y.sink.written waiting (outputs g (first_paxos_world g) before)

-- a run of these lines ended with this fault in the last of them, or after it
pub record RunFailsAt (f : PaxosFault) (g : Group) (ls : List (ℕ × PaxosLine)) (waiting : List ℕ) (x y : PaxosDevices) : Type 0 where
  pub before : List (ℕ × PaxosLine)
  pub next : List (ℕ × PaxosLine)
  pub all : ls ≡ before ++ next
  pub leaves : PaxosRunLeaves (Err f) g before next waiting x y
  pub why : PaxosEndsAt f g before next x y

-- a line after these, of this number, ended the run: none that the schedule may have, or one of which the run ended so
abbrev pub RunFailsBy : PaxosFault → Group → List (ℕ × PaxosLine) → ℕ → List ℕ → List ℕ → PaxosDevices → PaxosDevices → Type 0
RunFailsBy (fault.BadLine n) g ls number line waiting x y = (n ≡ number) × (IsPaxosLine g line → ⊥) × RunFailsAt (fault.BadLine n) g ls waiting x y
RunFailsBy f g ls number line waiting x y =
    RunFailsAt f g ls waiting x y ⊎ (IsPaxosLine g line × RunFailsAt f g (ls ++ with_number number (paxos_line_said line) []) waiting x y)

-- a run of lines ended so
pub record ReachesPaxosEnd (e : PaxosEnded) (g : Group) (lines : List (List ℕ)) (waiting : List ℕ) (x y : PaxosDevices) : Type 0 where
  pub read : List (List ℕ)
  pub rest : List (List ℕ)
  pub place : lines ≡ read ++ rest
  pub allowed : ArePaxosLines g read
  pub before : List (ℕ × PaxosLine)
  pub next : List (ℕ × PaxosLine)
  pub all : numbered_lines 1 read ≡ before ++ next
  pub ends : PaxosRunEnds e g lines read before next x y
  pub leaves : PaxosRunLeaves e g before next waiting x y

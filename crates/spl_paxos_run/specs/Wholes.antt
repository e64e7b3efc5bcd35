-- All processes of a run over their disks, after lines of a schedule (docs/RULES.md, Paxos Commit).
use Rattle.std.specs.Prelude.{◌≡◌, ◌⊎◌, ◌<◌, ◌≤◌, ℕ, ◌&&◌, List, [], ◌∷◌, ◌++◌, Some, IfSome, IsSomeAnd, IsTrue, ⊤, Result, length, slice_get, if◌then◌else◌}
use Rattle.spl_node.specs.Benches.{last_count}
use Rattle.spl_edge.specs.{Devices.{Picked, DiskView, PairView, image_now}, declared.disk.Arming.TheVariants.Off}
use Rattle.spl_journal.specs.{Records.IsBlank, declared.form.JournalFault.JournalFault}
use Rattle.spl_acceptor.specs.{Logs.JournalMakes, Worlds.{PaxosCommitWorld, Happening, has_name, same_name, first_paxos_world, paxos_world_after}}
use Rattle.spl_acceptor.specs.{Worlds.paxos_happens, declared.{group.Group.Group, message.Name.Name}}
use Rattle.spl_paxos_safety.specs.Written.{process_of}
use Rattle.spl_paxos_run.specs.{Places.{process_count, process_place, name_at, EachDisk}, Posts.HoldsSent, Seats.SeatStands, States.{MakeStates, states_in}}
use Rattle.spl_paxos_run.specs.{Steps.{takes_down, IsStopPick, HoldsEither, SeatDoes, LeavesDisk}, declared.fault.PaxosFault.{PaxosFault, TheVariants.Disk}}
use Rattle.spl_paxos_run.specs.declared.{seat.Seat.Seat, step.SeatStep.SeatStep, world.PaxosWorld.PaxosWorld}

-- ---- processes

abbrev pub group_of : PaxosWorld → Group
group_of w = w.group

-- each process is at its place, and it and the first disk of the pair there are as a world says
pub record AreSeated (g : Group) (w : PaxosCommitWorld) (seats : List Seat) (ps : List PairView) : Type 0 where
  pub as_many : length seats ≡ process_count g
  pub room : process_count g ≤ length ps
  pub names : (k : ℕ) (s : Seat) → slice_get seats k ≡ Some s → s.name ≡ name_at g k
  pub each : (k : ℕ) (s : Seat) (p : PairView) → slice_get seats k ≡ Some s → slice_get ps k ≡ Some p → SeatStands g w s (image_now p.first)

-- after these lines processes, disks and messages are as the definitions say
pub record WorldStands (es : List Happening) (world : PaxosWorld) (ps : List PairView) : Type 0 where
  pub seats : AreSeated world.group (paxos_world_after world.group es) world.seats.items ps
  pub sent : HoldsSent world.posts (paxos_world_after world.group es).sent

-- ---- picks

-- the worlds in which one of these lines took the process down
abbrev pub stops_in : Group → Name → PaxosCommitWorld → List Happening → List PaxosCommitWorld
stops_in g n w [] = []
stops_in g n w (e ∷ es) = (if same_name (process_of e) n && takes_down w e then w ∷ [] else []) ++ stops_in g n (paxos_happens g w e) es

-- the picks are one at each of these stops, in order, and no other
abbrev pub ArePicks : Group → Name → List PaxosCommitWorld → List Picked → Type 0
ArePicks g n [] [] = ⊤
ArePicks g n (w ∷ ws) (p ∷ ps) = IsStopPick g w n p × ArePicks g n ws ps
ArePicks g n ws ps = ⊥

-- after these lines the disk of a process picked at each line that took it down, and nowhere else; it isn't armed, and no fault
-- is forgotten, since the start or since its last pick
pub record ProcessHasPicked (g : Group) (es : List Happening) (n : Name) (s p : DiskView) : Type 0 where
  pub picks : ArePicks g n (stops_in g n (first_paxos_world g) es) p.picks
  pub unarmed : p.armed.arming ≡ Off
  pub later : last_count s.faults p.picks ≤ p.faults
  pub no_less : s.faults ≤ p.faults

-- the disk of this process has failed since its last pick
pub record HasFailedAt (g : Group) (n : Name) (start now : List PairView) : Type 0 where
  pub named : IsTrue (has_name g n)
  pub failed : (s p : PairView) → slice_get start (process_place g n) ≡ Some s → slice_get now (process_place g n) ≡ Some p
      → last_count s.first.faults p.first.picks < p.first.faults

-- ---- disks

-- the records of a disk make what its process keeps after these lines
abbrev pub HoldsAfter : Group → List Happening → Name → DiskView → Type 0
HoldsAfter g es n p = IsSomeAnd (image_now p) (λ i. JournalMakes (MakeStates g.members (states_in (paxos_world_after g es) n)) i.bytes)

-- a line after these ended with an error: each disk holds what its process keeps before the line or after it, and its picks are
-- those of the lines before, or those and the line's
pub record HasFallen (g : Group) (es : List Happening) (e : Happening) (n : Name) (s p : DiskView) : Type 0 where
  pub held : HoldsEither g n (paxos_world_after g es) (paxos_world_after g (es ++ e ∷ [])) (image_now p)
  pub picked : ProcessHasPicked g es n s p ⊎ ProcessHasPicked g (es ++ e ∷ []) n s p

-- of a pair no more than the first disk changed, and of other pairs nothing
pub record ChangesFirst (k : ℕ) (old new : List PairView) : Type 0 where
  pub as_many : length new ≡ length old
  pub others : (i : ℕ) → (i ≡ k → ⊥) → slice_get new i ≡ slice_get old i
  pub second : (p q : PairView) → slice_get old k ≡ Some p → slice_get new k ≡ Some q → q.second ≡ p.second

-- second disks, and pairs that no process has, stay as they were
pub record AreSpared (g : Group) (old new : List PairView) : Type 0 where
  pub as_many : length new ≡ length old
  pub others : (i : ℕ) → process_count g ≤ i → slice_get new i ≡ slice_get old i
  pub second : (i : ℕ) (p q : PairView) → slice_get old i ≡ Some p → slice_get new i ≡ Some q → q.second ≡ p.second

-- a line after these at the process at a place, of which the line is; the other processes stay as they were
pub record StepsAt (g : Group) (es : List Happening) (e : Happening) (k : ℕ)
    (seats now : List Seat) (ps qs : List PairView) (result : Result SeatStep JournalFault) : Type 0 where
  pub seat : Seat
  pub pair : PairView
  pub later : PairView
  pub there : slice_get now k ≡ Some seat
  pub before : slice_get ps k ≡ Some pair
  pub after : slice_get qs k ≡ Some later
  pub name : seat.name ≡ process_of e
  pub does : SeatDoes g (paxos_world_after g es) e (process_of e) seat pair.first later.first result
  pub leaves : LeavesDisk pair.first later.first result
  pub as_many : length now ≡ length seats
  pub others : (i : ℕ) → (i ≡ k → ⊥) → slice_get now i ≡ slice_get seats i

-- ---- the making

-- a blank disk that picked nothing and isn't armed
pub record IsUntouchedDisk (d : DiskView) : Type 0 where
  pub blank : IfSome (image_now d) IsBlank
  pub unpicked : d.picks ≡ []
  pub unarmed : d.armed.arming ≡ Off

-- each process has such a disk
abbrev pub AreFresh : Group → List PairView → Type 0
AreFresh g ps = (k : ℕ) (p : PairView) → k < process_count g → slice_get ps k ≡ Some p → IsUntouchedDisk p.first

-- The making of the processes ended with an error at one of them. The disk of each other holds what it held, or what a process
-- keeps where nothing happened, and nothing was picked
pub record AreProcessesUnmade (g : Group) (f : PaxosFault) (start now : List PairView) : Type 0 where
  pub one : Name
  pub failed : (n : Name) → f ≡ Disk n → (n ≡ one) × HasFailedAt g n start now
  pub others : EachDisk (λ n s p. (n ≡ one → ⊥) → (image_now p ≡ image_now s) ⊎ HoldsAfter g [] n p) g start now
  pub picked : EachDisk (ProcessHasPicked g []) g start now

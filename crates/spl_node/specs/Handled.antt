-- What an event at a node that is up did, or a stop in one.
use Rattle.std.specs.Prelude.{◌≡◌, ◌≢◌, ◌⊎◌, ◌≤◌, ◌<◌, [], ℕ, Bool, false, List, Option, Some, Result, OnOk, IfOk, IsErrOf}
use Rattle.spl_circuit.specs.Nodes.{CircuitId}
use Rattle.spl_edge.specs.{Devices.{DiskView, PairView, pair_view}, declared.bench.Pair.Pair}
use Rattle.spl_journal.specs.declared.form.JournalFault.{JournalFault}
use Rattle.spl_journal.specs.declared.form.JournalFault.TheVariants as fault
use Rattle.spl_snapshot.specs.{Calls.OtherRose, Counting.{chosen, second_counts, IfPairTells, PairLeaves, PairLeavesInTurn, PairOnward, PairTellsAs}}
use Rattle.spl_snapshot.specs.{Counting.HasRisen, Pairs.is_second, Stopped.PicksCount}
use Rattle.spl_wire.specs.declared.{change.Change.Change, event.Event.Event, plan.Plan.Plan}
use Rattle.spl_cell_rules.specs.{Cells.{Cell, site_at}, Plans.plan_of}
use Rattle.spl_node.specs.{Stands.{HostStandsOn, host_id, host_cell_on, host_second, is_host_up, StandFor, here_of, circuit_cell}, Kept.cells_after}
use Rattle.spl_node.specs.Stopping.{BothPickAtMostOnce, FillsHost, FillsJournal, IsInCheckpoint, PicksArmed, PicksMake, StandForEither, cells_stopped}
use Rattle.spl_node.specs.{Stopping.{counting_arming, event_changes, fill_of, has_changes, keeps, may_turn, other_arming, passing}, declared.host.Host.Host}
use Rattle.spl_node.specs.declared.{node.Node.Node, stopping.Stopping.Stopping}

-- what an event at the cell of a circuit gives at a node over these disks
abbrev pub plan_on : Host → PairView → CircuitId → Event → Plan
plan_on h x c e = plan_of (site_at (host_id h) c) (host_cell_on h x c) e

-- the cells after it
abbrev pub cells_on : Host → PairView → CircuitId → Event → CircuitId → Cell
cells_on h x c e = cells_after (host_id h) (host_cell_on h x) c e

-- what a stop leaves of an event, and what the disks hold after Ok
pub record LeavesHandled {A : Type 0} (c : CircuitId) (e : Event) (q : Result A JournalFault) (h k : Host) (x y : PairView) : Type 0 where
  -- at any moment what stands for the cells before the event, or for those after it
  pub any_moment : IfPairTells x (λ i j. PairLeavesInTurn (host_second h) x y
      (λ a b. StandFor (host_id h) (host_cell_on h x) a b ⊎ StandFor (host_id h) (cells_on h x c e) a b))
  pub told : OnOk q (PairTellsAs x y)
  pub stands : OnOk q (HostStandsOn k y)

-- how an event ended: the disks are a journal, a disk that is named has failed, and both went on
pub record HandleEnds {A : Type 0} (q : Result A JournalFault) (x y : PairView) : Type 0 where
  pub not : (at : ℕ) → IsErrOf q (fault.NotAJournal at) → ⊥
  pub failed : IsErrOf q fault.Disk → HasRisen x y
  pub onward : PairOnward x y

-- ---- a stop in an event

-- an event with these changes at a node whose disks are armed for a stop in it
pub record StopsArmed {D E : Type 0} (view : D → DiskView) (c : CircuitId) (xs : List Change) (s : Stopping) (q : Result Bool E)
    (n : Node) (x y : Pair D) : Type 0 where
  pub tells : IfOk q (λ b. b ≡ has_changes xs)
  -- what the disks pick makes the cells after the stop
  pub left : OnOk q (IfPairTells (pair_view view y)
      (PicksMake (fill_of s) (here_of n) (cells_stopped (here_of n) (circuit_cell n) c xs (keeps s))))
  -- whatever the result, a stop leaves what stands for the cells before the event or for those after the stop in it
  pub leaves : PairLeaves (pair_view view y) (pair_view view y) (StandForEither (here_of n) (circuit_cell n) c xs)
  -- where a call didn't pass that keeps the record a disk has failed, and where one of a checkpoint didn't, the disk that doesn't count
  pub risen : OnOk q (xs ≢ [] → passing s < 4 → HasRisen (pair_view view x) (pair_view view y))
  pub risen_other : OnOk q (FillsJournal (Some n) c xs → IsInCheckpoint s → OtherRose view (is_second n.pairing) x y)
  -- before the head gate of a checkpoint may be open the disk that counted counts in what is picked
  pub counts : OnOk q (may_turn s ≡ false → IfPairTells (pair_view view y) (PicksCount (fill_of s) (is_second n.pairing)))
  pub onward : PairOnward (pair_view view x) (pair_view view y)

-- what the event changes, where there is one
abbrev pub changes_on : Host → PairView → CircuitId → Option Event → List Change
changes_on h x c e = event_changes (host_id h) (host_cell_on h x) c e

-- the node is down, its disks are as it takes them, and its cells are those after a stop in the event; it says whether the event has changes
pub record StopsIn {E : Type 0} (c : CircuitId) (e : Option Event) (s : Stopping) (q : Result Bool E) (h k : Host) (x y : PairView) : Type 0 where
  pub down : OnOk q (is_host_up k ≡ false)
  pub stands : OnOk q (HostStandsOn k y)
  pub tells : IfOk q (λ b. b ≡ has_changes (changes_on h x c e))
  -- the changes are made where their record is kept, and the open rounds are forgotten
  pub cells : OnOk q ((i : CircuitId) → host_cell_on k y i ≡ cells_stopped (host_id h) (host_cell_on h x) c (changes_on h x c e) (keeps s) i)

-- both disks pick what they keep, and which of them counts
pub record PicksStopped {A E : Type 0} (s : Stopping) (q : Result A E) (second : Bool) (x y : PairView) : Type 0 where
  -- the disk that counts is armed for the first four calls of the event, and the other for those after them
  pub picks_first : OnOk q (PicksArmed (fill_of s) (chosen second (counting_arming s) (other_arming s)) x.first y.first)
  pub picks_second : OnOk q (PicksArmed (fill_of s) (chosen second (other_arming s) (counting_arming s)) x.second y.second)
  pub counts : IfPairTells x (λ i j. second_counts i.bytes j.bytes ≡ second)
  -- the same disk counts in what they picked, unless the head gate of a checkpoint may be open
  pub still : OnOk q (may_turn s ≡ false → IfPairTells y (λ i j. second_counts i.bytes j.bytes ≡ second))

-- where a call didn't pass that keeps the record a disk has failed, and where one of a checkpoint didn't, the disk that doesn't count
pub record FailsStopped {D A E : Type 0} (view : D → DiskView) (c : CircuitId) (e : Option Event) (s : Stopping) (q : Result A E)
    (h : Host) (x y : Pair D) : Type 0 where
  pub risen : OnOk q (changes_on h (pair_view view x) c e ≢ [] → passing s < 4 → HasRisen (pair_view view x) (pair_view view y))
  pub risen_other : OnOk q (FillsHost h c (changes_on h (pair_view view x) c e) → IsInCheckpoint s → OtherRose view (host_second h) x y)

-- each disk picked at most once, and no fault is forgotten
pub record ForgetsNothing (x y : PairView) : Type 0 where
  pub once : BothPickAtMostOnce x y
  pub first_stays : x.first.faults ≤ y.first.faults
  pub second_stays : x.second.faults ≤ y.second.faults

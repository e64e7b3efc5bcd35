-- What an event at a node did: what it gave, what a stop leaves, and which calls of the disks were made.
use Rattle.std.specs.Prelude.{◌≡◌, ◌≢◌, ◌⊎◌, ◌≤◌, ◌<◌, ◌+◌, ◌-◌, ◌*◌, ◌^◌, [], ℕ, List, true, not, length, OnOk, IsErrOf, Result}
use Rattle.spl_circuit.specs.Nodes.{CircuitId}
use Rattle.spl_edge.specs.{Devices.{DiskView, PairView, pair_view}, declared.{bench.Pair.Pair, fill.Fill.Fill}}
use Rattle.spl_journal.specs.{Journals.{end_of, len_of, base_of, epoch_of, has_room}, Records.{blocks, sized, is_kept}}
use Rattle.spl_journal.specs.declared.{form.JournalFault.JournalFault, journal.TheConstants.SLACK}
use Rattle.spl_journal.specs.declared.form.JournalFault.TheVariants as fault
use Rattle.spl_snapshot.specs.{Calls.{AppendsFirst, ArmsCheckpoint, CountsIfShut, IsFullAt, OtherRose, PassesEight}, Counting.{chosen, other_disk}}
use Rattle.spl_snapshot.specs.{Counting.{IfPairTells, PairLeaves, PairLeavesInTurn, PairTellsAs}, Pairs.{PairStandsOn, is_second, journal_in}}
use Rattle.spl_snapshot.specs.Stopped.{kept_on}
use Rattle.spl_wire.specs.{Bounds.AllSendable, Grouping.record_of, declared.{change.Change.Change, event.Event.Event, plan.Plan.Plan}}
use Rattle.spl_cell_rules.specs.{Cells.{Cell, site_at}, Plans.plan_of, Valid.are_legal}
use Rattle.spl_node.specs.{Kept.{cells_after, packed_node}, Records.{is_record, record_bytes}, Stands.{IfStand, NodeStandsOn, StandFor, here_of}}
use Rattle.spl_node.specs.{Stands.circuit_cell, Stopping.has_changes, declared.node.{Node.Node, Outcome.Outcome}}

-- what an event at the cell of a circuit gives at a node
abbrev pub plan_at : Node → CircuitId → Event → Plan
plan_at n c e = plan_of (site_at (here_of n) c) (circuit_cell n c) e

-- what it changes there
abbrev pub changes_at : Node → CircuitId → Event → List Change
changes_at n c e = (plan_at n c e).changes

-- the bytes of the record of these changes
abbrev pub event_record : Node → CircuitId → Event → List ℕ
event_record n c e = record_bytes (record_of c (changes_at n c e))

-- how long the journal that counts is with it
abbrev pub len_with : Node → CircuitId → Event → ℕ
len_with n c e = len_of (journal_in n.pairing) + 5 + length (event_record n c e)

-- the cells after the event
abbrev pub cells_at : Node → CircuitId → Event → CircuitId → Cell
cells_at n c e = cells_after (here_of n) (circuit_cell n) c e

-- an outcome has the answer and the messages of this plan, which are legal and can be sent, and says whether it has changes
pub record Gives (p : Plan) (o : Outcome) : Type 0 where
  pub answer : o.answer ≡ p.answer
  pub sends : o.sends ≡ p.sends
  pub changed : o.changed ≡ has_changes p.changes
  pub legal : are_legal o.sends ≡ true
  pub sendable : AllSendable o.sends

-- where the disks stood for the cells of a node, a stop now leaves what stands for those after the event
abbrev pub LeavesNext : CircuitId → Event → Node → PairView → PairView → Type 0
LeavesNext c e n x y = IfStand (here_of n) (circuit_cell n) x (PairLeaves y y (StandFor (here_of n) (cells_at n c e)))

-- what a stop leaves of an event, and what the disks hold after Ok
pub record LeavesStep {A : Type 0} (c : CircuitId) (e : Event) (q : Result A JournalFault) (n m : Node) (x y : PairView) : Type 0 where
  -- at any moment what stands for the cells before the event, or for those after it
  pub any_moment : IfStand (here_of n) (circuit_cell n) x (PairLeavesInTurn (is_second n.pairing) x y
      (λ a b. StandFor (here_of n) (circuit_cell n) a b ⊎ StandFor (here_of n) (cells_at n c e) a b))
  pub after : OnOk q (LeavesNext c e n x y)
  pub told : OnOk q (PairTellsAs x y)
  pub pair : OnOk q (PairStandsOn is_record m.pairing y)
  pub stands : OnOk q (IfStand (here_of n) (circuit_cell n) x (NodeStandsOn m y))

-- which calls of the disks an event made
pub record StepCalls {D A : Type 0} (view : D → DiskView) (c : CircuitId) (e : Event) (q : Result A JournalFault) (n m : Node) (x y : Pair D) : Type 0 where
  -- none without changes; with changes the append of their record comes first
  pub no_calls : changes_at n c e ≡ [] → y ≡ x
  pub by_calls : changes_at n c e ≢ []
      → AppendsFirst view (sized (event_record n c e)) (LeavesNext c e n (pair_view view x) (pair_view view y)) q n.pairing x y
  -- a stop after so many of its calls leaves the cells after the event where they keep the record, and those before it otherwise
  pub stopped : IsErrOf q fault.Disk → (calls : ℕ) (fill : Fill) → IfPairTells (pair_view view x) (λ i j. StandFor (here_of n) (circuit_cell n) i.bytes j.bytes
      → StandFor (here_of n) (chosen (is_kept calls fill) (circuit_cell n) (cells_at n c e))
      (kept_on (not (is_second n.pairing)) fill (end_of (journal_in n.pairing)) (sized (event_record n c e)) calls i)
      (kept_on (is_second n.pairing) fill (end_of (journal_in n.pairing)) (sized (event_record n c e)) calls j))
  -- where the record leaves no room the other disk counts after Ok
  pub turned : OnOk q (changes_at n c e ≢ [] → IsFullAt (len_with n c e) (journal_in n.pairing) → epoch_of (journal_in n.pairing) < 2 ^ 64 - 1
      → is_second m.pairing ≡ not (is_second n.pairing))
  pub passed : OnOk q ((is_second m.pairing ≡ is_second n.pairing) ⊎ PassesEight view n.pairing x)
  pub counts : CountsIfShut view q n.pairing x y
  -- where it leaves room no checkpoint is made: the other disk is as it was, and doesn't count
  pub no_checkpoint : changes_at n c e ≢ [] → len_with n c e ≤ 2 * base_of (journal_in n.pairing) + SLACK
      → (other_disk (is_second n.pairing) y ≡ other_disk (is_second n.pairing) x) × (is_second m.pairing ≡ is_second n.pairing)
  -- where it leaves no room, and a call of the checkpoint is armed, the other disk has failed, unless memory ran out
  pub risen : changes_at n c e ≢ [] → IsFullAt (len_with n c e) (journal_in n.pairing) → epoch_of (journal_in n.pairing) < 2 ^ 64 - 1
      → ArmsCheckpoint view n.pairing x → IsErrOf q fault.NoMemory ⊎ OtherRose view (is_second n.pairing) x y

-- the journal that counts is within its bound: it has room where there were changes, and its base is what it was or the length of the packed cells
pub record StaysBounded {A : Type 0} (Changed : Type 0) (q : Result A JournalFault) (n m : Node) : Type 0 where
  pub room : OnOk q (Changed → epoch_of (journal_in m.pairing) < 2 ^ 64 - 1 → has_room (journal_in m.pairing) ≡ true)
  pub base : OnOk q ((base_of (journal_in m.pairing) ≡ base_of (journal_in n.pairing))
      ⊎ (base_of (journal_in m.pairing) ≡ 18 + length (blocks (packed_node m.cells.entries))))

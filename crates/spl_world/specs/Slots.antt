-- What a call of one node does, to it and to its own two disks (docs/RULES.md, Circuits as worlds, Journals).
use Rattle.std.specs.{Prelude.{◌≡◌, ◌≢◌, ◌<◌, [], ℕ, Bool, true, false, List, Option, Some, None, Result, IfErr, IfOk, IsErrOf, OnOk}, Str.bytes_eq}
use Rattle.spl_circuit.specs.Nodes.{NodeId, CircuitId}
use Rattle.spl_edge.specs.Devices.{PairView}
use Rattle.spl_cell_rules.specs.{Cells.{site_at, Cell}, Changes.stopped_cell, Plans.plan_of}
use Rattle.spl_node.specs.{Handled.ForgetsNothing, Stands.HostStandsOn, Kept.cells_after, Stopping.{FillsHost, IsInCheckpoint, cells_stopped, event_changes}}
use Rattle.spl_node.specs.{Stopping.{has_changes, keeps, passing}, Benches.{Tell, TellAs, images_now}, declared.stopping.Stopping.Stopping}
use Rattle.spl_snapshot.specs.Counting.{HasRisen, PairOnward}
use Rattle.spl_wire.specs.declared.{answer.Answer.Answer, change.Change.Change, event.Event.Event, plan.Plan.Plan}
use Rattle.spl_world.specs.{Held.{HoldFor, LeaveEither}, Disks.is_of_journal, Picks.{HavePicked, OtherPicksHigher, PickUnarmed}, Kept.{IsDone, NodeView}}
use Rattle.spl_world.specs.{Kept.circuit_place, Links.is_of_links, Views.{IsFreshNode, node_view, slot_id, slot_up}, declared.fault.WorldFault.WorldFault}
use Rattle.spl_world.specs.declared.{fault.WorldFault.TheVariants.{Disk, NotAJournal, TooMany}, slot.Slot.Slot}

-- a node over its disks
abbrev pub view_on : Slot → PairView → NodeView
view_on s x = node_view s (images_now x)

-- what an event gives there at the cell of a circuit
abbrev pub slot_plan : Slot → PairView → CircuitId → Event → Plan
slot_plan s x c e = plan_of (site_at (slot_id s) c) ((view_on s x).cells c) e

-- and what it changes; nothing where there is no event
abbrev pub slot_changes : Slot → PairView → CircuitId → Option Event → List Change
slot_changes s x c e = event_changes (slot_id s) (view_on s x).cells c e

-- ---- the node

-- it has this id, and its disks are the pair at this position
pub record IsNode (n : NodeId) (k : ℕ) (s : Slot) : Type 0 where
  pub id : slot_id s ≡ n
  pub position : s.position ≡ k

-- it keeps both, and what it sent
pub record KeepsSent (s t : Slot) : Type 0 where
  pub id : slot_id t ≡ slot_id s
  pub position : t.position ≡ s.position
  pub posts : t.posts ≡ s.posts

-- ---- how a call ends

-- its disks, the pair at this position, went on, and one of them failed more often where the error names disks: these. No limit is
-- passed, and no link is at fault
pub record EndsAtSlot {A : Type 0} (r : Result A WorldFault) (k : ℕ) (x y : PairView) : Type 0 where
  pub onward : PairOnward x y
  pub failed : (slot : ℕ) → IsErrOf r (Disk slot) → (slot ≡ k) × HasRisen x y
  pub few : (which : ℕ) → IsErrOf r (TooMany which) → ⊥
  pub unlinked : IfErr r (λ e. is_of_links e ≡ false)

-- and what is read is a journal
pub record EndsSound {A : Type 0} (r : Result A WorldFault) (k : ℕ) (x y : PairView) : Type 0 where
  pub at : EndsAtSlot r k x y
  pub sound : IfErr r (λ e. is_of_journal e ≡ false)

-- only these disks may be no journal, and none that report
pub record MayBeUnread {A : Type 0} (r : Result A WorldFault) (k : ℕ) (x : PairView) : Type 0 where
  pub sound : Tell (images_now x) → (slot at : ℕ) → IsErrOf r (NotAJournal slot at) → ⊥
  pub place : (slot at : ℕ) → IsErrOf r (NotAJournal slot at) → slot ≡ k

-- ---- a node that is made

-- nothing happened at it, and it stands over disks that report where they did
pub record IsMadeOn (x y : PairView) (s : Slot) : Type 0 where
  pub fresh : IsFreshNode s
  pub stands : HostStandsOn s.host y
  pub tells : TellAs (images_now x) (images_now y)

-- ---- an event

-- the plan of the event was carried out at the cell of the circuit, and is what is answered; the other cells stayed as they were
pub record CarriesOutEvent (c : CircuitId) (e : Event) (r : Result Answer WorldFault) (s t : Slot) (x y : PairView) : Type 0 where
  pub id : slot_id t ≡ slot_id s
  pub up : slot_up t ≡ slot_up s
  pub position : t.position ≡ s.position
  pub answer : IfOk r (λ a. a ≡ (slot_plan s x c e).answer)
  pub done : OnOk r (IsDone (slot_id s) (slot_plan s x c e) (circuit_place (view_on s x) c) (circuit_place (view_on t y) c))
  pub others : OnOk r ((d : CircuitId) → bytes_eq c d ≡ false → circuit_place (view_on t y) d ≡ circuit_place (view_on s x) d)

-- whatever the result, a read gives what stands for the cells before the event or for those after it, and so does what a stop leaves,
-- where the disks reported before it
pub record LeavesEvent {A : Type 0} (c : CircuitId) (e : Event) (r : Result A WorldFault) (s t : Slot) (x y : PairView) : Type 0 where
  pub stands : OnOk r (HostStandsOn t.host y)
  pub tells : OnOk r (TellAs (images_now x) (images_now y))
  pub leaves : Tell (images_now x) → LeaveEither (slot_id s) (view_on s x).cells (cells_after (slot_id s) (view_on s x).cells c e) (images_now y)

-- ---- a node that comes up

-- with the cells that it had; whatever the result its disks stand for these
pub record ComesUp {A : Type 0} (r : Result A WorldFault) (s t : Slot) (x y : PairView) : Type 0 where
  pub up : OnOk r (slot_up t ≡ true)
  pub cells : OnOk r (Tell (images_now x) → (c : CircuitId) → (view_on t y).cells c ≡ (view_on s x).cells c)
  pub stands : OnOk r (HostStandsOn t.host y)
  pub tells : OnOk r (TellAs (images_now x) (images_now y))
  pub leaves : Tell (images_now x) → HoldFor (slot_id s) (view_on s x).cells (images_now y)

-- ---- a node that goes down

-- it forgets its open rounds, where it was up; whatever the result a read gives what stands for its cells, and a stop leaves it
pub record GoesDown {A E : Type 0} (r : Result A E) (s t : Slot) (x y : PairView) : Type 0 where
  pub down : OnOk r (slot_up t ≡ false)
  pub stopped : OnOk r (slot_up s ≡ true → (c : CircuitId) → (view_on t y).cells c ≡ stopped_cell ((view_on s x).cells c))
  pub same : slot_up s ≡ false → (c : CircuitId) → (view_on t y).cells c ≡ (view_on s x).cells c
  pub stands : OnOk r (HostStandsOn t.host y)
  pub leaves : HoldFor (slot_id s) (view_on s x).cells (images_now y)

-- where it was up both disks picked what they had; no fault is forgotten
pub record PicksDown {A E : Type 0} (r : Result A E) (s : Slot) (x y : PairView) : Type 0 where
  pub picks : OnOk r (slot_up s ≡ true → PickUnarmed None x y)
  pub forgets : ForgetsNothing x y

-- ---- a node that goes down in an event at the cell of a circuit, or in none

-- the cells after it, where the record is kept or not
abbrev pub cells_cut : Slot → PairView → CircuitId → Option Event → Bool → CircuitId → Cell
cells_cut s x c e kept = cells_stopped (slot_id s) (view_on s x).cells c (slot_changes s x c e) kept

-- it is said whether the event has changes, which are made where the disks have their record. Whatever the result, a read gives what
-- stands for the cells before the event or for those after the stop in it, and a stop leaves it
pub record GoesDownIn {E : Type 0} (c : CircuitId) (e : Option Event) (h : Stopping) (r : Result Bool E) (s t : Slot) (x y : PairView) : Type 0 where
  pub down : OnOk r (slot_up t ≡ false)
  pub tells : IfOk r (λ b. b ≡ has_changes (slot_changes s x c e))
  pub stopped : OnOk r ((d : CircuitId) → (view_on t y).cells d ≡ cells_cut s x c e (keeps h) d)
  pub stands : OnOk r (HostStandsOn t.host y)
  pub leaves : LeaveEither (slot_id s) (view_on s x).cells (cells_cut s x c e true) (images_now y)

-- both disks picked, and failed as they had to: one of them where a call that keeps the record didn't pass, and where one of a
-- checkpoint didn't, the disk that doesn't count keeps a higher count of faults. None is forgotten
pub record PicksDownIn {E : Type 0} (c : CircuitId) (e : Option Event) (h : Stopping) (r : Result Bool E) (s : Slot) (x y : PairView) : Type 0 where
  pub picks : OnOk r (HavePicked (Some h) x y)
  pub risen : OnOk r (slot_changes s x c e ≢ [] → passing h < 4 → HasRisen x y)
  pub risen_other : OnOk r (FillsHost s.host c (slot_changes s x c e) → IsInCheckpoint h → OtherPicksHigher x y)
  pub forgets : ForgetsNothing x y

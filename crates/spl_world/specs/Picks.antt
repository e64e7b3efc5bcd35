-- How a call picks from disks, and which disks a stop in a call reaches.
use Rattle.std.specs.{Prelude.{◌≡◌, ◌<◌, ◌≤◌, ℕ, Bool, true, false, List, [], ◌∷◌, ◌++◌, length, slice_get, Option, Some, IfSome}, Str.bytes_eq}
use Rattle.spl_circuit.specs.Nodes.{NodeId, CircuitId}
use Rattle.spl_edge.specs.Devices.{Picked, image_now, DiskView, PairView}
use Rattle.spl_circuit_world.specs.{Projection.Ran, Worlds.{Origin, World as CircuitWorld, step_plan}}
use Rattle.spl_node.specs.{Stands.StandFor, Stopping.{FillsHost, IsInCheckpoint, PicksArmed, may_turn}, Benches.{IsPairUnarmed, IsUnarmed, RoseAt}}
use Rattle.spl_node.specs.declared.stopping.Stopping.{Stopping}
use Rattle.spl_node.specs.declared.stopping.Stopping.TheVariants as stopping
use Rattle.spl_cell_rules.specs.Cells.{Cell}
use Rattle.spl_sched.specs.{Grammar.step_circuit, declared.line.{Line.Line, Step.Step}}
use Rattle.spl_sched.specs.declared.line.Line.TheVariants as line
use Rattle.spl_snapshot.specs.Counting.{chosen, second_counts, IfBoth}
use Rattle.spl_world.specs.{Views.{HoldsWorld, Nodes, OnlyAt, world_node_ids, places_of, slot_id, slot_up}, Held.{cells_after_lines, stops_at, picks_at}}
use Rattle.spl_world.specs.{Held.{stopping_of, pick_fill, armed_first, armed_second, IsTornBy, Point, ArePicksAt, HasPicked}, declared.slot.Slot.Slot}
use Rattle.spl_world.specs.declared.world.World.{World}

-- the node of a step stops in a checkpoint, which the step brings about in this world
abbrev pub IsInCheckpointBy : CircuitWorld → Stopping → Step → Slot → Type 0
IsInCheckpointBy m h s x = IsInCheckpoint h × FillsHost x.host (step_circuit s) (step_plan m s).changes

abbrev pub IsInCheckpointIn : (CircuitId → CircuitWorld) → Line → Slot → Type 0
IsInCheckpointIn worlds (line.Cut calls fill s) x = IsInCheckpointBy (worlds (step_circuit s)) (stopping.Cut calls fill) s x
IsInCheckpointIn worlds (line.Fail call s) x = IsInCheckpointBy (worlds (step_circuit s)) (stopping.Fail call) s x
IsInCheckpointIn worlds _ x = ⊥

-- the disks of the node hold what it keeps after these lines, and so did what they picked at its stops
pub record IsNodeHeld (o : Origin) (rs : List Ran) (n : NodeId) (s p : PairView) : Type 0 where
  pub picked : HasPicked o rs n s p
  pub now : IfBoth (image_now p.first) (image_now p.second) (λ i j. StandFor n (cells_after_lines o rs n) i.bytes j.bytes)

-- both disks of a node picked, armed so, and aren't armed any more; `second` is whether the second disk counted, and `still` that
-- it does so after it
pub record HavePicked (how : Option Stopping) (p q : PairView) : Type 0 where
  pub second : Bool
  pub counts : IfBoth (image_now p.first) (image_now p.second) (λ i j. second_counts i.bytes j.bytes ≡ second)
  pub still : IfSome how (λ h. may_turn h ≡ false → IfBoth (image_now q.first) (image_now q.second) (λ i j. second_counts i.bytes j.bytes ≡ second))
  pub first_is : PicksArmed (pick_fill how) (armed_first how second) p.first q.first
  pub second_is : PicksArmed (pick_fill how) (armed_second how second) p.second q.second

-- a disk picked once more, and keeps with that a higher count of faults than it had
pub record PicksHigher (x y : DiskView) : Type 0 where
  pub pick : Picked
  pub picks : y.picks ≡ x.picks ++ pick ∷ []
  pub higher : x.faults < pick.faults

-- so did, of the disks of a node, the one that didn't count
abbrev pub OtherPicksHigher : PairView → PairView → Type 0
OtherPicksHigher p q = IfBoth (image_now p.first) (image_now p.second)
    (λ i j. PicksHigher (chosen (second_counts i.bytes j.bytes) p.second p.first) (chosen (second_counts i.bytes j.bytes) q.second q.first))

-- that of the pair at this place
abbrev pub HigherAt : ℕ → List PairView → List PairView → Type 0
HigherAt k old new = (p q : PairView) → slice_get old k ≡ Some p → slice_get new k ≡ Some q → OtherPicksHigher p q

-- so they did where neither was armed before
abbrev pub PickUnarmed : Option Stopping → PairView → PairView → Type 0
PickUnarmed how p q = IsPairUnarmed p → HavePicked how p q

-- and what they picked stands for these cells
pub record BothPicked (here : NodeId) (how : Option Stopping) (cells : CircuitId → Cell) (p q : PairView) : Type 0 where
  pub picked : HavePicked how p q
  pub stand : IfBoth (image_now q.first) (image_now q.second) (λ i j. StandFor here cells i.bytes j.bytes)

-- a node stopped: where it was up this holds of its two disks, and no disk changed otherwise
pub record StopsAt (P : PairView → PairView → Type 0) (up : Bool) (k : ℕ) (old new : List PairView) : Type 0 where
  pub as_many : length new ≡ length old
  pub others : (i : ℕ) → (i ≡ k → ⊥) → slice_get new i ≡ slice_get old i
  pub picks : up ≡ true → (p q : PairView) → slice_get old k ≡ Some p → slice_get new k ≡ Some q → P p q
  pub none : up ≡ false → new ≡ old

-- it stopped so, and kept these cells: where it was up its two disks were picked from
abbrev pub StopsPair : NodeId → Bool → Option Stopping → (CircuitId → Cell) → ℕ → List PairView → List PairView → Type 0
StopsPair here up how cells k old new = StopsAt (BothPicked here how cells) up k old new

-- a disk of a node that stopped so failed where its step was torn, and the one that didn't count where it stopped in a checkpoint
pub record FailsBy (m : CircuitWorld) (h : Stopping) (s : Step) (x : Slot) (old new : List PairView) : Type 0 where
  pub torn : IsTornBy m h s → RoseAt x.position old new
  pub checkpoint : IsInCheckpointBy m h s x → HigherAt x.position old new

abbrev pub FailsIn : (CircuitId → CircuitWorld) → Line → Slot → List PairView → List PairView → Type 0
FailsIn worlds (line.Cut calls fill s) x old new = FailsBy (worlds (step_circuit s)) (stopping.Cut calls fill) s x old new
FailsIn worlds (line.Fail call s) x old new = FailsBy (worlds (step_circuit s)) (stopping.Fail call) s x old new
FailsIn worlds _ x old new = Unit {0}

-- how the disks of a node fail, in these worlds
abbrev pub Failing : Type 1
Failing = (CircuitId → CircuitWorld) → Slot → List PairView → List PairView → Type 0

-- the node of a slot stopped so, and its disks failed as they had to in the worlds that the nodes stood for
pub record StopsSlot (here : NodeId) (how : Option Stopping) (fails : Failing) (xs : Nodes) (old new : List PairView) : Type 0 where
  pub index : ℕ
  pub slot : Slot
  pub there : slice_get xs.slots index ≡ Some slot
  pub id_is : slot_id slot ≡ here
  pub stop : StopsAt (PickUnarmed how) (slot_up slot) slot.position old new
  pub risen : (worlds : CircuitId → CircuitWorld) → ((c : CircuitId) → HoldsWorld c (worlds c) xs) → fails worlds slot old new

-- a line stopped its node
pub record StopsBy (l : Line) (xs : Nodes) (old new : List PairView) : Type 0 where
  pub here : NodeId
  pub named : (n : NodeId) → stops_at n l ≡ bytes_eq n here
  pub slot : StopsSlot here (stopping_of l) (λ worlds. FailsIn worlds l) xs old new

-- no disks but those of a node of this id changed
pub record OnlyOf (here : NodeId) (xs : Nodes) (old new : List PairView) : Type 0 where
  pub index : ℕ
  pub slot : Slot
  pub there : slice_get xs.slots index ≡ Some slot
  pub id_is : slot_id slot ≡ here
  pub only : OnlyAt slot.position old new

-- no disks but those of the node that a line stops
pub record OnlyBy (l : Line) (xs : Nodes) (old new : List PairView) : Type 0 where
  pub here : NodeId
  pub named : (n : NodeId) → stops_at n l ≡ bytes_eq n here
  pub node : OnlyOf here xs old new

-- this holds of each of these nodes and the pair at its place, as it was at the start and as it is
abbrev pub EachPair : (NodeId → PairView → PairView → Type 0) → List NodeId → List ℕ → List PairView → List PairView → Type 0
EachPair P ids places start ps = (i : ℕ) (n : NodeId) (k : ℕ) (s p : PairView) → slice_get ids i ≡ Some n → slice_get places i ≡ Some k
    → slice_get start k ≡ Some s → slice_get ps k ≡ Some p → P n s p

-- the disks of all nodes of a world after these lines
abbrev pub AllPicked : Origin → List PairView → List Ran → World → List PairView → Type 0
AllPicked o start rs w ps = EachPair (HasPicked o rs) (world_node_ids w) (places_of w) start ps

abbrev pub AllHeld : Origin → List PairView → List Ran → World → List PairView → Type 0
AllHeld o start rs w ps = EachPair (IsNodeHeld o rs) (world_node_ids w) (places_of w) start ps

-- each of two disks picked once more by a line, of which the images stand for the cells of the node after it, and neither is armed
pub record PicksOnce (o : Origin) (t : Point) (n : NodeId) (p q : PairView) : Type 0 where
  pub first : Picked
  pub second : Picked
  pub at : ArePicksAt o n t p.first.faults p.second.faults first second
  pub first_picks : q.first.picks ≡ p.first.picks ++ first ∷ []
  pub second_picks : q.second.picks ≡ p.second.picks ++ second ∷ []
  pub first_count : first.faults ≤ q.first.faults
  pub second_count : second.faults ≤ q.second.faults
  pub first_off : IsUnarmed q.first
  pub second_off : IsUnarmed q.second

-- neither picked, nor was armed, and no fault is forgotten
pub record KeepsPicks (p q : PairView) : Type 0 where
  pub first_picks : q.first.picks ≡ p.first.picks
  pub second_picks : q.second.picks ≡ p.second.picks
  pub first_armed : q.first.armed ≡ p.first.armed
  pub second_armed : q.second.armed ≡ p.second.armed
  pub first_count : p.first.faults ≤ q.first.faults
  pub second_count : p.second.faults ≤ q.second.faults

-- the disks of the node pick once where the line stops it, and not elsewhere
pub record PicksBy (o : Origin) (before : List Ran) (r : Ran) (n : NodeId) (p q : PairView) : Type 0 where
  pub stopped : picks_at n before r ≡ true → PicksOnce o (record { before = before; ran = r }) n p q
  pub went_on : picks_at n before r ≡ false → KeepsPicks p q

-- so do those of all nodes, where they weren't armed before
pub record AllPickBy (o : Origin) (before : List Ran) (r : Ran) (w : World) (old new : List PairView) : Type 0 where
  pub as_many : length new ≡ length old
  pub each : (i : ℕ) (n : NodeId) (k : ℕ) (p q : PairView) → slice_get (world_node_ids w) i ≡ Some n → slice_get (places_of w) i ≡ Some k
      → slice_get old k ≡ Some p → slice_get new k ≡ Some q → IsPairUnarmed p → PicksBy o before r n p q

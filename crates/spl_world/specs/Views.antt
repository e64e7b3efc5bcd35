-- The worlds that the nodes stand for (docs/RULES.md, Circuits as worlds).
use Rattle.std.specs.{Prelude.{◌≡◌, ◌+◌, ◌<◌, ℕ, Bool, true, false, List, [], length, map, Some, slice_get}, Str.bytes_eq}
use Rattle.spl_circuit.specs.{Nodes.{NodeId, CircuitId, has_node}, Rules.ascends}
use Rattle.spl_edge.specs.{Devices.{DiskView, PairView}, declared.bench.Pair.Pair}
use Rattle.spl_circuit_world.specs.{Worlds.{IsOrigin, Origin, World as CircuitWorld, on_pair}, Projection.{Ran, lines_fit}, Answers.{events_of, stops_of}}
use Rattle.spl_circuit_world.specs.Whole.{whole_world}
use Rattle.spl_node.specs.{Stands.{HostStands, host_id, host_cell, is_host_up}, Stopping.BothPickAtMostOnce, Benches.{Images, Tell, images_at, images}}
use Rattle.spl_registry.specs.Nodes.{Entry, node_at}
use Rattle.spl_cell_rules.specs.Cells.{Empty}
use Rattle.spl_world.specs.{Kept.{SentLists, NodeView, circuit_place, lists_about, sent_to}, declared.{slot.Slot.Slot, world.World.World}}

-- ---- nodes

abbrev pub slot_id : Slot → NodeId
slot_id s = host_id s.host

abbrev pub slot_up : Slot → Bool
slot_up s = is_host_up s.host

-- the node has this id
abbrev pub has_id : NodeId → Slot → Bool
has_id n s = bytes_eq (slot_id s) n

abbrev pub slot_ids : List Slot → List NodeId
slot_ids ss = map slot_id ss

abbrev pub slot_ups : List Slot → List Bool
slot_ups ss = map slot_up ss

abbrev pub slot_places : List Slot → List ℕ
slot_places ss = map (λ s. s.position) ss

-- the ids of the nodes, in order
abbrev pub world_node_ids : World → List NodeId
world_node_ids w = slot_ids w.slots.items

-- which of them are up
abbrev pub ups_of : World → List Bool
ups_of w = slot_ups w.slots.items

-- the position of the pair of each
abbrev pub places_of : World → List ℕ
places_of w = slot_places w.slots.items

-- one of them is this
abbrev pub IsPlace : List ℕ → ℕ → Type 0
IsPlace ks k = (i : ℕ) × (slice_get ks i ≡ Some k)

-- the pairs at all other places stay as they were
abbrev pub SpareStay : List ℕ → List PairView → List PairView → Type 0
SpareStay places old new = (k : ℕ) → (IsPlace places k → ⊥) → slice_get new k ≡ slice_get old k

-- each disk of the pair at this place has the picks that it had, and at most one more
abbrev pub PicksOnceAt : ℕ → List PairView → List PairView → Type 0
PicksOnceAt place old new = (p q : PairView) → slice_get old place ≡ Some p → slice_get new place ≡ Some q → BothPickAtMostOnce p q

-- so has each disk of the one pair that changed
pub record OnlyAt (place : ℕ) (old new : List PairView) : Type 0 where
  pub others : (k : ℕ) → (k ≡ place → ⊥) → slice_get new k ≡ slice_get old k
  pub once : PicksOnceAt place old new

-- the node of this index has this id
abbrev pub IsNodeAt : World → ℕ → NodeId → Type 0
IsNodeAt w i n = slice_get (world_node_ids w) i ≡ Some n

-- the disks of the node of this id are the pair at this position
abbrev pub HasPlace : World → NodeId → ℕ → Type 0
HasPlace w n k = (i : ℕ) × IsNodeAt w i n × (slice_get (places_of w) i ≡ Some k)

-- the node of this index is up
abbrev pub IsUp : World → ℕ → Type 0
IsUp w i = slice_get (ups_of w) i ≡ Some true

-- a line has no answer, so that nothing more is asked
abbrev pub is_world_halted : World → Bool
is_world_halted w = w.halted

-- this is what the node of this index sent about a circuit
abbrev pub IsOutbox : World → ℕ → CircuitId → SentLists → Type 0
IsOutbox w i c ls = (s : Slot) → slice_get w.slots.items i ≡ Some s → lists_about s.posts c ≡ ls

-- ---- nodes over their disks

-- the nodes in memory, and what their disks hold
pub record Nodes : Type 0 where
  pub slots : List Slot
  pub disks : List Images

-- the nodes of a world over what its pairs hold
abbrev pub nodes_over : World → List Images → Nodes
nodes_over w is = record { slots = w.slots.items; disks = is }

-- and over its pairs
abbrev pub seen : {D : Type 0} → (D → DiskView) → World → List (Pair D) → Nodes
seen view w ps = nodes_over w (images view ps)

abbrev pub ids_in : Nodes → List NodeId
ids_in xs = slot_ids xs.slots

-- a node over what its disks hold
abbrev pub node_view : Slot → Images → NodeView
node_view s is = record { id = slot_id s; up = slot_up s; cells = host_cell s.host is.0 is.1; sent = lists_about s.posts }

-- a node over its own pair
abbrev pub view_in : Nodes → Slot → NodeView
view_in xs s = node_view s (images_at xs.disks s.position)

-- each node's pair is that at its position in a registry
abbrev pub ArePlaced : List Entry → World → Type 0
ArePlaced es w = (i : ℕ) (n : NodeId) (p : ℕ) → slice_get (world_node_ids w) i ≡ Some n → slice_get (places_of w) i ≡ Some p → node_at es p ≡ Some n

-- a node that is up and where nothing happened
pub record IsFreshNode (s : Slot) : Type 0 where
  pub up : slot_up s ≡ true
  pub empty : (is : Images) (c : CircuitId) → (node_view s is).cells c ≡ Empty
  pub silent : s.posts ≡ []

-- each node has a pair of its own, and its host stands over it
pub record Sits (xs : Nodes) : Type 0 where
  pub below : (i : ℕ) (s : Slot) → slice_get xs.slots i ≡ Some s → s.position < length xs.disks
  pub apart : (i j : ℕ) (s t : Slot) → slice_get xs.slots i ≡ Some s → slice_get xs.slots j ≡ Some t → s.position ≡ t.position → j ≡ i
  pub each : (i : ℕ) (s : Slot) → slice_get xs.slots i ≡ Some s → HostStands s.host (images_at xs.disks s.position).0 (images_at xs.disks s.position).1

-- a node, and the pair of disks at its position, among those of a world
pub record NodeSeat {D : Type 0} (view : D → DiskView) (ss : List Slot) (ps : List (Pair D)) (i k : ℕ) (s : Slot) (p : Pair D) : Type 0 where
  pub sits : Sits (record { slots = ss; disks = images view ps })
  pub there : slice_get ss i ≡ Some s
  pub place : k ≡ s.position
  pub pair : slice_get ps k ≡ Some p

-- ---- worlds

-- a node is up where it is so in a world of the circuit; what it keeps about the circuit, and what it sent to a registered
-- node, is what that world has there
pub record IsAs (c : CircuitId) (m : CircuitWorld) (x : NodeView) : Type 0 where
  pub up : x.up ≡ m.up x.id
  pub state : (circuit_place x c).state ≡ m.at x.id
  pub sent : (b : NodeId) → has_node m.nodes b ≡ true → sent_to (circuit_place x c).sent b ≡ on_pair x.id b m.sent

-- the nodes stand for a world of a circuit, and their disks say what they hold
pub record HoldsWorld (c : CircuitId) (m : CircuitWorld) (xs : Nodes) : Type 0 where
  pub ordered : ascends (ids_in xs) ≡ true
  pub nodes : m.nodes ≡ ids_in xs
  pub each : (i : ℕ) (s : Slot) → slice_get xs.slots i ≡ Some s → IsAs c m (view_in xs s)
  pub told : (i : ℕ) (s : Slot) → slice_get xs.slots i ≡ Some s → Tell (images_at xs.disks s.position)

-- over what the nodes kept at first, after these lines each node keeps, about each circuit, what the world of that circuit after all of them has there; and
-- what it sent to each other is what was sent in that world. Their events are counted, with so many that ran beside them, and so are
-- their stops. Each node stands over its own disks
pub record StandsAfterLines (o : Origin) (others : ℕ) (before : List Ran) (w : World) (is : List Images) : Type 0 where
  pub begins : IsOrigin o
  pub nodes : world_node_ids w ≡ o.nodes
  pub fit : lines_fit before ≡ true
  pub counted : w.events ≡ events_of o before + others
  pub stopped : w.stops ≡ stops_of before
  pub each : (c : CircuitId) → HoldsWorld c (whole_world o c before) (nodes_over w is)
  pub sits : Sits (nodes_over w is)

-- the worlds of the other circuits stay
abbrev pub Spares : CircuitId → Nodes → Nodes → Type 0
Spares c old new = (d : CircuitId) (m : CircuitWorld) → bytes_eq c d ≡ false → HoldsWorld d m old → HoldsWorld d m new

-- the worlds of all circuits stay
abbrev pub WorldsStay : Nodes → Nodes → Type 0
WorldsStay old new = (c : CircuitId) (m : CircuitWorld) → HoldsWorld c m old → HoldsWorld c m new

-- something at a circuit moved its world so, and no other
pub record Moves (c : CircuitId) (f : CircuitWorld → CircuitWorld) (old new : Nodes) : Type 0 where
  pub own : (m : CircuitWorld) → HoldsWorld c m old → HoldsWorld c (f m) new
  pub others : Spares c old new

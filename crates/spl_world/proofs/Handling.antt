-- A call of one node over its pair of disks.
use Rattle.spl_cell_rules.specs.Cells.{site_at}
use Rattle.spl_node.specs.{Handled.ForgetsNothing, Stands.HostStands, Benches.{TellAs, images, images_of, Images, Tell, images_at}}
use Rattle.spl_node.proofs.{Benches.{bench_here, bench_set, images_length, images_set, own_images}, Positions.{same_there, mapped_same}}
use Rattle.spl_world.specs.{Calls.{LeavesNodes, StopsAlone, disks_view}, Disks.LeavesDisks, Kept.{IsDone, NodeView, circuit_place}, Picks.PickUnarmed}
use Rattle.spl_world.specs.{Picks.StopsAt, Slots.EndsAtSlot, Views.{HoldsWorld, Moves, Nodes, NodeSeat, Sits, world_node_ids, node_view, nodes_over}}
use Rattle.spl_world.specs.{Views.{places_of, slot_id, slot_ids, slot_places, slot_up, view_in}, declared.fault.WorldFault.{WorldFault, TheVariants.Disk}}
use Rattle.spl_world.{specs.declared.{slot.Slot.Slot, world.World.World}, proofs.Common.{◌≡◌, ◌<◌, ℕ, true, false, List, length, get_or, slice_get}}
use Rattle.spl_world.proofs.Common.{slice_set, Option, Some, Result, OnOk, refl, ap, sym, subst, ◌∙◌, slice_get_read, IsErrOf, bytes_eq, NodeId, CircuitId}
use Rattle.spl_world.proofs.Common.{DiskView, pair_view, bench, Pair, CircuitWorld, circuit_carried_out, Stopping, plan_of, PairOnward, HasRisen, Event}
use Rattle.spl_world.proofs.{Leaving.leaves_one, Moving.event_moves, Pairing.{changed, sits_changed}, Picking.{one_forgets, one_stops}}
use Rattle.spl_world.proofs.{Slots.place_at, Sparing.{one_only, one_spare}}
use Rattle.spl_edge.proofs.Results.{at_ok}

-- as both are read
module _ {D : Type 0} (view : D → DiskView) (ss : List Slot) (ps : List (Pair D)) (i k : ℕ) (s : Slot) (sits : Sits (record { slots = ss; disks = images view ps })) (there : slice_get ss i ≡ Some s) (place : k ≡ s.position) where
  pub pair_below : k < length ps
  pair_below = subst (λ (n : ℕ). n < length ps) (sym place) (subst (λ (n : ℕ). s.position < n) (images_length view ps) (sits.below i s there))

  pub seat_at : (p : Pair D) → p ≡ get_or ps k p → NodeSeat view ss ps i k s p
  seat_at p read = record { sits = sits; there = there; place = place; pair = slice_get_read ps (length ps) k p refl pair_below read }

module _ {D : Type 0} {view : D → DiskView} {ss : List Slot} {ps : List (Pair D)} {i : ℕ} {k : ℕ} {s : Slot} {p : Pair D} (seat : NodeSeat view ss ps i k s p) where
  abbrev nodes : Nodes
  nodes = record { slots = ss; disks = images view ps }

  own_are : images_at (images view ps) s.position ≡ images_of view p
  own_are = own_images view ps k p seat.pair s.position seat.place

  -- the host stands over it
  pub own_stands : HostStands s.host (images_of view p).0 (images_of view p).1
  own_stands = subst (λ (q : Images). HostStands s.host q.0 q.1) own_are (seat.sits.each i s seat.there)

  -- and says where the nodes stand for a world
  pub own_told : (c : CircuitId) (m : CircuitWorld) → HoldsWorld c m nodes → Tell (images_of view p)
  own_told c m h = subst Tell own_are (h.told i s seat.there)

  pub own_view : view_in nodes s ≡ node_view s (images_of view p)
  own_view = ap (node_view s) own_are

  -- what is written there is one node and its pair
  module _ (t : Slot) (r : Pair D) where
    pub disks_are : slice_set (images view ps) s.position (images_of view r) ≡ images view (slice_set ps k r)
    disks_are = ap (λ (n : ℕ). slice_set (images view ps) n (images_of view r)) (sym seat.place) ∙ sym (images_set view ps k r)

    pub own_by : (P : Nodes → Type 0) → P (changed nodes i s t (images_of view r)) → P (record { slots = slice_set ss i t; disks = images view (slice_set ps k r) })
    own_by P h = subst (λ (is : List Images). P (record { slots = slice_set ss i t; disks = is })) disks_are h

    pub own_sits : t.position ≡ s.position → HostStands t.host (images_of view r).0 (images_of view r).1 → Sits (record { slots = slice_set ss i t; disks = images view (slice_set ps k r) })
    own_sits same stands = subst (λ (is : List Images). Sits (record { slots = slice_set ss i t; disks = is })) disks_are (sits_changed nodes i s t (images_of view r) seat.sits seat.there same stands)

    -- an event there
    pub own_moves : (c : CircuitId) (n : NodeId) (e : Event) → t.position ≡ s.position → slot_id t ≡ slot_id s → slot_up t ≡ slot_up s
        → slice_get (slot_ids ss) i ≡ Some n → TellAs (images_of view p) (images_of view r)
        → IsDone (slot_id s) (plan_of (site_at (slot_id s) c) ((node_view s (images_of view p)).cells c) e)
        (circuit_place (node_view s (images_of view p)) c) (circuit_place (node_view t (images_of view r)) c)
        → ((d : CircuitId) → bytes_eq c d ≡ false → circuit_place (node_view t (images_of view r)) d ≡ circuit_place (node_view s (images_of view p)) d)
        → Moves c (λ m. circuit_carried_out m n (plan_of (site_at n c) (m.at n) e)) nodes (record { slots = slice_set ss i t; disks = images view (slice_set ps k r) })
    own_moves c n e same id up at tells done others =
        subst (λ (is : List Images). Moves c (λ (m : CircuitWorld). circuit_carried_out m n (plan_of (site_at n c) (m.at n) e)) nodes (record { slots = slice_set ss i t; disks = is })) disks_are
        (event_moves nodes i s t (images_of view r) c n e seat.sits seat.there same id up at (subst (λ (q : Images). TellAs q (images_of view r)) (sym own_are) tells)
        (subst (λ (v : NodeView). IsDone (slot_id s) (plan_of (site_at (slot_id s) c) (v.cells c) e) (circuit_place v c)
        (circuit_place (node_view t (images_of view r)) c)) (sym own_view) done)
        (λ d off. subst (λ (v : NodeView). circuit_place (node_view t (images_of view r)) d ≡ circuit_place v d) (sym own_view) (others d off)))

-- the disks after it
pub one_leaves : {D A : Type 0} (view : D → DiskView) (x : Result A WorldFault) (ps : List (Pair D)) (k : ℕ) (p r : Pair D) (position : ℕ) → slice_get ps k ≡ Some p → k ≡ position
    → PairOnward (pair_view view p) (pair_view view r)
    → ((slot : ℕ) → IsErrOf x (Disk slot) → (slot ≡ position) × HasRisen (pair_view view p) (pair_view view r))
    → LeavesDisks x (bench view ps) (bench view (slice_set ps k r))
one_leaves view x ps k p r position pair place on failed =
    subst (LeavesDisks x (bench view ps)) (sym (bench_set view ps k r))
    (leaves_one x (bench view ps) k (pair_view view p) (pair_view view r) (bench_here view ps k p pair) on
    (λ slot q. let f = failed slot q in (f.0 ∙ sym place, f.1)))

-- how a call leaves the nodes and all pairs
module _ {D : Type 0} {view : D → DiskView} {ps : List (Pair D)} {i k : ℕ} {s : Slot} {p : Pair D} (w v : World) (seat : NodeSeat view w.slots.items ps i k s p) (t : Slot) (r : Pair D)
    (now : v.slots.items ≡ slice_set w.slots.items i t) (id : slot_id t ≡ slot_id s) (same : t.position ≡ s.position) where
  ids : world_node_ids v ≡ world_node_ids w
  ids = ap slot_ids now ∙ mapped_same slot_id w.slots.items i s t seat.there id

  places : places_of v ≡ places_of w
  places = ap slot_places now ∙ mapped_same (λ (u : Slot). u.position) w.slots.items i s t seat.there same

  sits_now : HostStands t.host (images_of view r).0 (images_of view r).1 → Sits (nodes_over v (images view (slice_set ps k r)))
  sits_now stands = subst (λ (ss : List Slot). Sits (record { slots = ss; disks = images view (slice_set ps k r) })) (sym now) (own_sits seat t r same stands)

  pub own_leaves : {A : Type 0} (x : Result A WorldFault) → OnOk x (HostStands t.host (images_of view r).0 (images_of view r).1)
      → EndsAtSlot x s.position (pair_view view p) (pair_view view r)
      → LeavesNodes x w v (disks_view view ps) (disks_view view (slice_set ps k r))
  own_leaves x stands ends = record {
    ids = ids;
    places = places;
    sits = at_ok x sits_now stands;
    disks = one_leaves view x ps k p r s.position seat.pair seat.place ends.onward ends.failed;
    spare = one_spare view w.slots.items ps i s k r seat.there seat.place;
    place = λ j q. (i, place_at w.slots.items i s seat.there ∙ ap Some (sym (ends.failed j q).0));
  }

  -- and one that takes the node down
  pub own_alone : {A E : Type 0} (how : Option Stopping) (x : Result A E) → OnOk x (HostStands t.host (images_of view r).0 (images_of view r).1)
      → ForgetsNothing (pair_view view p) (pair_view view r)
      → OnOk x (slot_up s ≡ true → PickUnarmed how (pair_view view p) (pair_view view r)) → (slot_up s ≡ false → r ≡ p)
      → StopsAlone i how x w v (disks_view view ps) (disks_view view (slice_set ps k r))
  own_alone how x stands forgets picks none = record {
    leaves = record { ids = ids; places = places; sits = at_ok x sits_now stands; onward = one_forgets view ps k p r seat.pair forgets.first_stays forgets.second_stays };
    only = λ u at. one_only view ps k u.position p r (seat.place ∙ ap (λ (z : Slot). z.position) (same_there w.slots.items i s u seat.there at)) seat.pair forgets.once;
    picks = λ u at. at_ok x
        (λ picked. subst (λ (z : Slot). StopsAt (PickUnarmed how) (slot_up z) z.position (bench view ps) (bench view (slice_set ps k r))) (same_there w.slots.items i s u seat.there at)
        (one_stops view ps k p r seat.pair (PickUnarmed how) (slot_up s) s.position seat.place picked none)) picks;
  }

-- A node and its pair of disks, one of which was written.
use Rattle.spl_node.{specs.{Stands.HostStands, Benches.{Images, Tell, images_at, images_or_none}}, proofs.Benches.{pair_here, pair_there}}
use Rattle.spl_node.proofs.Positions.{each_set, set_here, set_else, set_same, mapped_same}
use Rattle.spl_world.{specs.{Views.{HoldsWorld, IsAs, Nodes, Sits, node_view, slot_id, slot_ids, view_in}, declared.slot.Slot.Slot}, proofs.Common.{◌≡◌, ℕ}}
use Rattle.spl_world.proofs.Common.{◌<◌, List, length, slice_get, slice_set, Some, refl, ap, sym, ◌∙◌, subst, CircuitId, ascends, CircuitWorld, length-set}

-- ---- what the pairs hold

-- ---- one node and its pair are written

abbrev pub changed : Nodes → ℕ → Slot → Slot → Images → Nodes
changed xs i x y q = record { slots = slice_set xs.slots i y; disks = slice_set xs.disks x.position q }

module _ (xs : Nodes) (i : ℕ) (x y : Slot) (q : Images) (sits : Sits xs) (there : slice_get xs.slots i ≡ Some x) (place : y.position ≡ x.position) where
  here_is : images_at (slice_set xs.disks x.position q) y.position ≡ q
  here_is = ap (λ (k : ℕ). images_at (slice_set xs.disks x.position q) k) place
      ∙ pair_here (slice_set xs.disks x.position q) x.position q (set_here xs.disks x.position q (sits.below i x there))

  -- the node is seen over the pair that was written
  pub view_here : view_in (changed xs i x y q) y ≡ node_view y q
  view_here = ap (node_view y) here_is

-- another node has another pair
pub pair_else : (xs : Nodes) (i j : ℕ) (x z : Slot) (q : Images) → Sits xs → slice_get xs.slots i ≡ Some x → slice_get xs.slots j ≡ Some z → (j ≡ i → ⊥)
    → images_at (slice_set xs.disks x.position q) z.position ≡ images_at xs.disks z.position
pair_else xs i j x z q sits there at ne = ap images_or_none (set_else xs.disks x.position z.position q (λ e. ne (sits.apart i j x z there at e)))

pub view_else : (xs : Nodes) (i j : ℕ) (x y z : Slot) (q : Images) → Sits xs → slice_get xs.slots i ≡ Some x → slice_get xs.slots j ≡ Some z → (j ≡ i → ⊥)
    → view_in (changed xs i x y q) z ≡ view_in xs z
view_else xs i j x y z q sits there at ne = ap (node_view z) (pair_else xs i j x z q sits there at ne)

-- a node alone, over a pair that stays
pub changed_alone : (xs : Nodes) (i : ℕ) (x y : Slot) → Sits xs → slice_get xs.slots i ≡ Some x → changed xs i x y (images_at xs.disks x.position) ≡ record { slots = slice_set xs.slots i y; disks = xs.disks }
changed_alone xs i x y sits there =
    ap (λ (is : List Images). record { slots = slice_set xs.slots i y; disks = is }) (set_same xs.disks x.position (images_at xs.disks x.position) (pair_there xs.disks x.position (sits.below i x there)))

-- the disks report as before, where those that were written do
pub told_changed : (xs : Nodes) (i : ℕ) (x y : Slot) (q : Images) → Sits xs → slice_get xs.slots i ≡ Some x → y.position ≡ x.position → Tell q
    → ((j : ℕ) (z : Slot) → slice_get xs.slots j ≡ Some z → Tell (images_at xs.disks z.position)) → (j : ℕ) (z : Slot)
    → slice_get (slice_set xs.slots i y) j ≡ Some z → Tell (images_at (slice_set xs.disks x.position q) z.position)
told_changed xs i x y q sits there place own told =
    each_set (λ (j : ℕ) (z : Slot). Tell (images_at (slice_set xs.disks x.position q) z.position)) xs.slots i y (subst Tell (sym (here_is xs i x y q sits there place)) own)
    (λ j z off at. subst Tell (sym (pair_else xs i j x z q sits there at off)) (told j z at))

-- the nodes sit as before, where the one that was written stands over its pair
module _ (xs : Nodes) (i : ℕ) (x y : Slot) (q : Images) (sits : Sits xs) (there : slice_get xs.slots i ≡ Some x) (place : y.position ≡ x.position) (stands : HostStands y.host q.0 q.1) where
  -- a node after the write has the position of one before it
  before : (j : ℕ) (z : Slot) → slice_get (slice_set xs.slots i y) j ≡ Some z → (u : Slot) × (slice_get xs.slots j ≡ Some u) × (z.position ≡ u.position)
  before = each_set (λ (j : ℕ) (z : Slot). (u : Slot) × (slice_get xs.slots j ≡ Some u) × (z.position ≡ u.position)) xs.slots i y (x, there, place) (λ j z off e. (z, e, refl))

  pub sits_changed : Sits (changed xs i x y q)
  sits_changed = record {
    below = λ j z e.
        let u = before j z e in
        subst (λ (n : ℕ). z.position < n) (sym (length-set xs.disks x.position q)) (subst (λ (k : ℕ). k < length xs.disks) (sym u.2) (sits.below j u.0 u.1));
    apart = λ j k z w e f p. let u = before j z e in let v = before k w f in sits.apart j k u.0 v.0 u.1 v.1 (sym u.2 ∙ p ∙ v.2);
    each = each_set (λ (j : ℕ) (z : Slot). HostStands z.host (images_at (slice_set xs.disks x.position q) z.position).0
        (images_at (slice_set xs.disks x.position q) z.position).1) xs.slots i y
        (subst (λ (r : Images). HostStands y.host r.0 r.1) (sym (here_is xs i x y q sits there place)) stands)
        (λ j z off e. subst (λ (r : Images). HostStands z.host r.0 r.1) (sym (pair_else xs i j x z q sits there e off)) (sits.each j z e));
  }

-- and stand for a world, where each node does
module _ (xs : Nodes) (i : ℕ) (x y : Slot) (q : Images) (sits : Sits xs) (there : slice_get xs.slots i ≡ Some x) (place : y.position ≡ x.position) (same : slot_id y ≡ slot_id x) where
  ids : slot_ids (slice_set xs.slots i y) ≡ slot_ids xs.slots
  ids = mapped_same slot_id xs.slots i x y there same

  pub changed_holds : (c : CircuitId) (m later : CircuitWorld) → HoldsWorld c m xs → Tell q → later.nodes ≡ m.nodes → IsAs c later (node_view y q)
      → ((j : ℕ) (z : Slot) → (j ≡ i → ⊥) → slice_get xs.slots j ≡ Some z → IsAs c later (view_in xs z)) → HoldsWorld c later (changed xs i x y q)
  changed_holds c m later h tells nodes here others = record {
    ordered = ap ascends ids ∙ h.ordered;
    nodes = nodes ∙ h.nodes ∙ sym ids;
    each = each_set (λ (j : ℕ) (z : Slot). IsAs c later (view_in (changed xs i x y q) z)) xs.slots i y (subst (IsAs c later) (sym (view_here xs i x y q sits there place)) here)
        (λ j z off at. subst (IsAs c later) (sym (view_else xs i j x y z q sits there at off)) (others j z off at));
    told = told_changed xs i x y q sits there place tells h.told;
  }

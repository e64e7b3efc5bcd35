-- The nodes of a registry, each with the pair at its position there.
use Rattle.std.{specs.Option.option_map_or, proofs.{Common.ltb, lemmas.Option.slice_get-map}}
use Rattle.spl_agree.proofs.Tests.{ltb_is, ltb_not}
use Rattle.spl_circuit.proofs.Sorting.{has_sorted}
use Rattle.spl_registry.specs.Nodes.{is_of}
use Rattle.spl_world.specs.{Links.{Places, seat_of}, Views.{ArePlaced, world_node_ids, places_of, slot_ids, slot_places}, declared.slot.Slot.Slot}
use Rattle.spl_world.{specs.declared.world.World.World, proofs.Common.{◌≡◌, ◌≢◌, ◌⊎◌, inl, inr, ℕ, zero, suc, ◌+◌, ◌<◌, true, false, List, [], ◌∷◌, length}}
use Rattle.spl_world.proofs.Common.{get_or, slice_get, Option, Some, None, IsSome, refl, ap, sym, ◌∙◌, subst, arith, slice_get_within, slice_get-get_or}
use Rattle.spl_world.proofs.Common.{AllPairs, position_from, bytes_eq, bool_cases, bytes_are, NodeId, has_node, sorted, Entry, registered, node_at}
use Rattle.spl_world.proofs.Reading.{has_at}

-- ---- positions in a registry

found_known : (es : List Entry) (n : NodeId) (k : ℕ) → has_node (registered es) n ≡ true → IsSome (position_from (is_of n) k es)
found_known [] n k h = cc
found_known (e ∷ es) n k h = elim (bool_cases (is_of n e)) [ inl q ↦ rw q refl | inr q ↦ rw q ((found_known es n (k + 1)) (rw q at h)) ]

node_from : (es : List Entry) (n : NodeId) (k j : ℕ) → position_from (is_of n) k es ≡ Some j → (i : ℕ) × (j ≡ k + i) × (node_at es i ≡ Some n)
node_from [] n k j h = cc
node_from (e ∷ es) n k j h = go (bool_cases (is_of n e)) (node_from es n (k + 1) j)
  where
    later : (i : ℕ) × (j ≡ (k + 1) + i) × (node_at es i ≡ Some n) → (i : ℕ) × (j ≡ k + i) × (node_at (e ∷ es) i ≡ Some n)
    later r = let q : j ≡ k + suc r.0 = omega (arith, r.1) in (suc r.0, q, r.2)

    go : (is_of n e ≡ true) ⊎ (is_of n e ≡ false) → (position_from (is_of n) (k + 1) es ≡ Some j → (i : ℕ) × (j ≡ (k + 1) + i) × (node_at es i ≡ Some n))
        → (i : ℕ) × (j ≡ k + i) × (node_at (e ∷ es) i ≡ Some n)
    go (inl q) more =
        let here : Some k ≡ Some j = rw q at h in
        let same : k ≡ j = cc in
        let first : j ≡ k + 0 = omega (arith, same) in
        (0, first, ap Some (bytes_are e.identity n q))
    go (inr q) more = later (more (rw q at h))

-- the position that is found of a node has it
pub node_found : (es : List Entry) (n : NodeId) (j : ℕ) → position_from (is_of n) 0 es ≡ Some j → node_at es j ≡ Some n
node_found es n j h =
    let r = node_from es n 0 j h in
    let e : r.0 ≡ j = omega (arith, r.1) in
    subst (λ (i : ℕ). node_at es i ≡ Some n) e r.2

-- ---- nodes at them

-- a node that is known has an index
pub node_index : (ns : List NodeId) (n : NodeId) → has_node ns n ≡ true → (i : ℕ) × (slice_get ns i ≡ Some n)
node_index [] n h = cc
node_index (m ∷ ns) n h = elim (bool_cases (bytes_eq m n)) [
  | inl q ↦ (0, ap Some (bytes_are m n q))
  | inr q ↦ let r = (node_index ns n) (rw q at h) in (suc r.0, r.1)
]

-- and a place
pub place_there : (ss : List Slot) (i : ℕ) (n : NodeId) → slice_get (slot_ids ss) i ≡ Some n → (k : ℕ) × (slice_get (slot_places ss) i ≡ Some k)
place_there [] i n e = absurd cc
place_there (s ∷ ss) zero n e = (s.position, refl)
place_there (s ∷ ss) (suc i) n e = place_there ss i n e

-- at most one position has a node
apart_below : (ids : List NodeId) (a b : ℕ) (n : NodeId) → AllPairs (λ x y. x ≢ y) ids → slice_get ids a ≡ Some n → slice_get ids b ≡ Some n → a < b → ⊥
apart_below ids a b n differ at also below =
    let within : b < length ids = slice_get_within ids b n also in
    let first : a < length ids = omega (arith, below, within) in
    let p : Some n ≡ Some (get_or ids a n) = sym at ∙ slice_get-get_or ids a n first in
    let q : Some n ≡ Some (get_or ids b n) = sym also ∙ slice_get-get_or ids b n within in
    let x : n ≡ get_or ids a n = cc in
    let y : n ≡ get_or ids b n = cc in
    differ a b n below within (sym x ∙ y)

one_position : (ids : List NodeId) (a b : ℕ) (n : NodeId) → AllPairs (λ x y. x ≢ y) ids → slice_get ids a ≡ Some n → slice_get ids b ≡ Some n → a ≡ b
one_position ids a b n differ at also = go (bool_cases (ltb a b)) (bool_cases (ltb b a))
  where
    go : (ltb a b ≡ true) ⊎ (ltb a b ≡ false) → (ltb b a ≡ true) ⊎ (ltb b a ≡ false) → a ≡ b
    go (inl p) q = absurd (apart_below ids a b n differ at also (ltb_is a b p))
    go (inr p) (inl q) = absurd (apart_below ids b a n differ also at (ltb_is b a q))
    go (inr p) (inr q) = let one = ltb_not a b p in let other = ltb_not b a q in omega (arith, one, other)

some_is : (o : Option ℕ) → IsSome o → (k : ℕ) × (o ≡ Some k)
some_is None h = absurd cc
some_is (Some k) h = (k, refl)

-- the id at a position of a registry
id_there : (es : List Entry) (k : ℕ) (n : NodeId) → node_at es k ≡ Some n → slice_get (registered es) k ≡ Some n
id_there es k n at = slice_get-map (λ (e : Entry). e.identity) es k ∙ at

-- a position of a node is one of its registry
pub node_below : (es : List Entry) (k : ℕ) (n : NodeId) → node_at es k ≡ Some n → k < length es
node_below [] k n e = absurd cc
node_below (x ∷ es) zero n e = omega arith
node_below (x ∷ es) (suc k) n e = let rest : k < length es = node_below es k n e in omega (arith, rest)

-- the position at which a node is found
pub position_is : (es : List Entry) (k : ℕ) (n : NodeId) → AllPairs (λ x y. x ≢ y) (registered es) → node_at es k ≡ Some n → position_from (is_of n) 0 es ≡ Some k
position_is es k n differ at =
    let known : has_node (registered es) n ≡ true = has_at (registered es) k n (id_there es k n at) in
    let found = some_is (position_from (is_of n) 0 es) (found_known es n 0 known) in
    found.1 ∙ ap Some (one_position (registered es) found.0 k n differ (id_there es found.0 n (node_found es n found.0 found.1)) (id_there es k n at))

module _ (es : List Entry) (w : World) (differ : AllPairs (λ x y. x ≢ y) (registered es)) (ids : world_node_ids w ≡ sorted (registered es)) (placed : ArePlaced es w) where
  -- each node of the registry is a node of the world, with the pair at its position
  pub is_seated : (k : ℕ) (n : NodeId) → node_at es k ≡ Some n → (i : ℕ) × (slice_get (world_node_ids w) i ≡ Some n) × (slice_get (places_of w) i ≡ Some k)
  is_seated k n at =
      let known : has_node (world_node_ids w) n ≡ true = ap (λ (ns : List NodeId). has_node ns n) ids ∙ has_sorted (registered es) n ∙ has_at (registered es) k n (id_there es k n at) in
      let here = node_index (world_node_ids w) n known in
      let place = place_there w.slots.items here.0 n here.1 in
      let same : place.0 ≡ k = one_position (registered es) place.0 k n differ (id_there es place.0 n (placed here.0 n place.0 here.1 place.1)) (id_there es k n at) in
      (here.0, here.1, place.1 ∙ ap (λ (m : ℕ). Some m) same)

  -- the place of each node is its position
  pub seats_placed : Places (seat_of es) (world_node_ids w) (places_of w)
  seats_placed i n k at there = ap (λ (o : Option ℕ). option_map_or (λ j. j) o 0) (position_is es k n differ (placed i n k at there))

-- Nodes by their index, and one of them written.
use Rattle.std.{specs.Cmp.both_ways, proofs.lemmas.List.take_more}
use Rattle.spl_node.proofs.Positions.{mapped_at, mapped_there}
use Rattle.spl_circuit.proofs.Order.{below_trans, not_below_itself}
use Rattle.spl_world.{specs.{Views.{slot_id, slot_ids, slot_places, has_id}, declared.slot.Slot.Slot}, proofs.Common.{bytes_same, length-map, ◌≡◌, ℕ, zero}}
use Rattle.spl_world.proofs.Common.{suc, ◌+◌, ◌<◌, ◌⊎◌, inl, inr, true, false, true≢false, List, [], ◌∷◌, ◌++◌, length, slice_get, take, Some, IsSome, refl}
use Rattle.spl_world.proofs.Common.{ap, sym, ◌∙◌, subst, arith, position_from, bytes_eq, bool_cases, bytes_are, both_true, NodeId, has_node, is_below}
use Rattle.spl_world.proofs.Common.{ascends, ascends_after, Bool, ◌||◌, get_or_from_slice_get, slice_get_within}

pub known_is_found : (xs : List Slot) (n : NodeId) (k : ℕ) → has_node (slot_ids xs) n ≡ true → IsSome (position_from (has_id n) k xs)
known_is_found [] n k h = cc
known_is_found (x ∷ xs) n k h = elim (bool_cases (has_id n x)) [ inl q ↦ rw q refl | inr q ↦ rw q ((known_is_found xs n (k + 1)) (rw q at h)) ]

found_from : (xs : List Slot) (n : NodeId) (k j : ℕ) → position_from (has_id n) k xs ≡ Some j → (i : ℕ) × (j ≡ k + i) × (slice_get (slot_ids xs) i ≡ Some n)
found_from [] n k j h = cc
found_from (x ∷ xs) n k j h = go (bool_cases (has_id n x)) (found_from xs n (k + 1) j)
  where
    later : (i : ℕ) × (j ≡ (k + 1) + i) × (slice_get (slot_ids xs) i ≡ Some n) → (i : ℕ) × (j ≡ k + i) × (slice_get (slot_ids (x ∷ xs)) i ≡ Some n)
    later r = let e : j ≡ k + suc r.0 = omega (arith, r.1) in (suc r.0, e, r.2)

    go : (has_id n x ≡ true) ⊎ (has_id n x ≡ false) → (position_from (has_id n) (k + 1) xs ≡ Some j → (i : ℕ) × (j ≡ (k + 1) + i) × (slice_get (slot_ids xs) i ≡ Some n)) → (i : ℕ) × (j ≡ k + i) × (slice_get (slot_ids (x ∷ xs)) i ≡ Some n)
    go (inl q) more = let here : Some k ≡ Some j = rw q at h in let same : k ≡ j = cc in let e : j ≡ k + 0 = omega (arith, same) in (0, e, ap Some (bytes_are (slot_id x) n q))
    go (inr q) more = later (more (rw q at h))

pub found_at : (xs : List Slot) (n : NodeId) (j : ℕ) → position_from (has_id n) 0 xs ≡ Some j → slice_get (slot_ids xs) j ≡ Some n
found_at xs n j h = let r = found_from xs n 0 j h in let e : r.0 ≡ j = omega (arith, r.1) in subst (λ (i : ℕ). slice_get (slot_ids xs) i ≡ Some n) e r.2

pub length_ids : (xs : List Slot) → length (slot_ids xs) ≡ length xs
length_ids xs = length-map xs slot_id

-- the id of the node at an index
pub id_at : (xs : List Slot) (i : ℕ) (x : Slot) → slice_get xs i ≡ Some x → slice_get (slot_ids xs) i ≡ Some (slot_id x)
id_at xs i x h = mapped_at slot_id xs i x h

pub at_below : (xs : List Slot) (i : ℕ) (n : NodeId) → slice_get (slot_ids xs) i ≡ Some n → i < length xs
at_below xs i n h = let x = mapped_there slot_id xs i n h in slice_get_within xs i x.0 x.1

pub same_at : (xs : List Slot) (i : ℕ) (x : Slot) (n : NodeId) → slice_get xs i ≡ Some x → slice_get (slot_ids xs) i ≡ Some n → slot_id x ≡ n
same_at xs i x n h e = let q : Some (slot_id x) ≡ Some n = sym (id_at xs i x h) ∙ e in cc

-- which of two ids comes first says nothing of whether they are one
pub turned : (a b : NodeId) → bytes_eq a b ≡ bytes_eq b a
turned a b = both_ways (bytes_eq a b) (bytes_eq b a) (flip a b) (flip b a)
  where
    flip : (x y : NodeId) → bytes_eq x y ≡ true → bytes_eq y x ≡ true
    flip x y q = subst (λ (z : NodeId). bytes_eq z x ≡ true) (bytes_are x y q) (bytes_same x)

pub both_off : (a b : Bool) → (a || b) ≡ false → (a ≡ false) × (b ≡ false)
both_off true b h = absurd cc
both_off false b h = (refl, h)

-- ---- ids that ascend are apart

pub below_after : (p : NodeId) (ns : List NodeId) (j : ℕ) (b : NodeId) → ascends_after p ns ≡ true → slice_get ns j ≡ Some b → is_below p b ≡ true
below_after p [] j b a e = absurd cc
below_after p (n ∷ ns) zero b a e = let same : n ≡ b = cc in subst (λ (m : NodeId). is_below p m ≡ true) same (both_true (is_below p n) (ascends_after n ns) a).0
below_after p (n ∷ ns) (suc j) b a e =
    let h = both_true (is_below p n) (ascends_after n ns) a in
    below_trans p n b h.0 (below_after n ns j b h.1 e)

pub differ : (a b : NodeId) → is_below a b ≡ true → bytes_eq a b ≡ false
differ a b p = elim (bool_cases (bytes_eq a b)) [
  | inl q ↦ absurd (true≢false (sym p ∙ ap (λ (v : NodeId). is_below v b) (bytes_are a b q) ∙ not_below_itself b))
  | inr q ↦ q
]

pub differ_back : (a b : NodeId) → is_below a b ≡ true → bytes_eq b a ≡ false
differ_back a b p = turned b a ∙ differ a b p

pub tail_ascends : (n : NodeId) (ns : List NodeId) → ascends (n ∷ ns) ≡ true → ascends ns ≡ true
tail_ascends n [] a = refl
tail_ascends n (m ∷ ms) a = (both_true (is_below n m) (ascends_after m ms) a).1

-- ids that ascend stand once
pub once : (ns : List NodeId) (i j : ℕ) (n : NodeId) → ascends ns ≡ true → slice_get ns i ≡ Some n → slice_get ns j ≡ Some n → j ≡ i
once [] i j n a e f = absurd cc
once (m ∷ ms) zero zero n a e f = refl
once (m ∷ ms) zero (suc j) n a e f = let same : m ≡ n = cc in absurd (true≢false (sym (below_after m ms j n a f) ∙ ap (λ (x : NodeId). is_below x n) same ∙ not_below_itself n))
once (m ∷ ms) (suc i) zero n a e f = let same : m ≡ n = cc in absurd (true≢false (sym (below_after m ms i n a e) ∙ ap (λ (x : NodeId). is_below x n) same ∙ not_below_itself n))
once (m ∷ ms) (suc i) (suc j) n a e f = ap suc (once ms i j n (tail_ascends m ms a) e f)

pub apart : (ns : List NodeId) (i j : ℕ) (a b : NodeId) → ascends ns ≡ true → slice_get ns i ≡ Some a → slice_get ns j ≡ Some b → (j ≡ i → ⊥) → bytes_eq b a ≡ false
apart [] i j a b h e f ne = absurd cc
apart (n ∷ ns) zero zero a b h e f ne = absurd (ne refl)
apart (n ∷ ns) zero (suc j) a b h e f ne = let same : n ≡ a = cc in subst (λ (m : NodeId). bytes_eq b m ≡ false) same (differ_back n b (below_after n ns j b h f))
apart (n ∷ ns) (suc i) zero a b h e f ne = let same : n ≡ b = cc in subst (λ (m : NodeId). bytes_eq m a ≡ false) same (differ n a (below_after n ns i a h e))
apart (n ∷ ns) (suc i) (suc j) a b h e f ne = apart ns i j a b (tail_ascends n ns h) e f (λ q. ne (ap suc q))

-- ---- the first ids, and one more

pub plus_one : (i : ℕ) → i + 1 ≡ suc i
plus_one i = omega arith

pub take_one : {X : Type 0} (xs : List X) (i : ℕ) (x : X) → slice_get xs i ≡ Some x → take (i + 1) xs ≡ take i xs ++ x ∷ []
take_one xs i x e = take_more xs i x (slice_get_within xs i x e) ∙ ap (λ y. take i xs ++ y ∷ []) (get_or_from_slice_get xs i x x e)

pub some_at : (xs : List Slot) (i : ℕ) → i < length xs → (n : NodeId) × (slice_get (slot_ids xs) i ≡ Some n)
some_at [] i h = absurd (omega (arith, h))
some_at (x ∷ xs) zero h = (slot_id x, refl)
some_at (x ∷ xs) (suc i) h = let r : i < length xs = omega (arith, h) in some_at xs i r

pub same_length : (xs ys : List Slot) → slot_ids ys ≡ slot_ids xs → length ys ≡ length xs
same_length xs ys e = sym (length_ids ys) ∙ ap length e ∙ length_ids xs

pub place_at : (xs : List Slot) (i : ℕ) (x : Slot) → slice_get xs i ≡ Some x → slice_get (slot_places xs) i ≡ Some x.position
place_at xs i x h = mapped_at (λ (s : Slot). s.position) xs i x h

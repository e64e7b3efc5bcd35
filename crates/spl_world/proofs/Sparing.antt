-- Which pairs of disks a call leaves as they were.
use Rattle.spl_node.{specs.Stopping.BothPickAtMostOnce, proofs.{Benches.{one_else, bench_here, bench_set}, Positions.{same_there, set_here}}}
use Rattle.spl_agree.proofs.Tests.{eqb_not}
use Rattle.spl_world.specs.{Held.stops_at, Picks.OnlyBy, Views.{Nodes, OnlyAt, PicksOnceAt, Sits, SpareStay, slot_id, slot_places}, declared.slot.Slot.Slot}
use Rattle.spl_world.proofs.Common.{◌≡◌, inl, inr, ℕ, true, false, true≢false, eqb, List, slice_get, slice_set, Some, refl, ap, sym, subst, ◌∙◌}
use Rattle.spl_world.proofs.Common.{slice_get_within, bytes_eq, eqb_is, bool_cases, bytes_same, NodeId, DiskView, PairView, bench, pair_view, Pair, Line}
use Rattle.spl_world.proofs.Slots.{place_at}

module _ {D : Type 0} (view : D → DiskView) where
  abbrev told : List (Pair D) → List PairView
  told ps = bench view ps

  -- ---- one pair is written

  one_once : (ps : List (Pair D)) (k : ℕ) (p r : Pair D) → slice_get ps k ≡ Some p → BothPickAtMostOnce (pair_view view p) (pair_view view r)
      → PicksOnceAt k (told ps) (told (slice_set ps k r))
  one_once ps k p r pair once = λ x y e f.
      let here = bench_here view ps k p pair in
      let there : slice_get (told (slice_set ps k r)) k ≡ Some (pair_view view r) = ap (λ (xs : List PairView). slice_get xs k) (bench_set view ps k r) ∙ set_here (told ps) k (pair_view view r) (slice_get_within (told ps) k (pair_view view p) here) in
      subst (λ (z : PairView). BothPickAtMostOnce z y) (same_there (told ps) k (pair_view view p) x here e)
      (subst (λ (z : PairView). BothPickAtMostOnce (pair_view view p) z) (same_there (told (slice_set ps k r)) k (pair_view view r) y there f) once)

  pub one_only : (ps : List (Pair D)) (k place : ℕ) (p r : Pair D) → k ≡ place → slice_get ps k ≡ Some p
      → BothPickAtMostOnce (pair_view view p) (pair_view view r) → OnlyAt place (told ps) (told (slice_set ps k r))
  one_only ps k place p r at pair once = record {
    others = one_else view ps k place r at;
    once = subst (λ (j : ℕ). PicksOnceAt j (told ps) (told (slice_set ps k r))) at (one_once ps k p r pair once);
  }

  pub one_spare : (ss : List Slot) (ps : List (Pair D)) (i : ℕ) (s : Slot) (k : ℕ) (r : Pair D) → slice_get ss i ≡ Some s → k ≡ s.position
      → SpareStay (slot_places ss) (told ps) (told (slice_set ps k r))
  one_spare ss ps i s k r there at = λ j off. one_else view ps k s.position r at j (λ e. off (i, place_at ss i s there ∙ ap Some (sym e)))

-- ---- a line that stops a node

once_same : (xs ys : List PairView) (k : ℕ) → slice_get ys k ≡ slice_get xs k → PicksOnceAt k xs ys
once_same xs ys k same = λ p q e f.
    let is : p ≡ q = same_there xs k p q e (sym same ∙ f) in
    record { first = inl (ap (λ (z : PairView). z.first.picks) (sym is)); second = inl (ap (λ (z : PairView). z.second.picks) (sym is)) }

pub only_same : (xs : List PairView) (k : ℕ) → OnlyAt k xs xs
only_same xs k = record { others = λ j off. refl; once = once_same xs xs k refl }

pub once_all : (xs : List PairView) (k : ℕ) → PicksOnceAt k xs xs
once_all xs k = once_same xs xs k refl

module _ (l : Line) (xs : Nodes) (old new : List PairView) (one : OnlyBy l xs old new) where
  abbrev x : Slot
  x = one.node.slot

  pub by_spare : SpareStay (slot_places xs.slots) old new
  by_spare = λ k off. one.node.only.others k (λ e. off (one.node.index, place_at xs.slots one.node.index x one.node.there ∙ ap Some (sym e)))

  pub by_once : (k : ℕ) → PicksOnceAt k old new
  by_once k = elim (bool_cases (eqb k x.position)) [
    | inl e ↦ subst (λ (j : ℕ). PicksOnceAt j old new) (sym (eqb_is k x.position e)) one.node.only.once
    | inr e ↦ once_same old new k (one.node.only.others k (eqb_not k x.position e))
  ]

  -- a node that it doesn't stop
  pub by_others : Sits xs → (i : ℕ) (s : Slot) → slice_get xs.slots i ≡ Some s → stops_at (slot_id s) l ≡ false → slice_get new s.position ≡ slice_get old s.position
  by_others sits i s at off = one.node.only.others s.position (λ e. true≢false (sym (stopped e) ∙ off))
    where
      same : s.position ≡ x.position → x ≡ s
      same e =
          let index : one.node.index ≡ i = sits.apart i one.node.index s x at one.node.there e in
          let h : Some x ≡ Some s = sym one.node.there ∙ ap (slice_get xs.slots) index ∙ at in
          cc

      stopped : s.position ≡ x.position → stops_at (slot_id s) l ≡ true
      stopped e = one.named (slot_id s) ∙ ap (λ (n : NodeId). bytes_eq n one.here) (sym (ap slot_id (same e)) ∙ one.node.id_is) ∙ bytes_same one.here

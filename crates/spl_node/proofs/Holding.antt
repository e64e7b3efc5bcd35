-- What pairs of disks hold, and those that are asked for their length.
use Rattle.std.{specs.Prelude.option_map, proofs.Common.{◌≡◌, ◌⊎◌, inl, inr, ◌+◌, ◌<◌, ◌≤◌, ℕ, List, [], ◌∷◌, length, map, slice_get, slice_set, Option}}
use Rattle.std.proofs.{Common.{Some, None, refl, ap, sym, subst, ◌∙◌, arith}, lemmas.{Bool.cases_lt, Option.slice_get-map}}
use Rattle.spl_edge.specs.{Devices.{DiskView, PairView, bench}, declared.bench.Pair.Pair}
use Rattle.spl_node.specs.{Benches.{Images, Tell, images_at, images_or_none, images_now, images, images_of}, Blank.{AllEmpty, AreEmpty}}
use Rattle.spl_node.proofs.{Benches.{images_here, images_length, images_set}, Positions.set_same}

module _ {D : Type 0} (view : D → DiskView) where
  -- what disks hold, by their pairs and by what they report
  pub images_held : (ps : List (Pair D)) → map images_now (bench view ps) ≡ images view ps
  images_held [] = refl
  images_held (p ∷ ps) = ap (λ (is : List Images). images_of view p ∷ is) (images_held ps)

  -- disks that hold the same by their pairs do so by what they report
  pub held_same : (ps qs : List (Pair D)) → images view ps ≡ images view qs → map images_now (bench view ps) ≡ map images_now (bench view qs)
  held_same ps qs same = images_held ps ∙ same ∙ sym (images_held qs)

  -- pairs that hold the same are as many
  pub as_many : (ps qs : List (Pair D)) → images view ps ≡ images view qs → length ps ≡ length qs
  as_many ps qs same = sym (images_length view ps) ∙ ap length same ∙ images_length view qs

  -- and where one holds what it held all do
  pub images_stay : (ps : List (Pair D)) (k : ℕ) (p q : Pair D) → slice_get ps k ≡ Some p → images_of view q ≡ images_of view p
      → images view (slice_set ps k q) ≡ images view ps
  images_stay ps k p q there same = images_set view ps k q ∙ set_same (images view ps) k (images_of view q) (images_here view ps k p there ∙ ap Some (sym same))

-- what a pair holds is what is held at its place
pub held_at : (ps : List PairView) (k : ℕ) (p : PairView) → slice_get ps k ≡ Some p → images_at (map images_now ps) k ≡ images_now p
held_at ps k p at = ap images_or_none (slice_get-map images_now ps k ∙ ap (option_map images_now) at)

-- a place whose disks report has a pair
pub pair_at : (ps : List PairView) (k : ℕ) → Tell (images_at (map images_now ps) k) → (p : PairView) × (slice_get ps k ≡ Some p)
pair_at ps k told = by (slice_get ps k) refl
  where
    by : (o : Option PairView) → slice_get ps k ≡ o → (p : PairView) × (slice_get ps k ≡ Some p)
    by (Some p) at = (p, at)
    by None at =
        let none : images_at (map images_now ps) k ≡ (None, None) = ap images_or_none (slice_get-map images_now ps k ∙ ap (option_map images_now) at) in
        let no : Tell (None, None) = subst Tell none told in
        let first = no.0 in
        absurd cc

-- ---- one pair after another

-- calls at places below a number change no pair from it on
pub spares : (start mid now : List PairView) (slot count : ℕ) → slot < count → ((k : ℕ) → (k ≡ slot → ⊥) → slice_get now k ≡ slice_get mid k)
    → ((k : ℕ) → count ≤ k → slice_get mid k ≡ slice_get start k) → (k : ℕ) → count ≤ k → slice_get now k ≡ slice_get start k
spares start mid now slot count below others before k past = others k (λ here. omega (arith, here, past, below)) ∙ before k past

-- one empty pair more
pub one_more : (n : ℕ) (is : List Images) → AllEmpty n is → AreEmpty (images_at is n) → AllEmpty (n + 1) is
one_more n is before here = λ k below. go k below (cases_lt k n)
  where
    go : (k : ℕ) → k < n + 1 → (k < n) ⊎ (n ≤ k) → AreEmpty (images_at is k)
    go k below (inl less) = before k less
    go k below (inr past) = let same : n ≡ k = omega (arith, below, past) in subst (λ (j : ℕ). AreEmpty (images_at is j)) same here

-- The pairs of disks of nodes, of which one is called.
use Rattle.std.proofs.Common.{List, subst, None, Option, Some, [], ap, arith, inl, inr, length, refl, slice_get, slice_set, suc, sym, zero, ℕ, ◌-◌, ◌<◌, ◌∙◌}
use Rattle.std.proofs.{Common.{◌∷◌, ◌≡◌, ◌≤◌}, lemmas.{List.{length-map, length-set}, Option.slice_get_within}}
use Rattle.spl_node.{specs.Benches.{AllGoOn, Images, RoseAt, images, images_at, images_of, images_or_none}, proofs.Positions.{each_set, mapped_at}}
use Rattle.spl_node.proofs.Positions.{mapped_set, same_there, set_else, set_here, some_at}
use Rattle.spl_edge.specs.{Devices.{DiskView, Onward, PairView, bench, image_now, pair_view}, declared.bench.Pair.Pair}
use Rattle.spl_snapshot.specs.Counting.{HasRisen, PairOnward}

-- ---- pairs that go on

pub on_itself : (x : DiskView) → Onward x x
on_itself x = record { past = λ t h. refl; later = omega arith; no_less = omega arith; armed = refl; picks = refl }

pair_itself : (p : PairView) → PairOnward p p
pair_itself p = record { first = on_itself p.first; second = on_itself p.second }

on_then : (x y z : DiskView) → Onward x y → Onward y z → Onward x z
on_then x y z a b = record {
  past = λ t h. (let later : t ≤ y.moment = omega (arith, h, a.later) in b.past t later ∙ a.past t h);
  later = omega (arith, a.later, b.later);
  no_less = omega (arith, a.no_less, b.no_less);
  armed = b.armed ∙ a.armed;
  picks = b.picks ∙ a.picks;
}

pub pair_then : (p q r : PairView) → PairOnward p q → PairOnward q r → PairOnward p r
pair_then p q r a b = record { first = on_then p.first q.first r.first a.first b.first; second = on_then p.second q.second r.second a.second b.second }

pub all_itself : (xs : List PairView) → AllGoOn xs xs
all_itself xs = record { as_many = refl; each = λ i p q e f. subst (PairOnward p) (same_there xs i p q e f) (pair_itself p) }

-- the pair between
between : (xs ys : List PairView) (i : ℕ) (p : PairView) → AllGoOn xs ys → slice_get xs i ≡ Some p → (m : PairView) × (slice_get ys i ≡ Some m)
between xs ys i p a e = some_at ys i (subst (λ (n : ℕ). i < n) (sym a.as_many) (slice_get_within xs i p e))

pub all_then : (xs ys zs : List PairView) → AllGoOn xs ys → AllGoOn ys zs → AllGoOn xs zs
all_then xs ys zs a b = record {
  as_many = b.as_many ∙ a.as_many;
  each = λ i p q e f. let m = between xs ys i p a e in pair_then p m.0 q (a.each i p m.0 e m.1) (b.each i m.0 q m.1 f);
}

rose_then : (p m q : PairView) → PairOnward p m → HasRisen m q → HasRisen p q
rose_then p m q a (inl r) = let less = a.first.no_less in inl (omega (arith, r, less))
rose_then p m q a (inr r) = let less = a.second.no_less in inr (omega (arith, r, less))

-- a disk that failed, after calls that let all go on
pub rose_after : (slot : ℕ) (xs ys zs : List PairView) → AllGoOn xs ys → RoseAt slot ys zs → RoseAt slot xs zs
rose_after slot xs ys zs on rose = record {
  below = subst (λ (n : ℕ). slot < n) on.as_many rose.below;
  rose = λ p z e f. let m = between xs ys slot p on e in rose_then p m.0 z (on.each slot p m.0 e m.1) (rose.rose m.0 z m.1 f);
}

-- ---- what the pairs hold

pub images_set : {D : Type 0} (view : D → DiskView) (ps : List (Pair D)) (k : ℕ) (p : Pair D)
    → images view (slice_set ps k p) ≡ slice_set (images view ps) k (images_of view p)
images_set view ps k p = mapped_set (images_of view) ps k p

pub images_here : {D : Type 0} (view : D → DiskView) (ps : List (Pair D)) (k : ℕ) (p : Pair D) → slice_get ps k ≡ Some p
    → slice_get (images view ps) k ≡ Some (images_of view p)
images_here view ps k p e = mapped_at (images_of view) ps k p e

pub images_length : {D : Type 0} (view : D → DiskView) (ps : List (Pair D)) → length (images view ps) ≡ length ps
images_length view ps = length-map ps (images_of view)

-- a pair at its position
pub pair_here : (is : List Images) (k : ℕ) (q : Images) → slice_get is k ≡ Some q → images_at is k ≡ q
pair_here is k q e = ap images_or_none e

-- so the images of its disks
pub own_images : {D : Type 0} (view : D → DiskView) (ps : List (Pair D)) (k : ℕ) (p : Pair D) → slice_get ps k ≡ Some p → (slot : ℕ) → k ≡ slot
    → images_at (images view ps) slot ≡ images_of view p
own_images view ps k p pair slot place =
    ap (images_at (images view ps)) (sym place) ∙ pair_here (images view ps) k (images_of view p) (images_here view ps k p pair)

pub pair_there : (is : List Images) (k : ℕ) → k < length is → slice_get is k ≡ Some (images_at is k)
pair_there [] k below = absurd (omega (arith, below))
pair_there (q ∷ is) zero below = refl
pair_there (q ∷ is) (suc k) below = let rest : k < length is = omega (arith, below) in pair_there is k rest

-- ---- one pair of many

module _ {D : Type 0} (view : D → DiskView) where
  abbrev told : List (Pair D) → List PairView
  told ps = bench view ps

  abbrev one : Pair D → PairView
  one p = pair_view view p

  pub bench_set : (ps : List (Pair D)) (k : ℕ) (p : Pair D) → told (slice_set ps k p) ≡ slice_set (told ps) k (one p)
  bench_set [] k p = refl
  bench_set (r ∷ ps) zero p = refl
  bench_set (r ∷ ps) (suc k) p = ap (λ (xs : List PairView). one r ∷ xs) (bench_set ps k p)

  pub bench_here : (ps : List (Pair D)) (k : ℕ) (p : Pair D) → slice_get ps k ≡ Some p → slice_get (told ps) k ≡ Some (one p)
  bench_here [] k p e = absurd cc
  bench_here (r ∷ ps) zero p e = let same : r ≡ p = cc in ap (λ (z : Pair D). Some (one z)) same
  bench_here (r ∷ ps) (suc k) p e = bench_here ps k p e

-- one pair went on
pub all_one : (xs : List PairView) (k : ℕ) (x y : PairView) → slice_get xs k ≡ Some x → PairOnward x y → AllGoOn xs (slice_set xs k y)
all_one xs k x y there on = record {
  as_many = length-set xs k y;
  each = λ i p q e f. each_set (λ (j : ℕ) (z : PairView). (u : PairView) → slice_get xs j ≡ Some u → PairOnward u z) xs k y
      (λ u g. subst (λ (v : PairView). PairOnward v y) (same_there xs k x u there g) on)
      (λ j z off h u g. subst (PairOnward u) (same_there xs j u z g h) (pair_itself u)) i q f p e;
}

pub rose_at : (xs : List PairView) (k : ℕ) (x y : PairView) → slice_get xs k ≡ Some x → HasRisen x y → RoseAt k xs (slice_set xs k y)
rose_at xs k x y there rose =
    let below = slice_get_within xs k x there in
    record {
      below = below;
      rose = λ p z e h. subst (λ (u : PairView). HasRisen u z) (same_there xs k x p there e)
          (subst (HasRisen x) (same_there (slice_set xs k y) k y z (set_here xs k y below) h) rose);
    }

pub one_onward : {D : Type 0} (view : D → DiskView) (ps : List (Pair D)) (k : ℕ) (p r : Pair D) → slice_get ps k ≡ Some p
    → PairOnward (pair_view view p) (pair_view view r) → AllGoOn (bench view ps) (bench view (slice_set ps k r))
one_onward view ps k p r pair on =
    subst (AllGoOn (bench view ps)) (sym (bench_set view ps k r))
    (all_one (bench view ps) k (pair_view view p) (pair_view view r) (bench_here view ps k p pair) on)

pub one_rose : {D : Type 0} (view : D → DiskView) (ps : List (Pair D)) (k : ℕ) (p r : Pair D) → slice_get ps k ≡ Some p → (position : ℕ) → k ≡ position
    → HasRisen (pair_view view p) (pair_view view r)
    → RoseAt position (bench view ps) (bench view (slice_set ps k r))
one_rose view ps k p r pair position place rose =
    subst (λ (n : ℕ). RoseAt n (bench view ps) (bench view (slice_set ps k r))) place
    (subst (RoseAt k (bench view ps)) (sym (bench_set view ps k r))
    (rose_at (bench view ps) k (pair_view view p) (pair_view view r) (bench_here view ps k p pair) rose))

pub one_else : {D : Type 0} (view : D → DiskView) (ps : List (Pair D)) (k place : ℕ) (r : Pair D) → k ≡ place → (j : ℕ) → (j ≡ place → ⊥)
    → slice_get (bench view (slice_set ps k r)) j ≡ slice_get (bench view ps) j
one_else view ps k place r at =
    λ j off. ap (λ (xs : List PairView). slice_get xs j) (bench_set view ps k r) ∙ set_else (bench view ps) k j (pair_view view r) (λ e. off (sym e ∙ at))

-- ---- what a pair reports is what it holds

-- what a pair holds that may be there
abbrev pub seen_at : Option PairView → Images
seen_at None = (None, None)
seen_at (Some p) = (image_now p.first, image_now p.second)

pub images_seen : {D : Type 0} (view : D → DiskView) (ps : List (Pair D)) (k : ℕ) → images_at (images view ps) k ≡ seen_at (slice_get (bench view ps) k)
images_seen view [] k = refl
images_seen view (p ∷ ps) zero = refl
images_seen view (p ∷ ps) (suc k) = images_seen view ps k

pub told_images : {D : Type 0} (view : D → DiskView) (ps : List (Pair D)) (k : ℕ) (p : PairView) → slice_get (bench view ps) k ≡ Some p
    → images_at (images view ps) k ≡ (image_now p.first, image_now p.second)
told_images view ps k p e = images_seen view ps k ∙ ap seen_at e

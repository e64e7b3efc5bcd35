-- One pair of a bench is written.
use Rattle.std.proofs.Common.{◌≡◌, ℕ, zero, suc, ◌<◌, List, [], ◌∷◌, length, slice_get, slice_set, Some, refl, ap, sym, ◌∙◌, arith}
use Rattle.spl_edge.specs.{Devices.{DiskView, PairView, bench, pair_view}, declared.bench.Pair.Pair}
use Rattle.spl_paxos_run.specs.Wholes.{ChangesFirst}

-- ---- lists

pub set_length : {A : Type 0} (xs : List A) (k : ℕ) (x : A) → length (slice_set xs k x) ≡ length xs
set_length [] k x = refl
set_length (y ∷ ys) zero x = refl
set_length (y ∷ ys) (suc k) x = ap suc (set_length ys k x)

pub set_here : {A : Type 0} (xs : List A) (k : ℕ) (x : A) → k < length xs → slice_get (slice_set xs k x) k ≡ Some x
set_here [] k x below = absurd (omega (arith, below))
set_here (y ∷ ys) zero x below = refl
set_here (y ∷ ys) (suc k) x below = let rest : k < length ys = omega (arith, below) in set_here ys k x rest

pub set_else : {A : Type 0} (xs : List A) (k i : ℕ) (x : A) → (i ≡ k → ⊥) → slice_get (slice_set xs k x) i ≡ slice_get xs i
set_else [] k i x off = refl
set_else (y ∷ ys) zero zero x off = absurd (off refl)
set_else (y ∷ ys) zero (suc i) x off = refl
set_else (y ∷ ys) (suc k) zero x off = refl
set_else (y ∷ ys) (suc k) (suc i) x off = set_else ys k i x (λ e. off (ap suc e))

-- ---- pairs

-- a pair with another first disk
abbrev pub with_first : {D : Type 0} → Pair D → D → Pair D
with_first p d = record { first = d; second = p.second }

module _ {D : Type 0} (view : D → DiskView) where
  pub bench_set : (ps : List (Pair D)) (k : ℕ) (p : Pair D) → bench view (slice_set ps k p) ≡ slice_set (bench view ps) k (pair_view view p)
  bench_set [] k p = refl
  bench_set (r ∷ ps) zero p = refl
  bench_set (r ∷ ps) (suc k) p = ap (λ (qs : List PairView). pair_view view r ∷ qs) (bench_set ps k p)

  pub bench_here : (ps : List (Pair D)) (k : ℕ) (p : Pair D) → slice_get ps k ≡ Some p → slice_get (bench view ps) k ≡ Some (pair_view view p)
  bench_here [] k p e = absurd cc
  bench_here (r ∷ ps) zero p e = let same : r ≡ p = cc in ap (λ (z : Pair D). Some (pair_view view z)) same
  bench_here (r ∷ ps) (suc k) p e = bench_here ps k p e

  pub bench_length : (ps : List (Pair D)) → length (bench view ps) ≡ length ps
  bench_length [] = refl
  bench_length (r ∷ ps) = ap suc (bench_length ps)

  -- the first disk of one pair is written
  module _ (ps : List (Pair D)) (k : ℕ) (p q : Pair D) (there : slice_get ps k ≡ Some p) (below : k < length ps) (same : q.second ≡ p.second) where
    pub set_after : slice_get (bench view (slice_set ps k q)) k ≡ Some (pair_view view q)
    set_after = bench_here (slice_set ps k q) k q (set_here ps k q below)

    pub first_changes : ChangesFirst k (bench view ps) (bench view (slice_set ps k q))
    first_changes = record {
      as_many = bench_length (slice_set ps k q) ∙ set_length ps k q ∙ sym (bench_length ps);
      others = λ i off. ap (λ (qs : List PairView). slice_get qs i) (bench_set ps k q) ∙ set_else (bench view ps) k i (pair_view view q) off;
      second = λ a b at after.
          let one : Some a ≡ Some (pair_view view p) = sym at ∙ bench_here ps k p there in
          let two : Some b ≡ Some (pair_view view q) = sym after ∙ set_after in
          let a_is : a ≡ pair_view view p = cc in
          let b_is : b ≡ pair_view view q = cc in
          ap (λ (z : PairView). z.second) b_is ∙ ap view same ∙ sym (ap (λ (z : PairView). z.second) a_is);
    }

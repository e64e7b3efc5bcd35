-- The pairs of a bench, of which one is asked.
use Rattle.std.proofs.Common.{◌≡◌, ◌⊎◌, inl, inr, ℕ, zero, suc, ◌<◌, ◌≤◌, List, [], ◌∷◌, ◌++◌, length, slice_get, slice_set, Some, refl, ap, sym, subst, ◌∙◌}
use Rattle.std.proofs.{Common.arith, lemmas.Option.slice_get_within}
use Rattle.spl_edge.specs.{Devices.{DiskView, PairView, bench, image_now, pair_view}, declared.bench.Pair.Pair}
use Rattle.spl_node.proofs.Disks.{onward_join, onward_same, stays_join, stays_same}
use Rattle.spl_registry.specs.Nodes.{Entry}
use Rattle.spl_snapshot.specs.Counting.{HasRisen, IfBoth, PairOnward, PairStays}
use Rattle.spl_audit.specs.Runs.{AllStay, HoldAt, RoseHere}

-- ---- lists

pub there_is : {X : Type 0} (xs : List X) (i : ℕ) → i < length xs → (x : X) × (slice_get xs i ≡ Some x)
there_is [] i below = absurd (omega (arith, below))
there_is (x ∷ xs) zero below = (x, refl)
there_is (x ∷ xs) (suc i) below = let rest : i < length xs = omega (arith, below) in there_is xs i rest

same_there : {X : Type 0} (xs : List X) (i : ℕ) (x y : X) → slice_get xs i ≡ Some x → slice_get xs i ≡ Some y → x ≡ y
same_there xs i x y a b = let both : Some x ≡ Some y = sym a ∙ b in cc

-- an element of a list that one joined
pub last_or : {X : Type 0} (xs : List X) (x : X) (i : ℕ) (y : X) → slice_get (xs ++ x ∷ []) i ≡ Some y → (slice_get xs i ≡ Some y) ⊎ ((i ≡ length xs) × (x ≡ y))
last_or [] x zero y at = let same : x ≡ y = cc in inr (refl, same)
last_or [] x (suc i) y at = absurd cc
last_or (z ∷ xs) x zero y at = inl at
last_or (z ∷ xs) x (suc i) y at = by (last_or xs x i y at)
  where
    by : (slice_get xs i ≡ Some y) ⊎ ((i ≡ length xs) × (x ≡ y)) → (slice_get (z ∷ xs) (suc i) ≡ Some y) ⊎ ((suc i ≡ length (z ∷ xs)) × (x ≡ y))
    by (inl h) = inl h
    by (inr h) = inr (ap suc h.0, h.1)

set_length : {X : Type 0} (xs : List X) (i : ℕ) (y : X) → length (slice_set xs i y) ≡ length xs
set_length [] i y = refl
set_length (x ∷ xs) zero y = refl
set_length (x ∷ xs) (suc i) y = ap suc (set_length xs i y)

set_else : {X : Type 0} (xs : List X) (i j : ℕ) (y : X) → (j ≡ i → ⊥) → slice_get (slice_set xs i y) j ≡ slice_get xs j
set_else [] i j y off = refl
set_else (x ∷ xs) zero zero y off = absurd (off refl)
set_else (x ∷ xs) zero (suc j) y off = refl
set_else (x ∷ xs) (suc i) zero y off = refl
set_else (x ∷ xs) (suc i) (suc j) y off = set_else xs i j y (λ same. off (ap suc same))

set_cases : {X : Type 0} (xs : List X) (i j : ℕ) (y z : X) → slice_get (slice_set xs i y) j ≡ Some z → ((j ≡ i) × (y ≡ z)) ⊎ (slice_get xs j ≡ Some z)
set_cases [] i j y z h = absurd cc
set_cases (x ∷ xs) zero zero y z h = let same : y ≡ z = cc in inl (refl, same)
set_cases (x ∷ xs) zero (suc j) y z h = inr h
set_cases (x ∷ xs) (suc i) zero y z h = inr h
set_cases (x ∷ xs) (suc i) (suc j) y z h = go (set_cases xs i j y z h)
  where
    go : ((j ≡ i) × (y ≡ z)) ⊎ (slice_get xs j ≡ Some z) → ((suc j ≡ suc i) × (y ≡ z)) ⊎ (slice_get (x ∷ xs) (suc j) ≡ Some z)
    go (inl p) = inl (ap suc p.0, p.1)
    go (inr p) = inr p

set_here : {X : Type 0} (xs : List X) (i : ℕ) (x y z : X) → slice_get xs i ≡ Some x → slice_get (slice_set xs i y) i ≡ Some z → y ≡ z
set_here [] i x y z there at = absurd cc
set_here (w ∷ xs) zero x y z there at = cc
set_here (w ∷ xs) (suc i) x y z there at = set_here xs i x y z there at

-- ---- pairs that stay

stays_itself : (p : PairView) → PairStays p p
stays_itself p = record { first = stays_same p.first; second = stays_same p.second }

onward_itself : (p : PairView) → PairOnward p p
onward_itself p = record { first = onward_same p.first; second = onward_same p.second }

stays_then : (p q r : PairView) → PairStays p q → PairStays q r → PairStays p r
stays_then p q r a b = record { first = stays_join p.first q.first r.first a.first b.first; second = stays_join p.second q.second r.second a.second b.second }

onward_then : (p q r : PairView) → PairOnward p q → PairOnward q r → PairOnward p r
onward_then p q r a b =
    record { first = onward_join p.first q.first r.first a.first b.first; second = onward_join p.second q.second r.second a.second b.second }

pub all_itself : (ps : List PairView) → AllStay ps ps
all_itself ps = record {
  as_many = refl;
  stays = λ k p q at there. subst (PairStays p) (same_there ps k p q at there) (stays_itself p);
  onward = λ k p q at there. subst (PairOnward p) (same_there ps k p q at there) (onward_itself p);
}

-- the pair between
between : (ps qs : List PairView) (k : ℕ) (p : PairView) → AllStay ps qs → slice_get ps k ≡ Some p → (m : PairView) × (slice_get qs k ≡ Some m)
between ps qs k p a at = there_is qs k (subst (λ (n : ℕ). k < n) (sym a.as_many) (slice_get_within ps k p at))

pub all_then : (ps qs rs : List PairView) → AllStay ps qs → AllStay qs rs → AllStay ps rs
all_then ps qs rs a b = record {
  as_many = b.as_many ∙ a.as_many;
  stays = λ k p r at there. (let m = between ps qs k p a at in stays_then p m.0 r (a.stays k p m.0 at m.1) (b.stays k m.0 r m.1 there));
  onward = λ k p r at there. (let m = between ps qs k p a at in onward_then p m.0 r (a.onward k p m.0 at m.1) (b.onward k m.0 r m.1 there));
}

-- one pair was asked
module _ (ps : List PairView) (k : ℕ) (x y : PairView) (at : slice_get ps k ≡ Some x) where
  stays_one : PairStays x y → (i : ℕ) (p q : PairView) → slice_get ps i ≡ Some p → ((i ≡ k) × (y ≡ q)) ⊎ (slice_get ps i ≡ Some q) → PairStays p q
  stays_one stays i p q there (inl h) =
      subst (λ (z : PairView). PairStays z q) (same_there ps i x p (ap (slice_get ps) h.0 ∙ at) there) (subst (PairStays x) h.1 stays)
  stays_one stays i p q there (inr h) = subst (PairStays p) (same_there ps i p q there h) (stays_itself p)

  onward_one : PairOnward x y → (i : ℕ) (p q : PairView) → slice_get ps i ≡ Some p → ((i ≡ k) × (y ≡ q)) ⊎ (slice_get ps i ≡ Some q) → PairOnward p q
  onward_one onward i p q there (inl h) =
      subst (λ (z : PairView). PairOnward z q) (same_there ps i x p (ap (slice_get ps) h.0 ∙ at) there) (subst (PairOnward x) h.1 onward)
  onward_one onward i p q there (inr h) = subst (PairOnward p) (same_there ps i p q there h) (onward_itself p)

  all_one : PairStays x y → PairOnward x y → AllStay ps (slice_set ps k y)
  all_one stays onward = record {
    as_many = set_length ps k y;
    stays = λ i p q there now. stays_one stays i p q there (set_cases ps k i y q now);
    onward = λ i p q there now. onward_one onward i p q there (set_cases ps k i y q now);
  }

  rose_one : HasRisen x y → (p q : PairView) → slice_get ps k ≡ Some p → slice_get (slice_set ps k y) k ≡ Some q → HasRisen p q
  rose_one rose p q there now = subst (λ (z : PairView). HasRisen z q) (same_there ps k x p at there) (subst (HasRisen x) (set_here ps k x y q at now) rose)

-- ---- the pair at a place of a bench

module _ {D : Type 0} (view : D → DiskView) where
  abbrev told : List (Pair D) → List PairView
  told ps = bench view ps

  abbrev one : Pair D → PairView
  one p = pair_view view p

  pub told_length : (ps : List (Pair D)) → length (told ps) ≡ length ps
  told_length [] = refl
  told_length (p ∷ ps) = ap suc (told_length ps)

  bench_set : (ps : List (Pair D)) (k : ℕ) (p : Pair D) → told (slice_set ps k p) ≡ slice_set (told ps) k (one p)
  bench_set [] k p = refl
  bench_set (r ∷ ps) zero p = refl
  bench_set (r ∷ ps) (suc k) p = ap (λ (xs : List PairView). one r ∷ xs) (bench_set ps k p)

  pub bench_here : (ps : List (Pair D)) (k : ℕ) (p : Pair D) → slice_get ps k ≡ Some p → slice_get (told ps) k ≡ Some (one p)
  bench_here [] k p e = absurd cc
  bench_here (r ∷ ps) zero p e = let same : r ≡ p = cc in ap (λ (z : Pair D). Some (one z)) same
  bench_here (r ∷ ps) (suc k) p e = bench_here ps k p e

  module _ (ps : List (Pair D)) (k slot : ℕ) (p : Pair D) (place : k ≡ slot) (at : slice_get ps k ≡ Some p) where
    pub own : slice_get (told ps) slot ≡ Some (one p)
    own = subst (λ (n : ℕ). slice_get (told ps) n ≡ Some (one p)) place (bench_here ps k p at)

    -- what it holds
    pub hold_own : (P : List ℕ → List ℕ → Type 0) → IfBoth (image_now (view p.first)) (image_now (view p.second)) (λ i j. P i.bytes j.bytes)
        → HoldAt (told ps) slot P
    hold_own P h =
        λ q there. subst (λ (z : PairView). IfBoth (image_now z.first) (image_now z.second) (λ i j. P i.bytes j.bytes))
        (same_there (told ps) slot (one p) q own there) h

    -- another is written there
    module _ (r : Pair D) where
      after : told (slice_set ps k r) ≡ slice_set (told ps) slot (one r)
      after = bench_set ps k r ∙ ap (λ (n : ℕ). slice_set (told ps) n (one r)) place

      pub all_stay : PairStays (one p) (one r) → PairOnward (one p) (one r) → AllStay (told ps) (told (slice_set ps k r))
      all_stay stays onward = subst (AllStay (told ps)) (sym after) (all_one (told ps) slot (one p) (one r) own stays onward)

      pub rose_own : (es : List Entry) → slot < length es → HasRisen (one p) (one r) → RoseHere es slot (told ps) (told (slice_set ps k r))
      rose_own es known rose =
          subst (RoseHere es slot (told ps)) (sym after) (record { known = known; rose = rose_one (told ps) slot (one p) (one r) own rose })

      pub others_stay : (i : ℕ) → (i ≡ slot → ⊥) → slice_get (told (slice_set ps k r)) i ≡ slice_get (told ps) i
      others_stay i off = ap (λ (xs : List PairView). slice_get xs i) after ∙ set_else (told ps) slot i (one r) off

-- ---- pairs from a place on

-- a call at one place leaves those after it, where the calls before left those from it on
pub spared_then : (start mid now : List PairView) (slot count : ℕ) → slot < count → ((k : ℕ) → (k ≡ slot → ⊥) → slice_get now k ≡ slice_get mid k)
    → ((k : ℕ) → slot ≤ k → slice_get mid k ≡ slice_get start k) → (k : ℕ) → count ≤ k → slice_get now k ≡ slice_get start k
spared_then start mid now slot count below others rest k past = others k (λ here. omega (arith, here, past, below)) ∙ rest k (omega (arith, past, below))

-- Lists, by the positions of what stands in them.
use Rattle.std.proofs.Common.{List, Some, [], ap, arith, inl, inr, length, map, option_map, refl, slice_get, slice_set, subst, suc, sym, zero, ℕ, ◌-◌, ◌<◌}
use Rattle.std.proofs.{Common.{◌∙◌, ◌∷◌, ◌≡◌, ◌⊎◌}, lemmas.{List.{get_or-set_same, length-set, set-get_or}, Option.{get_or_from_slice_get, slice_get-get_or}}}
use Rattle.std.proofs.lemmas.Option.{slice_get-map}

pub some_at : {X : Type 0} (xs : List X) (i : ℕ) → i < length xs → (x : X) × (slice_get xs i ≡ Some x)
some_at [] i h = absurd (omega (arith, h))
some_at (x ∷ xs) zero h = (x, refl)
some_at (x ∷ xs) (suc i) h = let r : i < length xs = omega (arith, h) in some_at xs i r

pub same_there : {X : Type 0} (xs : List X) (i : ℕ) (x y : X) → slice_get xs i ≡ Some x → slice_get xs i ≡ Some y → x ≡ y
same_there xs i x y e f = let q : Some x ≡ Some y = sym e ∙ f in cc

-- what is said of each item, at the index of one
pub mapped_at : {X Y : Type 0} (f : X → Y) (xs : List X) (i : ℕ) (x : X) → slice_get xs i ≡ Some x → slice_get (map f xs) i ≡ Some (f x)
mapped_at f xs i x h = slice_get-map f xs i ∙ ap (option_map f) h

-- and the item of which it is said
pub mapped_there : {X Y : Type 0} (f : X → Y) (xs : List X) (i : ℕ) (y : Y) → slice_get (map f xs) i ≡ Some y → (x : X) × (slice_get xs i ≡ Some x) × (f x ≡ y)
mapped_there f [] i y h = absurd cc
mapped_there f (x ∷ xs) zero y h = let same : f x ≡ y = cc in (x, refl, same)
mapped_there f (x ∷ xs) (suc i) y h = mapped_there f xs i y h

-- what stands at an index after a write: what was written, or what stood there
pub set_cases : {X : Type 0} (xs : List X) (i j : ℕ) (y z : X) → slice_get (slice_set xs i y) j ≡ Some z
    → ((j ≡ i) × (y ≡ z)) ⊎ ((j ≡ i → ⊥) × (slice_get xs j ≡ Some z))
set_cases [] i j y z h = absurd cc
set_cases (x ∷ xs) zero zero y z h = let same : y ≡ z = cc in inl (refl, same)
set_cases (x ∷ xs) zero (suc j) y z h = inr (λ e. omega (arith, e), h)
set_cases (x ∷ xs) (suc i) zero y z h = inr (λ e. omega (arith, e), h)
set_cases (x ∷ xs) (suc i) (suc j) y z h = elim (set_cases xs i j y z h) [
  | inl p ↦ inl (ap suc p.0, p.1)
  | inr p ↦ inr (λ e. let f : j ≡ i = omega (arith, e) in p.0 f, p.1)
]

-- what holds of what was written, and of each other
pub each_set : {X : Type 0} (P : ℕ → X → Type 0) (xs : List X) (i : ℕ) (y : X) → P i y → ((j : ℕ) (x : X) → (j ≡ i → ⊥) → slice_get xs j ≡ Some x → P j x)
    → (j : ℕ) (z : X) → slice_get (slice_set xs i y) j ≡ Some z → P j z
each_set P xs i y here others j z e = elim (set_cases xs i j y z e) [
  | inl p ↦ subst (P j) p.1 (subst (λ (k : ℕ). P k y) (sym p.0) here)
  | inr p ↦ others j z p.0 p.1
]

pub set_here : {X : Type 0} (xs : List X) (i : ℕ) (y : X) → i < length xs → slice_get (slice_set xs i y) i ≡ Some y
set_here xs i y h = slice_get-get_or (slice_set xs i y) i y (subst (λ (n : ℕ). i < n) (sym (length-set xs i y)) h) ∙ ap Some (get_or-set_same xs i y y h)

pub set_else : {X : Type 0} (xs : List X) (i j : ℕ) (y : X) → (i ≡ j → ⊥) → slice_get (slice_set xs i y) j ≡ slice_get xs j
set_else [] i j y ne = refl
set_else (x ∷ xs) zero zero y ne = absurd (ne refl)
set_else (x ∷ xs) zero (suc j) y ne = refl
set_else (x ∷ xs) (suc i) zero y ne = refl
set_else (x ∷ xs) (suc i) (suc j) y ne = set_else xs i j y (λ e. ne (ap suc e))

pub set_same : {X : Type 0} (xs : List X) (i : ℕ) (x : X) → slice_get xs i ≡ Some x → slice_set xs i x ≡ xs
set_same xs i x e = ap (slice_set xs i) (sym (get_or_from_slice_get xs i x x e)) ∙ set-get_or xs i x

-- where one is written, and where that says the same
pub mapped_set : {X Y : Type 0} (f : X → Y) (xs : List X) (i : ℕ) (x : X) → map f (slice_set xs i x) ≡ slice_set (map f xs) i (f x)
mapped_set f [] i x = refl
mapped_set f (y ∷ ys) zero x = refl
mapped_set f (y ∷ ys) (suc i) x = ap (λ zs. f y ∷ zs) (mapped_set f ys i x)

pub mapped_same : {X Y : Type 0} (f : X → Y) (xs : List X) (i : ℕ) (x y : X) → slice_get xs i ≡ Some x → f y ≡ f x → map f (slice_set xs i y) ≡ map f xs
mapped_same f xs i x y there same = mapped_set f xs i y ∙ ap (slice_set (map f xs) i) same ∙ set_same (map f xs) i (f x) (mapped_at f xs i x there)

-- Rounds of a history and positions.
use Rattle.std.{specs.Prelude.{◌==◌, if◌then◌else◌}, proofs.Common.{◌≡◌, ◌≢◌, ℕ, zero, suc, ◌<◌, ◌⊎◌, Bool, true, false, ◌||◌, eqb, List, [], ◌∷◌, ◌++◌}}
use Rattle.std.proofs.Common.{length, refl, ap, sym, subst, inl, inr, arith, eq-eqb}
pub use Rattle.spl_agree.proofs.Booleans.{if_holds, if_true, if_false, eqb_same, or_true, and_left, and_right, or_left, or_right, bool_cases, or_cases}
pub use Rattle.spl_agree.proofs.Booleans.{not_true, eqb_is, eqb_not, eqb_other, ltb_is, ltb_not, lt_is}
use Rattle.spl_agree.specs.{Member.{values, has_round, has, below_but, but, none_left}, World.put}

pub length-values : {V : Type 0} (h : List (ℕ × V)) → length (values h) ≡ length h
length-values [] = refl
length-values (e ∷ es) = ap suc (length-values es)

pub values-more : {V : Type 0} (h : List (ℕ × V)) (e : ℕ × V) → values (h ++ e ∷ []) ≡ values h ++ e.1 ∷ []
values-more [] e = refl
values-more (d ∷ ds) e = ap (λ vs. d.1 ∷ vs) (values-more ds e)

-- the round of the last entry is there
pub has_round-last : {V : Type 0} (h : List (ℕ × V)) (e : ℕ × V) → has_round e.0 (h ++ e ∷ []) ≡ true
has_round-last [] e = rw (eqb_same e.0)
has_round-last (x ∷ xs) e = rw (has_round-last xs e) (or_true _)

-- what is there with one more
pub has_round-more : {V : Type 0} (r : ℕ) (h : List (ℕ × V)) (e : ℕ × V) → has_round r h ≡ true → has_round r (h ++ e ∷ []) ≡ true
has_round-more r [] e p = cc
has_round-more r (x ∷ xs) e p =
    go (or_cases (eqb x.0 r) (has_round r xs) p) (λ q. has_round-more r xs e q)
  where
    go : (eqb x.0 r ≡ true) ⊎ (has_round r xs ≡ true) → (has_round r xs ≡ true → has_round r (xs ++ e ∷ []) ≡ true)
        → (eqb x.0 r || has_round r (xs ++ e ∷ [])) ≡ true
    go (inl q) ih = rw q
    go (inr q) ih = rw (ih q) (or_true _)

pub has_round-cases : {V : Type 0} (r : ℕ) (h : List (ℕ × V)) (e : ℕ × V) → has_round r (h ++ e ∷ []) ≡ true → (has_round r h ≡ true) ⊎ (e.0 ≡ r)
has_round-cases r [] e p = ⊎_case (or_cases (eqb e.0 r) false p)
  where
    ⊎_case : (eqb e.0 r ≡ true) ⊎ (false ≡ true) → (false ≡ true) ⊎ (e.0 ≡ r)
    ⊎_case (inl q) = inr (eqb_is e.0 r q)
    ⊎_case (inr q) = inl q
has_round-cases r (x ∷ xs) e p = ⊎_case (or_cases (eqb x.0 r) (has_round r (xs ++ e ∷ [])) p) (λ q. has_round-cases r xs e q)
  where
    rest : (has_round r xs ≡ true) ⊎ (e.0 ≡ r) → ((eqb x.0 r || has_round r xs) ≡ true) ⊎ (e.0 ≡ r)
    rest (inl q) = inl (rw q (or_true _))
    rest (inr q) = inr q

    ⊎_case : (eqb x.0 r ≡ true) ⊎ (has_round r (xs ++ e ∷ []) ≡ true) → (has_round r (xs ++ e ∷ []) ≡ true → (has_round r xs ≡ true) ⊎ (e.0 ≡ r))
        → ((eqb x.0 r || has_round r xs) ≡ true) ⊎ (e.0 ≡ r)
    ⊎_case (inl q) ih = inl (rw q)
    ⊎_case (inr q) ih = rest (ih q)

-- no round comes in where it was not and is not the last
pub has_round-none : {V : Type 0} (r : ℕ) (h : List (ℕ × V)) (e : ℕ × V) → has_round r h ≡ false → e.0 ≢ r → has_round r (h ++ e ∷ []) ≡ false
has_round-none r h e p n = go (bool_cases (has_round r (h ++ e ∷ [])))
  where
    sub : (has_round r h ≡ true) ⊎ (e.0 ≡ r) → has_round r (h ++ e ∷ []) ≡ false
    sub (inl q) = cc
    sub (inr q) = absurd (n q)

    go : (has_round r (h ++ e ∷ []) ≡ true) ⊎ (has_round r (h ++ e ∷ []) ≡ false) → has_round r (h ++ e ∷ []) ≡ false
    go (inl q) = sub (has_round-cases r h e q)
    go (inr q) = q

-- positions
pub has-append : (i : ℕ) (xs ys : List ℕ) → has i (xs ++ ys) ≡ (has i xs || has i ys)
has-append i [] ys = refl
has-append i (x ∷ xs) ys = go (eqb x i) (has-append i xs ys)
  where
    go : (b : Bool) → has i (xs ++ ys) ≡ (has i xs || has i ys) → (b || has i (xs ++ ys)) ≡ ((b || has i xs) || has i ys)
    go true ih = refl
    go false ih = ih

-- a member that is not this one is among the others
pub has-below_but : (n here i : ℕ) → i < n → i ≢ here → has i (below_but n here) ≡ true
has-below_but zero here i l d = absurd (omega arith)
has-below_but (suc n) here i l d =
    rw (has-append i (below_but n here) (if n == here then [] else n ∷ [])) (go (bool_cases (eqb n i)) (λ lt. has-below_but n here i lt d))
  where
    last : n ≡ i → has i (if n == here then [] else n ∷ []) ≡ true
    last e = if_false (λ xs. has i xs ≡ true) (n == here) [] (n ∷ []) (eqb_other n here (subst (λ k. k ≢ here) (sym e) d)) (rw (eq-eqb n i e))

    go : (eqb n i ≡ true) ⊎ (eqb n i ≡ false) → (i < n → has i (below_but n here) ≡ true)
        → (has i (below_but n here) || has i (if n == here then [] else n ∷ [])) ≡ true
    go (inl q) ih = rw (last (eqb_is n i q)) (or_true _)
    go (inr q) ih = let ne : n ≢ i = eqb_not n i q in let lt : i < n = omega arith in rw (ih lt)

-- who is not this one stays
pub has-but : (k : ℕ) (xs : List ℕ) (i : ℕ) → k ≢ i → has i (but k xs) ≡ has i xs
has-but k [] i d = refl
has-but k (j ∷ js) i d = go (bool_cases (eqb j k)) (has-but k js i d)
  where
    go : (eqb j k ≡ true) ⊎ (eqb j k ≡ false) → has i (but k js) ≡ has i js → has i (if j == k then but k js else j ∷ but k js) ≡ (eqb j i || has i js)
    go (inl q) ih = let e : j ≡ k = eqb_is j k q in let n : eqb j i ≡ false = eqb_other j i (subst (λ x. x ≢ i) (sym e) d) in rw (q, n) ih
    go (inr q) ih = rw (q, ih)

-- where nobody is left, nobody is there
pub has-none_left : (xs : List ℕ) (i : ℕ) → none_left xs ≡ true → has i xs ≡ false
has-none_left [] i h = refl
has-none_left (x ∷ xs) i h = cc

pub has-below_but-other : (n here i : ℕ) → has i (below_but n here) ≡ true → (i < n) × (i ≢ here)
has-below_but-other zero here i h = cc
has-below_but-other (suc n) here i h =
    go (or_cases (has i (below_but n here)) (has i (if n == here then [] else n ∷ []))
    (rw (has-append i (below_but n here) (if n == here then [] else n ∷ [])) at h)) (λ q. has-below_but-other n here i q)
  where
    sub : (eqb n i ≡ true) ⊎ (false ≡ true) → (n == here) ≡ false → (i < suc n) × (i ≢ here)
    sub (inl t) e = let same : n ≡ i = eqb_is n i t in let ne : n ≢ here = eqb_not n here e in (omega arith, subst (λ k. k ≢ here) same ne)
    sub (inr t) e = cc

    one : (b : Bool) → (n == here) ≡ b → has i (if b then [] else n ∷ []) ≡ true → (i < suc n) × (i ≢ here)
    one true e q = cc
    one false e q = sub (or_cases (eqb n i) false q) e

    go : (has i (below_but n here) ≡ true) ⊎ (has i (if n == here then [] else n ∷ []) ≡ true) → (has i (below_but n here) ≡ true → (i < n) × (i ≢ here))
        → (i < suc n) × (i ≢ here)
    go (inl q) ih = let r : (i < n) × (i ≢ here) = ih q in (omega arith, r.1)
    go (inr q) ih = one (n == here) refl q

pub put-same : {A : Type 0} (f : ℕ → A) (h : ℕ) (m : A) → put f h m h ≡ m
unfolding put
put-same f h m = rw (eqb_same h)

pub put-other : {A : Type 0} (f : ℕ → A) (h : ℕ) (m : A) (i : ℕ) → i ≢ h → put f h m i ≡ f i
unfolding put
put-other f h m i n = rw (eqb_other i h n)

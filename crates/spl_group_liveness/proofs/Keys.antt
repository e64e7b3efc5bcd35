-- Keys among pending values.
use Rattle.std.{specs.Prelude.{Some, None, if◌then◌else◌}, proofs.Common.{◌≡◌, ◌⊎◌, true, false, List, [], ◌∷◌, ◌++◌, refl, sym, subst, ◌∙◌, inl, inr}}
use Rattle.spl_agree.{specs.{Member.{Rules, without, found, found_refused}, declared.reason.Reason.Reason}, proofs.Tests.bool_cases}
use Rattle.spl_group_liveness.specs.Bound.{AnyOf, IsKeyed, Once}

pub no_key : {V : Type 0} (rules : Rules V) → IsKeyed rules → (v : V) (us : List V) → found (rules.same_key v) us ≡ None → AnyOf (λ u. u ≡ v) us → ⊥
no_key rules keyed v [] f h = h
no_key {V} rules keyed v (x ∷ xs) f h = go (bool_cases (rules.same_key v x)) f h (λ q p. no_key rules keyed v xs q p)
  where
    go : (rules.same_key v x ≡ true) ⊎ (rules.same_key v x ≡ false) → (if rules.same_key v x then Some x else found (rules.same_key v) xs) ≡ None
        → (x ≡ v) ⊎ AnyOf (λ u. u ≡ v) xs → (found (rules.same_key v) xs ≡ None → AnyOf (λ u. u ≡ v) xs → ⊥) → ⊥
    go (inl q) e p ih = let k : Some x ≡ None = rw q at e in cc
    go (inr q) e (inl p) ih =
        let k : rules.same_key v v ≡ false = subst (λ (y : V). rules.same_key v y ≡ false) p q in let l : rules.same_key v v ≡ true = keyed.self v in cc
    go (inr q) e (inr p) ih = ih (rw q at e) p

pub without-any : {V : Type 0} (rules : Rules V) (P : V → Type 0) (u : V) (us : List V) → AnyOf P (without (rules.same_key u) us) → AnyOf P us
without-any rules P u [] h = h
without-any {V} rules P u (x ∷ xs) h = go (bool_cases (rules.same_key u x)) h (λ p. without-any rules P u xs p)
  where
    sub : P x ⊎ AnyOf P (without (rules.same_key u) xs) → (AnyOf P (without (rules.same_key u) xs) → AnyOf P xs) → P x ⊎ AnyOf P xs
    sub (inl p) ih = inl p
    sub (inr p) ih = inr (ih p)

    go : (rules.same_key u x ≡ true) ⊎ (rules.same_key u x ≡ false) → AnyOf P (if rules.same_key u x then xs else x ∷ without (rules.same_key u) xs)
        → (AnyOf P (without (rules.same_key u) xs) → AnyOf P xs) → P x ⊎ AnyOf P xs
    go (inl q) p ih = inr (rw q at p)
    go (inr q) p ih = sub (rw q at p) ih

pub without-none : {V : Type 0} (rules : Rules V) (v u : V) (us : List V) → found (rules.same_key v) us ≡ None
    → found (rules.same_key v) (without (rules.same_key u) us) ≡ None
without-none rules v u [] f = refl
without-none {V} rules v u (x ∷ xs) f = go (bool_cases (rules.same_key u x)) (bool_cases (rules.same_key v x)) f (λ p. without-none rules v u xs p)
  where
    go : (rules.same_key u x ≡ true) ⊎ (rules.same_key u x ≡ false) → (rules.same_key v x ≡ true) ⊎ (rules.same_key v x ≡ false)
        → (if rules.same_key v x then Some x else found (rules.same_key v) xs) ≡ None
        → (found (rules.same_key v) xs ≡ None → found (rules.same_key v) (without (rules.same_key u) xs) ≡ None)
        → found (rules.same_key v) (if rules.same_key u x then xs else x ∷ without (rules.same_key u) xs) ≡ None
    go q (inl t) e ih = let k : Some x ≡ None = rw t at e in cc
    go (inl q) (inr t) e ih = rw q (rw t at e)
    go (inr q) (inr t) e ih = rw (q, t) (ih (rw t at e))

pub once-without : {V : Type 0} (rules : Rules V) (v u : V) (us : List V) → Once rules v us → Once rules v (without (rules.same_key u) us)
once-without rules v u [] h = tt
once-without {V} rules v u (x ∷ xs) h = go (bool_cases (rules.same_key u x)) (once-without rules v u xs h.1)
  where
    go : (rules.same_key u x ≡ true) ⊎ (rules.same_key u x ≡ false) → Once rules v (without (rules.same_key u) xs)
        → Once rules v (if rules.same_key u x then xs else x ∷ without (rules.same_key u) xs)
    go (inl q) ih = rw q h.1
    go (inr q) ih = rw q ((λ t. without-none rules v u xs (h.0 t)), ih)

-- once it is taken out it is not there
pub once-gone : {V : Type 0} (rules : Rules V) → IsKeyed rules → (v : V) (us : List V) → Once rules v us
    → AnyOf (λ u. u ≡ v) (without (rules.same_key v) us) → ⊥
once-gone rules keyed v [] h p = p
once-gone {V} rules keyed v (x ∷ xs) h p = go (bool_cases (rules.same_key v x)) p (λ q. once-gone rules keyed v xs h.1 q)
  where
    sub : rules.same_key v x ≡ false → (x ≡ v) ⊎ AnyOf (λ u. u ≡ v) (without (rules.same_key v) xs)
        → (AnyOf (λ u. u ≡ v) (without (rules.same_key v) xs) → ⊥) → ⊥
    sub q (inl e) ih =
        let k : rules.same_key v v ≡ false = subst (λ (y : V). rules.same_key v y ≡ false) e q in let l : rules.same_key v v ≡ true = keyed.self v in cc
    sub q (inr e) ih = ih e

    go : (rules.same_key v x ≡ true) ⊎ (rules.same_key v x ≡ false)
        → AnyOf (λ u. u ≡ v) (if rules.same_key v x then xs else x ∷ without (rules.same_key v) xs)
        → (AnyOf (λ u. u ≡ v) (without (rules.same_key v) xs) → ⊥) → ⊥
    go (inl q) e ih = no_key rules keyed v xs (h.0 q) (rw q at e)
    go (inr q) e ih = sub q (rw q at e) ih

-- where another value has its key, it is not there
pub once-other : {V : Type 0} (rules : Rules V) → IsKeyed rules → (v u : V) (us : List V) → Once rules v us → found (rules.same_key v) us ≡ Some u
    → rules.same u v ≡ false → AnyOf (λ x. x ≡ v) us → ⊥
once-other rules keyed v u [] h f d p = p
once-other {V} rules keyed v u (x ∷ xs) h f d p = go (bool_cases (rules.same_key v x)) f p (λ q t. once-other rules keyed v u xs h.1 q d t)
  where
    first : rules.same_key v x ≡ true → x ≡ u → (x ≡ v) ⊎ AnyOf (λ y. y ≡ v) xs → ⊥
    first q e (inl t) =
        let k : rules.same v v ≡ false = subst (λ (y : V). rules.same y v ≡ false) (sym e ∙ t) d in let l : rules.same v v ≡ true = keyed.same v in cc
    first q e (inr t) = no_key rules keyed v xs (h.0 q) t

    go : (rules.same_key v x ≡ true) ⊎ (rules.same_key v x ≡ false) → (if rules.same_key v x then Some x else found (rules.same_key v) xs) ≡ Some u
        → (x ≡ v) ⊎ AnyOf (λ y. y ≡ v) xs → (found (rules.same_key v) xs ≡ Some u → AnyOf (λ y. y ≡ v) xs → ⊥) → ⊥
    go (inl q) e t ih = first q (let k : Some x ≡ Some u = rw q at e in cc) t
    go (inr q) e (inl t) ih =
        let k : rules.same_key v v ≡ false = subst (λ (y : V). rules.same_key v y ≡ false) t q in let l : rules.same_key v v ≡ true = keyed.self v in cc
    go (inr q) e (inr t) ih = ih (rw q at e) t

-- what is refused is found
pub refused-found : {V : Type 0} (rules : Rules V) → IsKeyed rules → (v : V) (us : List (V × Reason)) → AnyOf (λ u. u.0 ≡ v) us
    → found_refused (rules.same_key v) us ≡ None → ⊥
refused-found rules keyed v [] h f = h
refused-found {V} rules keyed v (x ∷ xs) h f = go (bool_cases (rules.same_key v x.0)) f h (λ p q. refused-found rules keyed v xs p q)
  where
    go : (rules.same_key v x.0 ≡ true) ⊎ (rules.same_key v x.0 ≡ false)
        → (if rules.same_key v x.0 then Some x else found_refused (rules.same_key v) xs) ≡ None → (x.0 ≡ v) ⊎ AnyOf (λ u. u.0 ≡ v) xs
        → (AnyOf (λ u. u.0 ≡ v) xs → found_refused (rules.same_key v) xs ≡ None → ⊥) → ⊥
    go (inl q) e p ih = let k : Some x ≡ None = rw q at e in cc
    go (inr q) e (inl p) ih =
        let k : rules.same_key v v ≡ false = subst (λ (y : V). rules.same_key v y ≡ false) p q in let l : rules.same_key v v ≡ true = keyed.self v in cc
    go (inr q) e (inr p) ih = ih p (rw q at e)

-- a value of another key goes last
pub found-more : {V : Type 0} (rules : Rules V) (v u : V) (us : List V) → found (rules.same_key v) us ≡ None → rules.same_key v u ≡ false
    → found (rules.same_key v) (us ++ u ∷ []) ≡ None
found-more rules v u [] f d = rw d
found-more {V} rules v u (x ∷ xs) f d = go (bool_cases (rules.same_key v x)) f (λ p. found-more rules v u xs p d)
  where
    go : (rules.same_key v x ≡ true) ⊎ (rules.same_key v x ≡ false) → (if rules.same_key v x then Some x else found (rules.same_key v) xs) ≡ None
        → (found (rules.same_key v) xs ≡ None → found (rules.same_key v) (xs ++ u ∷ []) ≡ None)
        → (if rules.same_key v x then Some x else found (rules.same_key v) (xs ++ u ∷ [])) ≡ None
    go (inl q) e ih = let k : Some x ≡ None = rw q at e in cc
    go (inr q) e ih = rw q (ih (rw q at e))

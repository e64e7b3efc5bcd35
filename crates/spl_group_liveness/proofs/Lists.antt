-- Lists of positions, of values and of sends.
use Rattle.std.{specs.Prelude.{◌==◌, if◌then◌else◌}, proofs.Common.{◌≡◌, ℕ, ◌⊎◌, true, false, ◌||◌, eqb, List, [], ◌∷◌, ◌++◌, refl, sym, ap, ◌∙◌, inl, inr}}
use Rattle.spl_agree.specs.{Member.{has, but}, Rows.{to_each, abort_each}, declared.{message.CommitMsg.CommitMsg, reason.Reason.Reason}}
use Rattle.spl_agree.proofs.Tests.{if_holds, if_true, if_false, bool_cases}
use Rattle.spl_agree.specs.declared.message.CommitMsg.TheVariants as msg
use Rattle.spl_group_liveness.specs.{Bound.AnyOf, Calm.mail}

-- positions that have not voted
pub has-but-less : (a j : ℕ) (xs : List ℕ) → has j (but a xs) ≡ true → has j xs ≡ true
has-but-less a j [] h = h
has-but-less a j (x ∷ xs) h = go (bool_cases (eqb x a)) (bool_cases (eqb x j)) h (λ p. has-but-less a j xs p)
  where
    go : (eqb x a ≡ true) ⊎ (eqb x a ≡ false) → (eqb x j ≡ true) ⊎ (eqb x j ≡ false) → has j (if x == a then but a xs else x ∷ but a xs) ≡ true
        → (has j (but a xs) ≡ true → has j xs ≡ true) → (eqb x j || has j xs) ≡ true
    go q (inl t) p ih = rw t
    go (inl q) (inr t) p ih = rw t (ih (rw q at p))
    go (inr q) (inr t) p ih = rw t (ih (let z : (eqb x j || has j (but a xs)) ≡ true = rw q at p in rw t at z))

pub has-but-none : (a j : ℕ) (xs : List ℕ) → has j xs ≡ false → has j (but a xs) ≡ false
has-but-none a j xs h = go (bool_cases (has j (but a xs)))
  where
    go : (has j (but a xs) ≡ true) ⊎ (has j (but a xs) ≡ false) → has j (but a xs) ≡ false
    go (inl q) = let z : has j xs ≡ true = has-but-less a j xs q in cc
    go (inr q) = q

pub has-but-same : (a : ℕ) (xs : List ℕ) → has a (but a xs) ≡ false
has-but-same a [] = refl
has-but-same a (x ∷ xs) = go (bool_cases (eqb x a)) (has-but-same a xs)
  where
    go : (eqb x a ≡ true) ⊎ (eqb x a ≡ false) → has a (but a xs) ≡ false → has a (if x == a then but a xs else x ∷ but a xs) ≡ false
    go (inl q) ih = rw q ih
    go (inr q) ih = rw (q, q) ih

-- the last of a list
abbrev pub last_or : {A : Type 0} → A → List A → A
last_or d [] = d
last_or d (x ∷ xs) = last_or x xs

pub last-append : {A : Type 0} (d : A) (xs : List A) (x : A) → last_or d (xs ++ x ∷ []) ≡ x
last-append d [] x = refl
last-append d (y ∷ ys) x = last-append y ys x

pub same-last : {A : Type 0} (xs ys : List A) (x y : A) → xs ++ x ∷ [] ≡ ys ++ y ∷ [] → x ≡ y
same-last {A} xs ys x y e = sym (last-append x xs x) ∙ (ap (λ (l : List A). last_or x l) e ∙ last-append x ys y)

-- what is sent to each stands on each pair
pub mail-each : {V : Type 0} (P : CommitMsg V → Type 0) (m : CommitMsg V) (i : ℕ) (is : List ℕ) → P m → has i is ≡ true → AnyOf P (mail i (to_each m is))
mail-each P m i [] p h = cc
mail-each {V} P m i (j ∷ js) p h =
    if_holds (λ x. AnyOf P x) (j == i) _ _ (λ q. inl p)
    (λ q. mail-each P m i js p (let z : (eqb j i || has i js) ≡ true = h in let t : eqb j i ≡ false = q in rw t at z))

pub mail-abort : {V : Type 0} (P : CommitMsg V → Type 0) (gen r : ℕ) (v : V) (reason : Reason) (i : ℕ) (is : List ℕ) → P (msg.Refused gen v reason)
    → has i is ≡ true → AnyOf P (mail i (abort_each gen r v reason is))
mail-abort P gen r v reason i [] p h = cc
mail-abort {V} P gen r v reason i (j ∷ js) p h = if_holds (λ x. AnyOf P x) (j == i) _ _ (λ q. inr (if_true (λ x. AnyOf P x) (j == i) _ _ q (inl p)))
    (λ q. if_false (λ x. AnyOf P x) (j == i) _ _ q
    (mail-abort P gen r v reason i js p (let z : (eqb j i || has i js) ≡ true = h in let t : eqb j i ≡ false = q in rw t at z)))

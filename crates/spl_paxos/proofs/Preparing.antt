-- A ballot that F + 1 acceptors accepted for a member is one of that member's acceptances.
use Rattle.std.{specs.Prelude.{◌==◌, ◌&&◌, ◌||◌, if◌then◌else◌}, proofs.Common.{◌≡◌, ◌⊎◌, ℕ, zero, suc, ◌<◌, Bool, true, false, List, [], ◌∷◌, inl, inr}}
use Rattle.std.proofs.Common.{refl, sym, subst, arith}
use Rattle.spl_agree.proofs.Tests.{eqb_is, ltb_is, or_cases, and_left, and_right}
use Rattle.spl_acceptor.specs.{Quorums.{acceptors, count}, Rows.{any_of, has_accepted, is_chosen, is_acceptance_by, is_prepared, same_bool}}
use Rattle.spl_acceptor.specs.declared.{group.Group.Group, message.Acceptance.Acceptance}
use Rattle.spl_paxos.specs.Members.{has_ballot}

or_first : (p q : Bool) → p ≡ true → (p || q) ≡ true
or_first true q e = refl
or_first false q e = cc

or_second : (p q : Bool) → q ≡ true → (p || q) ≡ true
or_second true q e = refl
or_second false q e = e

-- one of a list passes a test, and makes each other test that it passes true of the list
record Found {A : Type 0} (test : A → Bool) (xs : List A) : Type 0 where
  it : A
  passes : test it ≡ true
  among : (other : A → Bool) → other it ≡ true → any_of other xs ≡ true

found : {A : Type 0} (test : A → Bool) (xs : List A) → any_of test xs ≡ true → Found test xs
found test [] e = cc
found {A} test (x ∷ xs) e = go (or_cases (test x) (any_of test xs) e) (found test xs)
  where
    go : (test x ≡ true) ⊎ (any_of test xs ≡ true) → (any_of test xs ≡ true → Found test xs) → Found test (x ∷ xs)
    go (inl q) later = record { it = x; passes = q; among = λ other p. or_first (other x) (any_of other xs) p }
    go (inr q) later = let rest = later q in
        record { it = rest.it; passes = rest.passes; among = λ other p. or_second (other x) (any_of other xs) (rest.among other p) }

-- where some numbers pass a test, one does
counted : (n m : ℕ) (test : ℕ → Bool) → m < count n test → (a : ℕ) × (test a ≡ true)
counted zero m test l = absurd (omega arith)
counted (suc n) m test l = go (test (suc n)) refl l (counted n m test)
  where
    go : (b : Bool) → test (suc n) ≡ b → m < (if b then suc (count n test) else count n test)
        → (m < count n test → (a : ℕ) × (test a ≡ true)) → (a : ℕ) × (test a ≡ true)
    go true q k fewer = (suc n, q)
    go false q k fewer = fewer k

same_true : (p : Bool) → same_bool p true ≡ true → p ≡ true
same_true true e = refl
same_true false e = cc

both : (p q : Bool) → p ≡ true → q ≡ true → (p && q) ≡ true
both p q e f = cc

-- what is accepted at a ballot for a member, with yes, has that ballot
own_ballot : (g : Group) (xs : List Acceptance) (i b a : ℕ) (y : Acceptance) → is_chosen g xs i b true ≡ true → is_acceptance_by a i b true y ≡ true
    → has_ballot g xs i y ≡ true
own_ballot g xs i b a y chosen e =
    let rest = and_right (y.acceptor == a) ((y.member == i) && ((y.ballot == b) && same_bool y.prepared true)) e in
    let member = and_left (y.member == i) ((y.ballot == b) && same_bool y.prepared true) rest in
    let more = and_right (y.member == i) ((y.ballot == b) && same_bool y.prepared true) rest in
    let ballot : y.ballot ≡ b = eqb_is y.ballot b (and_left (y.ballot == b) (same_bool y.prepared true) more) in
    let prepared = same_true y.prepared (and_right (y.ballot == b) (same_bool y.prepared true) more) in
    let here : is_chosen g xs i y.ballot true ≡ true = subst (λ (c : ℕ). is_chosen g xs i c true ≡ true) (sym ballot) chosen in
    both (y.member == i) (y.prepared && is_chosen g xs i y.ballot true) member (both y.prepared (is_chosen g xs i y.ballot true) prepared here)

own_is : (g : Group) (xs : List Acceptance) (i : ℕ) → is_prepared g xs i ≡ true → any_of (has_ballot g xs i) xs ≡ true
own_is g xs i e =
    let x = found (λ x. is_chosen g xs i x.ballot true) xs e in
    let test = has_accepted xs i x.it.ballot true in
    let a = counted (acceptors g.faults) g.faults test (ltb_is g.faults (count (acceptors g.faults) test) x.passes) in
    let y = found (is_acceptance_by a.0 i x.it.ballot true) xs a.1 in
    y.among (has_ballot g xs i) (own_ballot g xs i x.it.ballot a.0 y.it x.passes y.passes)

is_own : (g : Group) (xs : List Acceptance) (i : ℕ) → any_of (has_ballot g xs i) xs ≡ true → is_prepared g xs i ≡ true
is_own g xs i e =
    let x = found (has_ballot g xs i) xs e in
    let more = and_right (x.it.member == i) (x.it.prepared && is_chosen g xs i x.it.ballot true) x.passes in
    x.among (λ y. is_chosen g xs i y.ballot true) (and_right x.it.prepared (is_chosen g xs i x.it.ballot true) more)

alike : (p q : Bool) → (p ≡ true → q ≡ true) → (q ≡ true → p ≡ true) → p ≡ q
alike true q f h = sym (f refl)
alike false true f h = h refl
alike false false f h = refl

pub own_suffice : (g : Group) (xs : List Acceptance) (i : ℕ) → any_of (has_ballot g xs i) xs ≡ is_prepared g xs i
own_suffice g xs i = alike (any_of (has_ballot g xs i) xs) (is_prepared g xs i) (is_own g xs i) (own_is g xs i)

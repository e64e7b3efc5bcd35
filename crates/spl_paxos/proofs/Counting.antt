-- How many acceptors accepted something, where one acceptance more is looked at.
use Rattle.std.{specs.Prelude.{◌==◌, ◌&&◌, ◌||◌, if◌then◌else◌}, proofs.Common.{◌≡◌, ◌⊎◌, ◌≤◌, ◌+◌, List, [], ◌∷◌, length, ℕ, zero, suc, Bool, true, false}}
use Rattle.std.proofs.Common.{inl, inr, refl, sym, ap, subst, ◌∙◌, arith}
use Rattle.spl_agree.proofs.Tests.{bool_cases, eqb_is, eqb_not, eqb_other}
use Rattle.spl_acceptor.specs.{Quorums.count, Rows.has_accepted, declared.message.Acceptance.Acceptance}
use Rattle.spl_paxos.specs.Members.{is_acceptance_of}

-- the numbers that pass a test, and one more where it is so
abbrev with_one : ℕ → Bool → (ℕ → Bool) → ℕ → Bool
with_one k more f a = ((k == a) && more) || f a

-- how many pass, by a test of the last of them
last : (n c : ℕ) (f : ℕ → Bool) (b : Bool) → f (suc n) ≡ b → count n f ≡ c → count (suc n) f ≡ (if b then suc c else c)
last n c f b is few = ap (λ (t : Bool). if t then suc (count n f) else count n f) is ∙ ap (λ (m : ℕ). if b then suc m else m) few

alike : (n : ℕ) (f h : ℕ → Bool) → ((a : ℕ) → f a ≡ h a) → count n f ≡ count n h
alike zero f h same = refl
alike (suc n) f h same = last n (count n h) f (h (suc n)) (same (suc n)) (alike n f h same)

is_else : (here more other : Bool) → here ≡ false → ((here && more) || other) ≡ other
is_else true more other e = cc
is_else false more other e = refl

is_none : (here other : Bool) → ((here && false) || other) ≡ other
is_none true other = refl
is_none false other = refl

is_kept : (here more other : Bool) → other ≡ true → ((here && more) || other) ≡ other
is_kept true true true e = refl
is_kept true false other e = refl
is_kept false more other e = refl
is_kept true true false e = cc

is_more : (here other : Bool) → here ≡ true → ((here && true) || other) ≡ true
is_more true other e = refl
is_more false other e = cc

-- nothing more passes
pub none_more : (n k : ℕ) (f : ℕ → Bool) → count n (with_one k false f) ≡ count n f
none_more n k f = alike n (with_one k false f) f (λ a. is_none (k == a) (f a))

-- it passes in any case
pub kept_more : (n k : ℕ) (more : Bool) (f : ℕ → Bool) → f k ≡ true → count n (with_one k more f) ≡ count n f
kept_more n k more f is = alike n (with_one k more f) f (λ a. at a (bool_cases (k == a)))
  where
    at : (a : ℕ) → ((k == a) ≡ true) ⊎ ((k == a) ≡ false) → with_one k more f a ≡ f a
    at a (inl e) = is_kept (k == a) more (f a) (subst (λ (j : ℕ). f j ≡ true) (eqb_is k a e) is)
    at a (inr e) = is_else (k == a) more (f a) e

-- it is none of the numbers that are counted
pub off_more : (n k : ℕ) (more : Bool) (f : ℕ → Bool) → ((a : ℕ) → 1 ≤ a → a ≤ n → k ≡ a → ⊥) → count n (with_one k more f) ≡ count n f
off_more zero k more f off = refl
off_more (suc n) k more f off =
    last n (count n f) (with_one k more f) (f (suc n)) (is_else (k == suc n) more (f (suc n)) (eqb_other k (suc n) (off (suc n) (omega arith) (omega arith))))
    (off_more n k more f (λ a above most. off a above (omega (arith, most))))

-- it is one of them, and didn't pass
pub one_more : (n k : ℕ) (f : ℕ → Bool) → 1 ≤ k → k ≤ n → f k ≡ false → count n (with_one k true f) ≡ suc (count n f)
one_more zero k f above most fails = absurd (omega (arith, above, most))
one_more (suc n) k f above most fails = go (bool_cases (k == suc n)) (one_more n k f above)
  where
    swap : (b : Bool) (c : ℕ) → (if b then suc (suc c) else suc c) ≡ suc (if b then suc c else c)
    swap true c = refl
    swap false c = refl

    go : ((k == suc n) ≡ true) ⊎ ((k == suc n) ≡ false) → (k ≤ n → f k ≡ false → count n (with_one k true f) ≡ suc (count n f))
        → count (suc n) (with_one k true f) ≡ suc (count (suc n) f)
    go (inl e) fewer =
        let here : k ≡ suc n = eqb_is k (suc n) e in
        last n (count n f) (with_one k true f) true (is_more (k == suc n) (f (suc n)) e)
        (off_more n k true f (λ a above low is. absurd (omega (arith, here, low, is))))
        ∙ sym (ap suc (last n (count n f) f false (subst (λ (j : ℕ). f j ≡ false) here fails) refl))
    go (inr e) fewer =
        let low : k ≤ n = (let apart : (k ≡ suc n) → ⊥ = eqb_not k (suc n) e in omega (arith, most, apart)) in
        last n (suc (count n f)) (with_one k true f) (f (suc n)) (is_else (k == suc n) true (f (suc n)) e) (fewer low fails) ∙ swap (f (suc n)) (count n f)

-- so many of them pass at most
pub count_most : (n : ℕ) (f : ℕ → Bool) → count n f ≤ n
count_most zero f = omega arith
count_most (suc n) f = go (f (suc n)) (count_most n f)
  where
    go : (b : Bool) → count n f ≤ n → (if b then suc (count n f) else count n f) ≤ suc n
    go true few = omega (arith, few)
    go false few = omega (arith, few)

none_passes : (n : ℕ) → count n (λ a. false) ≡ 0
none_passes zero = refl
none_passes (suc n) = none_passes n

-- ---- of acceptances

pub none_accepted : (n i b : ℕ) (p : Bool) (xs : List Acceptance) → length xs ≡ 0 → count n (has_accepted xs i b p) ≡ 0
none_accepted n i b p [] e = none_passes n
none_accepted n i b p (x ∷ xs) e = absurd cc

module _ (n i b : ℕ) (p : Bool) (x : Acceptance) (xs : List Acceptance) where
  abbrev before : ℕ → Bool
  before = has_accepted xs i b p

  pub of_another : is_acceptance_of i b p x ≡ false → count n (has_accepted (x ∷ xs) i b p) ≡ count n before
  of_another e = subst (λ (more : Bool). count n (with_one x.acceptor more before) ≡ count n before) (sym e) (none_more n x.acceptor before)

  pub of_none : ((a : ℕ) → 1 ≤ a → a ≤ n → x.acceptor ≡ a → ⊥) → count n (has_accepted (x ∷ xs) i b p) ≡ count n before
  of_none off = off_more n x.acceptor (is_acceptance_of i b p x) before off

  pub of_known : before x.acceptor ≡ true → count n (has_accepted (x ∷ xs) i b p) ≡ count n before
  of_known e = kept_more n x.acceptor (is_acceptance_of i b p x) before e

  pub of_new : is_acceptance_of i b p x ≡ true → 1 ≤ x.acceptor → x.acceptor ≤ n → before x.acceptor ≡ false
      → count n (has_accepted (x ∷ xs) i b p) ≡ suc (count n before)
  of_new e above most fails =
      subst (λ (more : Bool). count n (with_one x.acceptor more before) ≡ suc (count n before)) (sym e) (one_more n x.acceptor before above most fails)

  -- so they fit a byte where the acceptors do
  pub few_accepted : (added : ℕ) → count n (has_accepted (x ∷ xs) i b p) ≡ added + count n before → added + count n before ≤ n
  few_accepted added e = let most = count_most n (has_accepted (x ∷ xs) i b p) in omega (arith, most, e)

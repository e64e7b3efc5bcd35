-- A set of positions as the bits of a byte.
use Rattle.std.{specs.{Prelude.{◌==◌, bit_and, cond}, List.filter, Int.{bit_at, bit_not}}, proofs.Common.{◌≡◌, ◌≢◌, ℕ, zero, suc, ◌*◌, ◌%◌, ◌^◌, ◌<◌, ◌⊎◌}}
use Rattle.std.proofs.Common.{Bool, true, false, ◌&&◌, ◌||◌, eqb, List, [], ◌∷◌, refl, sym, ap, subst, ◌∙◌, inl, inr, arith, w8}
use mir.Val.{bits}
use Rattle.std.proofs.lemmas.Nat.Bits.{bit_at_clear_same, bit_at_clear_other, bit_at-zero, same_from_bits_below, bit_at-lt}
use Rattle.spl_agree.{specs.Member.{has, but, none_left}, proofs.Tests.{has-none_left, bool_cases, eqb_is, eqb_not, eqb_other, eqb_same}}
use Rattle.spl_coord.specs.Positions.{positions}

-- each is below eight
-- filtered lists that differ at one position
abbrev pub AllBelow : List ℕ → Type 0
AllBelow [] = Unit {0}
AllBelow (x ∷ xs) = (x < 8) × AllBelow xs

pub filter-but : (p q : ℕ → Bool) (i : ℕ) (xs : List ℕ) → q i ≡ false → ((j : ℕ) → j < 8 → j ≢ i → q j ≡ p j) → AllBelow xs → filter q xs ≡ but i (filter p xs)
filter-but p q i [] at others below = refl
filter-but p q i (x ∷ xs) at others below = go (bool_cases (eqb x i)) (filter-but p q i xs at others below.1)
  where
    keep : (b : Bool) → x ≢ i → filter q xs ≡ but i (filter p xs) → cond b (x ∷ filter q xs) (filter q xs) ≡ but i (cond b (x ∷ filter p xs) (filter p xs))
    keep true d ih = rw (eqb_other x i d) (ap (λ ys. x ∷ ys) ih)
    keep false d ih = ih

    lose : (b : Bool) → x ≡ i → but i (cond b (x ∷ filter p xs) (filter p xs)) ≡ but i (filter p xs)
    lose true e = rw (e, eqb_same i)
    lose false e = refl

    go : (eqb x i ≡ true) ⊎ (eqb x i ≡ false) → filter q xs ≡ but i (filter p xs)
        → cond (q x) (x ∷ filter q xs) (filter q xs) ≡ but i (cond (p x) (x ∷ filter p xs) (filter p xs))
    go (inl h) ih = let e : x ≡ i = eqb_is x i h in let n : q x ≡ false = subst (λ j. q j ≡ false) (sym e) at in rw n (ih ∙ sym (lose (p x) e))
    go (inr h) ih = let d : x ≢ i = eqb_not x i h in rw (others x below.0 d) (keep (p x) d ih)

abbrev pub eight : List ℕ
eight = 0 ∷ 1 ∷ 2 ∷ 3 ∷ 4 ∷ 5 ∷ 6 ∷ 7 ∷ []

pub positions-clear : (n i : ℕ) → i < 8 → positions (bit_and n (bit_not w8 (1 * 2 ^ i % 2 ^ bits w8))) ≡ but i (positions n)
positions-clear n i l = filter-but (λ j. bit_at n j == 1) (λ j. bit_at (bit_and n (bit_not w8 (1 * 2 ^ i % 2 ^ bits w8))) j == 1) i eight
    (rw (bit_at_clear_same w8 n i l))
    (λ j m d. rw (bit_at_clear_other w8 n i l j m d))
    (omega arith)

pub has-filter : (p : ℕ → Bool) (i : ℕ) (xs : List ℕ) → has i (filter p xs) ≡ (p i && has i xs)
has-filter p i [] = both (p i)
  where
    both : (b : Bool) → false ≡ (b && false)
    both true = refl
    both false = refl
has-filter p i (x ∷ xs) = go (bool_cases (eqb x i)) (has-filter p i xs)
  where
    one : (b : Bool) → p x ≡ b → x ≡ i → has i (filter p xs) ≡ (p i && has i xs) → has i (cond b (x ∷ filter p xs) (filter p xs)) ≡ (p i && true)
    one true e q ih = rw (q, eqb_same i) (rw (← q) (rw e))
    one false e q ih = let n : p i ≡ false = subst (λ j. p j ≡ false) q e in rw (ih, n)

    other : (b : Bool) → eqb x i ≡ false → has i (cond b (x ∷ filter p xs) (filter p xs)) ≡ has i (filter p xs)
    other true e = rw e
    other false e = refl

    go : (eqb x i ≡ true) ⊎ (eqb x i ≡ false) → has i (filter p xs) ≡ (p i && has i xs)
        → has i (cond (p x) (x ∷ filter p xs) (filter p xs)) ≡ (p i && (eqb x i || has i xs))
    go (inl h) ih = rw h (one (p x) refl (eqb_is x i h) ih)
    go (inr h) ih = rw h (other (p x) h ∙ ih)

pub has-eight : (i : ℕ) → i < 8 → has i eight ≡ true
has-eight zero l = refl
has-eight (suc zero) l = refl
has-eight (suc (suc zero)) l = refl
has-eight (suc (suc (suc zero))) l = refl
has-eight (suc (suc (suc (suc zero)))) l = refl
has-eight (suc (suc (suc (suc (suc zero))))) l = refl
has-eight (suc (suc (suc (suc (suc (suc zero)))))) l = refl
has-eight (suc (suc (suc (suc (suc (suc (suc zero))))))) l = refl
has-eight (suc (suc (suc (suc (suc (suc (suc (suc i)))))))) l = absurd (omega arith)

pub has-positions : (n i : ℕ) → i < 8 → has i (positions n) ≡ (bit_at n i == 1)
has-positions n i l = has-filter (λ j. bit_at n j == 1) i eight ∙ rw (has-eight i l) (and_one (bit_at n i == 1))
  where
    and_one : (b : Bool) → (b && true) ≡ b
    and_one true = refl
    and_one false = refl

-- a byte has no position exactly where it is 0
pub empty_is : (n : ℕ) → n < 2 ^ 8 → eqb n 0 ≡ none_left (positions n)
empty_is n l = go (bool_cases (eqb n 0)) (bool_cases (none_left (positions n)))
  where
    zero_bit : none_left (positions n) ≡ true → (i : ℕ) → i < 8 → bit_at n i ≡ bit_at 0 i
    zero_bit h i m = let d : (bit_at n i == 1) ≡ false = sym (has-positions n i m) ∙ has-none_left (positions n) i h in
        let ne : bit_at n i ≢ 1 = eqb_not (bit_at n i) 1 d in let b : bit_at n i < 2 = bit_at-lt n i in let z : bit_at 0 i ≡ 0 = bit_at-zero i in omega arith

    go : (eqb n 0 ≡ true) ⊎ (eqb n 0 ≡ false) → (none_left (positions n) ≡ true) ⊎ (none_left (positions n) ≡ false) → eqb n 0 ≡ none_left (positions n)
    go (inl p) q = let e : n ≡ 0 = eqb_is n 0 p in rw e
    go (inr p) (inl q) = absurd (eqb_not n 0 p (same_from_bits_below 8 n 0 l (omega arith) (zero_bit q)))
    go (inr p) (inr q) = p ∙ sym q

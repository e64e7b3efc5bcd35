-- An address with one digit that is another.
use Rattle.std.{specs.Prelude.if◌then◌else◌, proofs.Common.{◌≡◌, ◌≢◌, ℕ, zero, suc, ◌+◌, ◌*◌, ◌/◌, ◌%◌, ◌<◌, ◌==◌, true, false, Bool, List, [], ◌∷◌, ◌++◌}}
use Rattle.std.proofs.Common.{length, slice_index, slice_set, inl, inr, refl, sym, ap, ◌∙◌, arith, add-one, add-zero, zero-add, get_or-set_other}
use Rattle.std.proofs.{Common.get_or-set_same, lemmas.Bool.cases_lt}
use Rattle.spl_state.specs.Root.{digit_of, digits_of}

-- the digit after some
more_suc : (n k : ℕ) (a : List ℕ) → digits_of (suc n) k a ≡ digits_of n k a ++ digit_of a (k + n) ∷ []
more_suc zero k a = ap (λ i. digit_of a i ∷ []) (sym (add-zero k))
more_suc (suc n) k a =
    let at : k + 1 + n ≡ k + suc n = omega arith in
    ap (λ r. digit_of a k ∷ r) (more_suc n (k + 1) a ∙ ap (λ i. digits_of n (k + 1) a ++ digit_of a i ∷ []) at)

pub digits_more : (n k : ℕ) (a : List ℕ) → digits_of (n + 1) k a ≡ digits_of n k a ++ digit_of a (k + n) ∷ []
digits_more n k a = ap (λ m. digits_of m k a) (add-one n) ∙ more_suc n k a

digits_same : (n k : ℕ) (a b : List ℕ) → ((j : ℕ) → j < k + n → digit_of a j ≡ digit_of b j) → digits_of n k a ≡ digits_of n k b
digits_same zero k a b h = refl
digits_same (suc n) k a b h =
    ap (λ d. d ∷ digits_of n (k + 1) a) (h k (omega arith)) ∙ ap (λ r. digit_of b k ∷ r) (digits_same n (k + 1) a b (λ j low. h j (omega arith)))

-- a byte with another of its digits
abbrev turned : Bool → ℕ → ℕ → ℕ
turned first d x = if first then d * 16 + x % 16 else x / 16 * 16 + d

turned_digit : (b : Bool) (d x : ℕ) → d < 16 → (if b then turned b d x / 16 else turned b d x % 16) ≡ d
turned_digit true d x small = omega arith
turned_digit false d x small = omega arith

here : (k d : ℕ) (a : List ℕ) → d < 16 → k / 2 < length a → digit_of (slice_set a (k / 2) (turned (k % 2 == 0) d (slice_index a (k / 2)))) k ≡ d
here k d a small within =
    ap (λ y. if k % 2 == 0 then y / 16 else y % 16) (get_or-set_same a (k / 2) (turned (k % 2 == 0) d (slice_index a (k / 2))) 0 within)
    ∙ turned_digit (k % 2 == 0) d (slice_index a (k / 2)) small

even_test : (j : ℕ) → j % 2 ≡ 0 → (j % 2 == 0) ≡ true
even_test j h = grind arith

odd_test : (k : ℕ) → k % 2 ≢ 0 → (k % 2 == 0) ≡ false
odd_test k h = grind arith

before : (k d j : ℕ) (a : List ℕ) → d < 16 → k / 2 < length a → j < k
    → digit_of (slice_set a (k / 2) (turned (k % 2 == 0) d (slice_index a (k / 2)))) j ≡ digit_of a j
before k d j a small within low =
    let x = slice_index a (k / 2) in
    elim (cases_lt (j / 2) (k / 2)) [
      | inl lt ↦ ap (λ y. if j % 2 == 0 then y / 16 else y % 16) (get_or-set_other a (k / 2) (j / 2) (turned (k % 2 == 0) d x) 0 (omega arith))
      | inr le ↦
          let even : j % 2 ≡ 0 = omega arith in
          let odd : k % 2 ≢ 0 = omega arith in
          let at : j / 2 ≡ k / 2 = omega arith in
          let high : (x / 16 * 16 + d) / 16 ≡ x / 16 = omega arith in
          ap (λ i. if j % 2 == 0 then slice_index (slice_set a (k / 2) (turned (k % 2 == 0) d x)) i / 16
          else slice_index (slice_set a (k / 2) (turned (k % 2 == 0) d x)) i % 16) at
          ∙ ap (λ y. if j % 2 == 0 then y / 16 else y % 16) (get_or-set_same a (k / 2) (turned (k % 2 == 0) d x) 0 within)
          ∙ ap (λ b. if b then turned (k % 2 == 0) d x / 16 else turned (k % 2 == 0) d x % 16) (even_test j even)
          ∙ ap (λ b. turned b d x / 16) (odd_test k odd)
          ∙ high
          ∙ ap (λ i. slice_index a i / 16) (sym at)
          ∙ ap (λ b. if b then slice_index a (j / 2) / 16 else slice_index a (j / 2) % 16) (sym (even_test j even))
    ]

pub digits_turned : (k d : ℕ) (a : List ℕ) → k < 70 → d < 16 → length a ≡ 35
    → digits_of (k + 1) 0 (slice_set a (k / 2) (turned (k % 2 == 0) d (slice_index a (k / 2)))) ≡ digits_of k 0 a ++ d ∷ []
digits_turned k d a place small long =
    let b = slice_set a (k / 2) (turned (k % 2 == 0) d (slice_index a (k / 2))) in
    let within : k / 2 < length a = omega arith in
    digits_more k 0 b
    ∙ ap (λ i. digits_of k 0 b ++ digit_of b i ∷ []) (zero-add k)
    ∙ ap (λ r. r ++ digit_of b k ∷ []) (digits_same k 0 b a (λ j low. before k d j a small within (omega arith)))
    ∙ ap (λ e. digits_of k 0 a ++ e ∷ []) (here k d a small within)

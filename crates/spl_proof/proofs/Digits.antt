-- The first digits of two addresses.
use Rattle.std.{specs.Prelude.if◌then◌else◌, proofs.Common.{◌≡◌, ◌≢◌, ℕ, zero, suc, ◌+◌, ◌/◌, ◌%◌, ◌<◌, ◌==◌, ◌&&◌, Bool, true, false, List, [], ◌∷◌, ◌++◌}}
use Rattle.std.proofs.Common.{get_or, slice_index, refl, sym, ap, ◌∙◌, arith, add-one, add-zero, zero-add}
use Rattle.spl_state.specs.Root.{digit_of, digits_of, agrees}

more_suc : (n k : ℕ) (a : List ℕ) → digits_of (suc n) k a ≡ digits_of n k a ++ digit_of a (k + n) ∷ []
more_suc zero k a = ap (λ i. digit_of a i ∷ []) (sym (add-zero k))
more_suc (suc n) k a =
    let at : k + 1 + n ≡ k + suc n = omega arith in
    ap (λ r. digit_of a k ∷ r) (more_suc n (k + 1) a ∙ ap (λ i. digits_of n (k + 1) a ++ digit_of a i ∷ []) at)

-- the digit after some
pub digits_more : (n k : ℕ) (a : List ℕ) → digits_of (n + 1) k a ≡ digits_of n k a ++ digit_of a (k + n) ∷ []
digits_more n k a = ap (λ m. digits_of m k a) (add-one n) ∙ more_suc n k a

-- one digit more that is the same
pub digits_next : (k : ℕ) (a b : List ℕ) → digits_of k 0 b ≡ digits_of k 0 a → digit_of b k ≡ digit_of a k → digits_of (k + 1) 0 b ≡ digits_of (k + 1) 0 a
digits_next k a b same next =
    digits_more k 0 b ∙ ap (λ i. digits_of k 0 b ++ digit_of b i ∷ []) (zero-add k) ∙ ap (λ xs. xs ++ digit_of b k ∷ []) same
    ∙ ap (λ d. digits_of k 0 a ++ d ∷ []) next ∙ sym (digits_more k 0 a ∙ ap (λ i. digits_of k 0 a ++ digit_of a i ∷ []) (zero-add k))

digits_at : (n k j : ℕ) (a : List ℕ) → j < n → get_or (digits_of n k a) j 0 ≡ digit_of a (k + j)
digits_at zero k j a low = absurd (omega arith)
digits_at (suc n) k zero a low = ap (digit_of a) (sym (add-zero k))
digits_at (suc n) k (suc j) a low =
    let at : k + 1 + j ≡ k + suc j = omega arith in
    digits_at n (k + 1) j a (omega arith) ∙ ap (digit_of a) at

-- where one digit differs, the first digits do
pub digits_apart : (n j : ℕ) (a b : List ℕ) → j < n → digit_of a j ≢ digit_of b j → digits_of n 0 b ≢ digits_of n 0 a
digits_apart n j a b low differ = λ e.
    differ (ap (digit_of a) (sym (zero-add j)) ∙ sym (digits_at n 0 j a low) ∙ sym (ap (λ xs. get_or xs j 0) e) ∙ digits_at n 0 j b low
    ∙ ap (digit_of b) (zero-add j))

equal_test : (x y : ℕ) → x ≡ y → (x == y) ≡ true
equal_test x y h = grind arith

test_equal : (x y : ℕ) → (x == y) ≡ true → x ≡ y
test_equal x y h = grind arith

both_true : (x y : Bool) → (x && y) ≡ true → (x ≡ true) × (y ≡ true)
both_true true y h = (refl, h)
both_true false y h = absurd (grind (arith, h))

pub agrees_itself : (n k : ℕ) (a : List ℕ) → agrees k (digits_of n k a) a ≡ true
agrees_itself zero k a = refl
agrees_itself (suc n) k a = ap (λ t. t && agrees (k + 1) (digits_of n (k + 1) a) a) (equal_test (digit_of a k) (digit_of a k) refl) ∙ agrees_itself n (k + 1) a

pub agrees_digits : (n k : ℕ) (a b : List ℕ) → agrees k (digits_of n k a) b ≡ true → digits_of n k b ≡ digits_of n k a
agrees_digits zero k a b h = refl
agrees_digits (suc n) k a b h =
    let both = both_true (digit_of b k == digit_of a k) (agrees (k + 1) (digits_of n (k + 1) a) b) h in
    ap (λ d. d ∷ digits_of n (k + 1) b) (test_equal _ _ both.0) ∙ ap (λ r. digit_of a k ∷ r) (agrees_digits n (k + 1) a b both.1)

pub small_digit : (xs : List ℕ) → ((i : ℕ) → slice_index xs i < 256) → (j : ℕ) → digit_of xs j < 16
small_digit xs h j = by (j % 2 == 0) (h (j / 2))
  where
    by : (b : Bool) → slice_index xs (j / 2) < 256 → (if b then slice_index xs (j / 2) / 16 else slice_index xs (j / 2) % 16) < 16
    by true low = omega arith
    by false low = omega arith

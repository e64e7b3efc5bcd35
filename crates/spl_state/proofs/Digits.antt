-- The order of the digits from one on, step by step.
use Rattle.std.{specs.Ordering.{ordering_then, is_eq}, proofs.Common.{◌≡◌, ◌≢◌, ℕ, zero, suc, ◌+◌, ◌-◌, ◌<◌, ◌≤◌, ◌==◌, ◌&&◌, Bool, true, false, nat_cmp}}
use Rattle.std.proofs.{Common.{Ordering, Less, Equal, Greater, refl, sym, ap, ◌∙◌, arith, zero-add, add-zero}, Math.Bool.and_assoc, lemmas.Grind.common_steps}
use Rattle.spl_state.specs.{Root.digit_of, Digits.{digits_cmp, tail_cmp, same_digits}, declared.address.Address.Address}

pub less_of : (x y : ℕ) → x < y → nat_cmp x y ≡ Less
less_of x y h = grind (arith, common_steps)

pub equal_of : (x y : ℕ) → x ≡ y → nat_cmp x y ≡ Equal
equal_of x y h = grind (arith, common_steps)

pub greater_of : (x y : ℕ) → y < x → nat_cmp x y ≡ Greater
greater_of x y h = grind (arith, common_steps)

cmp_more : (n k : ℕ) (a b : Address) → digits_cmp (suc n) k a b ≡ ordering_then (nat_cmp (digit_of a.0 k) (digit_of b.0 k)) (digits_cmp n (k + 1) a b)
unfolding digits_cmp
cmp_more n k a b = refl

cmp_none : (k : ℕ) (a b : Address) → digits_cmp 0 k a b ≡ Equal
unfolding digits_cmp
cmp_none k a b = refl

-- one digit further
tail_step : (d : ℕ) (a b : Address) → d < 70 → tail_cmp d a b ≡ ordering_then (nat_cmp (digit_of a.0 d) (digit_of b.0 d)) (tail_cmp (d + 1) a b)
tail_step d a b low =
    let left : 70 - d ≡ suc (70 - (d + 1)) = omega arith in
    ap (λ n. digits_cmp n d a b) left ∙ cmp_more (70 - (d + 1)) d a b

tail_end : (a b : Address) → tail_cmp 70 a b ≡ Equal
tail_end a b = cmp_none 70 a b

pub tail_less : (d : ℕ) (a b : Address) → d < 70 → digit_of a.0 d < digit_of b.0 d → tail_cmp d a b ≡ Less
tail_less d a b low h = tail_step d a b low ∙ ap (λ r. ordering_then r (tail_cmp (d + 1) a b)) (less_of _ _ h)

pub tail_greater : (d : ℕ) (a b : Address) → d < 70 → digit_of b.0 d < digit_of a.0 d → tail_cmp d a b ≡ Greater
tail_greater d a b low h = tail_step d a b low ∙ ap (λ r. ordering_then r (tail_cmp (d + 1) a b)) (greater_of _ _ h)

pub tail_same : (d : ℕ) (a b : Address) → d < 70 → digit_of a.0 d ≡ digit_of b.0 d → tail_cmp d a b ≡ tail_cmp (d + 1) a b
tail_same d a b low h = tail_step d a b low ∙ ap (λ r. ordering_then r (tail_cmp (d + 1) a b)) (equal_of _ _ h)

then_differ : (x y : ℕ) (o : Ordering) → x ≢ y → is_eq (ordering_then (nat_cmp x y) o) ≡ false
then_differ x y o h = by (nat_cmp x y) refl
  where
    by : (r : Ordering) → nat_cmp x y ≡ r → is_eq (ordering_then r o) ≡ false
    by Less e = refl
    by Equal e = absurd (h (grind (arith, common_steps)))
    by Greater e = refl

pub tail_differ : (d : ℕ) (a b : Address) → d < 70 → digit_of a.0 d ≢ digit_of b.0 d → is_eq (tail_cmp d a b) ≡ false
tail_differ d a b low h = ap is_eq (tail_step d a b low) ∙ then_differ _ _ _ h

-- The same between two digits.

equal_test : (x y : ℕ) → x ≡ y → (x == y) ≡ true
equal_test x y h = grind arith

differ_test : (x y : ℕ) → x ≢ y → (x == y) ≡ false
differ_test x y h = grind arith

same_zero : (k : ℕ) (a b : Address) → same_digits 0 k a b ≡ true
unfolding same_digits
same_zero k a b = refl

same_suc : (n k : ℕ) (a b : Address) → same_digits (suc n) k a b ≡ (digit_of b.0 k == digit_of a.0 k) && same_digits n (k + 1) a b
unfolding same_digits
same_suc n k a b = refl

pub same_none : (m d : ℕ) (a b : Address) → m ≤ d → same_digits (m - d) d a b ≡ true
same_none m d a b h =
    let none : m - d ≡ 0 = omega arith in
    ap (λ n. same_digits n d a b) none ∙ same_zero d a b

pub same_more : (m d : ℕ) (a b : Address) → d < m → same_digits (m - d) d a b ≡ (digit_of b.0 d == digit_of a.0 d) && same_digits (m - (d + 1)) (d + 1) a b
same_more m d a b h =
    let left : m - d ≡ suc (m - (d + 1)) = omega arith in
    ap (λ n. same_digits n d a b) left ∙ same_suc (m - (d + 1)) d a b

pub same_next : (m d : ℕ) (a b : Address) → d < m → digit_of b.0 d ≡ digit_of a.0 d → same_digits (m - (d + 1)) (d + 1) a b ≡ same_digits (m - d) d a b
same_next m d a b low h = sym (same_more m d a b low ∙ ap (λ t. t && same_digits (m - (d + 1)) (d + 1) a b) (equal_test _ _ h))

pub same_differ : (m d : ℕ) (a b : Address) → d < m → digit_of b.0 d ≢ digit_of a.0 d → same_digits (m - d) d a b ≡ false
same_differ m d a b low h = same_more m d a b low ∙ ap (λ t. t && same_digits (m - (d + 1)) (d + 1) a b) (differ_test _ _ h)

-- A run of digits and its parts.

pub both_true : (x y : Bool) → (x && y) ≡ true → (x ≡ true) × (y ≡ true)
both_true true y h = (refl, h)
both_true false y h = absurd (grind (arith, h))

test_equal : (x y : ℕ) → (x == y) ≡ true → x ≡ y
test_equal x y h = grind arith

test_differ : (x y : ℕ) → (x == y) ≡ false → x ≢ y
test_differ x y h = grind arith

same_parts : (n m k l : ℕ) (a b : Address) → l ≡ k + n → same_digits (n + m) k a b ≡ (same_digits n k a b && same_digits m l a b)
unfolding same_digits
same_parts zero m k l a b e = ap (λ q. same_digits q k a b) (zero-add m) ∙ ap (λ i. same_digits m i a b) (sym (e ∙ add-zero k))
same_parts (suc n) m k l a b e =
    let more : suc n + m ≡ suc (n + m) = omega arith in
    ap (λ q. same_digits q k a b) more
    ∙ ap (λ r. (digit_of b.0 k == digit_of a.0 k) && r) (same_parts n m (k + 1) l a b (omega arith))
    ∙ sym (and_assoc (digit_of b.0 k == digit_of a.0 k) (same_digits n (k + 1) a b) (same_digits m l a b))

pub same_at : (d k m : ℕ) (a b : Address) → d ≤ k → k ≤ m → same_digits (m - d) d a b ≡ (same_digits (k - d) d a b && same_digits (m - k) k a b)
same_at d k m a b low high =
    let all : m - d ≡ (k - d) + (m - k) = omega arith in
    ap (λ q. same_digits q d a b) all ∙ same_parts (k - d) (m - k) d k a b (omega arith)

pub same_above : (d k m : ℕ) (a b : Address) → d ≤ k → k ≤ m → same_digits (m - d) d a b ≡ true → same_digits (k - d) d a b ≡ true
same_above d k m a b low high h = (both_true _ _ (sym (same_at d k m a b low high) ∙ h)).0

pub same_below : (d k m : ℕ) (a b : Address) → d ≤ k → k ≤ m → same_digits (m - d) d a b ≡ true → same_digits (m - k) k a b ≡ true
same_below d k m a b low high h = (both_true _ _ (sym (same_at d k m a b low high) ∙ h)).1

-- the last digit of a run
pub same_digit : (d k : ℕ) (a b : Address) → d ≤ k → same_digits (k + 1 - d) d a b ≡ true → digit_of b.0 k ≡ digit_of a.0 k
same_digit d k a b low h =
    test_equal _ _ (both_true _ _ (sym (same_more (k + 1) k a b (omega arith)) ∙ same_below d k (k + 1) a b low (omega arith) h)).0

pub same_after : (d k : ℕ) (a b : Address) → d ≤ k → same_digits (k - d) d a b ≡ true → digit_of a.0 k ≡ digit_of b.0 k → same_digits (k + 1 - d) d a b ≡ true
same_after d k a b low h at =
    same_at d k (k + 1) a b low (omega arith) ∙ ap (λ t. t && same_digits (k + 1 - k) k a b) h
    ∙ sym (same_next (k + 1) k a b (omega arith) (sym at)) ∙ same_none (k + 1) (k + 1) a b (omega arith)

pub same_alike : (n k : ℕ) (a b : Address) → a.0 ≡ b.0 → same_digits n k a b ≡ true
same_alike zero k a b e = same_zero k a b
same_alike (suc n) k a b e =
    same_suc n k a b ∙ ap (λ t. t && same_digits n (k + 1) a b) (equal_test _ _ (ap (λ l. digit_of l k) (sym e))) ∙ same_alike n (k + 1) a b e

-- an address beside two that have the same digits
pub same_by : (n k : ℕ) (a p e : Address) → same_digits n k p e ≡ true → same_digits n k a e ≡ same_digits n k a p
same_by zero k a p e h = same_zero k a e ∙ sym (same_zero k a p)
same_by (suc n) k a p e h =
    let both = both_true _ _ (sym (same_suc n k p e) ∙ h) in
    same_suc n k a e
    ∙ ap (λ x. (x == digit_of a.0 k) && same_digits n (k + 1) a e) (test_equal _ _ both.0)
    ∙ ap (λ r. (digit_of p.0 k == digit_of a.0 k) && r) (same_by n (k + 1) a p e both.1)
    ∙ sym (same_suc n k a p)

pub same_turned : (n k : ℕ) (a b : Address) → same_digits n k a b ≡ true → same_digits n k b a ≡ true
same_turned n k a b h = sym (same_by n k b a b h) ∙ same_alike n k b b refl

-- the order of the digits after a run that is the same, and of one that isn't
along_by : (n d m : ℕ) (a b : Address) → d + n ≡ m → m ≤ 70 → same_digits n d a b ≡ true → tail_cmp d a b ≡ tail_cmp m a b
along_by zero d m a b at high h =
    let end : d ≡ m = omega arith in
    ap (λ k. tail_cmp k a b) end
along_by (suc n) d m a b at high h =
    let both = both_true _ _ (sym (same_suc n d a b) ∙ h) in
    tail_same d a b (omega arith) (sym (test_equal _ _ both.0)) ∙ along_by n (d + 1) m a b (omega arith) high both.1

pub tail_along : (d m : ℕ) (a b : Address) → d ≤ m → m ≤ 70 → same_digits (m - d) d a b ≡ true → tail_cmp d a b ≡ tail_cmp m a b
tail_along d m a b low high h = along_by (m - d) d m a b (omega arith) high h

apart_by : (n d m : ℕ) (a b : Address) → d + n ≡ m → m ≤ 70 → same_digits n d a b ≡ false → is_eq (tail_cmp d a b) ≡ false
apart_by zero d m a b at high h = absurd (grind (arith, sym (same_zero d a b) ∙ h))
apart_by (suc n) d m a b at high h = by (digit_of b.0 d == digit_of a.0 d) refl (sym (same_suc n d a b) ∙ h) (apart_by n (d + 1) m a b (omega arith) high)
  where
    by : (t : Bool) → (digit_of b.0 d == digit_of a.0 d) ≡ t → (t && same_digits n (d + 1) a b) ≡ false
        → (same_digits n (d + 1) a b ≡ false → is_eq (tail_cmp (d + 1) a b) ≡ false) → is_eq (tail_cmp d a b) ≡ false
    by true is g next = ap is_eq (tail_same d a b (omega arith) (sym (test_equal _ _ is))) ∙ next g
    by false is g next = tail_differ d a b (omega arith) (λ p. test_differ _ _ is (sym p))

pub tail_apart : (d m : ℕ) (a b : Address) → d ≤ m → m ≤ 70 → same_digits (m - d) d a b ≡ false → is_eq (tail_cmp d a b) ≡ false
tail_apart d m a b low high h = apart_by (m - d) d m a b (omega arith) high h

-- all digits
pub tail_is : (d : ℕ) (a b : Address) → d ≤ 70 → same_digits (70 - d) d a b ≡ is_eq (tail_cmp d a b)
tail_is d a b low = by (same_digits (70 - d) d a b) refl
  where
    by : (t : Bool) → same_digits (70 - d) d a b ≡ t → t ≡ is_eq (tail_cmp d a b)
    by true is = sym (ap is_eq (tail_along d 70 a b low (omega arith) is ∙ tail_end a b))
    by false is = sym (tail_apart d 70 a b low (omega arith) is)

pub tail_whole : (d : ℕ) (a b : Address) → d ≤ 70 → same_digits (70 - d) d a b ≡ true → is_eq (tail_cmp d a b) ≡ true
tail_whole d a b low h = sym (tail_is d a b low) ∙ h

-- a run in three parts
pub same_thirds : (from k l to : ℕ) (a b : Address) → from ≤ k → k ≤ l → l ≤ to
    → same_digits (to - from) from a b ≡ (same_digits (k - from) from a b && (same_digits (l - k) k a b && same_digits (to - l) l a b))
same_thirds from k l to a b low mid high =
    same_at from k to a b low (omega arith) ∙ ap (λ r. same_digits (k - from) from a b && r) (same_at k l to a b mid high)

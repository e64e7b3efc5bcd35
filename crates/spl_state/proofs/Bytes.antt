-- The order of all digits is the order of the bytes.
use Rattle.std.specs.{Map.{lookup, remove_entry}, BTreeMap.{insert_entry, is_at}, Ordering.{ordering_then, is_eq, match_ordering}}
use Rattle.std.{specs.Cmp.Lexicographic.{slice_cmp, pointwise}, proofs.Common.{◌≡◌, ◌≢◌, ℕ, zero, suc, ◌+◌, ◌-◌, ◌*◌, ◌/◌, ◌%◌, ◌<◌, ◌≤◌, ◌==◌, ◌&&◌, nat_eq}}
use Rattle.std.proofs.Common.{eq-eqb, take, drop, slice_index, Bool, true, false, cond, List, [], ◌∷◌, length, Some, None, Result, OnOk, OnErr, nat_cmp}
use Rattle.std.proofs.{Common.{Ordering, Less, Equal, Greater, refl, sym, ap, subst, ◌∙◌, arith}, Math.Seq.drop-cons, lemmas.Grind.common_steps}
use Rattle.spl_state.specs.{Entries.{Entry, address_cmp}, Root.digit_of, Digits.{digits_cmp, tail_cmp, same_digits}, Kept.{AllWhole, IsState}, Order.Rises}
use Rattle.spl_state.{specs.{Order.{insert_rises, remove_rises}, declared.address.Address.Address}, proofs.Digits.{less_of, equal_of, greater_of}}
use Rattle.spl_state.proofs.{Parts.not_equal, Steps.either}

-- the order of n digits of two lists, from the k-th on
abbrev lists_cmp : ℕ → ℕ → List ℕ → List ℕ → Ordering
lists_cmp zero k a b = Equal
lists_cmp (suc n) k a b = ordering_then (nat_cmp (digit_of a k) (digit_of b k)) (lists_cmp n (k + 1) a b)

as_lists : (n k : ℕ) (a b : Address) → digits_cmp n k a b ≡ lists_cmp n k a.0 b.0
unfolding digits_cmp
as_lists zero k a b = refl
as_lists (suc n) k a b = ap (λ o. ordering_then (nat_cmp (digit_of a.0 k) (digit_of b.0 k)) o) (as_lists n (k + 1) a b)

-- two bytes on, the digits are those of the rest
pub digit_next : (x : ℕ) (a : List ℕ) (k : ℕ) → digit_of (x ∷ a) (k + 2) ≡ digit_of a k
digit_next x a k =
    let half : (k + 2) / 2 ≡ suc (k / 2) = omega arith in
    let odd : (k + 2) % 2 ≡ k % 2 = omega arith in
    rw (half, odd) refl

lists_next : (n k : ℕ) (x y : ℕ) (a b : List ℕ) → lists_cmp n (k + 2) (x ∷ a) (y ∷ b) ≡ lists_cmp n k a b
lists_next zero k x y a b = refl
lists_next (suc n) k x y a b =
    let later : k + 2 + 1 ≡ k + 1 + 2 = omega arith in
    ap (λ d. ordering_then (nat_cmp d (digit_of (y ∷ b) (k + 2))) (lists_cmp n (k + 2 + 1) (x ∷ a) (y ∷ b))) (digit_next x a k)
    ∙ ap (λ d. ordering_then (nat_cmp (digit_of a k) d) (lists_cmp n (k + 2 + 1) (x ∷ a) (y ∷ b))) (digit_next y b k)
    ∙ ap (λ q. ordering_then (nat_cmp (digit_of a k) (digit_of b k)) (lists_cmp n q (x ∷ a) (y ∷ b))) later
    ∙ ap (λ o. ordering_then (nat_cmp (digit_of a k) (digit_of b k)) o) (lists_next n (k + 1) x y a b)

-- two digits order as their byte
byte_order : (x y : ℕ) (o : Ordering) → ordering_then (nat_cmp (x / 16) (y / 16)) (ordering_then (nat_cmp (x % 16) (y % 16)) o) ≡ ordering_then (nat_cmp x y) o
byte_order x y o = by (nat_cmp (x / 16) (y / 16)) refl
  where
    low : (s : Ordering) → x / 16 ≡ y / 16 → nat_cmp (x % 16) (y % 16) ≡ s → ordering_then s o ≡ ordering_then (nat_cmp x y) o
    low Less e f =
        let h : x % 16 < y % 16 = grind (arith, common_steps) in
        sym (ap (λ r. ordering_then r o) (less_of x y (omega arith)))
    low Equal e f =
        let h : x % 16 ≡ y % 16 = grind (arith, common_steps) in
        sym (ap (λ r. ordering_then r o) (equal_of x y (omega arith)))
    low Greater e f =
        let h : y % 16 < x % 16 = grind (arith, common_steps) in
        sym (ap (λ r. ordering_then r o) (greater_of x y (omega arith)))

    by : (r : Ordering) → nat_cmp (x / 16) (y / 16) ≡ r → ordering_then r (ordering_then (nat_cmp (x % 16) (y % 16)) o) ≡ ordering_then (nat_cmp x y) o
    by Less e =
        let h : x / 16 < y / 16 = grind (arith, common_steps) in
        sym (ap (λ r. ordering_then r o) (less_of x y (omega arith)))
    by Equal e =
        let h : x / 16 ≡ y / 16 = grind (arith, common_steps) in
        low (nat_cmp (x % 16) (y % 16)) h refl
    by Greater e =
        let h : y / 16 < x / 16 = grind (arith, common_steps) in
        sym (ap (λ r. ordering_then r o) (greater_of x y (omega arith)))

lists_order : (m : ℕ) (a b : List ℕ) → length a ≡ m → length b ≡ m → lists_cmp (m * 2) 0 a b ≡ slice_cmp nat_cmp a b
lists_order zero [] [] ha hb = refl
lists_order zero (x ∷ a) b ha hb = absurd (omega arith)
lists_order zero [] (y ∷ b) ha hb = absurd (omega arith)
lists_order (suc m) [] b ha hb = absurd (omega arith)
lists_order (suc m) (x ∷ a) [] ha hb = absurd (omega arith)
lists_order (suc m) (x ∷ a) (y ∷ b) ha hb =
    let two : suc m * 2 ≡ suc (suc (m * 2)) = omega arith in
    ap (λ n. lists_cmp n 0 (x ∷ a) (y ∷ b)) two ∙ byte_order x y (lists_cmp (m * 2) 2 (x ∷ a) (y ∷ b))
    ∙ ap (λ o. ordering_then (nat_cmp x y) o) (lists_next (m * 2) 0 x y a b ∙ lists_order m a b (omega arith) (omega arith))

bytes_order : (a b : Address) → length a.0 ≡ 35 → length b.0 ≡ 35 → tail_cmp 0 a b ≡ address_cmp a b
bytes_order a b ha hb = as_lists 70 0 a b ∙ lists_order 35 a.0 b.0 ha hb

-- So the words of the tree are those of the map.

lookup_zero : (a : Address) (es : List Entry) → length a.0 ≡ 35 → AllWhole es → lookup (is_at (tail_cmp 0 a)) es ≡ lookup (is_at (address_cmp a)) es
lookup_zero a [] ha h = refl
lookup_zero a (x ∷ xs) ha h =
    ap (λ o. cond (is_eq o) (Some x.1) (lookup (is_at (tail_cmp 0 a)) xs)) (bytes_order a x.0 ha h.0)
    ∙ ap (λ r. cond (is_eq (address_cmp a x.0)) (Some x.1) r) (lookup_zero a xs ha h.1)

pub lookup_by_bytes : (d : ℕ) (a : Address) (es : List Entry) → d ≡ 0 → length a.0 ≡ 35 → AllWhole es
    → lookup (is_at (tail_cmp d a)) es ≡ lookup (is_at (address_cmp a)) es
lookup_by_bytes d a es e ha h = ap (λ k. lookup (is_at (tail_cmp k a)) es) e ∙ lookup_zero a es ha h

insert_zero : (a : Address) (v : List ℕ) (es : List Entry) → length a.0 ≡ 35 → AllWhole es → insert_entry (tail_cmp 0) es a v ≡ insert_entry address_cmp es a v
insert_zero a v [] ha h = refl
insert_zero a v (x ∷ xs) ha h =
    ap (λ o. match_ordering o ((a, v) ∷ x ∷ xs) ((x.0, v) ∷ xs) (x ∷ insert_entry (tail_cmp 0) xs a v)) (bytes_order a x.0 ha h.0)
    ∙ ap (λ r. match_ordering (address_cmp a x.0) ((a, v) ∷ x ∷ xs) ((x.0, v) ∷ xs) (x ∷ r)) (insert_zero a v xs ha h.1)

pub insert_by_bytes : (d : ℕ) (a : Address) (v : List ℕ) (es : List Entry) → d ≡ 0 → length a.0 ≡ 35 → AllWhole es
    → insert_entry (tail_cmp d) es a v ≡ insert_entry address_cmp es a v
insert_by_bytes d a v es e ha h = ap (λ k. insert_entry (tail_cmp k) es a v) e ∙ insert_zero a v es ha h

whole_step : (o : Ordering) (a : Address) (v : List ℕ) (x : Entry) (xs rest : List Entry) → length a.0 ≡ 35 → length x.0.0 ≡ 35 → AllWhole xs → AllWhole rest
    → AllWhole (match_ordering o ((a, v) ∷ x ∷ xs) ((x.0, v) ∷ xs) (x ∷ rest))
whole_step Less a v x xs rest ha hx hs hr = (ha, (hx, hs))
whole_step Equal a v x xs rest ha hx hs hr = (hx, hs)
whole_step Greater a v x xs rest ha hx hs hr = (hx, hr)

pub insert_whole : (cmp : Address → Address → Ordering) (a : Address) (v : List ℕ) (es : List Entry) → length a.0 ≡ 35 → AllWhole es
    → AllWhole (insert_entry cmp es a v)
insert_whole cmp a v [] ha h = (ha, tt)
insert_whole cmp a v (x ∷ xs) ha h = whole_step (cmp a x.0) a v x xs (insert_entry cmp xs a v) ha h.0 h.1 (insert_whole cmp a v xs ha h.1)

remove_zero : (a : Address) (es : List Entry) → length a.0 ≡ 35 → AllWhole es → remove_entry (is_at (tail_cmp 0 a)) es ≡ remove_entry (is_at (address_cmp a)) es
remove_zero a [] ha h = refl
remove_zero a (x ∷ xs) ha h =
    ap (λ o. cond (is_eq o) xs (x ∷ remove_entry (is_at (tail_cmp 0 a)) xs)) (bytes_order a x.0 ha h.0)
    ∙ ap (λ r. cond (is_eq (address_cmp a x.0)) xs (x ∷ r)) (remove_zero a xs ha h.1)

pub remove_by_bytes : (d : ℕ) (a : Address) (es : List Entry) → d ≡ 0 → length a.0 ≡ 35 → AllWhole es
    → remove_entry (is_at (tail_cmp d a)) es ≡ remove_entry (is_at (address_cmp a)) es
remove_by_bytes d a es e ha h = ap (λ k. remove_entry (is_at (tail_cmp k a)) es) e ∙ remove_zero a es ha h

drop_whole : (b : Bool) (x : Entry) (xs rest : List Entry) → length x.0.0 ≡ 35 → AllWhole xs → AllWhole rest → AllWhole (cond b xs (x ∷ rest))
drop_whole true x xs rest hx hs hr = hs
drop_whole false x xs rest hx hs hr = (hx, hr)

pub remove_whole : (t : Address → Bool) (es : List Entry) → AllWhole es → AllWhole (remove_entry t es)
remove_whole t [] h = tt
remove_whole t (x ∷ xs) h = drop_whole (t x.0) x xs (remove_entry t xs) h.0 h.1 (remove_whole t xs h.1)

-- what isn't found isn't removed
pub remove_none : (t : Address → Bool) (es : List Entry) → lookup t es ≡ None → remove_entry t es ≡ es
remove_none t [] h = refl
remove_none t (e ∷ es) h = by (t e.0) (remove_none t es) h
  where
    by : (b : Bool) → (lookup t es ≡ None → remove_entry t es ≡ es) → cond b (Some e.1) (lookup t es) ≡ None → cond b es (e ∷ remove_entry t es) ≡ e ∷ es
    by true next h = cc
    by false next h = ap (λ r. e ∷ r) (next h)

-- A state written, and one with an entry removed.

pub state_same : (d k : ℕ) (es fs : List Entry) → IsState d es → k ≡ d → fs ≡ es → IsState k fs
state_same d k es fs h depth e = record { top = depth ∙ h.top; whole = subst AllWhole (sym e) h.whole; rising = subst Rises (sym e) h.rising }

pub state_written : (d k : ℕ) (a : Address) (v : List ℕ) (es fs : List Entry) → IsState d es → length a.0 ≡ 35 → k ≡ d
    → fs ≡ insert_entry (tail_cmp d) es a v → IsState k fs
state_written d k a v es fs h ha depth e =
    let by = e ∙ insert_by_bytes d a v es h.top ha h.whole in
    record {
      top =
          depth ∙ h.top;
      whole = subst AllWhole (sym by) (insert_whole address_cmp a v es ha h.whole);
      rising = subst Rises (sym by) (insert_rises a v es h.rising);
    }

pub state_removed : (d k : ℕ) (a : Address) (es fs : List Entry) → IsState d es → length a.0 ≡ 35 → k ≡ d → fs ≡ remove_entry (is_at (tail_cmp d a)) es
    → IsState k fs
state_removed d k a es fs h ha depth e =
    let by = e ∙ remove_by_bytes d a es h.top ha h.whole in
    record {
      top =
          depth ∙ h.top;
      whole = subst AllWhole (sym by) (remove_whole (is_at (address_cmp a)) es h.whole);
      rising = subst Rises (sym by) (remove_rises a es h.rising);
    }

-- a write that may want memory
pub state_swapped : {T E : Type 0} (r : Result T E) (d k : ℕ) (a : Address) (v : List ℕ) (es fs : List Entry) → IsState d es → length a.0 ≡ 35 → k ≡ d
    → OnOk r (fs ≡ insert_entry (tail_cmp d) es a v) → OnErr r (fs ≡ es) → IsState k fs
state_swapped r d k a v es fs h ha depth good bad = either r (state_written d k a v es fs h ha depth) (state_same d k es fs h depth) good bad

-- A run of whole bytes.

high_digit : (l : List ℕ) (i : ℕ) → digit_of l (i * 2) ≡ slice_index l i / 16
high_digit l i =
    let half : i * 2 / 2 ≡ i = omega arith in
    let even : i * 2 % 2 ≡ 0 = omega arith in
    rw (half, even) refl

low_digit : (l : List ℕ) (i : ℕ) → digit_of l (i * 2 + 1) ≡ slice_index l i % 16
low_digit l i =
    let half : (i * 2 + 1) / 2 ≡ i = omega arith in
    let odd : (i * 2 + 1) % 2 ≡ 1 = omega arith in
    rw (half, odd) refl

-- two bytes are the same where both their digits are
byte_same : (x y : ℕ) (r : Bool) → (nat_eq x y && r) ≡ ((y / 16 == x / 16) && ((y % 16 == x % 16) && r))
byte_same x y r = by (y / 16 == x / 16) (y % 16 == x % 16) refl refl
  where
    by : (s t : Bool) → (y / 16 == x / 16) ≡ s → (y % 16 == x % 16) ≡ t → (nat_eq x y && r) ≡ (s && (t && r))
    by true true high low =
        let h : y / 16 ≡ x / 16 = grind arith in
        let l : y % 16 ≡ x % 16 = grind arith in
        let same : x ≡ y = omega arith in
        ap (λ z. nat_eq x z && r) (sym same) ∙ ap (λ b. b && r) (eq-eqb x x refl)
    by true false high low =
        let l : y % 16 ≢ x % 16 = grind arith in
        ap (λ b. b && r) (not_equal x y (λ p. l (ap (λ z. z % 16) (sym p))))
    by false t high low =
        let h : y / 16 ≢ x / 16 = grind arith in
        ap (λ b. b && r) (not_equal x y (λ p. h (ap (λ z. z / 16) (sym p))))

bytes_by : (n i : ℕ) (a b : Address) → i + n ≤ length a.0 → i + n ≤ length b.0
    → pointwise nat_eq (take n (drop i a.0)) (take n (drop i b.0)) ≡ same_digits (n * 2) (i * 2) a b
unfolding same_digits
bytes_by zero i a b ha hb = refl
bytes_by (suc n) i a b ha hb =
    let two : suc n * 2 ≡ suc (suc (n * 2)) = omega arith in
    let next : suc i * 2 ≡ i * 2 + 1 + 1 = omega arith in
    let x = slice_index a.0 i in
    let y = slice_index b.0 i in
    ap (λ l. pointwise nat_eq (take (suc n) l) (take (suc n) (drop i b.0))) (drop-cons a.0 i 0 (omega arith))
    ∙ ap (λ l. pointwise nat_eq (x ∷ take n (drop (suc i) a.0)) (take (suc n) l)) (drop-cons b.0 i 0 (omega arith))
    ∙ ap (λ r. nat_eq x y && r) (bytes_by n (suc i) a b (omega arith) (omega arith) ∙ ap (λ k. same_digits (n * 2) k a b) next)
    ∙ byte_same x y (same_digits (n * 2) (i * 2 + 1 + 1) a b)
    ∙ ap (λ d. (d == x / 16) && ((y % 16 == x % 16) && same_digits (n * 2) (i * 2 + 1 + 1) a b)) (sym (high_digit b.0 i))
    ∙ ap (λ d. (digit_of b.0 (i * 2) == d) && ((y % 16 == x % 16) && same_digits (n * 2) (i * 2 + 1 + 1) a b)) (sym (high_digit a.0 i))
    ∙ ap (λ d. (digit_of b.0 (i * 2) == digit_of a.0 (i * 2)) && ((d == x % 16) && same_digits (n * 2) (i * 2 + 1 + 1) a b)) (sym (low_digit b.0 i))
    ∙ ap (λ d. (digit_of b.0 (i * 2) == digit_of a.0 (i * 2)) && ((digit_of b.0 (i * 2 + 1) == d) && same_digits (n * 2) (i * 2 + 1 + 1) a b))
    (sym (low_digit a.0 i))
    ∙ ap (λ q. same_digits q (i * 2) a b) (sym two)

pub same_bytes : (i j : ℕ) (a b : Address) → i ≤ j → j ≤ length a.0 → j ≤ length b.0
    → pointwise nat_eq (take (j - i) (drop i a.0)) (take (j - i) (drop i b.0)) ≡ same_digits (j * 2 - i * 2) (i * 2) a b
same_bytes i j a b low ha hb =
    let all : (j - i) * 2 ≡ j * 2 - i * 2 = omega arith in
    bytes_by (j - i) i a b (omega arith) (omega arith) ∙ ap (λ n. same_digits n (i * 2) a b) all

-- The addresses under a prefix stand in the part of its digit.
use Rattle.std.{specs.List.starts_with, proofs.Common.{◌≡◌, ◌≢◌, ℕ, zero, suc, ◌+◌, ◌/◌, ◌%◌, ◌<◌, Bool, true, false, cond, List, [], ◌∷◌, ◌++◌, length}}
use Rattle.std.proofs.Common.{get_or, nat_eq, refl, sym, ap, ◌∙◌, arith, append-nil, zero-add, Option, None, Some, IfSome, is_some}
use Rattle.spl_state.specs.{Entries.{Entry, covered}, Root.digit_of, Part.Part, Runs.{AllAlong, IsOtherDigit}, Kept.{AllDigit, Sorted, IsInner, all_entries}}
use Rattle.spl_state.{specs.declared.address.Address.Address, proofs.{Bytes.digit_next, Digits.both_true, Runs.{along_above, along_digit}}}

same_bytes : (x y : ℕ) → nat_eq x y ≡ true → x ≡ y
same_bytes x y h = grind arith

-- an address has the digits of its prefixes
covers_digit : (p a : List ℕ) (k : ℕ) → starts_with nat_eq a p ≡ true → k / 2 < length p → digit_of a k ≡ digit_of p k
covers_digit [] a k h low = absurd (omega arith)
covers_digit (x ∷ p) [] k h low = absurd (grind (arith, h))
covers_digit (x ∷ p) (y ∷ a) zero h low = sym (ap (λ z. z / 16) (same_bytes x y (both_true _ _ h).0))
covers_digit (x ∷ p) (y ∷ a) (suc zero) h low = sym (ap (λ z. z % 16) (same_bytes x y (both_true _ _ h).0))
covers_digit (x ∷ p) (y ∷ a) (suc (suc k)) h low =
    let two : suc (suc k) ≡ k + 2 = omega arith in
    ap (digit_of (y ∷ a)) two ∙ digit_next y a k ∙ covers_digit p a k (both_true _ _ h).1 (omega arith) ∙ sym (digit_next x p k)
    ∙ ap (digit_of (x ∷ p)) (sym two)

not_covered : (p : List ℕ) (d j : ℕ) (a : Address) → digit_of a.0 d ≡ j → digit_of p d ≢ j → d / 2 < length p → starts_with nat_eq a.0 p ≡ false
not_covered p d j a at not low = by (starts_with nat_eq a.0 p) refl
  where
    by : (b : Bool) → starts_with nat_eq a.0 p ≡ b → b ≡ false
    by true e = absurd (not (sym (covers_digit p a.0 d e low) ∙ at))
    by false e = refl

none_covered : (p : List ℕ) (d j : ℕ) (es : List Entry) → AllDigit d j es → digit_of p d ≢ j → d / 2 < length p → covered p es ≡ []
none_covered p d j [] h not low = refl
none_covered p d j (e ∷ es) h not low =
    ap (λ b. cond b (e.0 ∷ covered p es) (covered p es)) (not_covered p d j e.0 h.0 not low) ∙ none_covered p d j es h.1 not low

covered_append : (p : List ℕ) (xs ys : List Entry) → covered p (xs ++ ys) ≡ covered p xs ++ covered p ys
covered_append p [] ys = refl
covered_append p (e ∷ xs) ys = by (starts_with nat_eq e.0.0 p) (covered_append p xs ys)
  where
    by : (b : Bool) → covered p (xs ++ ys) ≡ covered p xs ++ covered p ys
        → cond b (e.0 ∷ covered p (xs ++ ys)) (covered p (xs ++ ys)) ≡ cond b (e.0 ∷ covered p xs) (covered p xs) ++ covered p ys
    by true h = ap (λ r. e.0 ∷ r) h
    by false h = h

covered_above : (p : List ℕ) (d k : ℕ) (ss : List Part) → Sorted d k ss → digit_of p d < k → d / 2 < length p → covered p (all_entries ss) ≡ []
covered_above p d k [] h far low = refl
covered_above p d k (s ∷ ss) h far low =
    let not : digit_of p d ≢ k = omega arith in
    covered_append p s.entries (all_entries ss) ∙ ap (λ r. r ++ covered p (all_entries ss)) (none_covered p d k s.entries h.0 not low)
    ∙ covered_above p d (k + 1) ss h.1 (omega arith) low

covered_parts : (p : List ℕ) (d k i : ℕ) (ss : List Part) (s0 : Part) → Sorted d k ss → digit_of p d ≡ k + i → i < length ss → d / 2 < length p
    → covered p (all_entries ss) ≡ covered p (get_or ss i s0).entries
covered_parts p d k i [] s0 h at within low = absurd (omega arith)
covered_parts p d k zero (s ∷ ss) s0 h at within low =
    covered_append p s.entries (all_entries ss) ∙ ap (λ r. covered p s.entries ++ r) (covered_above p d (k + 1) ss h.1 (omega arith) low)
    ∙ append-nil (covered p s.entries)
covered_parts p d k (suc i) (s ∷ ss) s0 h at within low =
    let not : digit_of p d ≢ k = omega arith in
    covered_append p s.entries (all_entries ss) ∙ ap (λ r. r ++ covered p (all_entries ss)) (none_covered p d k s.entries h.0 not low)
    ∙ covered_parts p d (k + 1) i ss s0 h.1 (omega arith) (omega arith) low

pub covered_part : (p : List ℕ) (d i : ℕ) (ss : List Part) (part : Part) → IsInner d ss → i ≡ digit_of p d → i < length ss → d / 2 < length p
    → part ≡ get_or ss i part → covered p part.entries ≡ covered p (all_entries ss)
covered_part p d i ss part h at within low is =
    ap (λ s. covered p s.entries) is ∙ sym (covered_parts p d 0 i ss part h.sorted (sym at ∙ sym (zero-add i)) within low)

-- none of the entries that have other digits
pub covered_other : (p : List ℕ) (d m : ℕ) (path : Address) (es : List Entry) (r : Option ℕ) → is_some r ≡ true → IfSome r (λ k. IsOtherDigit d m p path k)
    → AllAlong m d path es → covered p es ≡ []
covered_other p d m path es None is off h = absurd (grind (arith, is))
covered_other p d m path es (Some k) is off h =
    none_covered p k (digit_of path.0 k) es
    (along_digit d k path es off.low (along_above d (k + 1) m path es (omega (arith, off.low)) (omega (arith, off.high)) h)) off.differ off.within

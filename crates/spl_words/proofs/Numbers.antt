-- Numbers in decimal digits.
use Rattle.std.{specs.{List.list_all, Fmt.decimal}, proofs.Common.{◌+◌, ◌*◌, ◌-◌, drop, drop-cons, add-one, ◌≡◌, ℕ, suc, ◌^◌, ◌<◌, ◌≤◌, Bool, true, false}}
use Rattle.std.proofs.Common.{not, ◌&&◌, ◌||◌, eqb, leb, IsTrue, List, [], ◌∷◌, length, get_or, refl, sym, ap, ◌∙◌, arith, rules, inl, inr}
use Rattle.std.proofs.lemmas.{Bool.{eqb-true, eq-eqb, ne_eqb, leb-true, le-leb, cases_lt, and_parts, and_from}, Fmt.{digits_decimal, digits_value-decimal}}
use Rattle.std.proofs.lemmas.{Fmt.{decimal_nonempty, first_decimal, decimal_digit, decimal-digits_value}, Str.Parse.{IsNumeralModel, numerals_by_fold}}
use Rattle.spl_base.specs.Ids.{is_digit}
use Rattle.spl_words.specs.Words.{is_decimal, value_after, value}

pub own : IsNumeralModel (λ ds. list_all is_digit ds ≡ true) value
own = numerals_by_fold _ (search rules) value_after (search rules)

or_right : (a b : Bool) → b ≡ false → IsTrue (a || not b)
or_right true b h = refl
or_right false b h = rw h refl

or_left : (a b : Bool) → IsTrue (a || not b) → b ≡ true → IsTrue a
or_left true b h k = refl
or_left false b h k = let e : not b ≡ false = rw k refl in absurd cc

-- a number's digits begin with 0 only where they are 0 alone
short_zero : (n : ℕ) → n < 2 ^ 64 → IsTrue (eqb (length (decimal n)) 1 || not (eqb (get_or (decimal n) 0 0) 48))
short_zero n small =
    elim (cases_lt n 1) [
      | inl lt ↦ let z : n ≡ 0 = omega arith in rw (z, decimal_digit 0 (omega arith)) refl
      | inr le ↦ let first : 48 < get_or (decimal n) 0 0 = first_decimal n (omega arith) small in
          or_right (eqb (length (decimal n)) 1) (eqb (get_or (decimal n) 0 0) 48) (ne_eqb _ _ (λ e. omega (arith, e, first)))
    ]

pub decimal_is : (n : ℕ) → n < 2 ^ 64 → IsTrue (is_decimal (decimal n))
decimal_is n small =
    and_from (leb 1 (length (decimal n)) && list_all is_digit (decimal n)) _
    (and_from (leb 1 (length (decimal n))) (list_all is_digit (decimal n)) (le-leb _ _ (decimal_nonempty n small)) (digits_decimal own n small))
    (short_zero n small)

pub value-decimal : (n : ℕ) → n < 2 ^ 64 → value (decimal n) ≡ n
value-decimal n small = digits_value-decimal own n small

pub decimal-value : (xs : List ℕ) → IsTrue (is_decimal xs) → value xs < 2 ^ 64 → decimal (value xs) ≡ xs
decimal-value xs h small =
    let b = and_parts (leb 1 (length xs) && list_all is_digit xs) (eqb (length xs) 1 || not (eqb (get_or xs 0 0) 48)) h in
    let c = and_parts (leb 1 (length xs)) (list_all is_digit xs) b.0 in
    decimal-digits_value own xs c.1 (leb-true _ _ c.0) (λ e. eqb-true _ _ (or_left (eqb (length xs) 1) (eqb (get_or xs 0 0) 48) b.1 (eq-eqb _ _ e))) small

pub value_from : (n : ℕ) (xs : List ℕ) → n ≤ value_after n xs
value_from n [] = omega arith
value_from n (x ∷ xs) = let more : n * 10 + (x - 48) ≤ value_after (n * 10 + (x - 48)) xs = value_from (n * 10 + (x - 48)) xs in omega arith

-- one digit more
pub value_more : (n i all : ℕ) (xs : List ℕ) → i < length xs → value_after n (drop i xs) ≡ all
    → value_after (n * 10 + (get_or xs i 0 - 48)) (drop (i + 1) xs) ≡ all
value_more n i all xs lt h = let cut : drop i xs ≡ get_or xs i 0 ∷ drop (suc i) xs = drop-cons xs i 0 lt in rw (add-one i) (ap (value_after n) (sym cut) ∙ h)

-- too many digits
pub value_long : (n i : ℕ) (all : ℕ) (xs : List ℕ) → i < length xs → value_after n (drop i xs) ≡ all → n * 10 + (get_or xs i 0 - 48) ≤ all
value_long n i all xs lt h =
    let more = value_more n i all xs lt h in let le = value_from (n * 10 + (get_or xs i 0 - 48)) (drop (i + 1) xs) in omega (arith, more, le)

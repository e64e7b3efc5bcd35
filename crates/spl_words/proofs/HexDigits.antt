-- The digits of a word, as the crate hex reads and writes them.
use Rattle.std.{specs.{List.list_all, Result.result_ok}, proofs.Common.{◌⊎◌, if◌then◌else◌, get_or, zero, suc, slice_index, eqb-true, ◌≡◌, ◌≢◌, ℕ, ◌+◌, ◌*◌}}
use Rattle.std.proofs.Common.{◌-◌, ◌/◌, ◌%◌, ◌<◌, Bool, true, false, ◌&&◌, ◌==◌, ltb, List, [], ◌∷◌, length, Option, Some, None, Result, Ok, Err, refl, sym}
use Rattle.std.proofs.{Common.{ap, ◌∙◌, arith, inl, inr}, lemmas.Bool.{cases_lt, cases_eq, and_parts, and_from, Decides.nat_tests}}
use Rattle.hex.specs.Hex.{hex_digit_value, decode_pairs, decode_of, encode_lower, encode_with, lower_digits, ◌>>=◌ as ◌>>=ₕ◌}
use Rattle.hex.specs.declared.error.FromHexError.{FromHexError, TheVariants.{InvalidHexCharacter, OddLength, InvalidStringLength, OutOfMemory}}
use Rattle.hex.proofs.HexLemmas.{decode_of-even, decode_of-odd}
use Rattle.spl_words.specs.{HexWords.{is_lower_digit, hex_fault}, Words.{Fails, hex_digit, hex_byte, hex_value, read_hex, read_hex_string, ◌>>=◌}}
use Rattle.spl_words.proofs.HexLaws.{exact_hex, exact_hex_string}

has_value : (c : ℕ) → is_lower_digit c ≡ true → (v : ℕ) × (hex_value c ≡ Some v) × (hex_digit_value c ≡ Some v)
has_value c lower = elim (cases_lt c 58) [
  | inl small ↦ (c - 48, grind (arith, nat_tests), grind (arith, nat_tests))
  | inr large ↦ (c - 87, grind (arith, nat_tests), grind (arith, nat_tests))
]

no_value : (c : ℕ) → is_lower_digit c ≡ false → hex_value c ≡ None
no_value c other = grind (arith, nat_tests)

more : (byte : ℕ) (r : Result (List ℕ) FromHexError) (s : Option (List ℕ)) → result_ok r ≡ s
    → result_ok (r >>=ₕ λ bytes. Ok (byte ∷ bytes)) ≡ (s >>= λ others. Some (byte ∷ others))
more byte (Ok bytes) s e = ap (λ (o : Option (List ℕ)). o >>= λ others. Some (byte ∷ others)) e
more byte (Err fault) s e = ap (λ (o : Option (List ℕ)). o >>= λ others. Some (byte ∷ others)) e

pairs : (i : ℕ) (xs : List ℕ) → list_all is_lower_digit xs ≡ true → result_ok (decode_pairs i xs) ≡ read_hex_string xs
unfolding decode_pairs
pairs i [] lower = refl
pairs i (a ∷ []) lower = refl
pairs i (a ∷ b ∷ xs) lower =
    let first = and_parts (is_lower_digit a) (list_all is_lower_digit (b ∷ xs)) lower in
    let second = and_parts (is_lower_digit b) (list_all is_lower_digit xs) first.1 in
    let (v, ours, theirs) = has_value a first.0 in
    let (w, our, their) = has_value b second.0 in
    rw (theirs, their, ours, our) (more (v * 16 + w) (decode_pairs (i + 2) xs) (read_hex_string xs) (pairs (i + 2) xs second.1))

none_after : {A B : Type 0} (o : Option A) (f : A → Option B) → ((a : A) → f a ≡ None) → (o >>= f) ≡ None
none_after None f none = refl
none_after (Some a) f none = none a

read_odd : (xs : List ℕ) → length xs % 2 ≡ 1 → read_hex_string xs ≡ None
read_odd [] odd = absurd cc
read_odd (a ∷ []) odd = refl
read_odd (a ∷ b ∷ xs) odd = none_after (read_hex (a ∷ b ∷ [])) (λ first. read_hex_string xs >>= λ others. Some (first ∷ others))
    (λ first. ap (λ (o : Option (List ℕ)). o >>= λ others. Some (first ∷ others)) (read_odd xs (omega arith)))

-- lower-case digits are read as `decode` reads them
pub read_is_decode : (xs : List ℕ) → list_all is_lower_digit xs ≡ true → result_ok (decode_of xs) ≡ read_hex_string xs
read_is_decode xs lower = elim (cases_eq (length xs % 2) 1) [
  | inl odd ↦ ap (λ (r : Result (List ℕ) FromHexError). result_ok r) (decode_of-odd xs odd) ∙ sym (read_odd xs odd)
  | inr other ↦ ap (λ (r : Result (List ℕ) FromHexError). result_ok r) (decode_of-even xs (omega arith)) ∙ pairs 0 xs lower
]

read_not : (xs : List ℕ) (e : FromHexError) → list_all is_lower_digit xs ≡ true → decode_of xs ≡ Err e → read_hex_string xs ≡ None
read_not xs e lower fails = sym (read_is_decode xs lower) ∙ ap (λ (r : Result (List ℕ) FromHexError). result_ok r) fails

-- what `decode` doesn't read spells nothing
pub unread : (xs : List ℕ) (e : FromHexError) → list_all is_lower_digit xs ≡ true → (e ≡ OutOfMemory) ⊎ (decode_of xs ≡ Err e)
    → Fails (hex_fault e) (read_hex_string xs)
unread xs OutOfMemory lower fails = tt
unread xs OddLength lower (inl is) = absurd cc
unread xs OddLength lower (inr fails) = read_not xs OddLength lower fails
unread xs InvalidStringLength lower (inl is) = absurd cc
unread xs InvalidStringLength lower (inr fails) = read_not xs InvalidStringLength lower fails
unread xs (InvalidHexCharacter c i) lower (inl is) = absurd cc
unread xs (InvalidHexCharacter c i) lower (inr fails) = read_not xs (InvalidHexCharacter c i) lower fails

-- others spell nothing
pub no_digits : (xs : List ℕ) → list_all is_lower_digit xs ≡ false → read_hex_string xs ≡ None
no_digits [] other = absurd cc
no_digits (a ∷ []) other = refl
no_digits (a ∷ b ∷ xs) other = at (is_lower_digit a) (is_lower_digit b) refl refl (no_digits xs)
  where
    at : (p q : Bool) → is_lower_digit a ≡ p → is_lower_digit b ≡ q → (list_all is_lower_digit xs ≡ false → read_hex_string xs ≡ None)
        → read_hex_string (a ∷ b ∷ xs) ≡ None
    at false q e f none = rw (no_value a e) refl
    at true false e f none = let (v, ours, theirs) = has_value a e in rw (ours, no_value b f) refl
    at true true e f none =
        let (v, ours, theirs) = has_value a e in
        let (w, our, their) = has_value b f in
        let rest : list_all is_lower_digit xs ≡ false =
        sym (ap (λ (p : Bool). p && (is_lower_digit b && list_all is_lower_digit xs)) e ∙ ap (λ (p : Bool). p && list_all is_lower_digit xs) f) ∙ other in
        rw (ours, our, none rest) refl

-- ---- digits written

abbrev agree : ℕ → Bool
agree zero = true
agree (suc n) = (hex_digit n == slice_index lower_digits n) && agree n

agree-at : (n k : ℕ) → agree n ≡ true → k < n → hex_digit k ≡ slice_index lower_digits k
agree-at zero k same lt = absurd (omega arith)
agree-at (suc n) k same lt =
    let parts = and_parts (hex_digit n == slice_index lower_digits n) (agree n) same in
    elim (cases_lt k n) [
      | inl below ↦ agree-at n k parts.1 below
      | inr top ↦
          let e : k ≡ n = omega arith in
          rw e (eqb-true (hex_digit n) (slice_index lower_digits n) parts.0)
    ]

-- a byte is written as `encode` writes it
pub byte_is_encode : (b : ℕ) → b < 256 → encode_lower (b ∷ []) ≡ hex_byte b
unfolding encode_with
byte_is_encode b lt =
    let high = agree-at 16 (b / 16) refl (omega arith) in
    let low = agree-at 16 (b % 16) refl (omega arith) in
    ap (λ (c : ℕ). c ∷ slice_index lower_digits (b % 16) ∷ []) (sym high) ∙ ap (λ (c : ℕ). hex_digit (b / 16) ∷ c ∷ []) (sym low)

-- one byte is read where it is all that is
pub one_read : (xs : List ℕ) (b : ℕ) → read_hex_string xs ≡ Some (b ∷ []) → read_hex xs ≡ Some b
one_read xs b e =
    let spelled = (exact_hex_string.only xs (b ∷ []) e).0 in
    ap read_hex spelled ∙ exact_hex.again b (and_parts (ltb b 256) true (exact_hex_string.only xs (b ∷ []) e).1).0

pub none_read : (xs : List ℕ) → ((bytes : List ℕ) → read_hex_string xs ≡ Some bytes → length bytes ≢ 1) → read_hex xs ≡ None
none_read xs none = at (read_hex xs) refl
  where
    at : (o : Option ℕ) → read_hex xs ≡ o → o ≡ None
    at None e = refl
    at (Some b) e =
        let one = exact_hex.only xs b e in
        absurd (none (b ∷ []) (ap read_hex_string one.0 ∙ exact_hex_string.again (b ∷ []) (and_from (ltb b 256) true one.1 refl)) refl)

pub one_of : (xs : List ℕ) → length xs ≡ 1 → xs ≡ get_or xs 0 0 ∷ []
one_of [] long = absurd cc
one_of (x ∷ []) long = refl
one_of (x ∷ y ∷ xs) long = absurd (omega arith)

-- bytes of another number are refused
pub no_length : (o : Option (List ℕ)) (n : ℕ) → ((bytes : List ℕ) → o ≡ Some bytes → length bytes ≢ n)
    → (o >>= λ bytes. if length bytes == n then Some bytes else None) ≡ None
no_length None n other = refl
no_length (Some bytes) n other = let differs = other bytes refl in grind (arith, nat_tests)

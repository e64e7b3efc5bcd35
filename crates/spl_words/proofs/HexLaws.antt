-- Bytes in two digits.
use Rattle.std.{specs.List.{list_all, flat_map}, proofs.Common.{◌≡◌, ℕ, ◌+◌, ◌*◌, ◌-◌, ◌/◌, ◌%◌, ◌<◌, ◌≤◌, Bool, true, false, cond, ◌&&◌, leb, ltb, IsTrue}}
use Rattle.std.proofs.{Common.{List, [], ◌∷◌, ◌++◌, subst, Option, Some, None, refl, sym, ap, ◌∙◌, arith, inl, inr}, lemmas.Bool.{lt-ltb, ltb-true, leb-true}}
use Rattle.std.proofs.lemmas.Bool.{cases_lt, and_parts, and_from, Decides.nat_tests}
use Rattle.spl_base.specs.Ids.{is_digit, is_node_byte}
use Rattle.spl_words.{specs.Words.{hex_digit, hex_byte, hex_value, read_hex, hex, read_hex_string, hex_string, ◌>>=◌}, proofs.Splits.{lacks, lacks_from}}
use Rattle.spl_words.proofs.{Splits.lacks_append, WordLaws.{IsExact, Lacks, some_is, bind_some}}

taken : {A : Type 0} (b : Bool) (x y : A) → b ≡ true → cond b x y ≡ x
taken true x y e = refl
taken false x y e = absurd cc

left : {A : Type 0} (b : Bool) (x y : A) → b ≡ false → cond b x y ≡ y
left true x y e = absurd cc
left false x y e = refl

below_ten : (n : ℕ) → n < 10 → hex_digit n ≡ 48 + n
below_ten n lt = taken (ltb n 10) (48 + n) (87 + n) (lt-ltb n 10 lt)

from_ten : (n : ℕ) → 10 ≤ n → hex_digit n ≡ 87 + n
from_ten n le = left (ltb n 10) (48 + n) (87 + n) (grind (arith, nat_tests))

digit : (n : ℕ) → n < 10 → is_digit (48 + n) ≡ true
digit n lt = grind (arith, nat_tests)

no_digit : (n : ℕ) → 10 ≤ n → is_digit (87 + n) ≡ false
no_digit n le = grind (arith, nat_tests)

letter : (n : ℕ) → 10 ≤ n → n < 16 → (leb 97 (87 + n) && leb (87 + n) 102) ≡ true
letter n le lt = grind (arith, nat_tests)

less : (m n : ℕ) → (m + n) - m ≡ n
less m n = omega arith

value_of_digit : (n : ℕ) → n < 16 → hex_value (hex_digit n) ≡ Some n
value_of_digit n lt = elim (cases_lt n 10) [
  | inl small ↦ rw (below_ten n small, digit n small, less 48 n) refl
  | inr large ↦ rw (from_ten n large, no_digit n large, letter n large lt, less 87 n) refl
]

again : (b : ℕ) → b < 256 → read_hex (hex_byte b) ≡ Some b
again b lt =
    let high : b / 16 < 16 = omega arith in
    let low : b % 16 < 16 = omega arith in
    let whole : b / 16 * 16 + b % 16 ≡ b = omega arith in
    rw (value_of_digit (b / 16) high, value_of_digit (b % 16) low) (ap (λ (n : ℕ). Some n) whole)

as_letter : (c n : ℕ) (b : Bool) → (leb 97 c && leb c 102) ≡ b → cond b (Some (c - 87)) None ≡ Some n → (c ≡ hex_digit n) × (n < 16)
as_letter c n true in_range e =
    let is : c - 87 ≡ n = some_is (c - 87) n e in
    let b = and_parts (leb 97 c) (leb c 102) in_range in
    let low : 97 ≤ c = leb-true 97 c b.0 in
    let high : c ≤ 102 = leb-true c 102 b.1 in
    let large : 10 ≤ n = omega arith in
    let same : c ≡ 87 + n = omega arith in
    (same ∙ sym (from_ten n large), omega arith)
as_letter c n false in_range e = absurd cc

as_digit : (c n : ℕ) (b : Bool) → is_digit c ≡ b → cond b (Some (c - 48)) (cond (leb 97 c && leb c 102) (Some (c - 87)) None) ≡ Some n
    → (c ≡ hex_digit n) × (n < 16)
as_digit c n true in_range e =
    let is : c - 48 ≡ n = some_is (c - 48) n e in
    let b = and_parts (leb 48 c) (leb c 57) in_range in
    let low : 48 ≤ c = leb-true 48 c b.0 in
    let high : c ≤ 57 = leb-true c 57 b.1 in
    let small : n < 10 = omega arith in
    let same : c ≡ 48 + n = omega arith in
    (same ∙ sym (below_ten n small), omega arith)
as_digit c n false in_range e = as_letter c n (leb 97 c && leb c 102) refl e

digit_of_value : (c n : ℕ) → hex_value c ≡ Some n → (c ≡ hex_digit n) × (n < 16)
digit_of_value c n e = as_digit c n (is_digit c) refl e

two : (a b n : ℕ) (x y : Option ℕ) → hex_value a ≡ x → hex_value b ≡ y → (x >>= λ high. y >>= λ low. Some (high * 16 + low)) ≡ Some n
    → (a ∷ b ∷ [] ≡ hex_byte n) × IsTrue (ltb n 256)
two a b n None y ea eb e = absurd cc
two a b n (Some high) None ea eb e = absurd cc
two a b n (Some high) (Some low) ea eb e =
    let is : high * 16 + low ≡ n = some_is (high * 16 + low) n e in
    let first = digit_of_value a high ea in
    let second = digit_of_value b low eb in
    let below : high < 16 = first.1 in
    let under : low < 16 = second.1 in
    let h : high ≡ n / 16 = omega arith in
    let l : low ≡ n % 16 = omega arith in
    let one : a ≡ hex_digit (n / 16) = first.0 ∙ ap hex_digit h in
    let other : b ≡ hex_digit (n % 16) = second.0 ∙ ap hex_digit l in
    (ap (λ (c : ℕ). c ∷ b ∷ []) one ∙ ap (λ (c : ℕ). hex_digit (n / 16) ∷ c ∷ []) other, lt-ltb n 256 (omega arith))

only : (xs : List ℕ) (n : ℕ) → read_hex xs ≡ Some n → (xs ≡ hex_byte n) × IsTrue (ltb n 256)
only [] n e = absurd cc
only (a ∷ []) n e = absurd cc
only (a ∷ b ∷ []) n e = two a b n (hex_value a) (hex_value b) refl refl e
only (a ∷ b ∷ c ∷ xs) n e = absurd cc

pub exact_hex : IsExact hex
exact_hex = record { again = λ b h. again b (ltb-true b 256 h); only = only }

digit_is_node_byte : (n : ℕ) → n < 16 → is_node_byte (hex_digit n) ≡ true
digit_is_node_byte n lt = elim (cases_lt n 10) [
  | inl small ↦ rw (below_ten n small) (grind (arith, nat_tests))
  | inr large ↦ rw (from_ten n large) (grind (arith, nat_tests))
]

pub hex_lacks : (c : ℕ) → is_node_byte c ≡ false → Lacks c hex
hex_lacks c other = record {
  free = λ b h.
      let small : b < 256 = ltb-true b 256 h in
      let high : b / 16 < 16 = omega arith in
      let low : b % 16 < 16 = omega arith in
      lacks_from is_node_byte c other (hex_byte b)
      (and_from (is_node_byte (hex_digit (b / 16))) _ (digit_is_node_byte (b / 16) high)
      (and_from (is_node_byte (hex_digit (b % 16))) true (digit_is_node_byte (b % 16) low) refl));
}

-- ---- byte strings

string_again : (bs : List ℕ) → IsTrue (list_all (λ b. ltb b 256) bs) → read_hex_string (flat_map hex_byte bs) ≡ Some bs
string_again [] h = refl
string_again (b ∷ bs) h = let t = and_parts (ltb b 256) (list_all (λ b. ltb b 256) bs) h in rw (again b (ltb-true b 256 t.0), string_again bs t.1) refl

string_only : (xs bs : List ℕ) → read_hex_string xs ≡ Some bs → (xs ≡ flat_map hex_byte bs) × IsTrue (list_all (λ b. ltb b 256) bs)
string_only [] bs e =
    let same : [] ≡ bs = some_is [] bs e in subst (λ (zs : List ℕ). ([] ≡ flat_map hex_byte zs) × IsTrue (list_all (λ b. ltb b 256) zs)) same (refl, refl)
string_only (a ∷ []) bs e = absurd cc
string_only (a ∷ b ∷ xs) bs e =
    let first = bind_some (read_hex (a ∷ b ∷ [])) (λ n. read_hex_string xs >>= λ others. Some (n ∷ others)) bs e in
    let rest = bind_some (read_hex_string xs) (λ others. Some (first.0 ∷ others)) bs first.2 in
    let made : List ℕ = first.0 ∷ rest.0 in
    let same : made ≡ bs = some_is made bs rest.2 in
    let one = only (a ∷ b ∷ []) first.0 first.1 in
    let others = string_only xs rest.0 rest.1 in
    let spelled : a ∷ b ∷ xs ≡ hex_byte first.0 ++ flat_map hex_byte rest.0 =
    ap (λ (zs : List ℕ). zs ++ xs) one.0 ∙ ap (λ (zs : List ℕ). hex_byte first.0 ++ zs) others.0 in
    subst (λ (zs : List ℕ). (a ∷ b ∷ xs ≡ flat_map hex_byte zs) × IsTrue (list_all (λ b. ltb b 256) zs)) same
    (spelled, and_from (ltb first.0 256) (list_all (λ b. ltb b 256) rest.0) one.1 others.1)

pub exact_hex_string : IsExact hex_string
exact_hex_string = record { again = string_again; only = string_only }

string_free : (c : ℕ) → is_node_byte c ≡ false → (bs : List ℕ) → IsTrue (list_all (λ b. ltb b 256) bs) → IsTrue (lacks c (flat_map hex_byte bs))
string_free c other [] h = refl
string_free c other (b ∷ bs) h =
    let t = and_parts (ltb b 256) (list_all (λ b. ltb b 256) bs) h in
    lacks_append c (hex_byte b) (flat_map hex_byte bs) ((hex_lacks c other).free b t.0) (string_free c other bs t.1)

pub hex_string_lacks : (c : ℕ) → is_node_byte c ≡ false → Lacks c hex_string
hex_string_lacks c other = record { free = λ bs h. string_free c other bs h }

-- Ids and labels are ASCII.
use Rattle.std.{specs.{List.list_all, Str.IsAscii}, proofs.Common.{◌≡◌, ℕ, ◌<◌, Bool, true, ◌&&◌, List, [], ◌∷◌, take, drop, IsTrue, ◌≤◌, ◌+◌, ◌-◌, ◌==◌}}
use Rattle.std.proofs.{Common.{length, inl, inr, slice_index, arith}, lemmas.{Bool.{cases_lt, Decides.nat_tests}, List.{get_or-take, get_or-drop}}}
use Rattle.std.proofs.lemmas.Str.Ascii.{IsAscii-nil, IsAscii-cons}
use Rattle.spl_agree.proofs.Booleans.{and_left, and_right, eqb_is}
use Rattle.spl_base.specs.Ids.{is_node_byte, is_base62, is_graphic, is_node_id, is_service_id, is_circuit_id, is_label}

all_ascii : (p : ℕ → Bool) → ((b : ℕ) → p b ≡ true → b < 128) → (xs : List ℕ) → list_all p xs ≡ true → IsAscii xs
all_ascii p below [] h = IsAscii-nil
all_ascii p below (x ∷ xs) h = IsAscii-cons x xs (below x (and_left (p x) (list_all p xs) h)) (all_ascii p below xs (and_right (p x) (list_all p xs) h))

node_byte_below : (b : ℕ) → is_node_byte b ≡ true → b < 128
node_byte_below b h = grind (arith, nat_tests)

base62_below : (b : ℕ) → is_base62 b ≡ true → b < 128
base62_below b h = grind (arith, nat_tests)

graphic_below : (b : ℕ) → is_graphic b ≡ true → b < 128
graphic_below b h = grind (arith, nat_tests)

pub node_is_ascii : (xs : List ℕ) → IsTrue (is_node_id xs) → IsAscii xs
node_is_ascii xs h = all_ascii is_node_byte node_byte_below xs (grind arith)

pub label_is_ascii : (xs : List ℕ) → IsTrue (is_label xs) → IsAscii xs
label_is_ascii xs h = all_ascii is_graphic graphic_below xs (grind arith)

pub service_is_ascii : (xs : List ℕ) → IsTrue (is_service_id xs) → IsAscii xs
service_is_ascii xs h = all_ascii is_base62 base62_below xs (grind arith)

after_is_ascii : (xs : List ℕ) (n i : ℕ) → IsAscii (drop n xs) → n ≤ i → slice_index xs i < 128
after_is_ascii xs n i back h =
    let place : n + (i - n) ≡ i = omega arith in
    rw (← place, ← get_or-drop n xs (i - n) 0) (back (i - n))

-- of the bytes before the one at n, that one, and those after it
around_is_ascii : (xs : List ℕ) (n : ℕ) → IsAscii (take n xs) → slice_index xs n < 128 → IsAscii (drop (n + 1) xs) → IsAscii xs
around_is_ascii xs n prefix at back i =
    elim (cases_lt i n) [
      | inl h ↦ rw (← get_or-take n xs i 0 h) (prefix i)
      | inr h ↦
          elim (cases_lt n i) [ inl k ↦ after_is_ascii xs (n + 1) i back (omega arith) | inr k ↦ (let same : i ≡ n = omega arith in rw same at) ]
    ]

-- the tests of a circuit id, with the length left out
circuit_parts : (a b c d : Bool) → (a && b && c && d) ≡ true → (b ≡ true) × ((c ≡ true) × (d ≡ true))
circuit_parts a b c d h =
    (and_right a b (and_left (a && b) c (and_left (a && b && c) d h)), (and_right (a && b) c (and_left (a && b && c) d h), and_right (a && b && c) d h))

pub circuit_is_ascii : (xs : List ℕ) → IsTrue (is_circuit_id xs) → IsAscii xs
circuit_is_ascii xs h =
    let parts = circuit_parts (length xs == 11) (slice_index xs 5 == 45) (list_all is_base62 (take 5 xs)) (list_all is_base62 (drop 6 xs)) h in
    let dash : slice_index xs 5 ≡ 45 = eqb_is (slice_index xs 5) 45 parts.0 in
    around_is_ascii xs 5 (all_ascii is_base62 base62_below (take 5 xs) parts.1.0) (omega arith) (all_ascii is_base62 base62_below (drop 6 xs) parts.1.1)

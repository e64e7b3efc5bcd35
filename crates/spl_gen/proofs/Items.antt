-- Members and nodes, by what each number from 1 to 4 passes; bytes.
use Rattle.std.{specs.{Prelude.{nat_lt, slice_index}, List.list_all, Int.{w32, to_be_bytes, byte_at, bytes_high_first}}, proofs.Common.{ℕ, zero, suc, ◌+◌}}
use Rattle.std.proofs.{Common.{◌%◌, ◌<◌, Bool, true, ◌&&◌, List, [], ◌∷◌, length, IsTrue, refl, arith}, lemmas.{Nat.mod_below, Bool.{and_parts, and_from}}}
use Rattle.std.proofs.lemmas.Bool.{lt-ltb}
use Rattle.spl_gen.specs.{Circuits.{circuit_members, circuit_member}, declared.circuit.Circuit.{Circuit, TheVariants.{First, Second, Third}}}

-- what all items pass, the one at a position passes
pub item_passes : (p : ℕ → Bool) (xs : List ℕ) (i : ℕ) → IsTrue (list_all p xs) → i < length xs → IsTrue (p (slice_index xs i))
item_passes p [] i h lt = absurd (omega arith)
item_passes p (x ∷ xs) zero h lt = (and_parts (p x) (list_all p xs) h).0
item_passes p (x ∷ xs) (suc i) h lt = item_passes p xs i (and_parts (p x) (list_all p xs) h).1 (omega arith)

-- the test passes at each number of a node
abbrev pub PassesNodes : (ℕ → Bool) → Type 0
PassesNodes p = IsTrue (list_all p (1 ∷ 2 ∷ 3 ∷ 4 ∷ []))

pub node_passes : (p : ℕ → Bool) (i : ℕ) → PassesNodes p → i < 4 → IsTrue (p (1 + i))
node_passes p zero h lt = item_passes p (1 ∷ 2 ∷ 3 ∷ 4 ∷ []) 0 h lt
node_passes p (suc zero) h lt = item_passes p (1 ∷ 2 ∷ 3 ∷ 4 ∷ []) 1 h lt
node_passes p (suc (suc zero)) h lt = item_passes p (1 ∷ 2 ∷ 3 ∷ 4 ∷ []) 2 h lt
node_passes p (suc (suc (suc zero))) h lt = item_passes p (1 ∷ 2 ∷ 3 ∷ 4 ∷ []) 3 h lt
node_passes p (suc (suc (suc (suc i)))) h lt = absurd (omega arith)

members_pass : (p : ℕ → Bool) (c : Circuit) → PassesNodes p → IsTrue (list_all p (circuit_members c))
members_pass p First h =
    let h1 = and_parts (p 1) (list_all p (2 ∷ 3 ∷ 4 ∷ [])) h in
    let h2 = and_parts (p 2) (list_all p (3 ∷ 4 ∷ [])) h1.1 in
    and_from (p 1) (p 2 && true) h1.0 (and_from (p 2) true h2.0 refl)
members_pass p Second h = (and_parts (p 1) (list_all p (2 ∷ 3 ∷ 4 ∷ [])) h).1
members_pass p Third h = h

position_below : (c : Circuit) (d : ℕ) → d % length (circuit_members c) < length (circuit_members c)
position_below First d = mod_below d 2 (omega arith)
position_below Second d = mod_below d 3 (omega arith)
position_below Third d = mod_below d 4 (omega arith)

pub member_passes : (p : ℕ → Bool) (c : Circuit) (d : ℕ) → PassesNodes p → IsTrue (p (circuit_member c d))
member_passes p c d h = item_passes p (circuit_members c) (d % length (circuit_members c)) (members_pass p c h) (position_below c d)

byte_below : (i n : ℕ) → IsTrue (nat_lt (byte_at i n) 256)
byte_below zero n = lt-ltb (byte_at 0 n) 256 (mod_below n 256 (omega arith))
byte_below (suc i) n = lt-ltb (byte_at (suc i) n) 256 (mod_below _ 256 (omega arith))

bytes_below : (k n : ℕ) → IsTrue (list_all (λ b. nat_lt b 256) (bytes_high_first k n))
bytes_below zero n = refl
bytes_below (suc k) n = and_from (nat_lt (byte_at k n) 256) (list_all (λ b. nat_lt b 256) (bytes_high_first k n)) (byte_below k n) (bytes_below k n)

pub value_below : (n : ℕ) → IsTrue (list_all (λ b. nat_lt b 256) (to_be_bytes w32 n))
value_below n = bytes_below 4 n

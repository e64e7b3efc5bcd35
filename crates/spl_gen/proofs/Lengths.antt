-- Each generated line is short.
use Rattle.std.{specs.{Prelude.{nat_le, codes, decimal}, Fmt.digits, List.{list_all, flat_map}, Int.{w32, to_be_bytes}}, proofs.Common.{◌≡◌, ℕ, ◌+◌, ◌*◌}}
use Rattle.std.proofs.{Common.{◌%◌, ◌^◌, ◌<◌, ◌≤◌, Bool, true, ◌&&◌, List, [], ◌∷◌, ◌++◌, length, IsTrue, refl, arith, length-append}, lemmas.Nat.mod_below}
use Rattle.std.proofs.lemmas.{Bool.{and_from, le-leb}, Fmt.length-decimal-le}
use Rattle.spl_base.specs.declared.limit.TheConstants.{LONGEST_LINE}
use Rattle.spl_wire.specs.declared.event.Event.TheVariants.{Submit}
use Rattle.spl_sched.specs.{Grammar.spelling, declared.line.Line.Line}
use Rattle.spl_sched.specs.declared.line.Line.TheVariants as line
use Rattle.spl_words.specs.Words.{hex_byte}
use Rattle.spl_gen.specs.{Draws.{next_state, draw}, Circuits.{generated_node, circuits, id, circuit_member, batch_circuit}, Batches.generated_address}
use Rattle.spl_gen.specs.{Batches.generated_batch, Generated.{line_at, opening_lines, submitted_lines, restart, restart_lines, generated}}
use Rattle.spl_gen.{specs.declared.circuit.Circuit.{Circuit, TheVariants.{First, Second, Third}}, proofs.{Items.node_passes, Bounds.{Passes, both}}}
use Rattle.spl_gen.proofs.Bounds.{generated_pass, restarted_pass}

abbrev is_short : Line → Bool
is_short l = nat_le (length (spelling l)) LONGEST_LINE

-- a word, a byte and the bytes after them
after_word : (word rest : List ℕ) (c : ℕ) → length (word ++ c ∷ rest) ≡ length word + 1 + length rest
after_word word rest c = omega (arith, length-append word (c ∷ rest))

hex_length : (bs : List ℕ) → length (flat_map hex_byte bs) ≡ 2 * length bs
hex_length [] = refl
hex_length (b ∷ bs) = let more = hex_length bs in omega arith

id_length : (c : Circuit) → length (id c) ≡ 11
id_length First = refl
id_length Second = refl
id_length Third = refl

calm_short : (c : Circuit) → IsTrue (is_short (line.Calm (id c) 8))
calm_short c =
    let number : length (decimal 8) ≤ 20 = length-decimal-le 20 8 (omega arith) (omega arith) (omega arith) in
    le-leb _ LONGEST_LINE (omega (arith, number, id_length c, after_word (codes "calm") (id c ++ 32 ∷ decimal 8) 32, after_word (id c) (decimal 8) 32))

-- the words of a batch after its number
abbrev written : ℕ → ℕ → List ℕ
written place value = codes "set:" ++ (flat_map hex_byte (generated_address place).0 ++ 61 ∷ flat_map hex_byte (to_be_bytes w32 value))

written_length : (place value : ℕ) → length (written place value) ≡ 83
written_length place value =
    let first : length (generated_address place).0 ≡ 35 = refl in
    let second : length (to_be_bytes w32 value) ≡ 4 = refl in
    omega (
      arith,
      first,
      second,
      hex_length (generated_address place).0,
      hex_length (to_be_bytes w32 value),
      after_word (flat_map hex_byte (generated_address place).0) (flat_map hex_byte (to_be_bytes w32 value)) 61,
      length-append (codes "set:") (flat_map hex_byte (generated_address place).0 ++ 61 ∷ flat_map hex_byte (to_be_bytes w32 value)),
    )

-- NODE ID NUMBER and the words after
submit_length : (n i k rest : List ℕ) → length n ≡ 2 → length i ≡ 11 → length k ≤ 20 → length rest ≤ 100
    → length (codes "submit" ++ 32 ∷ (n ++ 32 ∷ (i ++ 32 ∷ (k ++ 32 ∷ rest)))) ≤ LONGEST_LINE
submit_length n i k rest hn hi hk hr =
    omega (
      arith,
      after_word (codes "submit") (n ++ 32 ∷ (i ++ 32 ∷ (k ++ 32 ∷ rest))) 32,
      after_word n (i ++ 32 ∷ (k ++ 32 ∷ rest)) 32,
      after_word i (k ++ 32 ∷ rest) 32,
      after_word k rest 32,
    )

submit_short : (c : Circuit) (k d place value : ℕ) → k < 2 ^ 64 → IsTrue (is_short (line_at c (Submit (generated_batch k place value)) (circuit_member c d)))
submit_short c k d place value lt =
    let rest = codes "tx" ++ 32 ∷ (codes "out:" ++ 32 ∷ written place value) in
    let size : length rest ≤ 100 = omega (arith, written_length place value) in
    le-leb _ LONGEST_LINE (submit_length (generated_node (circuit_member c d)) (id c) (decimal k) rest refl (id_length c)
    (length-decimal-le 20 k (omega arith) (omega arith) lt) size)

submitted_short : (k x : ℕ) → k < 2 ^ 64 → IsTrue (list_all is_short (submitted_lines k x))
submitted_short k x lt =
    let c : Circuit = batch_circuit k in
    let submit : Line = line_at c (Submit (generated_batch k (draw (next_state x)) (draw (next_state (next_state x))))) (circuit_member c (draw x)) in
    and_from (is_short submit) (is_short (line.Calm (id c) 8) && true)
    (submit_short c k (draw x) (draw (next_state x)) (draw (next_state (next_state x))) lt)
    (and_from (is_short (line.Calm (id c) 8)) true (calm_short c) refl)

restart_short : (d : ℕ) → IsTrue (list_all is_short (restart (1 + d % 4)))
restart_short d =
    let below = mod_below d 4 (omega arith) in
    let n : List ℕ = generated_node (1 + d % 4) in
    let stop : IsTrue (is_short (line.Stop n)) = node_passes (λ i. is_short (line.Stop (generated_node i))) (d % 4) refl below in
    let start : IsTrue (is_short (line.Start n)) = node_passes (λ i. is_short (line.Start (generated_node i))) (d % 4) refl below in
    and_from (is_short (line.Stop n)) (is_short (line.Start n) && true) stop (and_from (is_short (line.Start n)) true start refl)

openings_short : IsTrue (list_all is_short (flat_map opening_lines circuits))
unfolding digits
openings_short = refl

lines_short : Passes (2 ^ 64) is_short
lines_short = record {
  opened = openings_short;
  batch = λ k x lt. both is_short (submitted_lines k x) (restart_lines k (next_state (next_state (next_state x)))) (submitted_short k x lt)
      (restarted_pass is_short restart_short k (next_state (next_state (next_state x))));
  roots = refl;
}

pub generated_short : (n seed : ℕ) → n < 2 ^ 64 → IsTrue (list_all is_short (generated n seed))
generated_short n seed lt = generated_pass (2 ^ 64) is_short lines_short n seed lt

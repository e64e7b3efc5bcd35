-- No generated line has a line feed.
use Rattle.std.{specs.{Prelude.{◌==◌, codes, decimal}, Fmt.digits, List.{list_all, flat_map, join_with_byte}, Int.{w32, to_be_bytes}}, proofs.Common.◌≡◌}
use Rattle.std.proofs.Common.{◌≢◌, ℕ, ◌+◌, ◌/◌, ◌%◌, ◌^◌, ◌<◌, Bool, true, false, not, ◌&&◌, ltb, cond, List, [], ◌∷◌, ◌++◌, IsTrue, refl, ap, ◌∙◌, arith}
use Rattle.std.proofs.lemmas.{Nat.mod_below, Bool.{and_parts, and_from, ne_eqb}, Fmt.decimal_by_steps, List.Folds.list_all-append}
use Rattle.spl_wire.specs.declared.event.Event.TheVariants.{Submit}
use Rattle.spl_sched.specs.{Grammar.{spelling, words_of}, declared.line.Line.Line}
use Rattle.spl_sched.specs.declared.line.Line.TheVariants as line
use Rattle.spl_words.specs.Words.{hex_digit, hex_byte}
use Rattle.spl_gen.specs.{Draws.{next_state, draw}, Circuits.{generated_node, circuits, id, circuit_member, batch_circuit}, Batches.generated_address}
use Rattle.spl_gen.specs.{Batches.generated_batch, Generated.{line_at, opening_lines, submitted_lines, restart, restart_lines, generated, lacks_feed}}
use Rattle.spl_gen.{specs.declared.circuit.Circuit.{Circuit, TheVariants.{First, Second, Third}}, proofs.{Items.{node_passes, member_passes}, Bounds.Passes}}
use Rattle.spl_gen.proofs.Bounds.{both, generated_pass, restarted_pass}

-- ---- bytes

free-append : (xs ys : List ℕ) → IsTrue (lacks_feed xs) → IsTrue (lacks_feed ys) → IsTrue (lacks_feed (xs ++ ys))
free-append xs ys h k = list_all-append (λ b. not (b == 10)) xs ys ∙ and_from (lacks_feed xs) (lacks_feed ys) h k

free_byte : (b : ℕ) → b ≢ 10 → IsTrue (not (b == 10))
free_byte b other = ap not (ne_eqb b 10 other)

-- words with a space between each two
free_join : (c : ℕ) → c ≢ 10 → (ws : List (List ℕ)) → IsTrue (list_all lacks_feed ws) → IsTrue (lacks_feed (join_with_byte c ws))
free_join c other [] h = refl
free_join c other (x ∷ []) h = (and_parts (lacks_feed x) true h).0
free_join c other (x ∷ y ∷ ws) h =
    let b = and_parts (lacks_feed x) (list_all lacks_feed (y ∷ ws)) h in
    free-append x (c ∷ join_with_byte c (y ∷ ws)) b.0
    (and_from (not (c == 10)) (lacks_feed (join_with_byte c (y ∷ ws))) (free_byte c other) (free_join c other (y ∷ ws) b.1))

free_digit : (n : ℕ) → IsTrue (lacks_feed ((48 + n) ∷ []))
free_digit n = and_from (not ((48 + n) == 10)) true (free_byte (48 + n) (λ is. omega arith)) refl

free_decimal : (n : ℕ) → n < 2 ^ 64 → IsTrue (lacks_feed (decimal n))
free_decimal n lt =
    decimal_by_steps (λ n ds. IsTrue (lacks_feed ds)) (λ n less. free_digit n)
    (λ n ds more h. free-append ds ((48 + n % 10) ∷ []) h (free_digit (n % 10))) n lt

hex_other : (n : ℕ) (b : Bool) → ltb n 10 ≡ b → cond b (48 + n) (87 + n) ≢ 10
hex_other n true test = λ is. omega arith
hex_other n false test = λ is. omega arith

free_hex_digit : (n : ℕ) → IsTrue (not (hex_digit n == 10))
free_hex_digit n = free_byte (hex_digit n) (hex_other n (ltb n 10) refl)

free_hex : (bs : List ℕ) → IsTrue (lacks_feed (flat_map hex_byte bs))
free_hex [] = refl
free_hex (b ∷ bs) =
    and_from (not (hex_digit (b / 16) == 10)) (lacks_feed (hex_digit (b % 16) ∷ flat_map hex_byte bs)) (free_hex_digit (b / 16))
    (and_from (not (hex_digit (b % 16) == 10)) (lacks_feed (flat_map hex_byte bs)) (free_hex_digit (b % 16)) (free_hex bs))

-- ---- lines

abbrev is_free : Line → Bool
is_free l = lacks_feed (spelling l)

free_line : (l : Line) → IsTrue (list_all lacks_feed (words_of l)) → IsTrue (is_free l)
free_line l h = free_join 32 (λ is. omega arith) (words_of l) h

free_id : (c : Circuit) → IsTrue (lacks_feed (id c))
free_id First = refl
free_id Second = refl
free_id Third = refl

-- set:ADDRESS=VALUE
free_set : (xs ys : List ℕ) → IsTrue (lacks_feed (codes "set:" ++ join_with_byte 61 (flat_map hex_byte xs ∷ flat_map hex_byte ys ∷ [])))
free_set xs ys = free-append (codes "set:") (join_with_byte 61 (flat_map hex_byte xs ∷ flat_map hex_byte ys ∷ [])) refl
    (free_join 61 (λ is. omega arith) (flat_map hex_byte xs ∷ flat_map hex_byte ys ∷ [])
    (and_from (lacks_feed (flat_map hex_byte xs)) (lacks_feed (flat_map hex_byte ys) && true) (free_hex xs)
    (and_from (lacks_feed (flat_map hex_byte ys)) true (free_hex ys) refl)))

free_calm : (c : Circuit) → IsTrue (is_free (line.Calm (id c) 8))
free_calm c =
    free_line (line.Calm (id c) 8)
    (and_from (lacks_feed (id c)) (lacks_feed (decimal 8) && true) (free_id c) (and_from (lacks_feed (decimal 8)) true (free_decimal 8 (omega arith)) refl))

free_submit : (c : Circuit) (k d place value : ℕ) → k < 2 ^ 64 → IsTrue (is_free (line_at c (Submit (generated_batch k place value)) (circuit_member c d)))
free_submit c k d place value lt =
    let n = generated_node (circuit_member c d) in
    let set = free_set (generated_address place).0 (to_be_bytes w32 value) in
    let last = and_from _ true set refl in
    free_line (line_at c (Submit (generated_batch k place value)) (circuit_member c d))
    (and_from (lacks_feed n) _ (member_passes (λ i. lacks_feed (generated_node i)) c d refl)
    (and_from (lacks_feed (id c)) _ (free_id c)
    (and_from (lacks_feed (decimal k)) _ (free_decimal k lt) last)))

submitted_free : (k x : ℕ) → k < 2 ^ 64 → IsTrue (list_all is_free (submitted_lines k x))
submitted_free k x lt =
    let c : Circuit = batch_circuit k in
    let submit : Line = line_at c (Submit (generated_batch k (draw (next_state x)) (draw (next_state (next_state x))))) (circuit_member c (draw x)) in
    and_from (is_free submit) (is_free (line.Calm (id c) 8) && true) (free_submit c k (draw x) (draw (next_state x)) (draw (next_state (next_state x))) lt)
    (and_from (is_free (line.Calm (id c) 8)) true (free_calm c) refl)

restart_free : (d : ℕ) → IsTrue (list_all is_free (restart (1 + d % 4)))
restart_free d =
    let below = mod_below d 4 (omega arith) in
    let n : List ℕ = generated_node (1 + d % 4) in
    let stop : IsTrue (is_free (line.Stop n)) = node_passes (λ i. is_free (line.Stop (generated_node i))) (d % 4) refl below in
    let start : IsTrue (is_free (line.Start n)) = node_passes (λ i. is_free (line.Start (generated_node i))) (d % 4) refl below in
    and_from (is_free (line.Stop n)) (is_free (line.Start n) && true) stop (and_from (is_free (line.Start n)) true start refl)

openings_free : IsTrue (list_all is_free (flat_map opening_lines circuits))
unfolding digits
openings_free = refl

lines_free : Passes (2 ^ 64) is_free
lines_free = record {
  opened = openings_free;
  batch = λ k x lt. both is_free (submitted_lines k x) (restart_lines k (next_state (next_state (next_state x)))) (submitted_free k x lt)
      (restarted_pass is_free restart_free k (next_state (next_state (next_state x))));
  roots = refl;
}

pub generated_free : (n seed : ℕ) → n < 2 ^ 64 → IsTrue (list_all is_free (generated n seed))
generated_free n seed lt = generated_pass (2 ^ 64) is_free lines_free n seed lt

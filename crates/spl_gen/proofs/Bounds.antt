-- Each generated line is within its bounds, and names only the four nodes.
use Rattle.std.{specs.{Prelude.{nat_lt, ◌==◌, if◌then◌else◌}, List.{list_all, flat_map}, Int.{w32, to_be_bytes}}, proofs.Common.{◌≡◌, ℕ, zero, suc, ◌+◌, ◌%◌}}
use Rattle.std.proofs.{Common.{◌^◌, ◌<◌, Bool, true, false, ◌&&◌, List, [], ◌∷◌, ◌++◌, map, IsTrue, Option, Some, refl, ap, ◌∙◌, arith}, lemmas.Nat.mod_below}
use Rattle.std.proofs.lemmas.{Bool.{and_parts, and_from, lt-ltb}, List.Folds.list_all-append}
use Rattle.spl_base.specs.Ids.{is_node_id, is_circuit_id}
use Rattle.spl_circuit.specs.Nodes.{has_node}
use Rattle.spl_wire.specs.declared.event.Event.TheVariants.{Submit}
use Rattle.spl_sched.specs.{Transactions.{is_bytes, is_address, is_transaction}, Grammar.{is_line, is_batch, line_nodes, spelling, line_of}}
use Rattle.spl_sched.specs.declared.line.Line.{Line}
use Rattle.spl_gen.specs.{Draws.{next_state, draw}, Circuits.{generated_node, nodes, circuits, id, circuit_member, batch_circuit}, Batches.generated_address}
use Rattle.spl_gen.specs.{Batches.{write, generated_batch}, Generated.{line_at, settled, opening_lines, submitted_lines, restart, restart_lines, batch_lines}}
use Rattle.spl_gen.specs.{Generated.{state, batches, roots, generated}, declared.circuit.Circuit.{Circuit, TheVariants.{First, Second, Third}}}
use Rattle.spl_gen.proofs.Items.{node_passes, member_passes, value_below}

-- a test that the lines pass which don't hang on the draws, and each batch's lines
pub record Passes (most : ℕ) (p : Line → Bool) : Type 0 where
  pub opened : IsTrue (list_all p (flat_map opening_lines circuits))
  pub batch : (k x : ℕ) → k < most → IsTrue (list_all p (batch_lines k x))
  pub roots : IsTrue (list_all p (flat_map roots circuits))

pub both : {A : Type 0} (p : A → Bool) (xs ys : List A) → IsTrue (list_all p xs) → IsTrue (list_all p ys) → IsTrue (list_all p (xs ++ ys))
both p xs ys h k = list_all-append p xs ys ∙ and_from (list_all p xs) (list_all p ys) h k

batches_pass : (most : ℕ) (p : Line → Bool) → Passes most p → (n seed : ℕ) → n < most → IsTrue (list_all p (batches n seed))
batches_pass most p h zero seed lt = refl
batches_pass most p h (suc n) seed lt =
    both p (batches n seed) (batch_lines (suc n) (state n seed)) (batches_pass most p h n seed (omega arith)) (h.batch (suc n) (state n seed) lt)

pub generated_pass : (most : ℕ) (p : Line → Bool) → Passes most p → (n seed : ℕ) → n < most → IsTrue (list_all p (generated n seed))
generated_pass most p h n seed lt =
    both p (flat_map opening_lines circuits ++ batches n seed) (flat_map roots circuits)
    (both p (flat_map opening_lines circuits) (batches n seed) h.opened (batches_pass most p h n seed lt)) h.roots

-- ---- bounds

id_fits : (c : Circuit) → IsTrue (is_circuit_id (id c))
id_fits First = refl
id_fits Second = refl
id_fits Third = refl

node_fits : (c : Circuit) (d : ℕ) → IsTrue (is_node_id (generated_node (circuit_member c d)))
node_fits c d = member_passes (λ i. is_node_id (generated_node i)) c d refl

address_fits : (d : ℕ) → IsTrue (is_address (generated_address d))
address_fits d = and_from (nat_lt (d % 16) 256) true (lt-ltb (d % 16) 256 (let h : d % 16 < 16 = mod_below d 16 (omega arith) in omega arith)) refl

write_fits : (place value : ℕ) → IsTrue (list_all is_transaction (write place value ∷ []))
write_fits place value =
    let set : IsTrue (is_address (generated_address place) && is_bytes (to_be_bytes w32 value)) =
    and_from (is_address (generated_address place)) (is_bytes (to_be_bytes w32 value)) (address_fits place) (value_below value) in
    and_from (is_transaction (write place value)) true (and_from (is_address (generated_address place) && is_bytes (to_be_bytes w32 value)) true set refl) refl

submit_fits : (c : Circuit) (k d place value : ℕ) → k < 2 ^ 64 → IsTrue (is_line (line_at c (Submit (generated_batch k place value)) (circuit_member c d)))
submit_fits c k d place value lt =
    and_from (is_node_id (generated_node (circuit_member c d)) && is_circuit_id (id c)) (is_batch (generated_batch k place value))
    (and_from (is_node_id (generated_node (circuit_member c d))) (is_circuit_id (id c)) (node_fits c d) (id_fits c))
    (and_from (nat_lt k (2 ^ 64)) (list_all is_transaction (write place value ∷ [])) (lt-ltb k (2 ^ 64) lt) (write_fits place value))

settled_fit : (c : Circuit) (l : Line) → IsTrue (is_line l) → IsTrue (list_all is_line (settled c l))
settled_fit c l h =
    let calm : IsTrue (is_circuit_id (id c) && true) = and_from (is_circuit_id (id c)) true (id_fits c) refl in
    and_from (is_line l) (is_circuit_id (id c) && true && true) h (and_from (is_circuit_id (id c) && true) true calm refl)

submitted_fit : (k x : ℕ) → k < 2 ^ 64 → IsTrue (list_all is_line (submitted_lines k x))
submitted_fit k x lt =
    let c : Circuit = batch_circuit k in
    settled_fit c (line_at c (Submit (generated_batch k (draw (next_state x)) (draw (next_state (next_state x))))) (circuit_member c (draw x)))
    (submit_fits c k (draw x) (draw (next_state x)) (draw (next_state (next_state x))) lt)

restart_fits : (d : ℕ) → IsTrue (list_all is_line (restart (1 + d % 4)))
restart_fits d =
    let n : List ℕ = generated_node (1 + d % 4) in
    let h : IsTrue (is_node_id n) = node_passes (λ i. is_node_id (generated_node i)) (d % 4) refl (mod_below d 4 (omega arith)) in
    and_from (is_node_id n) (is_node_id n && true) h (and_from (is_node_id n) true h refl)

-- where a test passes a restart, it passes what stands after each batch
pub restarted_pass : (p : Line → Bool) → ((d : ℕ) → IsTrue (list_all p (restart (1 + d % 4)))) → (k x : ℕ) → IsTrue (list_all p (restart_lines k x))
restarted_pass p h k x = elim (k % 50 == 0) as (λ b. IsTrue (list_all p (if b then restart (1 + draw x % 4) else []))) [ true ↦ h (draw x) | false ↦ refl ]

lines_fit : Passes (2 ^ 64) is_line
lines_fit = record {
  opened = refl;
  batch = λ k x lt. both is_line (submitted_lines k x) (restart_lines k (next_state (next_state (next_state x)))) (submitted_fit k x lt)
      (restarted_pass is_line restart_fits k (next_state (next_state (next_state x))));
  roots = refl;
}

pub generated_fit : (n seed : ℕ) → n < 2 ^ 64 → IsTrue (list_all is_line (generated n seed))
generated_fit n seed lt = generated_pass (2 ^ 64) is_line lines_fit n seed lt

-- ---- nodes

abbrev pub names_known : Line → Bool
names_known l = list_all (has_node nodes) (line_nodes l)

submitted_known : (k x : ℕ) → IsTrue (list_all names_known (submitted_lines k x))
submitted_known k x =
    let c : Circuit = batch_circuit k in
    let n : List ℕ = generated_node (circuit_member c (draw x)) in
    let known : IsTrue (has_node nodes n) = member_passes (λ i. has_node nodes (generated_node i)) c (draw x) refl in
    and_from (has_node nodes n && true) true (and_from (has_node nodes n) true known refl) refl

restart_known : (d : ℕ) → IsTrue (list_all names_known (restart (1 + d % 4)))
restart_known d =
    let n : List ℕ = generated_node (1 + d % 4) in
    let known : IsTrue (has_node nodes n) = node_passes (λ i. has_node nodes (generated_node i)) (d % 4) refl (mod_below d 4 (omega arith)) in
    let line : IsTrue (has_node nodes n && true) = and_from (has_node nodes n) true known refl in
    and_from (has_node nodes n && true) (has_node nodes n && true && true) line (and_from (has_node nodes n && true) true line refl)

lines_known : (most : ℕ) → Passes most names_known
lines_known most = record {
  opened = refl;
  batch = λ k x lt. both names_known (submitted_lines k x) (restart_lines k (next_state (next_state (next_state x)))) (submitted_known k x)
      (restarted_pass names_known restart_known k (next_state (next_state (next_state x))));
  roots = refl;
}

pub generated_known : (n seed : ℕ) → IsTrue (list_all names_known (generated n seed))
generated_known n seed = generated_pass (suc n) names_known (lines_known (suc n)) n seed (omega arith)

-- ---- reading

-- where each line within its bounds is read back from its spelling, all of these are
pub all_read : ((l : Line) → IsTrue (is_line l) → line_of (spelling l) ≡ Some l) → (ls : List Line) → IsTrue (list_all is_line ls)
    → map (λ l. line_of (spelling l)) ls ≡ map Some ls
all_read read [] h = refl
all_read read (l ∷ ls) h =
    let parts = and_parts (is_line l) (list_all is_line ls) h in
    let first : line_of (spelling l) ≡ Some l = read l parts.0 in
    let others : map (λ l. line_of (spelling l)) ls ≡ map Some ls = all_read read ls parts.1 in
    ap (λ (o : Option Line). o ∷ map (λ l. line_of (spelling l)) ls) first ∙ ap (λ (os : List (Option Line)). Some l ∷ os) others

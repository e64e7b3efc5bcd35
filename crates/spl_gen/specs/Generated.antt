-- Generated schedules (docs/RULES.md, Generated schedules).
use Rattle.std.specs.{Prelude.{ℕ, zero, suc, ◌+◌, ◌%◌, ◌==◌, Bool, true, not, List, [], ◌∷◌, ◌++◌, drop, slice_index, if◌then◌else◌}, List.flat_map}
use Rattle.std.specs.List.{list_all}
use Rattle.spl_wire.specs.declared.event.Event.{Event, TheVariants.{Propose, Vote, Submit, Root}}
use Rattle.spl_sched.specs.{Grammar.spelling, declared.line.{Line.Line, Step.TheVariants.At}}
use Rattle.spl_sched.specs.declared.line.Line.TheVariants as line
use Rattle.spl_gen.specs.{Draws.{next_state, draw}, Circuits.{generated_node, circuits, id, circuit_members, circuit_member, generated_definition}}
use Rattle.spl_gen.specs.{Circuits.batch_circuit, Batches.generated_batch, declared.circuit.Circuit.Circuit}

-- the event comes at the node of this number
abbrev pub line_at : Circuit → Event → ℕ → Line
line_at c e i = line.Step (At (generated_node i) (id c) e)

-- a line of a circuit, and a calm after it
abbrev pub settled : Circuit → Line → List Line
settled c l = l ∷ line.Calm (id c) 8 ∷ []

-- a member accepts the circuit
abbrev pub accepted : Circuit → ℕ → List Line
accepted c i = settled c (line_at c (Vote true) i)

-- the first member proposes the circuit, and each further one accepts it
abbrev pub opening_lines : Circuit → List Line
opening_lines c =
    settled c (line_at c (Propose (generated_definition c)) (slice_index (circuit_members c) 0)) ++ flat_map (accepted c) (drop 1 (circuit_members c))

-- batch k by the three draws from this state on: of the member, the address and the value
abbrev pub submitted_lines : ℕ → ℕ → List Line
submitted_lines k x =
    let c : Circuit = batch_circuit k in
    settled c (line_at c (Submit (generated_batch k (draw (next_state x)) (draw (next_state (next_state x))))) (circuit_member c (draw x)))

-- the node of this number stops and starts
abbrev pub restart : ℕ → List Line
restart i = line.Stop (generated_node i) ∷ line.Start (generated_node i) ∷ []

-- one does, by one draw more, after each fiftieth batch
abbrev pub restart_lines : ℕ → ℕ → List Line
restart_lines k x = if k % 50 == 0 then restart (1 + draw x % 4) else []

abbrev pub restarted_state : ℕ → ℕ → ℕ
restarted_state k x = if k % 50 == 0 then next_state x else x

-- the lines of batch k, and the state after them
abbrev pub batch_lines : ℕ → ℕ → List Line
batch_lines k x = submitted_lines k x ++ restart_lines k (next_state (next_state (next_state x)))

abbrev pub batch_state : ℕ → ℕ → ℕ
batch_state k x = restarted_state k (next_state (next_state (next_state x)))

-- the state after the first n batches, and their lines
abbrev pub state : ℕ → ℕ → ℕ
state zero seed = seed
state (suc n) seed = batch_state (suc n) (state n seed)

abbrev pub batches : ℕ → ℕ → List Line
batches zero seed = []
batches (suc n) seed = batches n seed ++ batch_lines (suc n) (state n seed)

-- a member is asked for the root
abbrev pub root_lines : Circuit → ℕ → List Line
root_lines c i = line_at c Root i ∷ []

abbrev pub roots : Circuit → List Line
roots c = flat_map (root_lines c) (circuit_members c)

abbrev pub generated : ℕ → ℕ → List Line
generated n seed = flat_map opening_lines circuits ++ batches n seed ++ flat_map roots circuits

-- bytes without a line feed
abbrev pub lacks_feed : List ℕ → Bool
lacks_feed bytes = list_all (λ b. not (b == 10)) bytes

-- each line with its line feed
unfoldable pub text_of : List Line → List ℕ
text_of ls = flat_map (λ l. spelling l ++ 10 ∷ []) ls

abbrev pub generated_text : ℕ → ℕ → List ℕ
generated_text n seed = text_of (generated n seed)

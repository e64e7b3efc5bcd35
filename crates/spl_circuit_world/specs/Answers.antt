-- What a line is answered, and how many events it has (docs/RULES.md, Circuits as worlds, Proofs, Limits).
use Rattle.std.specs.{Prelude.{ℕ, Result, Ok, Err, Bool, true, false, List, [], ◌∷◌, ◌++◌, if◌then◌else◌, Option, Some, None, ◌+◌, length}, List.filter}
use Rattle.std.specs.Str.{bytes_eq}
use Rattle.spl_proof.specs.{Accepted.accepts, Forms.{proof, whole_of}, declared.proof.Proof.Proof}
use Rattle.spl_wire.specs.declared.{answer.{Answer.Answer, Bit.Bit}, change.Change.Change}
use Rattle.spl_wire.specs.declared.answer.Answer.TheVariants as answer
use Rattle.spl_wire.specs.declared.answer.Refusal.TheVariants as refusal
use Rattle.spl_wire.specs.declared.answer.Bit.TheVariants as bit
use Rattle.spl_sched.specs.{Grammar.{line_circuit, step_circuit, step_node}, declared.line.{Line.Line, ProofCheck.ProofCheck, Step.Step}}
use Rattle.spl_sched.specs.declared.line.Line.TheVariants as line
use Rattle.spl_circuit.specs.Nodes.{NodeId, CircuitId, has_node, sorted}
use Rattle.spl_cell_rules.specs.Cells.{is_bound}
use Rattle.spl_circuit_world.specs.Worlds.{Origin, World, Occurrence, Steps, Stops, Starts, Halts, first_world, step_plan, step_world, circuit_happens}
use Rattle.spl_circuit_world.specs.{Calm.calm, Projection.{Ran, names, concerned, own_among, own}}

-- by what is read of the bytes
abbrev pub checked : ProofCheck → Result Proof ℕ → Answer
checked c (Ok p) = answer.Checked (accepts c.root c.address c.claim p)
checked c (Err at) = answer.Refused (refusal.NotProof at)

-- no node, and no line before, has a part in it
abbrev pub check_answer : ProofCheck → Answer
check_answer c = checked c (whole_of proof c.bytes)

-- ---- a line in a world

-- what became of the record of these changes
abbrev pub bit_of : Bool → List Change → Bit
bit_of kept [] = bit.Nothing
bit_of kept (x ∷ xs) = if kept then bit.Kept else bit.Lost

-- a node stops in a step
abbrev pub halt_answer : (Bit → Answer) → World → Step → Bool → Answer
halt_answer say w s kept = if w.up (step_node s) then say (bit_of kept (step_plan w s).changes) else answer.Refused refusal.Down

-- the answer to a line, in the world of the circuit that it names; `roll` is what roll answers at each node
abbrev pub line_answer : (CircuitId → World) → (NodeId → Answer) → Line → Bool → Answer
line_answer worlds roll (line.Step s) kept = (step_plan (worlds (step_circuit s)) s).answer
line_answer worlds roll (line.Calm c k) kept = answer.Calm k
line_answer worlds roll (line.Stop n) kept = answer.Power false
line_answer worlds roll (line.Start n) kept = answer.Power true
line_answer worlds roll (line.Roll n) kept = roll n
line_answer worlds roll (line.Check c) kept = check_answer c
line_answer worlds roll (line.Cut calls fill s) kept = halt_answer answer.Cut (worlds (step_circuit s)) s kept
line_answer worlds roll (line.Fail call s) kept = halt_answer answer.Fault (worlds (step_circuit s)) s kept

-- the world of a circuit after a line of its own
abbrev pub line_world : World → Line → Bool → World
line_world w (line.Step s) kept = step_world w s
line_world w (line.Calm c k) kept = (calm c w k).world
line_world w (line.Stop n) kept = circuit_happens w (Stops n)
line_world w (line.Start n) kept = circuit_happens w (Starts n)
line_world w (line.Roll n) kept = w
line_world w (line.Check c) kept = w
line_world w (line.Cut calls fill s) kept = circuit_happens w (Halts kept s)
line_world w (line.Fail call s) kept = circuit_happens w (Halts kept s)

-- what happens in it
abbrev pub occurrences_in : World → Line → Bool → List Occurrence
occurrences_in w (line.Step s) kept = Steps s ∷ []
occurrences_in w (line.Calm c k) kept = (calm c w k).happened
occurrences_in w (line.Stop n) kept = Stops n ∷ []
occurrences_in w (line.Start n) kept = Starts n ∷ []
occurrences_in w (line.Roll n) kept = []
occurrences_in w (line.Check c) kept = []
occurrences_in w (line.Cut calls fill s) kept = Halts kept s ∷ []
occurrences_in w (line.Fail call s) kept = Halts kept s ∷ []

-- ---- lines

abbrev pub lines_world : World → List Ran → World
lines_world w [] = w
lines_world w (r ∷ rs) = lines_world (line_world w r.line r.kept) rs

abbrev pub occurrences_from : World → List Ran → List Occurrence
occurrences_from w [] = []
occurrences_from w (r ∷ rs) = occurrences_in w r.line r.kept ++ occurrences_from (line_world w r.line r.kept) rs

-- the world of a circuit in a run that begins there, after the lines of a schedule: its own lines alone count
abbrev pub circuit_world : Origin → CircuitId → List Ran → World
circuit_world o c rs = lines_world (first_world o c) (own o c rs)

-- what happens in it
abbrev pub occurrences : Origin → CircuitId → List Ran → List Occurrence
occurrences o c rs = occurrences_from (first_world o c) (own o c rs)

-- the world of a circuit in which a line runs: what the line concerns counts already
abbrev pub world_before : Origin → CircuitId → List Ran → Ran → World
world_before o c before r = lines_world (first_world o c) (own_among c (concerned o c (before ++ r ∷ [])) before)

-- ---- nodes

abbrev pub up_after : NodeId → Bool → Line → Bool
up_after n up (line.Stop m) = if bytes_eq n m then false else up
up_after n up (line.Start m) = if bytes_eq n m then true else up
up_after n up (line.Cut calls fill s) = if bytes_eq n (step_node s) then false else up
up_after n up (line.Fail call s) = if bytes_eq n (step_node s) then false else up
up_after n up _ = up

abbrev pub up_from : NodeId → Bool → List Ran → Bool
up_from n up [] = up
up_from n up (r ∷ rs) = up_from n (up_after n up r.line) rs

-- the node is up after these lines
abbrev pub is_up : NodeId → List Ran → Bool
is_up n rs = up_from n true rs

abbrev pub and_circuit : Option CircuitId → List CircuitId → List CircuitId
and_circuit None cs = cs
and_circuit (Some c) cs = if has_node cs c then cs else c ∷ cs

abbrev pub and_circuits : List CircuitId → List CircuitId → List CircuitId
and_circuits [] cs = cs
and_circuits (d ∷ ds) cs = and_circuit (Some d) (and_circuits ds cs)

-- the circuits of which a node keeps something at first and those that lines name, each once
abbrev pub circuits_in : Origin → List Ran → List CircuitId
circuits_in o [] = and_circuits o.circuits []
circuits_in o (r ∷ rs) = and_circuit (line_circuit r.line) (circuits_in o rs)

-- the circuits that are bound at a node, in the order of their ids
abbrev pub bound_at : Origin → List Ran → NodeId → List CircuitId
bound_at o rs n = filter (λ c. is_bound ((circuit_world o c rs).at n)) (sorted (circuits_in o rs))

abbrev pub roll_answer : Origin → List Ran → NodeId → Answer
roll_answer o rs n = if is_up n rs then answer.Roll (bound_at o rs n) else answer.Refused refusal.Down

-- ---- answers

-- the answer to a line after the lines that ran before it
unfoldable pub answer_to : Origin → List Ran → Ran → Answer
answer_to o before r = line_answer (λ c. world_before o c before r) (λ n. roll_answer o (before ++ r ∷ []) n) r.line r.kept

-- the answers to lines that run after others
abbrev pub answers : Origin → List Ran → List Ran → List Answer
answers o before [] = []
answers o before (r ∷ rs) = answer_to o before r ∷ answers o (before ++ r ∷ []) rs

-- those to the lines that name a circuit
abbrev pub answers_about : Origin → CircuitId → List Ran → List Ran → List Answer
answers_about o c before [] = []
answers_about o c before (r ∷ rs) =
    if names c r.line then answer_to o before r ∷ answers_about o c (before ++ r ∷ []) rs
    else answers_about o c (before ++ r ∷ []) rs

-- a calm is its ticks and deliveries, in the world of its circuit; any other line is one event
abbrev pub line_events : (CircuitId → World) → Line → ℕ
line_events worlds (line.Calm c k) = length (calm c (worlds c) k).happened
line_events worlds _ = 1

-- the events of lines that run after others
abbrev pub events_after : Origin → List Ran → List Ran → ℕ
events_after o before [] = 0
events_after o before (r ∷ rs) = line_events (λ c. world_before o c before r) r.line + events_after o (before ++ r ∷ []) rs

-- the events of all lines that ran
unfoldable pub events_of : Origin → List Ran → ℕ
events_of o rs = events_after o [] rs

-- a line that stops a node counts, in whatever state the node is
abbrev pub line_stops : Line → ℕ
line_stops (line.Stop n) = 1
line_stops (line.Cut calls f s) = 1
line_stops (line.Fail call s) = 1
line_stops _ = 0

-- the stops of all lines that ran
abbrev pub stops_of : List Ran → ℕ
stops_of [] = 0
stops_of (r ∷ rs) = line_stops r.line + stops_of rs

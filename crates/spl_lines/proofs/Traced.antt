-- The lines of the trace of a line.
use Rattle.std.proofs.Common.{◌≡◌, ℕ, Bool, List, [], ◌∷◌, ◌++◌, map, refl, ap}
use Rattle.spl_circuit.specs.Nodes.{CircuitId}
use Rattle.spl_circuit_world.specs.{Projection.plainly, Worlds.World}
use Rattle.spl_sched.specs.{Grammar.spelling, declared.line.Line.Line}
use Rattle.spl_sched.specs.declared.line.Line.TheVariants as line
use Rattle.spl_trace.specs.{Traced.{flat_line, lines_text, written_lines}, Heard.heard_of}

plain_text : (ls : List Line) → lines_text ls ≡ written_lines (map plainly ls)
plain_text [] = refl
plain_text (l ∷ ls) = ap (λ (xs : List ℕ). spelling l ++ (10 ∷ xs)) (plain_text ls)

-- a calm is what it makes
pub trace_calm : (worlds : CircuitId → World) (l : Line) (c : CircuitId) (k : ℕ) (kept : Bool) → l ≡ line.Calm c k
    → lines_text (heard_of worlds l) ≡ written_lines (flat_line worlds l kept)
trace_calm worlds l c k kept is = rw is (plain_text (heard_of worlds (line.Calm c k)))

-- any other line is itself
pub trace_other : (worlds : CircuitId → World) (l : Line) (kept : Bool) → ((c : CircuitId) (k : ℕ) → l ≡ line.Calm c k → ⊥)
    → spelling l ++ 10 ∷ [] ≡ written_lines (flat_line worlds l kept)
trace_other worlds (line.Calm c k) kept other = absurd (other c k refl)
trace_other worlds (line.Step s) kept other = refl
trace_other worlds (line.Stop n) kept other = refl
trace_other worlds (line.Start n) kept other = refl
trace_other worlds (line.Roll n) kept other = refl
trace_other worlds (line.Check k) kept other = refl
trace_other worlds (line.Cut calls f s) kept other = refl
trace_other worlds (line.Fail call s) kept other = refl

-- The world of one circuit in lines of all circuits, and what happened in it (docs/RULES.md, Own lines).
use Rattle.std.specs.Prelude.{List, [], ◌∷◌, if◌then◌else◌, ◌++◌}
use Rattle.spl_circuit.specs.Nodes.{CircuitId}
use Rattle.spl_sched.specs.{Grammar.step_node, declared.line.Line.Line}
use Rattle.spl_sched.specs.declared.line.Line.TheVariants as line
use Rattle.spl_circuit_world.specs.{Worlds.{Origin, World, Stops, Starts, first_world, circuit_happens, Occurrence}, Projection.{Ran, names}}
use Rattle.spl_circuit_world.specs.Answers.{line_world, occurrences_in}

-- a line that doesn't name the circuit
abbrev pub world_beside : World → Line → World
world_beside w (line.Stop n) = circuit_happens w (Stops n)
world_beside w (line.Start n) = circuit_happens w (Starts n)
world_beside w (line.Cut calls fill s) = circuit_happens w (Stops (step_node s))
world_beside w (line.Fail call s) = circuit_happens w (Stops (step_node s))
world_beside w _ = w

-- any line
abbrev pub world_after_line : CircuitId → World → Ran → World
world_after_line c w r = if names c r.line then line_world w r.line r.kept else world_beside w r.line

abbrev pub whole_from : CircuitId → World → List Ran → World
whole_from c w [] = w
whole_from c w (r ∷ rs) = whole_from c (world_after_line c w r) rs

-- the world of a circuit after all lines: nodes that keep all circuits stand for this one
abbrev pub whole_world : Origin → CircuitId → List Ran → World
whole_world o c rs = whole_from c (first_world o c) rs

-- in a line that doesn't name the circuit
abbrev pub happened_beside : Line → List Occurrence
happened_beside (line.Stop n) = Stops n ∷ []
happened_beside (line.Start n) = Starts n ∷ []
happened_beside (line.Cut calls fill s) = Stops (step_node s) ∷ []
happened_beside (line.Fail call s) = Stops (step_node s) ∷ []
happened_beside _ = []

-- in any line
abbrev pub happened_in : CircuitId → World → Ran → List Occurrence
happened_in c w r = if names c r.line then occurrences_in w r.line r.kept else happened_beside r.line

abbrev pub happened_from : CircuitId → World → List Ran → List Occurrence
happened_from c w [] = []
happened_from c w (r ∷ rs) = happened_in c w r ++ happened_from c (world_after_line c w r) rs

-- in all lines
abbrev pub whole_happened : Origin → CircuitId → List Ran → List Occurrence
whole_happened o c rs = happened_from c (first_world o c) rs

-- The moments of a line (docs/RULES.md, Circuits as worlds).
use Rattle.std.specs.Prelude.{◌≡◌, true, false, List, ◌++◌}
use Rattle.spl_circuit.specs.Nodes.{NodeId, CircuitId}
use Rattle.spl_cell_rules.specs.Cells.{Cell}
use Rattle.spl_circuit_world.specs.{Worlds.{World, Occurrence, occur}, Projection.{Ran, names}, Answers.occurrences_in}

-- a world at a moment of a line: after what has happened of it so far
pub record IsMoment (w : World) (r : Ran) (m : World) : Type 0 where
  pub happened : List Occurrence
  pub later : List Occurrence
  pub all : happened ++ later ≡ occurrences_in w r.line r.kept
  pub is : m ≡ occur w happened

-- what each node keeps of each circuit at one moment of a line: of the circuit that the line names, what its world has at
-- that moment, the same for all nodes; of any other, what its world has before the line
pub record AreAtMoment (own other : CircuitId → World) (r : Ran) (cells : CircuitId → NodeId → Cell) : Type 0 where
  pub named : (c : CircuitId) → names c r.line ≡ true → (m : World) × IsMoment (own c) r m × ((n : NodeId) → cells c n ≡ m.at n)
  pub others : (c : CircuitId) → names c r.line ≡ false → (n : NodeId) → cells c n ≡ (other c).at n

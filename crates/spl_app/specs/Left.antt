-- What happened in each circuit before, of which the nodes keep what is left (docs/RULES.md, Resuming).
use Rattle.std.specs.Prelude.{◌≡◌, List, ◌++◌}
use Rattle.spl_circuit_safety.specs.Agreement.{AllHappenedAt, gone_on, restarts}
use Rattle.spl_circuit.specs.Nodes.{CircuitId, Node}
use Rattle.spl_circuit_world.specs.{Projection.AllPlain, Worlds.{Occurrence, Origin, world_after}}
use Rattle.spl_cell_rules.specs.Changes.{stopped_cell}

-- what happened in each circuit before, at the nodes of a run, left what they keep at first, once each of them stops
pub record HasLeftCells (o : Origin) (before : CircuitId → List Occurrence) : Type 0 where
  pub plain : (c : CircuitId) → AllPlain (before c)
  pub own : (c : CircuitId) → AllHappenedAt o.nodes (before c)
  pub cells : (c : CircuitId) (n : Node) → o.kept c n ≡ stopped_cell ((world_after o.nodes (before c)).at n)

-- what happened before, a stop and a start of each node, and what happened in a run from there on, as one
abbrev pub history_on : List Node → (CircuitId → List Occurrence) → (CircuitId → List Occurrence) → CircuitId → List Occurrence
history_on ns before happened c = gone_on ns (before c ++ restarts ns) (happened c)

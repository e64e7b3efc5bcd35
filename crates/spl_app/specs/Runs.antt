-- What a run leaves of its nodes, as one history with what happened before (docs/RULES.md, Resuming).
use Rattle.std.specs.Prelude.{true, List, [], ◌++◌}
use Rattle.spl_agree.specs.World.{IsPrefixOf}
use Rattle.spl_circuit.specs.Nodes.{CircuitId}
use Rattle.spl_lines.specs.{Tasks.{Task, ran_by}, declared.reading.Said.Said}
use Rattle.spl_lines.specs.declared.reading.Said.TheVariants as say
use Rattle.spl_circuit_world.specs.{Worlds.{Occurrence, Origin, World}, Whole.{happened_in, whole_happened, whole_world}}
use Rattle.spl_runs.specs.Run.{Plan, ids, origin, After, In, Stop}
use Rattle.spl_node.specs.Benches.{Images}
use Rattle.spl_world.specs.Held.{origin_on}
use Rattle.spl_app.specs.Left.{HasLeftCells, history_on}

-- what happens in a circuit in a line, in this world of it; a line that stops its node in an event has its record kept
abbrev pub happens_in : CircuitId → World → Said → List Occurrence
happens_in c w (say.Line l) = happened_in c w (record { line = l; kept = true })
happens_in c w (say.Watch l) = []

-- and in the task under way, where one was, after these
abbrev pub happens_next : Origin → List Task → Stop → CircuitId → List Occurrence
happens_next o before After c = []
happens_next o before (In t e) c = happens_in c (whole_world o c (ran_by before)) t.line

-- what happened in a circuit in a run: in the tasks that ran, and so much of the one under way
abbrev pub happened_by : Origin → List Task → (CircuitId → List Occurrence) → CircuitId → List Occurrence
happened_by o before part c = whole_happened o c (ran_by before) ++ part c

-- What is found on the disks of the nodes are the cells of one history: what happened before the run, a stop and a start of each
-- node, what happened in the tasks that ran, and the first part of what happens in the one under way
pub record IsOneHistory (p : Plan) (before : CircuitId → List Occurrence) (ran : List Task) (stop : Stop) (found : List Images) : Type 0 where
  pub part : CircuitId → List Occurrence
  pub begun : (c : CircuitId) → IsPrefixOf (part c) (happens_next (origin p) ran stop c)
  pub cells : HasLeftCells (origin_on p.nodes found) (history_on (ids p) before (happened_by (origin p) ran part))

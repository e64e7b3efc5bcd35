-- Two worlds of a circuit that differ only in which other nodes are up (docs/RULES.md, Circuits as worlds).
use Rattle.std.specs.Prelude.{◌≡◌, true, List}
use Rattle.spl_circuit.specs.Nodes.{NodeId, has_node}
use Rattle.spl_circuit_world.specs.Worlds.{World}

-- the same cells and the same messages; and of these nodes the same are up
pub record IsSameFor (ns : List NodeId) (w v : World) : Type 0 where
  pub nodes : w.nodes ≡ v.nodes
  pub at : w.at ≡ v.at
  pub sent : w.sent ≡ v.sent
  pub up : (n : NodeId) → has_node ns n ≡ true → w.up n ≡ v.up n

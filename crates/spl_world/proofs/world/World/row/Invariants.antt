use Rattle.spl_world.{specs.{Calms.{sender_counts, sent_count}, Views.{HoldsWorld, IsNodeAt, world_node_ids, nodes_over}}, proofs.Common.{◌≡◌, length, take}}
use Rattle.spl_world.proofs.Common.{List, NodeId, CircuitWorld}
use Rattle.spl_world.proofs.world.World.row.Given as goal
use Rattle.spl_node.specs.Benches.{Images}

-- the numbers so far
abbrev pub invariant-loop-to : goal.invariant-loop-to
invariant-loop-to l = (length l.row.items ≡ l.to)
    × ((is : List Images) (m : CircuitWorld) (a : NodeId) → HoldsWorld l.circuit m (nodes_over l.self is) → IsNodeAt l.self l.from a
    → l.row.items ≡ sender_counts (sent_count m) a (take l.to (world_node_ids l.self)))

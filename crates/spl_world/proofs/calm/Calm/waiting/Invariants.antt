use Rattle.spl_world.{specs.{Calms.Tracks, Cursor.{HasMessagesLeft, SkipsTo}, Views.{HoldsWorld, IsNodeAt, world_node_ids, nodes_over}}, proofs.Common.Some}
use Rattle.spl_world.proofs.Common.{List, NodeId, Calming}
use Rattle.spl_world.proofs.calm.Calm.waiting.Given as goal
use Rattle.spl_node.specs.Benches.{Images}

-- nothing went to the recipients so far
abbrev pub invariant-loop-to : goal.invariant-loop-to
invariant-loop-to l = (is : List Images) (z : Calming) (a : NodeId) → HoldsWorld l.self.circuit z.world (nodes_over l.world is) → Tracks z (world_node_ids l.world) l.self.rows.items → IsNodeAt l.world l.from a → HasMessagesLeft l.left (world_node_ids l.world) z a
    → SkipsTo (Some l.to) l.self.circuit (world_node_ids l.world) z a l.first

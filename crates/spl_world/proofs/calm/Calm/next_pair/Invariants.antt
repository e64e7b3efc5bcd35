use Rattle.spl_world.{specs.{Cursor.{CalmFollows, SkipsPairs}, Views.{HoldsWorld, world_node_ids, nodes_over}}, proofs.Common.{Some, List, Calming}}
use Rattle.spl_world.proofs.calm.Calm.next_pair.Given as goal
use Rattle.spl_node.specs.Benches.{Images}

-- nothing happened in the turns so far
abbrev pub invariant-loop-from : goal.invariant-loop-from
invariant-loop-from l = (is : List Images) (z : Calming) → HoldsWorld l.self.circuit z.world (nodes_over l.world is) → CalmFollows (world_node_ids l.world) l.self z
    → SkipsPairs (Some (l.from, l.first, 0)) l.self.circuit (world_node_ids l.world) z l.self.from l.self.to

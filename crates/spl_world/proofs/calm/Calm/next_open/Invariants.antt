use Rattle.spl_node.specs.Benches.{Images}
use Rattle.spl_world.{specs.Views.{HoldsWorld, Sits, world_node_ids, nodes_over}, proofs.Common.{◌≡◌, List, drop, Calming, open_nodes}}
use Rattle.spl_world.proofs.calm.Calm.next_open.Given as goal

-- no node so far has a tick
abbrev pub invariant-loop-slot : goal.invariant-loop-slot
invariant-loop-slot l = (is : List Images) (z : Calming) → Sits (nodes_over l.world is) → HoldsWorld l.self.circuit z.world (nodes_over l.world is)
    → open_nodes z.world (drop l.self.slot (world_node_ids l.world)) ≡ open_nodes z.world (drop l.slot (world_node_ids l.world))

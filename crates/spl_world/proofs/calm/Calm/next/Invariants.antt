use Rattle.spl_world.{specs.{Calms.IsSquare, Cursor.CalmFollows, Views.{HoldsWorld, Sits, world_node_ids, nodes_over}}, proofs.Common.{◌≡◌, ◌+◌, List}}
use Rattle.spl_world.proofs.{Common.{length, Calming}, Cursor.Passed}
use Rattle.spl_world.proofs.calm.Calm.next.Given as goal
use Rattle.spl_node.specs.Benches.{Images}

-- nothing happened in the passes so far
abbrev pub invariant-loop-pass : goal.invariant-loop-pass
invariant-loop-pass l = record {
  square : IsSquare (length l.world.slots.items) l.self.rows.items;
  circuit : l.self.circuit ≡ l.fn.self.circuit;
  whole : l.self.whole ≡ l.fn.self.whole;
  fewer : l.self.later + l._pass ≡ l.fn.self.later;
  passed : (is : List Images) (z : Calming) → Sits (nodes_over l.world is) → HoldsWorld l.fn.self.circuit z.world (nodes_over l.world is) → CalmFollows (world_node_ids l.world) l.fn.self z
      → Passed (world_node_ids l.world) l.fn.self l.self z;
}

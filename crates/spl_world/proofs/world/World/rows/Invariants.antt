use Rattle.spl_world.{specs.{Calms.{AreRows, sent_count}, Views.{HoldsWorld, world_node_ids, nodes_over}}, proofs.Common.{◌≡◌, length, slice_get, Some, ℕ}}
use Rattle.spl_world.proofs.Common.{List, Vec, CircuitWorld}
use Rattle.spl_world.proofs.world.World.rows.Given as goal
use Rattle.spl_node.specs.Benches.{Images}

-- the rows so far
abbrev pub invariant-loop-from : goal.invariant-loop-from
invariant-loop-from l = (length l.rows.items ≡ l.from)
    × ((i : ℕ) (r : Vec ℕ) → slice_get l.rows.items i ≡ Some r → length r.items ≡ length l.self.slots.items)
    × ((is : List Images) (m : CircuitWorld) → HoldsWorld l.circuit m (nodes_over l.self is) → AreRows (sent_count m) (world_node_ids l.self) l.rows.items)

use Rattle.std.{specs.Map.values_of, proofs.Common.{◌≡◌, ◌++◌}}
use Rattle.spl_node.specs.Kept.{AreSound, bound_ids}
use Rattle.spl_node.proofs.packing.all_bound.Given as goal

abbrev pub invariant-loop-id : goal.invariant-loop-id
invariant-loop-id l = AreSound (values_of l.id-iterator) × (l.ids ++ bound_ids l.id-iterator ≡ bound_ids l.map.entries)

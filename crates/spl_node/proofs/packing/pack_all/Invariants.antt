use Rattle.std.{specs.Map.values_of, proofs.Common.{◌≡◌, ◌++◌}}
use Rattle.spl_node.specs.Kept.{AreSound, packed_cells}
use Rattle.spl_node.proofs.packing.pack_all.Given as goal

abbrev pub invariant-loop-cell : goal.invariant-loop-cell
invariant-loop-cell l = AreSound l.cell-iterator × (l.records ++ packed_cells l.cell-iterator ≡ packed_cells (values_of l.map.entries))

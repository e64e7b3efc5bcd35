-- What was read of nodes.
use Rattle.std.specs.Prelude.{List, map}
use Rattle.spl_node.specs.Kept.{CellsView, bound_ids, cell_at}
use Rattle.spl_audit.specs.Clashes.{Keeper}

abbrev pub keeper_of : CellsView → Keeper
keeper_of v = record { here = v.here; at = cell_at v.entries; bound = bound_ids v.entries }

abbrev pub keepers : List CellsView → List Keeper
keepers vs = map keeper_of vs

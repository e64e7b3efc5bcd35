use Rattle.spl_node.proofs.Keeping.{cells_kept}
use Rattle.spl_node.proofs.cells.Cells.is_kept.Goals as goal

pub returns : goal.returns
returns c = cells_kept c.cells_stay_valid.ensures.change c.records_are_formed.ensures _ _ c.is_ordered.ensures.own

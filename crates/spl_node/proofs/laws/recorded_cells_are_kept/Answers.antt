use Rattle.spl_node.proofs.Keeping.{recorded_kept}
use Rattle.spl_node.proofs.laws.recorded_cells_are_kept.Goals as goal

pub returns : goal.returns
returns c = recorded_kept c.cells_stay_valid.ensures.change c.records_are_formed.ensures

use Rattle.spl_cell_rules.proofs.Limits.{bounded-packed}
use Rattle.spl_cell_rules.proofs.packed_cells_have_a_form.Goals as goal

pub returns : goal.returns
returns c = bounded-packed

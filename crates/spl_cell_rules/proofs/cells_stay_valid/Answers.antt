use Rattle.spl_cell_rules.proofs.Cells.{kept-one, valid-moved, valid-stopped}
use Rattle.spl_cell_rules.proofs.cells_stay_valid.Goals as goal

pub returns-clause-change : goal.returns-clause-change
returns-clause-change c = kept-one

pub returns-clause-moves : goal.returns-clause-moves
returns-clause-moves c = valid-moved

pub returns-clause-stop : goal.returns-clause-stop
returns-clause-stop c = valid-stopped

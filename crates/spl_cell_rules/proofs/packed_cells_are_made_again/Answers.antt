use Rattle.spl_cell_rules.{specs.{Cells.Empty, Changes.applied}, proofs.Packed.{made-applied, packed-leads, packed-stopped}}
use Rattle.spl_cell_rules.proofs.packed_cells_are_made_again.Goals as goal

pub returns-clause-again : goal.returns-clause-again
returns-clause-again c = λ site xs. packed-leads site (applied site Empty xs) (made-applied site Empty xs tt)

pub returns-clause-stopped : goal.returns-clause-stopped
returns-clause-stopped c = packed-stopped

use Rattle.std.proofs.Common.{ap}
use Rattle.spl_node.specs.Kept.{state_or_empty}
use Rattle.spl_node.proofs.cells.Cells.cell.Goals as goal

pub returns : goal.returns
returns c = rw (← c.self.view_is) (ap state_or_empty c.get.ensures.value)

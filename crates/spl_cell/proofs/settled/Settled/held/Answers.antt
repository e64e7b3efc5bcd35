use Rattle.std.proofs.Common.{subst}
use Rattle.spl_cell.specs.Views.{IsSettledHeld}
use Rattle.spl_cell.proofs.settled.Settled.held.Goals as goal

pub returns-clause-settled : goal.returns-clause-settled
returns-clause-settled c = subst IsSettledHeld c.self.view_is c.self.invariant

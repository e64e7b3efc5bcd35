use Rattle.spl_circuit_world.proofs.Checks.{check-own}
use Rattle.spl_circuit_world.proofs.checks_hang_on_their_line.Goals as goal

pub returns : goal.returns
returns c = check-own

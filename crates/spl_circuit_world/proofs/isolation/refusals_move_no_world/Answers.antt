-- By the lines that are refused.
use Rattle.spl_circuit_world.proofs.Refusals.{unmoved-worlds}
use Rattle.spl_circuit_world.proofs.isolation.refusals_move_no_world.Goals as goal

pub returns : goal.returns
returns c = unmoved-worlds

-- By the lists of ids in order.
use Rattle.spl_circuit_world.proofs.Rolls.{bound-ascends, bound-has, bound-is}
use Rattle.spl_circuit_world.proofs.isolation.rolls_have_what_is_bound.Goals as goal

pub returns : goal.returns
returns c = record { ordered = bound-ascends; bound = bound-has; only = bound-is }

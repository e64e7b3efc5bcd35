-- No change is made of either.
use Rattle.spl_circuit_world.proofs.Outcomes.{halts-nothing}
use Rattle.spl_circuit_world.proofs.isolation.nothing_is_lost_of_nothing.Goals as goal

pub returns : goal.returns
returns c = halts-nothing

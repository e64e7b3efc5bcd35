-- By a world in which more was sent before.
use Rattle.spl_circuit_safety.proofs.{GoesOn.agree-on, Restarts.restarts-leave, ShownOn.shows-on}
use Rattle.spl_circuit_safety.proofs.resumed_circuits_agree.Goals as goal

pub returns : goal.returns
returns c = record { left = restarts-leave; on = agree-on; shown = shows-on }

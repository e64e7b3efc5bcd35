-- After the acts of a circuit that has ended none is good.
use Rattle.spl_circuit_safety.proofs.Ended.{ends-after}
use Rattle.spl_circuit_safety.proofs.endings_are_final.Goals as goal

pub returns : goal.returns
returns c = ends-after

-- By the groups that are coupled with the cells.
use Rattle.spl_circuit_safety.proofs.Agreed.{agreed-after, lines-agree}
use Rattle.spl_circuit_safety.proofs.circuits_agree.Goals as goal

pub returns : goal.returns
returns c = record { after = agreed-after; lines = lines-agree }

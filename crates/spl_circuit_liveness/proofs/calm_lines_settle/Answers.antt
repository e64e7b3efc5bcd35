-- Lines are what happens in them.
use Rattle.spl_circuit_liveness.proofs.Whole.{lines-acts, lines-batches}
use Rattle.spl_circuit_liveness.proofs.calm_lines_settle.Goals as goal

pub returns : goal.returns
returns c = record { acts = lines-acts; batches = lines-batches }

-- By the calm of the group in the circuit's.
use Rattle.spl_circuit_liveness.proofs.After.{settle-acts, settle-batches}
use Rattle.spl_circuit_liveness.proofs.calms_settle.Goals as goal

pub returns : goal.returns
returns c = record { acts = settle-acts; batches = settle-batches }

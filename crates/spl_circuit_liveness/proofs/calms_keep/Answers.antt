-- By the coupling that every event of a calm keeps.
use Rattle.spl_circuit_liveness.proofs.After.{whole-after, runs-after, idle-after}
use Rattle.spl_circuit_liveness.proofs.calms_keep.Goals as goal

pub returns : goal.returns
returns c = record { whole = whole-after; runs = runs-after; idle = idle-after }

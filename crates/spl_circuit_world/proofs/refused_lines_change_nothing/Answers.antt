-- By the deeds that are answered with a refusal.
use Rattle.spl_circuit_world.proofs.Unmoved.{unmoved-step, unmoved-line}
use Rattle.spl_circuit_world.proofs.refused_lines_change_nothing.Goals as goal

pub returns : goal.returns
returns c = record { step = unmoved-step; line = unmoved-line }

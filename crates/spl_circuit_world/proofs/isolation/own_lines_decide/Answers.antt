-- The answers are those in the world where the own lines run.
use Rattle.spl_circuit_world.proofs.SameLines.{equal-answers, own-drop}
use Rattle.spl_circuit_world.proofs.isolation.own_lines_decide.Goals as goal

pub returns : goal.returns
returns c = record { equal = equal-answers; dropped = own-drop }

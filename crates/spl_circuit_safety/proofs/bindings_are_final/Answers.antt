-- By the bindings that are after a run.
use Rattle.spl_circuit_safety.proofs.Occurrences.{stays-after, first-proposal}
use Rattle.spl_circuit_safety.proofs.bindings_are_final.Goals as goal

pub returns : goal.returns
returns c = record { past = stays-after; first = first-proposal }

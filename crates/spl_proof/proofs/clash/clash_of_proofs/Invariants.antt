use Rattle.spl_proof.proofs.Clashing.{IsBeside}
use Rattle.spl_proof.proofs.clash.clash_of_proofs.Given as goal

abbrev pub invariant-loop-i : goal.invariant-loop-i
invariant-loop-i l = IsBeside l.i l.a l.ones l.others l.x.end l.y.end

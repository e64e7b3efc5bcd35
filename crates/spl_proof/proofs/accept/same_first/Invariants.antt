use Rattle.std.proofs.Common.{◌≡◌}
use Rattle.spl_state.specs.Root.{digits_of}
use Rattle.spl_proof.proofs.accept.same_first.Given as goal

abbrev pub invariant-loop-k : goal.invariant-loop-k
invariant-loop-k l = digits_of l.k 0 l.b.0 ≡ digits_of l.k 0 l.a.0

use Rattle.std.proofs.Common.{◌≡◌, ◌++◌, take}
use Rattle.spl_answer.specs.Batches.{spaced}
use Rattle.spl_answer.proofs.nodes.append_circuits.Given as goal

abbrev pub invariant-loop-circuit : goal.invariant-loop-circuit
invariant-loop-circuit l = l.out.items ≡ l.fn.out.items ++ spaced (λ c. c) (take l.circuit-index l.circuits)

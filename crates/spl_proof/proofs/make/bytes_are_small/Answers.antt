use Rattle.std.proofs.Common.{arith}
use Rattle.spl_proof.proofs.make.bytes_are_small.Goals as goal

pub returns : goal.returns
returns c = λ i. omega (arith, c.type_inv.bytes i)

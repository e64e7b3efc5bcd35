use Rattle.spl_proof.proofs.Digits.{small_digit}
use Rattle.spl_proof.proofs.make.digits_are_small.Goals as goal

pub returns : goal.returns
returns c = small_digit c.args.a.now.0 c.bytes_are_small.ensures

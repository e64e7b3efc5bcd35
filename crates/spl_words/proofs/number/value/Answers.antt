use Rattle.std.proofs.Common.{arith}
use Rattle.spl_words.{specs.Words.value, proofs.Numbers.value_long}
use Rattle.spl_words.proofs.number.value.Goals as goal

pub returns-in-None : goal.returns-in-None
returns-in-None c =
    omega (arith, c.in-None.ensures, value_long c.loop-b.n c.loop-b.b-index (value c.args.digits.now) c.args.digits.now c.loop-b-test.true c.loop-b.invariant)

use Rattle.std.proofs.Common.{◌≡◌, drop}
use Rattle.spl_words.specs.Words.{value_after, value}
use Rattle.spl_words.proofs.number.value.Given as goal

abbrev pub invariant-loop-b : goal.invariant-loop-b
invariant-loop-b l = value_after l.n (drop l.b-index l.digits) ≡ value l.digits

use Rattle.std.proofs.Common.{◌≡◌, ◌-◌, true}
use Rattle.spl_state.specs.Digits.{same_digits}
use Rattle.spl_state.proofs.address.Address.first_apart.Given as goal

abbrev pub invariant-loop-k : goal.invariant-loop-k
invariant-loop-k l = same_digits (l.k - l.from) l.from l.self l.other ≡ true

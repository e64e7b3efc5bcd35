use Rattle.std.proofs.Common.{◌≡◌, ◌-◌}
use Rattle.spl_state.specs.Digits.{same_digits}
use Rattle.spl_state.proofs.address.Address.same_digits.Given as goal

abbrev pub invariant-loop-k : goal.invariant-loop-k
invariant-loop-k l = same_digits (l.to - l.k) l.k l.self l.other ≡ same_digits (l.to - l.from) l.from l.self l.other

use Rattle.std.proofs.Common.{◌≡◌, ◌++◌}
use Rattle.spl_delta.specs.Watches.{deltas}
use Rattle.spl_delta.proofs.taker.deltas_from.Given as goal

-- the deltas so far and those of what is left are all
abbrev pub invariant-loop-left : goal.invariant-loop-left
invariant-loop-left l = l.out ++ deltas l.service l.place l.left ≡ deltas l.service l.fn.from l.count

abbrev pub decreases-loop-left : goal.decreases-loop-left
decreases-loop-left l = l.left

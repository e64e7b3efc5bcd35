use Rattle.std.proofs.Common.{◌≡◌, ◌*◌, ◌-◌, ◌≤◌, take, replicate}
use Rattle.spl_state.proofs.beginnings.empty_pairs.Given as goal

abbrev pub invariant-loop-pairs : goal.invariant-loop-pairs
invariant-loop-pairs l = record { low : l.pairs ≤ 7; empty : take (64 * l.pairs) l.parts ≡ replicate (64 * l.pairs) 0 }

abbrev pub decreases-loop-pairs : goal.decreases-loop-pairs
decreases-loop-pairs l = 7 - l.pairs

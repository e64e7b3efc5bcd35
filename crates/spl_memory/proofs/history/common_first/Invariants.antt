use Rattle.std.proofs.Common.{◌≡◌, ◌≤◌, ◌-◌, length, take}
use Rattle.spl_memory.proofs.history.common_first.Given as goal

pub record AreSame (l : goal.Live-loop-same) : Type 0 where
  pub within : l.same ≤ length l.a
  pub same : take l.same l.a ≡ take l.same l.b

abbrev pub invariant-loop-same : goal.invariant-loop-same
invariant-loop-same l = AreSame l

abbrev pub decreases-loop-same : goal.decreases-loop-same
decreases-loop-same l = length l.a - l.same

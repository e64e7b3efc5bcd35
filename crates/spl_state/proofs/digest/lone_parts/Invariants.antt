use Rattle.std.proofs.Common.{◌≡◌, ◌-◌, ◌≤◌}
use Rattle.spl_state.specs.Runs.{raised}
use Rattle.spl_state.proofs.digest.lone_parts.Given as goal

abbrev pub invariant-loop-k : goal.invariant-loop-k
invariant-loop-k l = record { low : l.from ≤ l.k; made : l.node ≡ raised (l.to - l.k) l.k l.path l.fn.below }

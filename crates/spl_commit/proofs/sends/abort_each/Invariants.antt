use Rattle.std.proofs.Common.{◌≡◌}
use Rattle.spl_agree.specs.Rows.{abort_each}
use Rattle.spl_commit.proofs.Positions.{prefix}
use Rattle.spl_commit.proofs.sends.abort_each.Given as goal

-- each of the set before this one has its message
abbrev pub invariant-loop-i : goal.invariant-loop-i
invariant-loop-i g l = l.sends ≡ abort_each l.generation l.round l.value l.reason (prefix l.to l.i)

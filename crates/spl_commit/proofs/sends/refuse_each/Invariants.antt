use Rattle.std.proofs.Common.{◌≡◌}
use Rattle.spl_agree.specs.Rows.{to_each}
use Rattle.spl_agree.specs.declared.message.CommitMsg.TheVariants as msg
use Rattle.spl_commit.proofs.Positions.{prefix}
use Rattle.spl_commit.proofs.sends.refuse_each.Given as goal

-- each of the set before this one has its message
abbrev pub invariant-loop-i : goal.invariant-loop-i
invariant-loop-i g l = l.sends ≡ to_each (msg.Refused l.generation l.value l.reason) (prefix l.to l.i)

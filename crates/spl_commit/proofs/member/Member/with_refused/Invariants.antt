use Rattle.std.proofs.Common.{◌≡◌, ◌++◌, take}
use Rattle.spl_agree.specs.Pack.{kept_each}
use Rattle.spl_commit.proofs.member.Member.with_refused.Given as goal

-- those so far
abbrev pub invariant-loop-i : goal.invariant-loop-i
invariant-loop-i g l = l.all ≡ l.fn.first ++ kept_each (take l.i l.self.state.refused)

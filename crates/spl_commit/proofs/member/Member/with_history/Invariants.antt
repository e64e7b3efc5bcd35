use Rattle.std.proofs.Common.{◌≡◌, ◌++◌, take}
use Rattle.spl_agree.specs.Pack.{committed_each}
use Rattle.spl_commit.proofs.member.Member.with_history.Given as goal

-- those so far
abbrev pub invariant-loop-i : goal.invariant-loop-i
invariant-loop-i g l = l.all ≡ l.fn.first ++ committed_each (take l.i l.self.state.history)

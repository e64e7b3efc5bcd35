use Rattle.std.proofs.Common.{◌≡◌, ◌++◌, take}
use Rattle.spl_delta.proofs.taker.append_changes.Given as goal

abbrev pub invariant-loop-change : goal.invariant-loop-change
invariant-loop-change l = l.out ≡ l.fn.out ++ take l.change-index l.changes

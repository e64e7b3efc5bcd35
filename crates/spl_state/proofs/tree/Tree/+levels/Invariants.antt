use Rattle.std.proofs.Common.{◌≡◌}
use Rattle.spl_state.proofs.tree.Tree.+levels.Given as goal

abbrev pub invariant-renew_each-loop-i : goal.invariant-renew_each-loop-i
invariant-renew_each-loop-i l = l.parts.items ≡ l.initial.parts.items

abbrev pub invariant-renew_below-loop-depth : goal.invariant-renew_below-loop-depth
invariant-renew_below-loop-depth l = l.self ≡ l.initial.self

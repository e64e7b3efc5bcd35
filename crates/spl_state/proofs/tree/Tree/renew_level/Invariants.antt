use Rattle.std.proofs.Common.{◌≡◌}
use Rattle.spl_state.proofs.tree.Tree.renew_level.Given as goal

abbrev pub invariant-loop : goal.invariant-loop
invariant-loop l = l.self ≡ l.initial.self

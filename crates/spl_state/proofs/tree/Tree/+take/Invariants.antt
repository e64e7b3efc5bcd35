use Rattle.std.proofs.Common.{◌≡◌, ◌-◌}
use Rattle.spl_state.proofs.tree.Tree.+take.Given as goal

-- the digits left
abbrev pub decreases-take : goal.decreases-take
decreases-take l = 71 - l.self.now.depth

abbrev pub invariant-loop-i : goal.invariant-loop-i
invariant-loop-i l = l.parts.items ≡ l.initial.parts.items

use Rattle.std.proofs.Common.{◌≡◌, ◌-◌, take}
use Rattle.spl_state.proofs.tree.Tree.+copy.Given as goal

-- the digits left
abbrev pub decreases-copy : goal.decreases-copy
decreases-copy l = 71 - l.self.now.depth

abbrev pub invariant-loop-part : goal.invariant-loop-part
invariant-loop-part l = l.copies.items ≡ take l.part-index l.part-items

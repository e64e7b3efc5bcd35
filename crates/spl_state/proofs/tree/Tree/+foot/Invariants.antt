use Rattle.std.proofs.Common.{◌-◌}
use Rattle.spl_state.proofs.tree.Tree.+foot.Given as goal

-- the digits left
abbrev pub decreases-foot : goal.decreases-foot
decreases-foot l = 71 - l.self.now.depth

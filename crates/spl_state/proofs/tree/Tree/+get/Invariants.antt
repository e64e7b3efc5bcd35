use Rattle.std.proofs.Common.{◌-◌}
use Rattle.spl_state.proofs.tree.Tree.+get.Given as goal

-- the digits left
abbrev pub decreases-get : goal.decreases-get
decreases-get l = 71 - l.self.now.depth

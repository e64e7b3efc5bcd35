use Rattle.std.proofs.Common.{◌-◌}
use Rattle.spl_state.proofs.tree.Tree.+digest_at.Given as goal

-- the digits left
abbrev pub decreases-digest_at : goal.decreases-digest_at
decreases-digest_at l = 71 - l.self.now.depth

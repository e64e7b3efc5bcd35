use Rattle.std.proofs.Common.{◌≡◌, ◌-◌, [], take}
use Rattle.spl_state.specs.Kept.{all_entries}
use Rattle.spl_state.proofs.tree.Tree.+lone.Given as goal

-- the digits left
abbrev pub decreases-lone : goal.decreases-lone
decreases-lone l = 71 - l.self.now.depth

abbrev pub invariant-loop-part : goal.invariant-loop-part
invariant-loop-part l = all_entries (take l.part-index l.part-items) ≡ []

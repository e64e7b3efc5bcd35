use Rattle.std.proofs.Common.{◌≡◌, ◌-◌, ◌++◌, take}
use Rattle.spl_state.specs.{Entries.covered, Kept.all_entries}
use Rattle.spl_state.proofs.tree.Tree.+collect.Given as goal

-- the digits left
abbrev pub decreases-collect : goal.decreases-collect
decreases-collect l = 71 - l.self.now.depth

abbrev pub invariant-loop-part : goal.invariant-loop-part
invariant-loop-part l = l.out.items ≡ l.initial.out.items ++ covered l.prefix (all_entries (take l.part-index l.part-items))

use Rattle.std.proofs.Common.{◌≡◌, min, length, take}
use Rattle.spl_state.specs.Kept.{all_entries}
use Rattle.spl_state.proofs.tree.write.size_of_all.Given as goal

abbrev pub invariant-loop-part : goal.invariant-loop-part
invariant-loop-part l = l.size ≡ min (length (all_entries (take l.part-index l.parts))) 2

use Rattle.std.proofs.Common.{◌≡◌, replicate}
use Rattle.spl_state.specs.Kept.{empty_part}
use Rattle.spl_state.proofs.tree.write.empty_parts.Given as goal

abbrev pub invariant-loop-i : goal.invariant-loop-i
invariant-loop-i l = l.parts.items ≡ replicate l.i (empty_part l.depth)

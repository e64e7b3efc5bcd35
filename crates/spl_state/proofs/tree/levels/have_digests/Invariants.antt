use Rattle.std.proofs.Common.{◌≡◌, ◌+◌, ◌-◌, ◌*◌, take}
use Rattle.spl_state.specs.{Levels.{node_of, children}, Kept.all_entries}
use Rattle.spl_state.proofs.tree.levels.have_digests.Given as goal

abbrev pub invariant-loop-i : goal.invariant-loop-i
invariant-loop-i l = take (32 * l.i) l.digests ≡ children (node_of (70 - (l.depth + 1)) (l.depth + 1)) l.depth (all_entries l.parts) l.i

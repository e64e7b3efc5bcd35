use Rattle.std.proofs.Common.{◌≡◌, ◌+◌, ◌-◌, ◌*◌, [], length, take}
use Rattle.spl_state.specs.{Levels.{node_of, children}, Kept.all_entries}
use Rattle.spl_state.proofs.tree.Tree.+digest.Given as goal

-- the digits left
abbrev pub decreases-kept_or_made : goal.decreases-kept_or_made
decreases-kept_or_made l = 3 * (71 - l.self.now.depth) + 2

abbrev pub decreases-made : goal.decreases-made
decreases-made l = 3 * (71 - l.self.now.depth) + 1

abbrev pub decreases-node : goal.decreases-node
decreases-node l = 3 * (71 - l.depth)

abbrev pub invariant-made-loop-part : goal.invariant-made-loop-part
invariant-made-loop-part l = all_entries (take l.part-index l.part-items) ≡ []

abbrev pub invariant-node-loop-i : goal.invariant-node-loop-i
invariant-node-loop-i l =
    record {
      sized : length l.digests ≡ 512;
      made : take (32 * l.i) l.digests
          ≡ children (node_of (70 - (l.depth + 1)) (l.depth + 1)) l.depth (all_entries l.parts) l.i;
    }

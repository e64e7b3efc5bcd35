use Rattle.std.proofs.Common.{◌≤◌, ◌-◌, length}
use Rattle.spl_device.proofs.folder.pairs_in.Given as goal

abbrev pub invariant-pairs : goal.invariant-pairs
invariant-pairs g l = length l.pairs.items ≤ 16

abbrev pub decreases-pairs : goal.decreases-pairs
decreases-pairs g l = 16 - length l.pairs.items

use Rattle.std.proofs.Common.{◌≡◌, length}
use Rattle.spl_device.proofs.folder.settle_all.Given as goal

abbrev pub invariant-pairs : goal.invariant-pairs
invariant-pairs l = length l.pairs.items ≡ length l.fn.pairs.items

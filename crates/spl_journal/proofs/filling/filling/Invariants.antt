use Rattle.std.proofs.Common.{◌≡◌, take}
use Rattle.spl_journal.specs.Records.{blocks}
use Rattle.spl_journal.proofs.filling.filling.Given as goal

abbrev pub invariant-loop-item : goal.invariant-loop-item
invariant-loop-item g l = l.piece.items ≡ blocks (take l.item-index l.items)

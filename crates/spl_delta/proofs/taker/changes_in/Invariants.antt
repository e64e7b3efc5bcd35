use Rattle.std.proofs.Common.{◌≡◌, take}
use Rattle.spl_delta.specs.Watches.{receipt_changes}
use Rattle.spl_delta.proofs.taker.changes_in.Given as goal

abbrev pub invariant-loop-receipt : goal.invariant-loop-receipt
invariant-loop-receipt l = l.out ≡ receipt_changes (take l.receipt-index l.receipts)

use Rattle.std.proofs.Common.{◌≡◌, fold, take}
use Rattle.spl_command.specs.Lists.{with_receipt}
use Rattle.spl_command.proofs.apply.apply_receipts.Given as goal

abbrev pub invariant-loop-receipt : goal.invariant-loop-receipt
invariant-loop-receipt l =
    record {
      before : l.draft.before ≡ l.fn.draft.before;
      made : l.draft.entries
          ≡ fold with_receipt l.fn.draft.entries (take l.receipt-index l.receipt-items);
    }

use Rattle.std.proofs.Common.{◌≡◌, fold, take}
use Rattle.spl_command.specs.Lists.{with_change}
use Rattle.spl_command.proofs.apply.apply_receipt.Given as goal

abbrev pub invariant-loop-change : goal.invariant-loop-change
invariant-loop-change l =
    record { before : l.draft.before ≡ l.fn.draft.before; made : l.draft.entries ≡ fold with_change l.fn.draft.entries (take l.change-index l.change-items) }

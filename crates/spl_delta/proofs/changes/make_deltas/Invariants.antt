use Rattle.std.proofs.Common.{◌≡◌, take}
use Rattle.spl_delta.specs.Watches.{with_deltas}
use Rattle.spl_delta.proofs.changes.make_deltas.Given as goal

abbrev pub invariant-loop-delta : goal.invariant-loop-delta
invariant-loop-delta l =
    record { before : l.draft.before ≡ l.fn.draft.before; made : l.draft.entries ≡ with_deltas l.fn.draft.entries (take l.delta-index l.deltas) }

use Rattle.std.proofs.Common.{◌≡◌, ◌++◌, take}
use Rattle.spl_answer.specs.Batches.{spaced, entry_text}
use Rattle.spl_answer.proofs.batches.append_all_entries.Given as goal

abbrev pub invariant-loop-entry : goal.invariant-loop-entry
invariant-loop-entry l = l.out.items ≡ l.fn.out.items ++ spaced entry_text (take l.entry-index l.entries)

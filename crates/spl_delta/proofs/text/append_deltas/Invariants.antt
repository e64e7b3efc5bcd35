use Rattle.std.proofs.Common.{◌≡◌, ◌++◌, take}
use Rattle.spl_answer.specs.Batches.{spaced}
use Rattle.spl_delta.specs.Watches.{delta_text}
use Rattle.spl_delta.proofs.text.append_deltas.Given as goal

abbrev pub invariant-loop-delta : goal.invariant-loop-delta
invariant-loop-delta l = l.out.items ≡ l.fn.out.items ++ spaced delta_text (take l.delta-index l.deltas)

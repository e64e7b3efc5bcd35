use Rattle.std.{specs.Fmt.decimal, proofs.Common.{◌≡◌, ◌++◌, take}}
use Rattle.spl_answer.specs.Batches.{spaced}
use Rattle.spl_answer.proofs.batches.append_ids.Given as goal

abbrev pub invariant-loop-id : goal.invariant-loop-id
invariant-loop-id l = l.out.items ≡ l.fn.out.items ++ spaced decimal (take l.id-index l.ids)

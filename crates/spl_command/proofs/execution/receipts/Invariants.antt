use Rattle.std.proofs.Common.{◌≡◌, take}
use Rattle.spl_command.specs.{Execution.values_of, Runs.receipts_of}
use Rattle.spl_command.proofs.execution.receipts.Given as goal

abbrev pub invariant-loop-i : goal.invariant-loop-i
invariant-loop-i l = l.receipts ≡ receipts_of (values_of l.state) (take l.i l.transactions)

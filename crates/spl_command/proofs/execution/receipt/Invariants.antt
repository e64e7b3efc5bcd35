use Rattle.std.proofs.Common.{◌≡◌, take}
use Rattle.spl_command.specs.{Execution.values_of, Runs.{values_after_all, receipt_of}}
use Rattle.spl_command.proofs.execution.receipt.Given as goal

abbrev pub invariant-loop-i : goal.invariant-loop-i
invariant-loop-i l = l.receipt ≡ receipt_of (values_after_all (values_of l.state) l.transactions) (take l.i l.commands)

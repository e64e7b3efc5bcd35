use Rattle.std.proofs.Common.{◌≡◌, ◌+◌, drop}
use Rattle.spl_command.specs.Execution.{cause_from}
use Rattle.spl_command.proofs.cause.first_cause.Given as goal

abbrev pub invariant-loop-transaction : goal.invariant-loop-transaction
invariant-loop-transaction l = record {
  number : l.number ≡ l.transaction-index + 1;
  cause : cause_from l.number (drop l.transaction-index l.transactions) ≡ cause_from 1 l.transactions;
}

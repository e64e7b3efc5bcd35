use Rattle.std.proofs.Common.{◌≡◌, drop}
use Rattle.spl_command.specs.Execution.{cause_among}
use Rattle.spl_command.proofs.batch.Transaction.cause.Given as goal

abbrev pub invariant-loop-command : goal.invariant-loop-command
invariant-loop-command l = cause_among l.self (drop l.command-index l.self.commands) ≡ cause_among l.self l.self.commands

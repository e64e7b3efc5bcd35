use Rattle.std.{specs.Option.option_copied, proofs.Common.{◌≡◌, take}}
use Rattle.spl_command.specs.{Execution.values_of, Runs.values_after_all}
use Rattle.spl_command.proofs.execution.Past.value_at.Given as goal

abbrev pub invariant-loop-transaction : goal.invariant-loop-transaction
invariant-loop-transaction l = option_copied l.value ≡ values_after_all (values_of l.self.state.now) (take l.transaction-index l.transaction-items) l.address

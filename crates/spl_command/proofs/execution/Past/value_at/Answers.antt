use Rattle.std.{specs.Option.option_copied, proofs.Common.arith}
use Rattle.spl_command.{specs.Execution.values_of, proofs.Runs.{value_further, value_after_all_is}}
use Rattle.spl_command.proofs.execution.Past.value_at.Goals as goal

pub loop-transaction-preserved : goal.loop-transaction-preserved
loop-transaction-preserved c =
    value_further (values_of c.args.self.now.state.now) c.args.self.now.transactions.now c.loop-transaction.transaction-index c.args.address.now
    c.transaction-item.result c.as_slice.result.now
    (option_copied c.loop-transaction.value) (option_copied c.value_after_all-value.result)
    (omega arith) c.transaction-item.is c.as_slice.ensures c.loop-transaction.invariant c.value_after_all-value.ensures

pub returns : goal.returns
returns c =
    value_after_all_is (values_of c.args.self.now.state.now) c.args.self.now.transactions.now c.loop-transaction.transaction-index c.args.address.now
    c.args.self.now.commands.now
    (option_copied c.loop-transaction.value) (option_copied c.value_after_all.result) (omega arith) c.loop-transaction.invariant c.value_after_all.ensures

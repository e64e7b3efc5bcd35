use Rattle.std.proofs.Common.{arith}
use Rattle.spl_command.{specs.Execution.values_of, proofs.Runs.receipts_further}
use Rattle.spl_command.proofs.execution.receipts.Goals as goal

pub loop-i-preserved : goal.loop-i-preserved
loop-i-preserved c =
    receipts_further (values_of c.args.state.now) c.args.transactions.now c.loop-i.i c.index-transactions-i.result c.as_slice-commands.result.now
    c.in_ok-receipt.receipt c.loop-i.receipts c.push.new.self
    (omega arith) c.index-transactions-i.is c.as_slice-commands.ensures c.in_ok-receipt.ensures c.loop-i.invariant c.in_ok-push.ensures.ok

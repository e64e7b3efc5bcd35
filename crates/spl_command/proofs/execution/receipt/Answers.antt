use Rattle.std.proofs.Common.{take, fold, sym, ap, ◌∙◌, arith}
use Rattle.spl_command.{specs.{Execution.{values_of, values_after, receipt_after}, Runs.{values_after_all, receipt_of}}, proofs.Runs.receipt_more}
use Rattle.spl_command.proofs.execution.receipt.Goals as goal

pub loop-i-preserved : goal.loop-i-preserved
loop-i-preserved c =
    let m = values_after_all (values_of c.args.state.now) c.args.transactions.now in
    let prefix = take c.loop-i.i c.args.commands.now in
    let after = fold values_after m prefix in
    c.in_ok-add.ensures ∙ ap (λ r. receipt_after after r c.index-commands-i.result) c.loop-i.invariant
    ∙ ap (receipt_after after (receipt_of m prefix)) c.index-commands-i.is
    ∙ sym (receipt_more m c.args.commands.now c.loop-i.i c.index-commands-i.result (omega arith))

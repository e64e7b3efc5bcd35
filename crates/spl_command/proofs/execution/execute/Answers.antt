use Rattle.std.proofs.Common.{sym, ◌∙◌}
use Rattle.spl_command.proofs.Runs.{invalid_on, valid_on}
use Rattle.spl_command.proofs.execution.execute.Goals as goal

pub returns-in-Some : goal.returns-in-Some
returns-in-Some c = invalid_on c.args.state.now c.args.batch.now c.in-Some.transaction c.in-Some.cause (sym c.cause.ensures.cause ∙ c.in-Some.is)

pub returns-in_ok-receipts-in-None : goal.returns-in_ok-receipts-in-None
returns-in_ok-receipts-in-None c =
    valid_on c.args.state.now c.args.batch.now c.as_slice.result.now c.in_ok-receipts-in-None.receipts (sym c.cause.ensures.cause ∙ c.in-None.is)
    (c.as_slice.ensures ∙ c.get.ensures) c.in_ok-receipts-in-None.ensures

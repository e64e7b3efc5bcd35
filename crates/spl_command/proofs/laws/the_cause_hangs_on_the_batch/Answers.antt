use Rattle.std.proofs.Common.{[], ap, sym, ◌∙◌}
use Rattle.spl_command.{specs.Execution.{values_of, cause_of}, proofs.Runs.{verdict_or, verdict_from_is, is_invalid, receipts_after}}
use Rattle.spl_command.proofs.laws.the_cause_hangs_on_the_batch.Goals as goal

pub returns : goal.returns
returns c = λ m b t k.
    let e = verdict_from_is b.transactions 1 (values_of m) [] in
    (λ h. is_invalid (cause_of b) (receipts_after m b) t k (sym e ∙ h), λ h. e ∙ ap (λ o. verdict_or o (receipts_after m b)) h)

use Rattle.std.{specs.Map.lookup, proofs.Common.{[], ◌==◌, ap, ◌∙◌}}
use Rattle.spl_scabbard.{specs.Readers.receipts_of, proofs.Keeps.found_kept}
use Rattle.spl_scabbard.proofs.service.Service.receipt.Goals as goal

pub returns : goal.returns
returns c =
    c.get.ensures.value ∙ ap (lookup (λ k. c.args.id == k)) c.self.invariant.kept_are
    ∙ found_kept c.args.id c.self.inside.batches.items [] ∙ ap (λ bs. receipts_of bs c.args.id) c.self.view_is

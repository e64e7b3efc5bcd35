use Rattle.std.{specs.{Prelude.is_some, Map.lookup}, proofs.Common.{[], ◌==◌, ap, ◌∙◌}}
use Rattle.spl_scabbard.{specs.Checks.is_taken, proofs.Keeps.has_kept}
use Rattle.spl_scabbard.proofs.service.Service.has.Goals as goal

pub returns : goal.returns
returns c =
    c.contains_key.ensures ∙ ap (λ es. is_some (lookup (λ k. c.args.id == k) es)) c.self.invariant.kept_are
    ∙ has_kept c.args.id c.self.inside.batches.items [] ∙ ap (λ bs. is_taken bs c.args.id) c.self.view_is

-- What stands here is all that the parts have.
use Rattle.std.proofs.Common.{◌≡◌, ◌+◌, ◌<◌, length, min, replicate, sym, ap, subst, ◌∙◌}
use Rattle.spl_state.{specs.{Kept.{AllDigit, empty_part}, declared.tree.Body.TheVariants.Inner}, proofs.Steps.{kept_stale, inner_alone, entries_alone}}
use Rattle.spl_state.proofs.tree.Tree.split.Goals as goal

pub invariant_of-self : goal.invariant_of-self
invariant_of-self c =
    let lower = c.lowered-lower.result in
    let was : c.self-2.inside.depth ≡ c.self.inside.depth = ap (λ s. s.depth) (c.self-2.view_is ∙ c.replace.ensures.after ∙ c.new.ensures) in
    let now : c.self-2.inside.depth ≡ c.args.self.now.depth = was ∙ ap (λ s. s.depth) c.self.view_is in
    let empty : c.args.parts.items ≡ replicate 16 (empty_part (c.self-2.inside.depth + 1)) =
    c.requires.parts ∙ ap (λ d. replicate 16 (empty_part (d + 1))) (sym now) in
    let depth : lower.depth ≡ c.self-2.inside.depth + 1 = c.lowered-lower.ensures.depth ∙ ap (λ d. d + 1) (sym was) in
    let entries : lower.entries ≡ c.args.self.now.entries = c.lowered-lower.ensures.entries ∙ ap (λ s. s.entries) c.replace.ensures.value in
    kept_stale _ _ _ (Inner _)
    (c.size-self-inside.ensures
    ∙ ap (λ es. min (length es) 2) (sym (entries_alone (c.self-2.inside.depth + 1) c.args.digit c.args.parts.items lower c.requires.small empty)))
    (inner_alone c.self-2.inside.depth c.args.digit c.args.parts.items lower (subst (λ d. d < 70) (sym now) c.requires.depth) empty depth
    (subst (λ d. AllDigit d c.args.digit lower.entries) (sym now) (subst (AllDigit c.args.self.now.depth c.args.digit) (sym entries) c.requires.digit)))

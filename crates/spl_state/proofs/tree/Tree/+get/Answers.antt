-- No entry has other digits than those down to the lone part.
use Rattle.std.proofs.Common.{◌≡◌, sym, ap, ◌∙◌}
use Rattle.spl_state.{specs.Kept.{IsThin, entries_of, thin_run}, proofs.Thin.{left_path, found_not}}
use Rattle.spl_state.proofs.tree.Tree.+get.Goals as goal

pub returns-in-Thin : goal.returns-in-Thin
returns-in-Thin t c =
    let here = c.below-here.result.now in
    let d = c.here.inside.depth in
    let path = c.in-Thin.field-0 in
    let part = c.in-Thin.field-1.value in
    let shape : IsThin d path part = rw c.in-Thin.is at c.here.invariant.shaped in
    let depth : d ≡ here.depth = ap (λ s. s.depth) c.here.view_is in
    found_not d path here.depth c.args.address.now here.entries part shape
    (left_path d 70 here c.args.address.now path part depth shape.high
    (ap thin_run (sym c.in-Thin.is) ∙ ap (λ s. s.thin) c.here.view_is) c.below-here.ensures.left)
    depth (ap entries_of (sym c.in-Thin.is) ∙ ap (λ s. s.entries) c.here.view_is)
    ∙ c.below-here.ensures.found

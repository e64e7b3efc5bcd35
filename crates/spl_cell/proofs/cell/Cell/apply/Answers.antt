use Rattle.std.proofs.Common.{sym, ap, subst, ◌∙◌}
use Rattle.spl_cell_rules.specs.{Changes.{applied, moved_cell}, Valid.{IsValid, FitsMoveAt}}
use Rattle.spl_cell.{specs.{Sites.site_of, Views.CellView, States.cell_of}, proofs.Lists.kept_list}
use Rattle.spl_cell.proofs.cell.Cell.apply.Goals as goal

pub invariant_of-self-2 : goal.invariant_of-self-2
invariant_of-self-2 c =
    let old = c.self.inside in
    let plan = c.args.plan.now in
    let kept = kept_list (site_of old.site) c.cells_stay_valid.ensures.change (cell_of old.state) plan.changes c.requires.formed c.self.invariant.1.kept in
    let fits =
    subst (λ (v : CellView). FitsMoveAt v.site.here (applied v.site v.state plan.changes) plan.admin plan.service) (sym c.self.view_is) c.requires.fits in
    let made =
    c.in_ok-make_all.ensures.cell
    ∙ (ap (λ s. applied (site_of old.site) (cell_of s) c.as_slice.result.now) c.replace-state.ensures.value
    ∙ ap (applied (site_of old.site) (cell_of old.state)) c.as_slice.ensures) in (
      c.move_rounds.ensures.at,
      subst (IsValid (site_of old.site)) (sym (c.move_rounds.ensures.cell ∙ ap (λ k. moved_cell old.site.here k plan.admin plan.service) made))
          (c.cells_stay_valid.ensures.moves (site_of old.site)
          (applied (site_of old.site) (cell_of old.state) plan.changes) plan.admin plan.service kept fits),
    )

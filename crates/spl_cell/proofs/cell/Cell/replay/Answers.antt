use Rattle.std.proofs.Common.{sym, ap, subst, ◌∙◌}
use Rattle.spl_cell_rules.specs.{Changes.applied, Valid.IsValid}
use Rattle.spl_cell.{specs.{Sites.site_of, Views.CellView, States.{cell_of, IsStill}}, proofs.Lists.{kept_list, still_list, settled_still}}
use Rattle.spl_cell.proofs.cell.Cell.replay.Goals as goal

pub invariant_of-self-2 : goal.invariant_of-self-2
invariant_of-self-2 c =
    let old = c.self.inside in
    let changes = c.args.changes.now in
    let kept = kept_list (site_of old.site) c.cells_stay_valid.ensures.change (cell_of old.state) changes c.requires.formed c.self.invariant.1.kept in
    let still = still_list (site_of old.site) (cell_of old.state) changes (subst (λ (v : CellView). IsStill v.state) (sym c.self.view_is) c.requires.still) in
    let made =
    c.in_ok-apply.ensures.cell
    ∙ (ap (λ s. applied (site_of old.site) (cell_of s) c.as_slice.result.now) c.replace-state.ensures.value
    ∙ ap (applied (site_of old.site) (cell_of old.state)) c.as_slice.ensures) in (
      c.in_ok-apply.ensures.at,
      subst (IsValid (site_of old.site)) (sym made)
          (record { kept = kept; settled = settled_still old.site.here (applied (site_of old.site) (cell_of old.state) changes) still }),
    )

pub returns-clause-still : goal.returns-clause-still
returns-clause-still c =
    let old = c.self.inside in
    let changes = c.args.changes.now in
    let still = still_list (site_of old.site) (cell_of old.state) changes (subst (λ (v : CellView). IsStill v.state) (sym c.self.view_is) c.requires.still) in
    let made =
    c.in_ok-apply.ensures.cell
    ∙ (ap (λ s. applied (site_of old.site) (cell_of s) c.as_slice.result.now) c.replace-state.ensures.value
    ∙ ap (applied (site_of old.site) (cell_of old.state)) c.as_slice.ensures) in
    subst IsStill (sym made) still

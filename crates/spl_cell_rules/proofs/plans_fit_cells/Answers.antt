use Rattle.std.proofs.Common.{subst}
use Rattle.spl_cell_rules.{specs.{Plans.plan_of, Events.does, Valid.IsKept}, proofs.{Cells.{kept-applied, valid-moved}, Events.fits-does}}
use Rattle.spl_cell_rules.proofs.{Limits.limited-planned, Plans.{fitting-planned, legal-planned}}
use Rattle.spl_cell_rules.proofs.plans_fit_cells.Goals as goal

pub returns : goal.returns
returns g = record {
  changes = λ site k e n own s. (fitting-planned site k (does site k e) s (fits-does site k e n own s.kept)).changes;
  moves = λ site k e n own s. (fitting-planned site k (does site k e) s (fits-does site k e n own s.kept)).moves;
  valid = λ site k e n own s.
      let deed = fits-does site k e n own s.kept in
      let fit = fitting-planned site k (does site k e) s deed in
      let formed = (limited-planned site k (does site k e) n s deed).formed in
      valid-moved site _ (plan_of site k e).admin (plan_of site k e).service
      (subst (IsKept site) fit.changes (kept-applied site k (plan_of site k e).changes formed s.kept)) fit.moves;
  legal = λ site k e n own s. legal-planned site k (does site k e) n s (fits-does site k e n own s.kept);
}

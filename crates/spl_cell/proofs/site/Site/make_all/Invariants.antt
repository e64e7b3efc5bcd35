use Rattle.std.proofs.Common.{◌≡◌, true, drop}
use Rattle.spl_cell_rules.specs.Changes.{applied}
use Rattle.spl_cell.specs.{Fits.all_fit, Sites.site_of, States.{cell_of, IsAt}}
use Rattle.spl_cell.proofs.site.Site.make_all.Given as goal

-- what is left fits, and with it it comes to the same
abbrev pub invariant-loop-change : goal.invariant-loop-change
invariant-loop-change l = record {
  at : IsAt (site_of l.self) l.state;
  fit : all_fit (site_of l.self) (cell_of l.state) (drop l.change-index l.changes) ≡ true;
  same : applied (site_of l.self) (cell_of l.state) (drop l.change-index l.changes) ≡ applied (site_of l.self) (cell_of l.fn.state) l.fn.changes;
}

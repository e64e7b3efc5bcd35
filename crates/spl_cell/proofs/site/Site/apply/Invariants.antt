use Rattle.std.proofs.Common.{◌≡◌, drop}
use Rattle.spl_cell_rules.specs.Changes.{applied}
use Rattle.spl_cell.specs.{Sites.site_of, States.{cell_of, IsAt}}
use Rattle.spl_cell.proofs.site.Site.apply.Given as goal

-- with what is left it comes to the same
abbrev pub invariant-loop-change : goal.invariant-loop-change
invariant-loop-change l =
    IsAt (site_of l.self) l.state
    × (applied (site_of l.self) (cell_of l.state) (drop l.change-index l.changes) ≡ applied (site_of l.self) (cell_of l.fn.state) l.fn.changes)

use Rattle.std.proofs.Common.{◌≡◌, ◌++◌}
use Rattle.spl_cell_rules.specs.Plans.{group_sends}
use Rattle.spl_cell.specs.{Lanes.lane_of, Sites.site_of}
use Rattle.spl_cell.proofs.site.Site.with_sends.Given as goal

-- those so far
abbrev pub invariant-loop-position : goal.invariant-loop-position
invariant-loop-position g l = l.sends ≡ l.fn.first ++ group_sends (lane_of g.L.Lane.kind (site_of l.self) l.definition) l.back l.yielded

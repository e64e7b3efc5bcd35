use Rattle.std.proofs.Common.{◌≡◌, ◌++◌, map, drop}
use Rattle.spl_audit.specs.{Keepers.keepers, Reporting.bound_to}
use Rattle.spl_audit.proofs.report.held_by.Given as goal

abbrev pub invariant-nodes : goal.invariant-nodes
invariant-nodes l =
    map (λ h. h.now.bound) l.all.items ++ bound_to l.fn.circuit (keepers (drop l.node-index l.fn.nodes)) ≡ bound_to l.fn.circuit (keepers l.fn.nodes)

use Rattle.std.proofs.Common.{◌≡◌, [], drop}
use Rattle.spl_audit.specs.{Keepers.keepers, Reporting.ids_with}
use Rattle.spl_audit.proofs.report.circuits_of.Given as goal

abbrev pub invariant-nodes : goal.invariant-nodes
invariant-nodes l = ids_with l.ids.keys (keepers (drop l.node-index l.fn.nodes)) ≡ ids_with [] (keepers l.fn.nodes)

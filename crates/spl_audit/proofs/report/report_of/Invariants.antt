use Rattle.std.proofs.Common.{◌≡◌, ◌++◌}
use Rattle.spl_audit.specs.{Keepers.keepers, Reporting.found_in}
use Rattle.spl_audit.proofs.report.report_of.Given as goal

abbrev pub invariant-circuits : goal.invariant-circuits
invariant-circuits l = l.all ++ found_in (keepers l.fn.nodes) l.circuit-iterator ≡ found_in (keepers l.fn.nodes) l.initial.circuit-iterator

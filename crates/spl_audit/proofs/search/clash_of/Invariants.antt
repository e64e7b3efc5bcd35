use Rattle.spl_audit.specs.{Clashes.IsLeast, Keepers.keepers, Searching.IsClashOf}
use Rattle.spl_audit.proofs.search.clash_of.Given as goal

abbrev pub invariant-others : goal.invariant-others
invariant-others l = IsLeast (IsClashOf (keepers l.fn.nodes) l.fn.first l.second) l.least

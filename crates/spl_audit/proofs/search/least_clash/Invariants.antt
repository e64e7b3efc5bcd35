use Rattle.spl_audit.specs.{Clashes.IsLeast, Keepers.keepers, Searching.IsClashBelow}
use Rattle.spl_audit.proofs.search.least_clash.Given as goal

abbrev pub invariant-nodes : goal.invariant-nodes
invariant-nodes l = IsLeast (IsClashBelow (keepers l.fn.nodes) l.first) l.least

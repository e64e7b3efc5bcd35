use Rattle.std.proofs.Common.{take}
use Rattle.spl_audit.specs.{Clashes.IsLeast, Keepers.keeper_of, Searching.IsPairClash}
use Rattle.spl_audit.proofs.search.clash_of_pair.Given as goal

abbrev pub invariant-circuits : goal.invariant-circuits
invariant-circuits l = IsLeast (IsPairClash (take l.circuit-index l.fn.circuits) l.fn.first l.fn.second (keeper_of l.fn.one) (keeper_of l.fn.other)) l.least

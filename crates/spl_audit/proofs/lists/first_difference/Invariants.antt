use Rattle.std.proofs.Common.{ℕ, ◌<◌}
use Rattle.spl_audit.specs.Clashes.{DifferAt}
use Rattle.spl_audit.proofs.lists.first_difference.Given as goal

abbrev pub invariant-places : goal.invariant-places
invariant-places g l = (k : ℕ) → k < l.place → DifferAt l.ours l.theirs k → ⊥

use Rattle.std.proofs.Common.{◌≡◌}
use Rattle.spl_proof.specs.Made.{listed, level_at}
use Rattle.spl_proof.proofs.make.levels_above.Given as goal

abbrev pub invariant-loop-i : goal.invariant-loop-i
invariant-loop-i l = l.levels ≡ listed (λ i. level_at i l.a l.state) l.i

use Rattle.std.proofs.Common.{◌≡◌, ◌++◌, length}
use Rattle.spl_fragments.specs.Parts.{parts}
use Rattle.spl_fragments.proofs.bodies.parts.Given as goal

-- those so far, and those of the rest
abbrev pub invariant-loop-rest : goal.invariant-loop-rest
invariant-loop-rest l = l.parts ++ parts l.rest ≡ parts l.bytes

abbrev pub decreases-loop-rest : goal.decreases-loop-rest
decreases-loop-rest l = length l.rest

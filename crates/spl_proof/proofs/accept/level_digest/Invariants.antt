use Rattle.std.{specs.List.flat_map, proofs.Common.{◌∷◌, take}}
use Rattle.sha2.specs.Hashers.{Holds256}
use Rattle.spl_proof.proofs.accept.level_digest.Given as goal

abbrev pub invariant-loop-digest : goal.invariant-loop-digest
invariant-loop-digest l = Holds256 l.hasher (1 ∷ flat_map (λ d. d) (take l.digest-index l.level))

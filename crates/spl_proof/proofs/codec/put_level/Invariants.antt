use Rattle.std.{specs.List.{flat_map, list_all}, proofs.Common.{◌≡◌, ◌++◌, take, IsTrue}}
use Rattle.spl_proof.specs.Forms.{digest}
use Rattle.spl_proof.proofs.codec.put_level.Given as goal

abbrev pub invariant-loop-digest : goal.invariant-loop-digest
invariant-loop-digest l = (l.w ≡ l.fn.w ++ flat_map (λ d. d) (take l.digest-index l.x)) × IsTrue (list_all digest.fits (take l.digest-index l.x))

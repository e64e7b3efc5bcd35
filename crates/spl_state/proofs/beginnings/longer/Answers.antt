use Rattle.std.proofs.Common.{◌∷◌, subst}
use Rattle.sha2.specs.Hashers.{Holds256}
use Rattle.spl_state.proofs.Zeros.{zeros_more}
use Rattle.spl_state.proofs.beginnings.longer.Goals as goal

pub returns : goal.returns
returns c = λ k h. subst (λ xs. Holds256 c.chain_update.result (1 ∷ xs)) (zeros_more k) (c.chain_update.ensures _ h)

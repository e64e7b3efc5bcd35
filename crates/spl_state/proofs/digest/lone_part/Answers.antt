use Rattle.std.proofs.Common.{◌∷◌, ap, ◌∙◌}
use Rattle.sha2.specs.Sha256.{sha256}
use Rattle.spl_state.proofs.Zeros.{lone_set}
use Rattle.spl_state.proofs.digest.lone_part.Goals as goal

pub returns : goal.returns
returns c = c.node.ensures ∙ ap (λ xs. sha256 (1 ∷ xs)) (c.set_part.ensures.whole ∙ lone_set c.args.only c.args.below.now c.requires)

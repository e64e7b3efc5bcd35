use Rattle.spl_proof.proofs.Bounding.{made_bounded}
use Rattle.spl_proof.proofs.codec.proofs_of_short_values_have_a_form.Goals as goal

pub returns : goal.returns
returns c = made_bounded

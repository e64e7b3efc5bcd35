use Rattle.spl_base.specs.FormLaws.{prefix_free}
use Rattle.spl_proof.specs.{Forms.proof, FormLaws.exact_proof}
use Rattle.spl_proof.proofs.codec.no_proof_begins_another.Goals as goal

pub returns : goal.returns
returns c = prefix_free proof exact_proof

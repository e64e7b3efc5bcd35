use Rattle.spl_proof.specs.{Forms.proof, FormLaws.{exact_proof, whole_again, whole_takes}}
use Rattle.spl_proof.proofs.codec.proofs_are_read_back.Goals as goal

pub returns-clause-again : goal.returns-clause-again
returns-clause-again c = λ p h. whole_again proof exact_proof p h

pub returns-clause-only : goal.returns-clause-only
returns-clause-only c = λ p bytes is e. whole_takes proof exact_proof bytes p is e

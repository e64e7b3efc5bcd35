use Rattle.spl_command.proofs.Valid.{bounded_from_valid}
use Rattle.spl_command.proofs.laws.valid_batches_have_a_form.Goals as goal

pub returns : goal.returns
returns c = bounded_from_valid

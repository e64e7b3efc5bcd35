use Rattle.spl_command.specs.Forms.{exact_batch}
use Rattle.spl_command.proofs.codec.batches_are_read_back.Goals as goal

pub returns : goal.returns
returns c = exact_batch.again

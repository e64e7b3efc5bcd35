use Rattle.spl_base.specs.FormLaws.{prefix_free}
use Rattle.spl_command.specs.Forms.{batch, exact_batch}
use Rattle.spl_command.proofs.codec.no_batch_begins_another.Goals as goal

pub returns : goal.returns
returns c = prefix_free batch exact_batch

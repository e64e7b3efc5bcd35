use Rattle.spl_base.specs.FormLaws.{prefix_free}
use Rattle.spl_wire.specs.Forms.{message_form, exact_message}
use Rattle.spl_wire.proofs.laws.no_message_begins_another.Goals as goal

pub returns : goal.returns
returns c = prefix_free message_form exact_message

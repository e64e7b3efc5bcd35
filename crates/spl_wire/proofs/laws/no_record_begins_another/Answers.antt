use Rattle.spl_base.specs.FormLaws.{prefix_free}
use Rattle.spl_wire.specs.Forms.{record_form, exact_record}
use Rattle.spl_wire.proofs.laws.no_record_begins_another.Goals as goal

pub returns : goal.returns
returns c = prefix_free record_form exact_record

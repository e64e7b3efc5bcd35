use Rattle.spl_base.specs.FormLaws.{prefix_free}
use Rattle.spl_circuit.specs.Forms.{act, exact_act}
use Rattle.spl_circuit.proofs.codec.no_act_begins_another.Goals as goal

pub returns : goal.returns
returns c = prefix_free act exact_act

use Rattle.spl_base.specs.FormLaws.{prefix_free}
use Rattle.spl_circuit.specs.Forms.{definition, exact_definition}
use Rattle.spl_circuit.proofs.codec.no_definition_begins_another.Goals as goal

pub returns : goal.returns
returns c = prefix_free definition exact_definition

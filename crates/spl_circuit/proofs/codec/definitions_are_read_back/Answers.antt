use Rattle.spl_circuit.specs.Forms.{exact_definition}
use Rattle.spl_circuit.proofs.codec.definitions_are_read_back.Goals as goal

pub returns : goal.returns
returns c = exact_definition.again

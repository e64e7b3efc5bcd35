use Rattle.spl_circuit.specs.Forms.{exact_act}
use Rattle.spl_circuit.proofs.codec.acts_are_read_back.Goals as goal

pub returns : goal.returns
returns c = exact_act.again

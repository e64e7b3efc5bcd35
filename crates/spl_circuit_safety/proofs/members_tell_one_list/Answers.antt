-- Each history begins the circuit's list.
use Rattle.spl_circuit_safety.proofs.OneList.{tell-one_list}
use Rattle.spl_circuit_safety.proofs.members_tell_one_list.Goals as goal

pub returns : goal.returns
returns c = tell-one_list

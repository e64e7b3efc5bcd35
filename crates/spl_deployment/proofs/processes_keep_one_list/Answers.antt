-- Each history begins the circuit's list.
use Rattle.spl_deployment.proofs.OneList.{keep-one_list}
use Rattle.spl_deployment.proofs.processes_keep_one_list.Goals as goal

pub returns : goal.returns
returns c = keep-one_list

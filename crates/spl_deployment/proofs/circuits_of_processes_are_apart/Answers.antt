-- By the doings.
use Rattle.spl_deployment.proofs.Own.{are-apart}
use Rattle.spl_deployment.proofs.circuits_of_processes_are_apart.Goals as goal

pub returns : goal.returns
returns c = are-apart

-- By the world beside what the processes keep.
use Rattle.spl_deployment.proofs.Worlds.{goes-on_from}
use Rattle.spl_deployment.proofs.deployments_go_on.Goals as goal

pub returns : goal.returns
returns c = goes-on_from

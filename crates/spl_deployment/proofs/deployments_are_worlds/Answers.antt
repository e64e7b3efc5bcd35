-- By the world beside what the processes keep.
use Rattle.spl_deployment.proofs.Worlds.{one-world}
use Rattle.spl_deployment.proofs.deployments_are_worlds.Goals as goal

pub returns : goal.returns
returns c = one-world

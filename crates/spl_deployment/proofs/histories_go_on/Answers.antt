-- By the entries.
use Rattle.spl_deployment.proofs.Worlds.{goes-on}
use Rattle.spl_deployment.proofs.histories_go_on.Goals as goal

pub returns : goal.returns
returns c = goes-on

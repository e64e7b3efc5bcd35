use Rattle.spl_node.proofs.Hosting.{kept_stand}
use Rattle.spl_node.proofs.host.disks_stand_for_cells.Goals as goal

pub returns : goal.returns
returns c = λ h first second stands. kept_stand h.id h.node first second stands.up stands.down

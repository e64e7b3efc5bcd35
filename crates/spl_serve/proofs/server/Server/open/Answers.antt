use Rattle.spl_edge.specs.Devices.{image_now}
use Rattle.spl_serve.proofs.Opening.{have_read}
use Rattle.spl_serve.proofs.server.Server.open.Goals as goal

pub returns-clause-cells : goal.returns-clause-cells
returns-clause-cells g c =
    have_read c.in_ok-node.node c.args.here (image_now (g.D.Disk.view c.args.disks.now.first))
    (image_now (g.D.Disk.view c.args.disks.now.second)) c.in_ok-node.ensures.here c.in_ok-node.ensures.cells

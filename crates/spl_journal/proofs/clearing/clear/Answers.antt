use Rattle.std.proofs.Common.{min, arith}
use Rattle.spl_edge.specs.Devices.{image_now}
use Rattle.spl_journal.proofs.Clears.{cleared_told}
use Rattle.spl_journal.proofs.clearing.clear.Goals as goal

pub returns-in-Ok-clause-cleared : goal.returns-in-Ok-clause-cleared
returns-in-Ok-clause-cleared g c =
    cleared_told (min c.args.len 17) c.args.epoch c.closed_prefix-head.result (image_now (g.D.Disk.view c.args.disk.now))
    (image_now (g.D.Disk.view c.clear_to.new.disk)) (omega arith) c.closed_prefix-head.ensures c.in-Ok.ensures.cleared

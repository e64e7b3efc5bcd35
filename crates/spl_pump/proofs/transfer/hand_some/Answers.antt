use Rattle.spl_pump.proofs.Streams.{part_is}
use Rattle.spl_pump.proofs.transfer.hand_some.Goals as goal

pub returns-in_err-take_all-clause-part : goal.returns-in_err-take_all-clause-part
returns-in_err-take_all-clause-part g c =
    part_is c.args.from c.args.to c.in_ok-count.count c.args.piece.now (g.F.Fabric.view c.args.fabric.now).put (g.F.Fabric.view c.put.new.self).put
    (g.F.Fabric.view c.take_all.new.fabric).put c.in_ok-count.ensures.put c.in_ok-count.ensures.others c.take_all.ensures.put

pub returns-clause-part : goal.returns-clause-part
returns-clause-part g c =
    part_is c.args.from c.args.to c.in_ok-count.count c.args.piece.now (g.F.Fabric.view c.args.fabric.now).put (g.F.Fabric.view c.put.new.self).put
    (g.F.Fabric.view c.take_all.new.fabric).put c.in_ok-count.ensures.put c.in_ok-count.ensures.others c.take_all.ensures.put

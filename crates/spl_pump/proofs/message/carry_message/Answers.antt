use Rattle.spl_pump.proofs.Streams.{part_same}
use Rattle.spl_pump.proofs.message.carry_message.Goals as goal

pub returns-in_err-message-clause-part : goal.returns-in_err-message-clause-part
returns-in_err-message-clause-part g c =
    part_same c.args.from c.args.to _ _ (g.F.Fabric.view c.args.fabric.now).put
    (g.F.Fabric.view c.echo.new.fabric).put c.in_ok-sent.ensures.sent c.echo.ensures.part

pub returns-clause-part : goal.returns-clause-part
returns-clause-part g c =
    part_same c.args.from c.args.to _ _ (g.F.Fabric.view c.args.fabric.now).put
    (g.F.Fabric.view c.echo.new.fabric).put c.in_ok-sent.ensures.sent c.echo.ensures.part

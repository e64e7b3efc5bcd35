use Rattle.std.proofs.Common.{refl}
use Rattle.spl_pump.{specs.Wires.sent_as, proofs.{Taking.takes_short, Wires.grows_puts}}
use Rattle.spl_pump.proofs.pump.send.Goals as goal

pub returns-in-Ok-clause-put : goal.returns-in-Ok-clause-put
returns-in-Ok-clause-put g c =
    grows_puts c.args.from c.args.to (sent_as c.args.message.now) (g.F.Fabric.view c.args.fabric.now).put
    (g.F.Fabric.view c.carry_message.new.fabric).put c.in-Ok.ensures.put

pub returns-in-Ok-clause-heard : goal.returns-in-Ok-clause-heard
returns-in-Ok-clause-heard g c =
    grows_puts c.args.from c.args.to (sent_as c.args.message.now) (g.F.Fabric.view c.args.fabric.now).taken
    (g.F.Fabric.view c.carry_message.new.fabric).taken c.in-Ok.ensures.taken

pub returns-in-Err-clause-came : goal.returns-in-Err-clause-came
returns-in-Err-clause-came g c =
    takes_short c.args.from c.args.to (sent_as c.args.message.now) (g.F.Fabric.view c.args.fabric.now).taken
    (g.F.Fabric.view c.carry_message.new.fabric).taken (refl, refl, refl) c.in-Err.ensures.came

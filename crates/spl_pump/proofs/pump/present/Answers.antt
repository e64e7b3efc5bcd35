use Rattle.std.proofs.Common.{refl}
use Rattle.spl_pump.{specs.Wires.hand, proofs.Taking.takes_short}
use Rattle.spl_pump.proofs.pump.present.Goals as goal

pub returns-in-Err-clause-came : goal.returns-in-Err-clause-came
returns-in-Err-clause-came g c =
    takes_short c.args.from c.args.to (hand c.args.registry.now c.args.from c.args.to) (g.F.Fabric.view c.args.fabric.now).taken
    (g.F.Fabric.view c.greet.new.fabric).taken (refl, refl, refl) c.in-Err.ensures.came

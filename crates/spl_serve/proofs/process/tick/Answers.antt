use Rattle.std.proofs.Common.{false, refl}
use Rattle.spl_serve.proofs.{Coming.grown_tick, Turning.all_one}
use Rattle.spl_serve.proofs.process.tick.Goals as goal
use Rattle.spl_serve.specs.declared.outside.Arrival.TheVariants as arrival

pub returns : goal.returns
returns c = λ v. all_one c.args.nodes.now false v v (arrival.Tick c.args.circuit) c.in_ok-take.field-0 c.args.turn.now c.take.new.self refl
    (grown_tick v (arrival.Tick c.args.circuit) refl) c.in_ok-take.ensures.goes c.in_ok-take.ensures.takes

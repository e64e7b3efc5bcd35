use Rattle.std.proofs.Common.{None}
use Rattle.spl_serve.proofs.Turning.{all_twice}
use Rattle.spl_serve.proofs.process.tick_all.Goals as goal

pub loop-preserved : goal.loop-preserved
loop-preserved c = record {
  running = (c.in_ok-tick_one.ensures None).goes.running;
  takes = λ v. all_twice c.args.nodes.now v v v c.args.turn.now c.loop.turn c.tick_one.new.turn (c.loop.invariant.takes v) (c.in_ok-tick_one.ensures v);
}

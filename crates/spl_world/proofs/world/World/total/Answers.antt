use Rattle.spl_world.{specs.Views.nodes_over, proofs.Turns.all_sent}
use Rattle.spl_world.proofs.world.World.total.Goals as goal

pub returns : goal.returns
returns c = λ is m a h at. all_sent (nodes_over c.args.self.now is) c.args.from c.slot_at.result.now c.args.circuit.now a m c.total.result c.slot_at.ensures at h c.total.ensures

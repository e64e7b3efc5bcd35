use Rattle.spl_world.{specs.{Turns.IsThere, Views.world_node_ids}, proofs.{Common.{◌≡◌, ◌∙◌, subst, sym, true, is_step, Step}, Stepping.delivery_fits}}
use Rattle.spl_world.proofs.Stepping.{delivery_step, tick_fits, tick_step}
use Rattle.spl_world.proofs.world.World.has_line.Goals as goal

pub returns-in-Tick-clause-fits : goal.returns-in-Tick-clause-fits
returns-in-Tick-clause-fits c = λ s yes.
    tick_step (λ (r : Step). is_step r ≡ true) (world_node_ids c.args.self.now) c.args.circuit.now c.args.turn.now c.in-Tick.slot _ c.in-Tick.is
    (λ n at. tick_fits c.id_at.result n c.args.circuit.now (sym c.id_at.ensures.at ∙ at) c.id_at.ensures.spelled c.bytes.ensures.spelled) s

pub returns-in-Deliver-clause-fits : goal.returns-in-Deliver-clause-fits
returns-in-Deliver-clause-fits c = λ s yes.
    delivery_step (λ (r : Step). is_step r ≡ true) (world_node_ids c.args.self.now) c.args.circuit.now c.args.turn.now c.in-Deliver.from c.in-Deliver.to c.in-Deliver.index c.in-Deliver.is
    (λ a b at to. delivery_fits c.id_at-in-Deliver.result c.id_at-in-Deliver-2.result a b c.args.circuit.now c.in-Deliver.index (sym c.id_at-in-Deliver.ensures.at ∙ at) (sym c.id_at-in-Deliver-2.ensures.at ∙ to) c.id_at-in-Deliver.ensures.spelled c.id_at-in-Deliver-2.ensures.spelled c.bytes.ensures.spelled yes
    ((subst (IsThere c.args.self.now) c.in-Deliver.is c.requires.there).2 _ _ c.id_at-in-Deliver.ensures.at c.id_at-in-Deliver-2.ensures.at)) s

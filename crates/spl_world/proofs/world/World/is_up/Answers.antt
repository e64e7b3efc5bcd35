use Rattle.spl_world.{specs.Views.nodes_over, proofs.{Common.{◌∙◌, sym, ap, Some}, Reading.{up_as, up_at}}}
use Rattle.spl_world.proofs.world.World.is_up.Goals as goal

pub returns-clause-world : goal.returns-clause-world
returns-clause-world c = λ is i m n h at. c.is_up.ensures ∙ up_as i m (nodes_over c.args.self.now is) c.args.slot c.slot_at.result.now n h c.slot_at.ensures at

pub returns-clause-up : goal.returns-clause-up
returns-clause-up c = λ up. up_at c.args.self.now.slots.items c.args.slot c.slot_at.result.now c.slot_at.ensures ∙ ap (λ b. Some b) (sym c.is_up.ensures ∙ up)

pub returns-clause-down : goal.returns-clause-down
returns-clause-down c = λ down. up_at c.args.self.now.slots.items c.args.slot c.slot_at.result.now c.slot_at.ensures ∙ ap (λ b. Some b) (sym c.is_up.ensures ∙ down)

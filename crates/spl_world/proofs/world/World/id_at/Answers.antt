use Rattle.spl_world.{specs.Views.world_node_ids, proofs.{Common.{◌∙◌, sym, Some, ap}, Reading.has_at, Slots.id_at}}
use Rattle.spl_world.proofs.world.World.id_at.Goals as goal

pub returns-clause-at : goal.returns-clause-at
returns-clause-at c = id_at c.args.self.now.slots.items c.args.slot c.slot_at.result.now c.slot_at.ensures ∙ ap Some (sym c.id.ensures)

pub returns-clause-known : goal.returns-clause-known
returns-clause-known c = has_at (world_node_ids c.args.self.now) c.args.slot c.id.result.now (id_at c.args.self.now.slots.items c.args.slot c.slot_at.result.now c.slot_at.ensures ∙ ap Some (sym c.id.ensures))

use Rattle.spl_world.proofs.{Common.{◌∙◌, sym}, Slots.{known_is_found, found_at, at_below}}
use Rattle.spl_world.proofs.world.World.index_of.Goals as goal

pub unwrap-requires : goal.unwrap-requires
unwrap-requires c = rw (c.position_of.ensures, c.deref.ensures.value) (known_is_found c.args.self.now.slots.items c.args.node.now 0 c.requires.known)

pub returns-clause-at : goal.returns-clause-at
returns-clause-at c = found_at c.args.self.now.slots.items c.args.node.now c.unwrap.result (rw (c.deref.ensures.value) at (sym c.position_of.ensures ∙ c.unwrap.ensures))

pub returns-clause-below : goal.returns-clause-below
returns-clause-below c = at_below c.args.self.now.slots.items c.unwrap.result c.args.node.now (found_at c.args.self.now.slots.items c.args.node.now c.unwrap.result (rw (c.deref.ensures.value) at (sym c.position_of.ensures ∙ c.unwrap.ensures)))

use Rattle.spl_world.{specs.{Calms.due_at, Views.world_node_ids}, proofs.{Calms.{none_due, one_due}, Common.{◌≡◌, ◌∙◌, Some, None, refl, sym, ap, arith}}}
use Rattle.spl_world.proofs.{Common.{drop_all, open_nodes}, Cursor.{closed_on, opened_on}, Slots.{length_ids, some_at}}
use Rattle.spl_world.proofs.calm.Calm.next_open.Goals as goal

pub loop-slot-init : goal.loop-slot-init
loop-slot-init c = λ is z sits h. refl

pub returns-in-Some-clause-opens : goal.returns-in-Some-clause-opens
returns-in-Some-clause-opens c = λ is z sits h.
    let k = c.args.self.now in
    let ids = world_node_ids c.args.world.now in
    let node = some_at c.args.world.now.slots.items c.loop-slot.slot (rw (c.len-slot-end.ensures) at c.loop-slot-test.true) in
    let looked : due_at k.circuit z.world node.0 ≡ Some c.in-Some.due = sym (c.due.ensures.world is z.world node.0 sits h node.1) ∙ c.in-Some.is in (
      node.0,
      node.1,
      c.loop-slot.invariant is z sits h ∙ opened_on z.world ids c.loop-slot.slot node.0 node.1 (one_due k.circuit node.0 z.world c.in-Some.due looked),
      looked,
    )

pub loop-slot-preserved : goal.loop-slot-preserved
loop-slot-preserved c = λ is z sits h.
    let k = c.args.self.now in
    let node = some_at c.args.world.now.slots.items c.loop-slot.slot (rw (c.len-slot-end.ensures) at c.loop-slot-test.true) in
    let looked : due_at k.circuit z.world node.0 ≡ None = sym (c.due.ensures.world is z.world node.0 sits h node.1) ∙ c.in_default.is in
    c.loop-slot.invariant is z sits h ∙ closed_on z.world (world_node_ids c.args.world.now) c.loop-slot.slot node.0 node.1 (none_due k.circuit node.0 z.world looked)

pub returns-clause-opens : goal.returns-clause-opens
returns-clause-opens c = λ is z sits h.
    let same = length_ids c.args.world.now.slots.items in
    c.loop-slot.invariant is z sits h ∙ ap (open_nodes z.world) (drop_all c.loop-slot.slot (world_node_ids c.args.world.now) (omega (arith, same, c.len-slot-end.ensures, c.loop-slot-test.false)))

use Rattle.spl_world.{specs.{Calls.disks_view, Views.seen}, proofs.{Calls.nodes_same, Common.{◌∙◌, sym, refl}, Happening.{step_at_down, step_handled}}}
use Rattle.spl_world.proofs.Reading.{step_up}
use Rattle.spl_world.proofs.world.World.event_at.Goals as goal
use Rattle.spl_node.specs.Benches.{images}
use Rattle.spl_sched.specs.declared.line.Step.TheVariants as step

pub handle-requires-clause-up : goal.handle-requires-clause-up
handle-requires-clause-up g c = c.is_up.ensures.up c.if-not-is_up.false

pub returns-then-not-is_up-clause-leaves : goal.returns-then-not-is_up-clause-leaves
returns-then-not-is_up-clause-leaves g c = nodes_same _ c.args.self.now c.args.self.now refl (disks_view g.D.Disk.view c.args.pairs.now.items) c.requires.sits

pub returns-then-not-is_up-clause-event : goal.returns-then-not-is_up-clause-event
returns-then-not-is_up-clause-event g c = λ n at.
    let s = step.At n c.args.circuit c.args.event.now in
    let xs = seen g.D.Disk.view c.args.self.now c.args.pairs.now.items in
    step_at_down s xs (λ m h. sym (c.is_up.ensures.world (images g.D.Disk.view c.args.pairs.now.items) c.args.circuit m n h at) ∙ c.if-not-is_up.true)

pub returns-clause-event : goal.returns-clause-event
returns-clause-event g c = λ n at.
    let circuit = c.args.circuit in
    let s = step.At n circuit c.args.event.now in
    let xs = seen g.D.Disk.view c.args.self.now c.args.pairs.now.items in
    step_handled s xs c.args.event.now c.handle.result (seen g.D.Disk.view c.handle.new.self c.handle.new.pairs.items)
    (λ m h. sym (step_up m s (sym (c.is_up.ensures.world (images g.D.Disk.view c.args.pairs.now.items) circuit m n h at) ∙ c.if-not-is_up.false))) (c.handle.ensures.event n at)

pub returns-then-not-is_up-clause-faults : goal.returns-then-not-is_up-clause-faults
returns-then-not-is_up-clause-faults g c = record { event = record { sound = tt; few = λ which q. cc }; unlinked = tt }

pub returns-clause-counts : goal.returns-clause-counts
returns-clause-counts g c = c.handle.ensures.stays.counts

use Rattle.spl_world.{specs.{Calls.disks_view, Links.{carried_at, link_view}, Views.seen}, proofs.{Calls.{nodes_same, still_linked}, Common.{◌≡◌, ◌+◌, ◌∙◌}}}
use Rattle.spl_world.proofs.{Common.{sym, false, [], refl, Steps}, Happening.step_at_down, Linking.{carries_nothing, delivers_as, done}, Seating.carried_down}
use Rattle.spl_world.proofs.world.World.deliver_at.Goals as goal
use Rattle.spl_node.specs.Benches.{images}
use Rattle.spl_sched.specs.declared.line.Step.TheVariants as step

pub deliver-requires-clause-up : goal.deliver-requires-clause-up
deliver-requires-clause-up g c = c.is_up.ensures.up c.if-not-is_up.false

pub returns-then-not-is_up-clause-leaves : goal.returns-then-not-is_up-clause-leaves
returns-then-not-is_up-clause-leaves g c = still_linked _ c.requires.ready.ready (nodes_same _ c.args.self.now c.args.self.now refl (disks_view g.D.Disk.view c.args.pairs.now.items) c.requires.ready.sits)

pub returns-then-not-is_up-clause-runs : goal.returns-then-not-is_up-clause-runs
returns-then-not-is_up-clause-runs g c = λ a b at to.
    let s = step.Deliver a b c.args.sending.now.circuit (c.args.sending.now.index + 1) in
    let x = link_view (g.C.Carry.view c.args.carrier.now) (g.F.Fabric.view c.args.fabric.now) in
    record {
      event = step_at_down s (seen g.D.Disk.view c.args.self.now c.args.pairs.now.items)
          (λ m h. sym (c.is_up.ensures.world (images g.D.Disk.view c.args.pairs.now.items) c.args.sending.now.circuit m b h to) ∙ c.if-not-is_up.true);
      links = λ place m placed h.
          let down : m.up b ≡ false = sym (c.is_up.ensures.world (images g.D.Disk.view c.args.pairs.now.items) c.args.sending.now.circuit m b h to) ∙ c.if-not-is_up.true in
          delivers_as done [] (carried_at place m (Steps s)) x x (carried_down place m a b c.args.sending.now.circuit (c.args.sending.now.index + 1) down)
          (carries_nothing x (g.met.C.Carry.idle c.args.carrier.now));
    }

pub returns-clause-counts : goal.returns-clause-counts
returns-clause-counts g c = c.deliver.ensures.stays.counts

use Rattle.spl_world.{specs.Calls.around, proofs.{Calls.{is_limit, call_counted, left_early, steps_over, step_ran}, Common.{◌≡◌, ◌+◌, arith, refl}}}
use Rattle.spl_world.proofs.world.World.count_turn.Goals as goal
use Rattle.spl_sched.specs.declared.line.Line.TheVariants as line

pub run_turn-requires-clause-ready : goal.run_turn-requires-clause-ready
run_turn-requires-clause-ready g c = record { sits = c.requires.ready.sits; ready = c.requires.ready.ready }

-- ---- it ran

pub returns-clause-leaves : goal.returns-clause-leaves
returns-clause-leaves g c = call_counted c.args.self.now _ c.run_turn.ensures.leaves

pub returns-clause-runs : goal.returns-clause-runs
returns-clause-runs g c = λ a.
    let one : c.run_turn.new.self.events ≡ c.args.self.now.events + 1 = omega (arith, c.run_turn.ensures.counts.events, c.in_ok-add.ensures.counts.ok) in
    let nodes = c.run_turn.ensures.leaves.nodes in
    let ran = c.run_turn.ensures.runs a.step a.is_turn in
    step_ran a.o a.others a.before (line.Step a.step) c.args.self.now
    (around g.D.Disk.view g.C.Carry.view g.F.Fabric.view c.args.pairs.now.items c.args.carrier.now c.args.fabric.now) a.stands c.run_turn.new.self
    (around g.D.Disk.view g.C.Carry.view g.F.Fabric.view c.run_turn.new.pairs.items c.run_turn.new.carrier c.run_turn.new.fabric) a.step c.run_turn.result refl a.fits
    one c.run_turn.ensures.counts.stops nodes.ids nodes.sits nodes.place c.run_turn.ensures.faults ran.event ran.links

-- ---- there are too many events

pub returns-in_err-add-clause-leaves : goal.returns-in_err-add-clause-leaves
returns-in_err-add-clause-leaves g c = left_early c.from_residual.result c.from_residual.ensures (is_limit c.in_err-add.field-0.0 1 (let only = c.in_err-add.ensures.fault in cc)) refl

pub returns-in_err-add-clause-runs : goal.returns-in_err-add-clause-runs
returns-in_err-add-clause-runs g c = λ a.
    steps_over a.o a.others a.before (line.Step a.step) c.args.self.now (around g.D.Disk.view g.C.Carry.view g.F.Fabric.view c.args.pairs.now.items c.args.carrier.now c.args.fabric.now) a.stands _ _ c.from_residual.result c.from_residual.ensures a.fits refl c.in_err-add.ensures.counts c.in_err-add.ensures.fault

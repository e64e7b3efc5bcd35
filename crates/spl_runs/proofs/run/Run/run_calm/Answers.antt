use Rattle.std.proofs.Common.{◌≡◌, ◌+◌, ◌≤◌, ◌∙◌, ap, sym, refl, arith}
use Rattle.spl_circuit_world.specs.{Whole.whole_world, declared.TheConstants.MOST_EVENTS}
use Rattle.spl_world.{specs.{Calls.around, Links.link_view, declared.fault.WorldFault.TheVariants.NoMemory}, proofs.Calls.{is_limit, is_memory}}
use Rattle.spl_node.specs.Benches.{images}
use Rattle.spl_runs.{specs.Calms.CalmAfter, proofs.Calms.{all_heard, calm_begins, calm_ends, calm_over, failed_at, fails_first, match_failed, nodes_counted}}
use Rattle.spl_runs.proofs.{Calms.{nodes_failed, nodes_ok, nodes_still, nodes_then}, Causes.done}
use Rattle.spl_runs.proofs.run.Run.run_calm.Goals as goal
use Rattle.spl_edge.proofs.Results.{failed}

-- ---- no memory for what is kept of it

pub returns-in_err-calm-clause-on : goal.returns-in_err-calm-clause-on
returns-in_err-calm-clause-on g c = nodes_still c.from_residual.result c.from_residual.ensures is_memory refl

pub returns-in_err-calm-clause-comes : goal.returns-in_err-calm-clause-comes
returns-in_err-calm-clause-comes g c = λ t placed stands.
    match_failed _ _ c.from_residual.result NoMemory c.from_residual.ensures
    (fails_first t _ c.args.self.now.world (images g.D.Disk.view c.args.pairs.now.items)
    (link_view (g.C.Carry.view c.args.carrier.now) (g.F.Fabric.view c.args.fabric.now)) NoMemory is_memory (λ which q. cc) stands)

-- ---- a step failed

pub returns-in_err-turns-clause-on : goal.returns-in_err-turns-clause-on
returns-in_err-turns-clause-on g c = nodes_failed c.from_residual-in_err-turns.result c.from_residual-in_err-turns.ensures c.in_err-turns.ensures.on

pub returns-in_err-turns-clause-comes : goal.returns-in_err-turns-clause-comes
returns-in_err-turns-clause-comes g c = λ t placed stands.
    let d : CalmAfter = record { past = t; circuit = c.args.circuit; passes = c.args.passes } in
    let is = images g.D.Disk.view c.args.pairs.now.items in
    let b = c.in_ok-calm.ensures.begins is (whole_world t.o c.args.circuit t.before) (stands.each c.args.circuit) in
    let begun =
    calm_begins d c.in_ok-calm.calm c.args.self.now.world is
    (link_view (g.C.Carry.view c.args.carrier.now) (g.F.Fabric.view c.args.fabric.now)) c.args.self.now.tracer stands b.0 b.1
    (g.met.C.Carry.idle c.args.carrier.now) (λ on. c.requires.cleared) in
    match_failed _ _ c.from_residual-in_err-turns.result _ c.from_residual-in_err-turns.ensures
    (c.in_err-turns.ensures.comes d refl c.requires.fits placed begun)

-- ---- too many ticks are left

pub returns-in_err-count_ticks-clause-on : goal.returns-in_err-count_ticks-clause-on
returns-in_err-count_ticks-clause-on g c =
    nodes_then c.in_ok-turns.ensures.on (nodes_failed c.from_residual-in_err-count_ticks.result c.from_residual-in_err-count_ticks.ensures
    (nodes_counted (failed (Unit {0}) _ c.in_err-count_ticks.field-0.0) c.turns.new.self.world c.count_ticks.new.self
    (around g.D.Disk.view g.C.Carry.view g.F.Fabric.view c.turns.new.pairs.items c.turns.new.carrier c.turns.new.fabric)
    c.count_ticks.ensures.slots tt c.in_err-count_ticks.ensures.only c.in_ok-turns.ensures.on.leaves.nodes.sits c.in_ok-turns.ensures.on.leaves.ready))

pub returns-in_err-count_ticks-clause-comes : goal.returns-in_err-count_ticks-clause-comes
returns-in_err-count_ticks-clause-comes g c = λ t placed stands.
    let d : CalmAfter = record { past = t; circuit = c.args.circuit; passes = c.args.passes } in
    let is = images g.D.Disk.view c.args.pairs.now.items in
    let b = c.in_ok-calm.ensures.begins is (whole_world t.o c.args.circuit t.before) (stands.each c.args.circuit) in
    let begun =
    calm_begins d c.in_ok-calm.calm c.args.self.now.world is
    (link_view (g.C.Carry.view c.args.carrier.now) (g.F.Fabric.view c.args.fabric.now)) c.args.self.now.tracer stands b.0 b.1
    (g.met.C.Carry.idle c.args.carrier.now) (λ on. c.requires.cleared) in
    let h = c.in_ok-turns.ensures.comes d refl c.requires.fits placed begun in
    let f = c.in_err-count_ticks.field-0.0 in
    match_failed _ _ c.from_residual-in_err-count_ticks.result f c.from_residual-in_err-count_ticks.ensures
    (failed_at c.in_ok-turns.ensures.on.leaves.nodes.ids c.in_ok-turns.ensures.on.leaves.nodes.places
    (calm_over d h f c.ticks_left.result c.requires.fits (g.met.C.Carry.prefix c.args.carrier.now)
    (is_limit f 1 (let only = c.in_err-count_ticks.ensures.only in cc))
    (λ which q. (let m = c.in_err-count_ticks.ensures.counts.many which (ap (failed (Unit {0}) _) q) in
    (m.0, (let o = m.1 in omega (arith, o))))) c.ticks_left.ensures.most))

-- ---- all of it ran

pub returns-clause-on : goal.returns-clause-on
returns-clause-on g c = nodes_then c.in_ok-turns.ensures.on (nodes_ok _
    (nodes_counted (done (Unit {0}) tt) c.turns.new.self.world c.count_ticks.new.self
    (around g.D.Disk.view g.C.Carry.view g.F.Fabric.view c.turns.new.pairs.items c.turns.new.carrier c.turns.new.fabric)
    c.count_ticks.ensures.slots c.in_ok-count_ticks.ensures.running tt c.in_ok-turns.ensures.on.leaves.nodes.sits c.in_ok-turns.ensures.on.leaves.ready))

pub returns-clause-comes : goal.returns-clause-comes
returns-clause-comes g c = λ t placed stands.
    let d : CalmAfter = record { past = t; circuit = c.args.circuit; passes = c.args.passes } in
    let is = images g.D.Disk.view c.args.pairs.now.items in
    let b = c.in_ok-calm.ensures.begins is (whole_world t.o c.args.circuit t.before) (stands.each c.args.circuit) in
    let begun =
    calm_begins d c.in_ok-calm.calm c.args.self.now.world is
    (link_view (g.C.Carry.view c.args.carrier.now) (g.F.Fabric.view c.args.fabric.now)) c.args.self.now.tracer stands b.0 b.1
    (g.met.C.Carry.idle c.args.carrier.now) (λ on. c.requires.cleared) in
    let h = c.in_ok-turns.ensures.comes d refl c.requires.fits placed begun in
    let n = c.ticks_left.result in
    let events : c.count_ticks.new.self.events ≡ c.turns.new.self.world.events + n = (let ok = c.in_ok-count_ticks.ensures.counts.ok in omega (arith, ok)) in
    let few : n ≤ MOST_EVENTS = (let all = c.in_ok-count_ticks.ensures.few in omega (arith, all, events)) in
    calm_ends d h c.count_ticks.new.self n c.requires.fits c.count_ticks.ensures.slots c.count_ticks.ensures.stops events (c.ticks_left.ensures.exact few)

pub returns-clause-heard : goal.returns-clause-heard
returns-clause-heard g c = λ t stands placed.
    let d : CalmAfter = record { past = t; circuit = c.args.circuit; passes = c.args.passes } in
    let is = images g.D.Disk.view c.args.pairs.now.items in
    let b = c.in_ok-calm.ensures.begins is (whole_world t.o c.args.circuit t.before) (stands.each c.args.circuit) in
    let begun =
    calm_begins d c.in_ok-calm.calm c.args.self.now.world is
    (link_view (g.C.Carry.view c.args.carrier.now) (g.F.Fabric.view c.args.fabric.now)) c.args.self.now.tracer stands b.0 b.1
    (g.met.C.Carry.idle c.args.carrier.now) (λ on. c.requires.cleared) in
    all_heard d (c.in_ok-turns.ensures.comes d refl c.requires.fits placed begun)
    (c.turns.ensures.whole ∙ c.in_ok-calm.ensures.whole ∙ c.is_on.ensures ∙ sym c.turns.ensures.rest.traced)

use Rattle.std.{specs.Result.MatchResult, proofs.Common.{◌∙◌, ap, arith, subst, sym, Result}}
use Rattle.spl_sched.specs.declared.line.Line.TheVariants as line
use Rattle.spl_wire.specs.declared.answer.Answer.{Answer}
use Rattle.spl_world.specs.{Calls.around, Links.link_view, Turns.TurnAfter, Views.{world_node_ids, places_of}, declared.fault.WorldFault.WorldFault}
use Rattle.spl_world.proofs.{Calls.call_done, Leaving.no_journal, Stepping.turn_there}
use Rattle.spl_node.specs.Benches.{images}
use Rattle.spl_runs.{proofs.{Calms.{idle_comes, idle_line, nodes_counted, nodes_failed}, Causes.err_is}, specs.Calms.{FailedAfter, RanAfter}}
use Rattle.spl_runs.proofs.calm.run_turn.Goals as goal
use Rattle.spl_edge.proofs.Results.{at_ok, failed}

-- ---- a tick that has nothing to do

pub returns-then-is_idle-clause-on : goal.returns-then-is_idle-clause-on
returns-then-is_idle-clause-on g c =
    nodes_counted c.count_ticks.result c.args.world.now c.count_ticks.new.self
    (around g.D.Disk.view g.C.Carry.view g.F.Fabric.view c.args.pairs.now.items c.args.carrier.now c.args.fabric.now)
    c.count_ticks.ensures.slots c.count_ticks.ensures.running c.count_ticks.ensures.only c.requires.sits c.requires.ready

pub returns-then-is_idle-clause-counted : goal.returns-then-is_idle-clause-counted
returns-then-is_idle-clause-counted g c = at_ok c.count_ticks.result (λ more. omega (arith, more)) c.count_ticks.ensures.counts.ok

pub returns-then-is_idle-clause-comes : goal.returns-then-is_idle-clause-comes
returns-then-is_idle-clause-comes g c = λ t s is fits placed stands.
    idle_comes c.count_ticks.result t (line.Step s) c.args.world.now c.count_ticks.new.self (images g.D.Disk.view c.args.pairs.now.items)
    (link_view (g.C.Carry.view c.args.carrier.now) (g.F.Fabric.view c.args.fabric.now))
    (idle_line c.args.world.now c.args.circuit.now c.args.turn.now s is c.requires.there (sym c.is_idle.ensures ∙ c.if-is_idle.true)) fits
    (g.met.C.Carry.idle c.args.carrier.now) c.count_ticks.ensures.slots c.count_ticks.ensures.stops c.count_ticks.ensures.counts
    c.count_ticks.ensures.only stands

-- ---- any other

pub turn-requires-clause-there : goal.turn-requires-clause-there
turn-requires-clause-there g c = turn_there c.args.world.now c.args.circuit.now c.args.turn.now c.requires.there

pub turn-requires-clause-go : goal.turn-requires-clause-go
turn-requires-clause-go g c = record { running = c.requires.running; sits = c.requires.sits; ready = c.requires.ready }

pub returns-in_err-turn-clause-on : goal.returns-in_err-turn-clause-on
returns-in_err-turn-clause-on g c = nodes_failed c.from_residual.result c.from_residual.ensures (record {
  leaves = c.in_err-turn.ensures.leaves;
  running = tt;
  sound = no_journal (failed Answer WorldFault c.in_err-turn.field-0.0) c.in_err-turn.ensures.sound;
})

pub returns-in_err-turn-clause-comes : goal.returns-in_err-turn-clause-comes
returns-in_err-turn-clause-comes g c = λ t s is_turn fits placed stands.
    let x = link_view (g.C.Carry.view c.args.carrier.now) (g.F.Fabric.view c.args.fabric.now) in
    let y = link_view (g.C.Carry.view c.turn.new.carrier) (g.F.Fabric.view c.turn.new.fabric) in
    let is = images g.D.Disk.view c.turn.new.pairs.items in
    let a : TurnAfter c.args.world.now c.args.circuit.now c.args.turn.now (images g.D.Disk.view c.args.pairs.now.items) =
    record { step = s; is_turn = is_turn; fits = fits; o = t.o; others = t.others; before = t.before; stands = stands } in
    subst (λ (q : Result (Unit {0}) WorldFault). MatchResult q (λ u. RanAfter t (line.Step s) c.turn.new.self is x y)
    (λ e. FailedAfter t (line.Step s) e (world_node_ids c.args.world.now) (places_of c.args.world.now) is x y))
    (sym (err_is c.from_residual.result _ c.from_residual.ensures)) (record {
      held = (c.in_err-turn.ensures.runs a).ran.ended;
      links = (c.in_err-turn.ensures.runs a).links t.place placed;
      many = λ which q. (c.in_err-turn.ensures.runs a).many which (ap (failed Answer WorldFault) q);
    })

pub returns-clause-on : goal.returns-clause-on
returns-clause-on g c = record { leaves = call_done tt c.in_ok-turn.ensures.leaves; running = c.in_ok-turn.ensures.halts.running; sound = λ k at e. cc }

pub returns-clause-comes : goal.returns-clause-comes
returns-clause-comes g c = λ t s is_turn fits placed stands.
    let a : TurnAfter c.args.world.now c.args.circuit.now c.args.turn.now (images g.D.Disk.view c.args.pairs.now.items) =
    record { step = s; is_turn = is_turn; fits = fits; o = t.o; others = t.others; before = t.before; stands = stands } in
    record {
      stands = (c.in_ok-turn.ensures.runs a).ran.stands;
      links = (c.in_ok-turn.ensures.runs a).links t.place placed;
    }

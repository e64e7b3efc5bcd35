use Rattle.std.proofs.Common.{◌≡◌, ◌∙◌, [], List, false, true≢false, ℕ, refl, sym, subst, arith}
use Rattle.spl_circuit.specs.Nodes.{CircuitId, NodeId}
use Rattle.spl_trace.specs.{Traced.steps_in, Tracers.Tracing}
use Rattle.spl_world.specs.{Calls.around, Calms.IsSquare, Cursor.{CalmGoesOn, IsOver, IsStep, IsTurn, LeadsOn, CalmRests}, Views.{HoldsWorld, world_node_ids}}
use Rattle.spl_world.{specs.{Views.{nodes_over, places_of}, declared.fault.WorldFault.{WorldFault, TheVariants.NoMemory}}, proofs.Seating.places_as}
use Rattle.spl_world.proofs.{Slots.{length_ids, same_length}, Stepping.{there_still, turn_there}, Calls.is_memory}
use Rattle.spl_node.specs.Benches.{images}
use Rattle.spl_runs.proofs.{Calms.{come_still, failed_at, fails_between, holds, match_failed, nodes_failed}, Running.{rest_still, rest_then}}
use Rattle.spl_runs.proofs.Calms.{nodes_itself, nodes_ok, nodes_still, nodes_then, so_far, way_fails, way_on}
use Rattle.spl_runs.proofs.run.Run.turns.Goals as goal
use Rattle.spl_edge.proofs.Results.{failed}

pub turns-init : goal.turns-init
turns-init g c = record {
  about = c.requires.about;
  whole = refl;
  square = c.requires.square;
  rest = rest_still c.args.self.now;
  on = nodes_itself c.args.self.now.world
      (around g.D.Disk.view g.C.Carry.view g.F.Fabric.view c.args.pairs.now.items c.args.carrier.now c.args.fabric.now) c.requires.running c.requires.sits
      c.requires.ready;
  comes = λ d same fits placed h. h;
}

pub next-requires : goal.next-requires
next-requires g c = record { square = c.turns.invariant.square }

pub has_line-requires : goal.has_line-requires
has_line-requires g c =
    record {
      there = turn_there c.turns.self.world c.args.circuit.now c.in-Some.turn
          (subst (λ (i : CircuitId). IsTurn c.turns.self.world i c.in-Some.turn) c.turns.invariant.about c.in-Some.ensures.turn);
    }

pub run_turn-requires-clause-running : goal.run_turn-requires-clause-running
run_turn-requires-clause-running g c = c.turns.invariant.on.running

pub run_turn-requires-clause-there : goal.run_turn-requires-clause-there
run_turn-requires-clause-there g c = subst (λ (i : CircuitId). IsTurn c.turns.self.world i c.in-Some.turn) c.turns.invariant.about c.in-Some.ensures.turn

pub run_turn-requires-clause-sits : goal.run_turn-requires-clause-sits
run_turn-requires-clause-sits g c = c.turns.invariant.on.leaves.nodes.sits

pub run_turn-requires-clause-ready : goal.run_turn-requires-clause-ready
run_turn-requires-clause-ready g c = c.turns.invariant.on.leaves.ready

pub trace-requires : goal.trace-requires
trace-requires g c = record {
  there = there_still c.run_turn.new.world c.turns.self.world c.in-Some.turn c.in_ok-run_turn.ensures.on.leaves.nodes.ids
      (turn_there c.turns.self.world c.args.circuit.now c.in-Some.turn
      (subst (λ (i : CircuitId). IsTurn c.turns.self.world i c.in-Some.turn) c.turns.invariant.about c.in-Some.ensures.turn));
}

-- ---- no line can name the turn

pub returns-then-not-has_line-clause-on : goal.returns-then-not-has_line-clause-on
returns-then-not-has_line-clause-on g c = nodes_then c.turns.invariant.on (nodes_still (failed (Unit {0}) WorldFault NoMemory) (refl, refl) is_memory refl)

pub returns-then-not-has_line-clause-comes : goal.returns-then-not-has_line-clause-comes
returns-then-not-has_line-clause-comes g c = λ d same fits placed h.
    let u = c.turns.invariant.comes d same fits placed h in
    failed_at c.turns.invariant.on.leaves.nodes.ids c.turns.invariant.on.leaves.nodes.places
    (fails_between d u.come NoMemory is_memory (g.met.C.Carry.prefix c.args.carrier.now) (λ which q. cc))

-- ---- the turn failed

pub returns-in_err-run_turn-clause-on : goal.returns-in_err-run_turn-clause-on
returns-in_err-run_turn-clause-on g c =
    nodes_then c.turns.invariant.on (nodes_failed c.from_residual.result c.from_residual.ensures c.in_err-run_turn.ensures.on)

pub returns-in_err-run_turn-clause-comes : goal.returns-in_err-run_turn-clause-comes
returns-in_err-run_turn-clause-comes g c = λ d same fits placed h.
    let w = c.turns.self.world in
    let k = c.turns.calm in
    let ids = world_node_ids w in
    let is = images g.D.Disk.view c.turns.pairs.items in
    let u = c.turns.invariant.comes d same fits placed h in
    let own : k.circuit ≡ d.circuit = c.turns.invariant.about ∙ sym same in
    let lead : LeadsOn ids k c.next.new.self u.state c.in-Some.turn = subst (λ t. CalmGoesOn t ids k c.next.new.self u.state) c.in-Some.is
    (c.next.ensures.on is u.state c.turns.invariant.on.leaves.nodes.sits
    (subst (λ (i : CircuitId). HoldsWorld i u.state.world (nodes_over w is)) (sym own) (holds d u.come)) u.follows) in
    let s = lead.step in
    let named = subst (λ (i : CircuitId). IsStep ids i c.in-Some.turn s) c.turns.invariant.about lead.is_step in
    let stepped = subst (λ (i : CircuitId). IsStep ids i c.in-Some.turn s) own lead.is_step in
    let line_fits = c.has_line.ensures.fits s c.if-not-has_line.false named in
    let seats =
    places_as d.past.place (world_node_ids c.args.self.now.world) ids (places_of c.args.self.now.world)
    (places_of w) c.turns.invariant.on.leaves.nodes.ids c.turns.invariant.on.leaves.nodes.places placed in
    match_failed _ _ c.from_residual.result _ c.from_residual.ensures
    (failed_at c.turns.invariant.on.leaves.nodes.ids c.turns.invariant.on.leaves.nodes.places
    (way_fails d u c.in-Some.turn s stepped lead own _ (images g.D.Disk.view c.run_turn.new.pairs.items) _ fits line_fits
    (g.met.C.Carry.prefix c.args.carrier.now)
    (c.in_err-run_turn.ensures.comes (so_far d.past u.state.happened) s named line_fits seats u.come.stands)))

-- ---- no memory for its line in a trace

pub returns-in_err-trace-clause-on : goal.returns-in_err-trace-clause-on
returns-in_err-trace-clause-on g c =
    nodes_then (nodes_then c.turns.invariant.on c.in_ok-run_turn.ensures.on)
    (nodes_still c.from_residual-in_err-trace.result c.from_residual-in_err-trace.ensures is_memory refl)

pub returns-in_err-trace-clause-comes : goal.returns-in_err-trace-clause-comes
returns-in_err-trace-clause-comes g c = λ d same fits placed h.
    let w = c.turns.self.world in
    let k = c.turns.calm in
    let ids = world_node_ids w in
    let is = images g.D.Disk.view c.turns.pairs.items in
    let u = c.turns.invariant.comes d same fits placed h in
    let own : k.circuit ≡ d.circuit = c.turns.invariant.about ∙ sym same in
    let lead : LeadsOn ids k c.next.new.self u.state c.in-Some.turn = subst (λ t. CalmGoesOn t ids k c.next.new.self u.state) c.in-Some.is
    (c.next.ensures.on is u.state c.turns.invariant.on.leaves.nodes.sits
    (subst (λ (i : CircuitId). HoldsWorld i u.state.world (nodes_over w is)) (sym own) (holds d u.come)) u.follows) in
    let s = lead.step in
    let named = subst (λ (i : CircuitId). IsStep ids i c.in-Some.turn s) c.turns.invariant.about lead.is_step in
    let stepped = subst (λ (i : CircuitId). IsStep ids i c.in-Some.turn s) own lead.is_step in
    let line_fits = c.has_line.ensures.fits s c.if-not-has_line.false named in
    let seats =
    places_as d.past.place (world_node_ids c.args.self.now.world) ids (places_of c.args.self.now.world)
    (places_of w) c.turns.invariant.on.leaves.nodes.ids c.turns.invariant.on.leaves.nodes.places placed in
    let off : Tracing = record { on = false; text = [] } in
    let on = c.in_ok-run_turn.ensures.on in
    let v = way_on d u c.in-Some.turn s stepped lead own c.run_turn.new.world (images g.D.Disk.view c.run_turn.new.pairs.items) _ off on.leaves.nodes.ids
    (c.in_ok-run_turn.ensures.comes (so_far d.past u.state.happened) s named line_fits seats u.come.stands) (λ is_on. absurd (true≢false (sym is_on))) in
    match_failed _ _ c.from_residual-in_err-trace.result NoMemory c.from_residual-in_err-trace.ensures
    (failed_at (on.leaves.nodes.ids ∙ c.turns.invariant.on.leaves.nodes.ids) (on.leaves.nodes.places ∙ c.turns.invariant.on.leaves.nodes.places)
    (fails_between d v.come NoMemory is_memory (g.met.C.Carry.prefix c.args.carrier.now) (λ which q. cc)))

-- ---- one turn more

pub turns-preserved : goal.turns-preserved
turns-preserved g c =
    let on = c.in_ok-run_turn.ensures.on in
    record {
      about = c.next.ensures.circuit ∙ c.turns.invariant.about;
      whole = c.next.ensures.whole ∙ c.turns.invariant.whole;
      square = subst (λ (n : ℕ). IsSquare n c.next.new.self.rows.items)
          (sym (same_length c.turns.self.world.slots.items c.run_turn.new.world.slots.items on.leaves.nodes.ids)) c.next.ensures.square;
      rest = rest_then c.turns.invariant.rest c.run_turn.new.world c.trace.new.tracer c.trace.ensures.on;
      on = nodes_ok 0 (nodes_then c.turns.invariant.on on);
      comes = λ d same fits placed h.
          let w = c.turns.self.world in
          let k = c.turns.calm in
          let ids = world_node_ids w in
          let is = images g.D.Disk.view c.turns.pairs.items in
          let u = c.turns.invariant.comes d same fits placed h in
          let own : k.circuit ≡ d.circuit = c.turns.invariant.about ∙ sym same in
          let lead : LeadsOn ids k c.next.new.self u.state c.in-Some.turn = subst (λ t. CalmGoesOn t ids k c.next.new.self u.state) c.in-Some.is
          (c.next.ensures.on is u.state c.turns.invariant.on.leaves.nodes.sits
          (subst (λ (i : CircuitId). HoldsWorld i u.state.world (nodes_over w is)) (sym own) (holds d u.come)) u.follows) in
          let s = lead.step in
          let named = subst (λ (i : CircuitId). IsStep ids i c.in-Some.turn s) c.turns.invariant.about lead.is_step in
          let stepped = subst (λ (i : CircuitId). IsStep ids i c.in-Some.turn s) own lead.is_step in
          let line_fits = c.has_line.ensures.fits s c.if-not-has_line.false named in
          let seats =
          places_as d.past.place (world_node_ids c.args.self.now.world) ids (places_of c.args.self.now.world)
          (places_of w) c.turns.invariant.on.leaves.nodes.ids c.turns.invariant.on.leaves.nodes.places placed in
          way_on d u c.in-Some.turn s stepped lead own c.run_turn.new.world
          (images g.D.Disk.view c.run_turn.new.pairs.items) _ c.trace.new.tracer on.leaves.nodes.ids
          (c.in_ok-run_turn.ensures.comes (so_far d.past u.state.happened) s named line_fits seats u.come.stands)
          (c.in_ok-trace.ensures.heard s (steps_in u.state.happened)
          (subst (λ (ns : List NodeId). IsStep ns c.args.circuit.now c.in-Some.turn s) (sym on.leaves.nodes.ids) named) u.come.heard);
    }

pub turns-smaller : goal.turns-smaller
turns-smaller g c = let more = c.in_ok-run_turn.ensures.counted in let within = c.in_ok-run_turn.ensures.within in omega (arith, more, within)

-- ---- no turn is left

pub returns-in_default-clause-on : goal.returns-in_default-clause-on
returns-in_default-clause-on g c = nodes_ok _ c.turns.invariant.on

pub returns-in_default-clause-whole : goal.returns-in_default-clause-whole
returns-in_default-clause-whole g c = c.next.ensures.whole ∙ c.turns.invariant.whole

pub returns-in_default-clause-comes : goal.returns-in_default-clause-comes
returns-in_default-clause-comes g c = λ d same fits placed h.
    let w = c.turns.self.world in
    let k = c.turns.calm in
    let ids = world_node_ids w in
    let is = images g.D.Disk.view c.turns.pairs.items in
    let u = c.turns.invariant.comes d same fits placed h in
    let own : k.circuit ≡ d.circuit = c.turns.invariant.about ∙ sym same in
    let r : CalmRests ids k c.next.new.self u.state = subst (λ t. CalmGoesOn t ids k c.next.new.self u.state) c.in_default.is
    (c.next.ensures.on is u.state c.turns.invariant.on.leaves.nodes.sits
    (subst (λ (i : CircuitId). HoldsWorld i u.state.world (nodes_over w is)) (sym own) (holds d u.come)) u.follows) in
    let nodes_over = c.next.ensures.over c.in_default.is in
    record {
      state = r.last;
      come = come_still d r.still r.same u.come;
      over = subst (λ (n : ℕ). IsOver n c.next.new.self) (sym (length_ids w.slots.items)) nodes_over.0;
      last = nodes_over.1;
      done = r.done;
    }

use Rattle.std.{specs.List.list_all, proofs.Common.{◌≡◌, ◌++◌, ◌∷◌, false, true, [], ◌∙◌, inl, refl, sym, ap, subst, List, ℕ, OnOk}}
use Rattle.spl_answer.specs.Texts.{answer_spelling}
use Rattle.spl_edge.{proofs.Results.{at_ok, on_ok, when_ok, ok_both}, specs.Devices.bench}
use Rattle.spl_circuit.specs.Nodes.{NodeId, has_node}
use Rattle.spl_lines.specs.Tasks.{Task, ran_by, watches_in}
use Rattle.spl_lines.specs.declared.reading.Said.TheVariants as say
use Rattle.spl_circuit_world.specs.{Projection.by_rule, Whole.whole_world}
use Rattle.spl_sched.specs.{Grammar.{is_line, line_nodes, is_calm}, declared.line.Line.Line}
use Rattle.spl_sched.specs.declared.line.Line.TheVariants as line
use Rattle.spl_trace.specs.{Traced.lines_text, Heard.heard_of, Tracers.HasHeard}
use Rattle.spl_node.specs.Benches.{Images, images}
use Rattle.spl_world.specs.{Held.stops, Links.{AreLinksReady, link_view, seat_of}, Views.{Sits, world_node_ids, nodes_over, places_of}}
use Rattle.spl_world.proofs.{HoldingLines.{failed_step, held_step, steps_none}, Onward.images_told}
use Rattle.spl_world.proofs.Standing.{calm_answered, within_line}
use Rattle.spl_runs.{specs.{Calms.Past, Run.{Plan, origin, devices}, Steps.{RunsSaid, task}, declared.run.Run.Run}, proofs.Halting.{heard_none, stays_within}}
use Rattle.spl_runs.proofs.{Calms.{heard_else, not_calm, ran_delivers, ran_ended, ran_many, ran_stands}, Causes.{world_causes, on_any}, Running.failed_then}
use Rattle.spl_runs.proofs.{Running.{fails, picked_still, picked_then, rest_is, runs, seated, stands}, Steps.line_runs}
use Rattle.spl_runs.proofs.run.Run.run.Goals as goal

pub halt-requires-clause-sits : goal.halt-requires-clause-sits
halt-requires-clause-sits g c =
    subst (λ (is : List Images). Sits (nodes_over c.args.self.now.world is)) (images_told g.D.Disk.view c.args.pairs.now.items) c.requires.go.sits

pub step-requires-clause-go : goal.step-requires-clause-go
step-requires-clause-go g c = record {
  running = c.requires.go.running;
  sits = subst (λ (is : List Images). Sits (nodes_over c.args.self.now.world is)) (images_told g.D.Disk.view c.args.pairs.now.items) c.requires.go.sits;
  ready = c.requires.go.ready;
}

pub returns-then-stops_node-clause-runs : goal.returns-then-stops_node-clause-runs
returns-then-stops_node-clause-runs g c = λ sink.
    let links = link_view (g.C.Carry.view c.args.carrier.now) (g.F.Fabric.view c.args.fabric.now) in
    line_runs c.args.line.now c.halt.new.world c.clear.new.self c.requires.go refl c.clear.ensures.on c.halt.ensures.ids c.halt.ensures.places
    c.halt.ensures.running
    (at_ok c.halt.result (λ sits. subst (λ (is : List Images). Sits (nodes_over c.halt.new.world is))
    (sym (images_told g.D.Disk.view c.halt.new.pairs.items)) sits) c.halt.ensures.sits)
    (on_ok c.halt.result (subst (λ (ks : List ℕ). AreLinksReady ks links) (sym c.halt.ensures.places) c.requires.go.ready))
    (λ p ts number z h. c.halt.ensures.ran p ts number z sink links h.ran) (λ p ts number z h. c.halt.ensures.ended p ts number z sink links h.ran)
    (c.halt.ensures.causes links)

pub run_calm-requires-clause-sits : goal.run_calm-requires-clause-sits
run_calm-requires-clause-sits g c =
    subst (λ (is : List Images). Sits (nodes_over c.args.self.now.world is)) (images_told g.D.Disk.view c.args.pairs.now.items) c.requires.go.sits

pub run_calm-requires-clause-fits : goal.run_calm-requires-clause-fits
run_calm-requires-clause-fits g c = subst (λ (l : Line). is_line l ≡ true) c.in-Calm.is c.requires.known.fits

pub returns-in-Calm-clause-runs : goal.returns-in-Calm-clause-runs
returns-in-Calm-clause-runs g c = λ sink.
    let q = c.run_calm.result in
    let l = line.Calm c.in-Calm.circuit c.in-Calm.passes in
    let v = c.run_calm.new.self.world in
    let on = c.run_calm.ensures.on in
    let told = images_told g.D.Disk.view c.args.pairs.now.items in
    let now = images_told g.D.Disk.view c.run_calm.new.pairs.items in
    let x = link_view (g.C.Carry.view c.args.carrier.now) (g.F.Fabric.view c.args.fabric.now) in
    let z = devices sink (bench g.D.Disk.view c.run_calm.new.pairs.items)
    (link_view (g.C.Carry.view c.run_calm.new.carrier) (g.F.Fabric.view c.run_calm.new.fabric)) in
    let past : Plan → List Task → Past = λ p ts. record { o = origin p; others = watches_in ts; before = ran_by ts; place = seat_of p.nodes } in
    let still = steps_none l refl in
    let ns = world_node_ids c.args.self.now.world in
    let ks = places_of c.args.self.now.world in
    let is = images g.D.Disk.view c.run_calm.new.pairs.items in
    let y = link_view (g.C.Carry.view c.run_calm.new.carrier) (g.F.Fabric.view c.run_calm.new.fabric) in
    let old = devices sink (bench g.D.Disk.view c.args.pairs.now.items) x in
    subst (λ (m : Line). RunsSaid g.H.Halt.linked (say.Line m) answer_spelling q c.args.self.now c.run_calm.new.self old z) (sym c.in-Calm.is)
    (subst (λ (s : Run). RunsSaid g.H.Halt.linked (say.Line l) answer_spelling q c.args.self.now s old z) (rest_is c.run_calm.ensures.rest)
    (line_runs l v c.run_calm.new.self.tracer c.requires.go refl
    (c.run_calm.ensures.rest.traced ∙ c.clear.ensures.on) on.leaves.nodes.ids on.leaves.nodes.places on.running
    (at_ok q (λ sits. subst (λ (is : List Images). Sits (nodes_over v is)) (sym now) sits) on.leaves.nodes.sits) on.leaves.ready
    (λ p ts number start h. (let st = stands h.ran told in
    let m = c.run_calm.ensures.comes (past p ts) (seated h.ran) st in
    let stood = ran_stands (past p ts) l v ns ks is x y q m in
    runs h.ran l number q v z now on.leaves.nodes.ids on.leaves.nodes.places
    (when_ok q (λ a e. e ∙ calm_answered (origin p) h.ran.stands.begins (ran_by ts) l c.in-Calm.circuit c.in-Calm.passes refl h.ran.stands.fit
    (subst (λ (k : Line). is_line k ≡ true) c.in-Calm.is c.requires.known.fits)) c.run_calm.ensures.answer) stood
    (ok_both q (λ a few. within_line (ran_by ts ++ by_rule l ∷ []) v is a few) stood c.run_calm.ensures.within)
    (on_ok q (stays_within (ran_by ts) l refl h.ran.within.1))
    (picked_then h.ran z.disks on.leaves.nodes.disks.onward l v q
    (λ start held. held_step g.D.Disk.view
    (ran_by ts) l c.args.self.now.world v c.args.pairs.now.items c.run_calm.new.pairs.items on.leaves.nodes.ids on.leaves.nodes.places (origin p)
    (watches_in ts) q start held still stood on.leaves.nodes.disks))
    (ran_delivers (past p ts) l v ns ks is x y q m)))
    (λ p ts number start h. (let st = stands h.ran told in
    let m = c.run_calm.ensures.comes (past p ts) (seated h.ran) st in
    fails h.ran l number q z now (ran_ended (past p ts) l v ns ks is x y q m) (ran_delivers (past p ts) l v ns ks is x y q m)
    (λ which e. inl (ran_many (past p ts) l v ns ks is x y q m which e)) on.sound
    (λ k e. (
      failed_then h.ran z.disks on.leaves.nodes.disks.onward k (on.leaves.nodes.disks.failed k e)
          (λ start held. failed_step g.D.Disk.view
          (ran_by ts) l c.args.self.now.world v c.args.pairs.now.items c.run_calm.new.pairs.items on.leaves.nodes.ids on.leaves.nodes.places
          (origin p) q start k held on.leaves.nodes.disks e (on.leaves.nodes.place k e)),
      refl,
    ))
    (picked_still h.ran z.disks on.leaves.nodes.disks.onward (task number (say.Line l)) q)))
    (world_causes (on_any g.H.Halt.linked _ (bench g.D.Disk.view c.args.pairs.now.items)
    (bench g.D.Disk.view c.run_calm.new.pairs.items) on.leaves.nodes.disks.onward) on.leaves.nodes.spare on.leaves.links.onward
    (λ k e. (on.leaves.nodes.place k e, on.leaves.nodes.disks.failed k e)) (λ k at e. absurd (on.sound k at e)) on.leaves.links.link on.leaves.links.lied)))

pub returns-in-Calm-clause-heard : goal.returns-in-Calm-clause-heard
returns-in-Calm-clause-heard g c = λ p ts x sink h.
    let past : Past = record { o = origin p; others = watches_in ts; before = ran_by ts; place = seat_of p.nodes } in
    subst (λ (l : Line). OnOk c.run_calm.result (HasHeard c.run_calm.new.self.tracer (heard_of (λ i. whole_world (origin p) i (ran_by ts)) l)))
    (sym c.in-Calm.is)
    (c.run_calm.ensures.heard past (stands h.ran (images_told g.D.Disk.view c.args.pairs.now.items)) (seated h.ran))

pub returns-in_default-clause-runs : goal.returns-in_default-clause-runs
returns-in_default-clause-runs g c = λ sink.
    let q = c.step.result in
    let l = c.args.line.now in
    let none : stops l ≡ false = cc in
    let told = images_told g.D.Disk.view c.args.pairs.now.items in
    let now = images_told g.D.Disk.view c.step.new.pairs.items in
    let z = devices sink (bench g.D.Disk.view c.step.new.pairs.items) (link_view (g.C.Carry.view c.step.new.carrier) (g.F.Fabric.view c.step.new.fabric)) in
    line_runs l c.step.new.self c.clear.new.self c.requires.go refl c.clear.ensures.on c.step.ensures.runs.leaves.nodes.ids
    c.step.ensures.runs.leaves.nodes.places c.step.ensures.halts.running
    (at_ok q (λ sits. subst (λ (is : List Images). Sits (nodes_over c.step.new.self is))
    (sym now) sits) c.step.ensures.runs.leaves.nodes.sits) c.step.ensures.runs.leaves.ready
    (λ p ts number x h. (let st = stands h.ran told in
    runs h.ran l number q c.step.new.self z now c.step.ensures.runs.leaves.nodes.ids c.step.ensures.runs.leaves.nodes.places
    (c.step.ensures.runs.steps (origin p) (watches_in ts) (ran_by ts) st).ran.answer
    (c.step.ensures.runs.steps (origin p) (watches_in ts) (ran_by ts) st).ran.stands
    (c.step.ensures.keeps (origin p) (watches_in ts) (ran_by ts) st).few (on_ok q (stays_within (ran_by ts) l none h.ran.within.1))
    (picked_then h.ran z.disks c.step.ensures.runs.leaves.nodes.disks.onward l c.step.new.self q
    (λ start held. (c.step.ensures.keeps (origin p) (watches_in ts) (ran_by ts) st).held start held))
    ((c.step.ensures.runs.steps (origin p) (watches_in ts) (ran_by ts) st).links (seat_of p.nodes) (seated h.ran))))
    (λ p ts number x h. (let st = stands h.ran told in
    fails h.ran l number q z now (c.step.ensures.runs.steps (origin p) (watches_in ts) (ran_by ts) st).ran.ended
    ((c.step.ensures.runs.steps (origin p) (watches_in ts) (ran_by ts) st).links (seat_of p.nodes) (seated h.ran))
    (λ which q. inl ((c.step.ensures.runs.steps (origin p) (watches_in ts) (ran_by ts) st).many which q))
    (c.step.ensures.runs.steps (origin p) (watches_in ts) (ran_by ts) st).sound
    (λ k q. (
      failed_then h.ran z.disks c.step.ensures.runs.leaves.nodes.disks.onward k (c.step.ensures.runs.leaves.nodes.disks.failed k q)
          (λ start held. c.step.ensures.failed start (origin p) (ran_by ts) k q held),
      none,
    ))
    (picked_still h.ran z.disks c.step.ensures.runs.leaves.nodes.disks.onward (task number (say.Line l)) q)))
    (world_causes (on_any g.H.Halt.linked _ (bench g.D.Disk.view c.args.pairs.now.items)
    (bench g.D.Disk.view c.step.new.pairs.items) c.step.ensures.runs.leaves.nodes.disks.onward) c.step.ensures.runs.leaves.nodes.spare
    c.step.ensures.runs.leaves.links.onward
    (λ k q. (c.step.ensures.runs.leaves.nodes.place k q, c.step.ensures.runs.leaves.nodes.disks.failed k q))
    (λ k at q. (c.step.ensures.runs.journal.place k at q).0) c.step.ensures.runs.leaves.links.link c.step.ensures.runs.leaves.links.lied)

pub returns-then-stops_node-clause-heard : goal.returns-then-stops_node-clause-heard
returns-then-stops_node-clause-heard g c = λ p ts x sink h.
    on_ok c.halt.result (λ on. c.clear.ensures.text ∙ sym (ap lines_text (heard_none (λ i. whole_world (origin p) i (ran_by ts)) c.args.line.now (cc))))

pub returns-in_default-clause-heard : goal.returns-in_default-clause-heard
returns-in_default-clause-heard g c = λ p ts x sink h.
    let other : is_calm c.args.line.now ≡ false = not_calm c.args.line.now (λ i k e. c.in_default.not-Calm i k e) in
    on_ok c.step.result (λ on. c.clear.ensures.text ∙ sym (ap lines_text (heard_else (λ i. whole_world (origin p) i (ran_by ts)) c.args.line.now other)))

pub step-requires-clause-line : goal.step-requires-clause-line
step-requires-clause-line g c = record {
  known = subst (λ (ns : List NodeId). list_all (has_node ns) (line_nodes c.args.line.now) ≡ true) (sym c.requires.go.nodes) c.requires.known.known;
  fits = c.requires.known.fits;
  steps = cc;
  single = not_calm c.args.line.now (λ i k e. c.in_default.not-Calm i k e);
}

use Rattle.std.proofs.Common.{true, List, refl, inr, sym, subst, ◌∙◌}
use Rattle.spl_edge.specs.Devices.{bench}
use Rattle.spl_runs.specs.Run.{EndsText, PlanOutcome, devices, held_on, run_way}
use Rattle.spl_runs.specs.declared.mode.Writing.TheVariants as writing
use Rattle.spl_node.{specs.Benches.Images, proofs.Holding.images_held}
use Rattle.spl_world.specs.Links.{link_view}
use Rattle.spl_app.{specs.{Parts.plan_given, Asked.links_over}, proofs.{Alike.ran_still, Asked.{asked_alike, carries}, Beginnings.began_over_links}}
use Rattle.spl_app.proofs.Beginnings.{began_without_memory, mode_by}
use Rattle.spl_app.proofs.links.run_linked.Goals as goal

pub returns-in_default-clause-came : goal.returns-in_default-clause-came
returns-in_default-clause-came g c = λ others start asked empty.
    began_without_memory c.args.registry.now (g.S.Source.view c.args.schedule.now) (g.W.Sink.view c.args.out.now) others start
    (bench g.E.Disk.view c.args.pairs.now.items) (g.F.Fabric.view c.args.fabric.now) asked c.args.beginning empty

pub returns-clause-came : goal.returns-clause-came
returns-clause-came g c = λ others start asked empty.
    let mid = bench g.E.Disk.view c.args.pairs.now.items in
    let now = bench g.E.Disk.view c.run_lines-ended.new.pairs.items in
    let f = g.F.Fabric.view c.args.fabric.now in
    let h = g.F.Fabric.view c.run_lines-ended.new.fabric in
    let es = c.args.registry.now in
    let s = g.S.Source.view c.args.schedule.now in
    let t = g.S.Source.view c.run_lines-ended.new.source in
    let old = g.W.Sink.view c.args.out.now in
    let new = g.W.Sink.view c.run_lines-ended.new.out in
    let mode = mode_by c.args.beginning writing.Answers in
    let e = c.run_lines-ended.result in
    let held = sym (images_held g.E.Disk.view c.args.pairs.now.items) ∙ asked.same in
    let text = subst (λ (is : List Images). EndsText e (run_way true 0) (plan_given mode es is s t) s t) held c.run_lines-ended.ensures.text in
    let ran = subst (λ (is : List Images). PlanOutcome e (run_way true 0) (plan_given mode es is s t) s t
    (devices old mid (link_view (carries c.in-Ok.pump) f))
    (devices new now (link_view (carries c.run_lines-ended.new.carrier) h))) held c.run_lines-ended.ensures.ran in
    let alike =
    asked_alike es start mid asked (plan_given mode es (held_on start) s t) now c.in-Ok.pump c.run_lines-ended.new.carrier f h refl c.in-Ok.ensures in
    let still =
    ran_still s t (run_way true 0) (plan_given mode es (held_on start) s t) old new mid start now (link_view (carries c.in-Ok.pump) f)
    (link_view (carries c.run_lines-ended.new.carrier) h) (links_over es f) (links_over es h) alike e ran in
    inr (began_over_links c.status_of.result es s t e old new others start now f h c.args.beginning empty c.status_of.ensures text still)

use Rattle.std.{specs.Prelude.IfOk, proofs.Common.{true, refl, sym, subst, IfErr}}
use Rattle.spl_answer.specs.Texts.{answer_spelling}
use Rattle.spl_edge.{proofs.Results.on_ok, specs.Devices.bench}
use Rattle.spl_lines.specs.Tasks.{ran_by, watches_in}
use Rattle.spl_lines.specs.declared.reading.Said.TheVariants as say
use Rattle.spl_sched.specs.declared.line.Line.{Line}
use Rattle.spl_sched.specs.declared.line.Line.TheVariants as line
use Rattle.spl_node.{specs.Benches.images, proofs.Benches.all_itself}
use Rattle.spl_world.{proofs.Onward.images_told, specs.declared.fault.WorldFault.TheVariants.{Disk, NotAJournal}}
use Rattle.spl_runs.{specs.{Run.{origin, devices}, Steps.task, Stops.{RunsOn, StopsInTask}}, proofs.{Halting.{limit_off, limit_only}, Running.fails}}
use Rattle.spl_runs.proofs.Running.{halted, picked_still, runs, stands}
use Rattle.spl_runs.proofs.halt.ForgettingHalt.halt.Goals as goal

pub returns-clause-ran : goal.returns-clause-ran
returns-clause-ran g c = λ p ts number x sink links r.
    let ps = bench g.D.Disk.view c.args._pairs.now.items in
    let is = images g.D.Disk.view c.args._pairs.now.items in
    let told = images_told g.D.Disk.view c.args._pairs.now.items in
    let st = stands r told in
    subst (λ (l : Line). IfOk c.stop.result
    (λ a. RunsOn true p ts (task number (say.Line l)) c.stop.new.self x (devices sink ps links) (answer_spelling a))) (sym c.in-Stop.is)
    (runs r (line.Stop c.in-Stop.node) number c.stop.result c.stop.new.self (devices sink ps links) told c.stop.ensures.ids c.stop.ensures.places
    (c.stop.ensures.runs is (origin p) (watches_in ts) (ran_by ts) st).ran.answer
    (c.stop.ensures.runs is (origin p) (watches_in ts) (ran_by ts) st).ran.stands
    (c.stop.ensures.within is (origin p) (watches_in ts) (ran_by ts) st).few (c.stop.ensures.within is (origin p) (watches_in ts) (ran_by ts) st).fewer
    (on_ok c.stop.result r.picked)
    (halted r (line.Stop c.in-Stop.node) number refl c.stop.result (limit_off c.stop.result c.stop.ensures.only)))

pub returns-clause-ended : goal.returns-clause-ended
returns-clause-ended g c = λ p ts number x sink links r.
    let ps = bench g.D.Disk.view c.args._pairs.now.items in
    let is = images g.D.Disk.view c.args._pairs.now.items in
    let told = images_told g.D.Disk.view c.args._pairs.now.items in
    let st = stands r told in
    subst (λ (l : Line). IfErr c.stop.result (StopsInTask true p ts (task number (say.Line l)) x (devices sink ps links))) (sym c.in-Stop.is)
    (fails r (line.Stop c.in-Stop.node) number c.stop.result (devices sink ps links) told
    (c.stop.ensures.runs is (origin p) (watches_in ts) (ran_by ts) st).ran.ended
    (halted r (line.Stop c.in-Stop.node) number refl c.stop.result (limit_off c.stop.result c.stop.ensures.only))
    (λ which q. (c.stop.ensures.runs is (origin p) (watches_in ts) (ran_by ts) st).many which q)
    (λ k at q. limit_only c.stop.result c.stop.ensures.only (NotAJournal k at) refl q)
    (λ k q. absurd (limit_only c.stop.result c.stop.ensures.only (Disk k) refl q))
    (picked_still r ps (all_itself ps) (task number (say.Line (line.Stop c.in-Stop.node))) c.stop.result))

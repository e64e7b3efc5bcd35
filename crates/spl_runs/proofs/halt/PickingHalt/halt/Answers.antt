use Rattle.std.{specs.Global.Vec, proofs.Common.ap}
use Rattle.spl_edge.specs.{Devices.bench, declared.bench.Pair.Pair}
use Rattle.spl_lines.specs.Tasks.{ran_by, watches_in}
use Rattle.spl_runs.{specs.Run.{origin, devices}, proofs.{Halting.halt_unarmed, Causes.quiet_causes, Running.{fails, halt_picked, halted, runs, stands}}}
use Rattle.spl_runs.proofs.halt.PickingHalt.halt.Goals as goal
use Rattle.spl_world.proofs.{Leaving.no_journal, Onward.images_told}

pub returns-clause-ran : goal.returns-clause-ran
returns-clause-ran g c = λ p ts number x sink links r.
    let st = stands r (images_told g.D.Disk.view c.args.pairs.now.items) in
    runs r c.args.line.now number c.halt.result c.halt.new.self (devices sink (bench g.D.Disk.view c.halt.new.pairs.items) links)
    (images_told g.D.Disk.view c.halt.new.pairs.items) c.halt.ensures.leaves.ids c.halt.ensures.leaves.places
    (c.halt.ensures.runs (origin p) (watches_in ts) (ran_by ts) st).ran.answer (c.halt.ensures.runs (origin p) (watches_in ts) (ran_by ts) st).ran.stands
    (c.halt.ensures.picks (origin p) (watches_in ts) (ran_by ts) st).within.few
    (c.halt.ensures.picks (origin p) (watches_in ts) (ran_by ts) st).within.fewer
    ((c.halt.ensures.picks (origin p) (watches_in ts) (ran_by ts) st).held x.disks r.picked)
    (halted r c.args.line.now number c.requires.stops c.halt.result c.halt.ensures.faults.unlinked)

pub returns-clause-ended : goal.returns-clause-ended
returns-clause-ended g c = λ p ts number x sink links r.
    let st = stands r (images_told g.D.Disk.view c.args.pairs.now.items) in
    let qs = bench g.D.Disk.view c.halt.new.pairs.items in
    fails r c.args.line.now number c.halt.result (devices sink qs links) (images_told g.D.Disk.view c.halt.new.pairs.items)
    (c.halt.ensures.runs (origin p) (watches_in ts) (ran_by ts) st).ran.ended
    (halted r c.args.line.now number c.requires.stops c.halt.result c.halt.ensures.faults.unlinked)
    (λ which is. (c.halt.ensures.runs (origin p) (watches_in ts) (ran_by ts) st).many which is)
    (λ k at is. no_journal c.halt.result c.halt.ensures.faults.sound k at is) (λ k is. absurd (c.halt.ensures.faults.disk k is))
    (halt_picked r c.args.line.now number qs c.halt.ensures.one.others c.halt.ensures.leaves.onward.as_many c.halt.ensures.one.once c.halt.result
    c.halt.ensures.faults.unlinked c.halt.ensures.faults.sound c.halt.ensures.faults.disk
    (λ which is. ap (λ (v : Vec (Pair _)). bench g.D.Disk.view v.items) (c.halt.ensures.kept which is)))

pub returns-clause-causes : goal.returns-clause-causes
returns-clause-causes g c = λ links.
    quiet_causes c.halt.result (
      c.halt.ensures.leaves.onward,
      λ off room. halt_unarmed (bench g.D.Disk.view c.args.pairs.now.items)
          (bench g.D.Disk.view c.halt.new.pairs.items) c.halt.result c.halt.ensures.faults.unlinked c.halt.ensures.faults.sound c.halt.ensures.faults.disk
          (λ which is. ap (λ (v : Vec (Pair _)). bench g.D.Disk.view v.items) (c.halt.ensures.kept which is)) c.halt.ensures.unarmed off room,
    ) c.halt.ensures.one.spare c.halt.ensures.faults.unlinked c.halt.ensures.faults.sound (λ k is. absurd (c.halt.ensures.faults.disk k is))

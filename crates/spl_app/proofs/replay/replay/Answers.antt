use Rattle.spl_edge.specs.Devices.{bench}
use Rattle.spl_node.specs.Benches.{images}
use Rattle.spl_world.specs.Links.{MayBeDue}
use Rattle.spl_app.{specs.Asked.no_links, proofs.{Beginnings.began_in_memory, Statuses.{memory_status, named, no_lie}}}
use Rattle.spl_app.proofs.replay.replay.Goals as goal

pub status_of-requires : goal.status_of-requires
status_of-requires g c =
    named c.run_in_memory-ended.result _ _ _ _
    (λ from to sent got i lies below. absurd (no_lie (MayBeDue no_links.hello from to) sent got lies)) c.run_in_memory-ended.ensures.ran.why

pub returns-clause-began : goal.returns-clause-began
returns-clause-began g c = λ shelf fabric.
    let old = bench g.D.Disk.view c.args.pairs.now.items in
    let new = bench g.D.Disk.view c.run_in_memory-ended.new.pairs.items in
    let run = c.run_in_memory-ended.ensures in
    began_in_memory c.status_of.result c.args.registry.now (g.S.Source.view c.args.schedule.now) (g.S.Source.view c.run_in_memory-ended.new.source)
    (images g.D.Disk.view c.args.pairs.now.items) c.run_in_memory-ended.result
    (g.W.Sink.view c.args.out.now)
    (g.W.Sink.view c.run_in_memory-ended.new.out) old new shelf fabric c.args.writing c.status_of.ensures run.text run.ran run.report run.sound

pub returns-clause-unarmed : goal.returns-clause-unarmed
returns-clause-unarmed g c =
    λ some. c.run_in_memory-ended.ensures.onward.1
    (λ is. some (memory_status c.args.registry.now c.run_in_memory-ended.result c.status_of.result is c.status_of.ensures))

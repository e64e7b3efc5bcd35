use Rattle.spl_node.specs.Benches.{images}
use Rattle.spl_world.{specs.Held.origin_on, proofs.Opened.origin_of}
use Rattle.spl_world.proofs.world.World.open.Goals as goal

pub begin-requires-clause-blank : goal.begin-requires-clause-blank
begin-requires-clause-blank g c = λ q. absurd cc

pub begin-requires-clause-settled : goal.begin-requires-clause-settled
begin-requires-clause-settled g c = λ q. c.requires.settled

pub returns-clause-stands : goal.returns-clause-stands
returns-clause-stands g c = λ tell.
    let start = images g.D.Disk.view c.args.pairs.now.items in
    c.begin.ensures.stands (origin_on c.args.registry.now start) (origin_of c.args.registry.now start) tell

pub returns-clause-held : goal.returns-clause-held
returns-clause-held g c = λ tell.
    let start = images g.D.Disk.view c.args.pairs.now.items in
    c.begin.ensures.held (origin_on c.args.registry.now start) (origin_of c.args.registry.now start) tell

pub returns-clause-kept : goal.returns-clause-kept
returns-clause-kept g c = λ tell. c.begin.ensures.kept

pub returns-clause-journal : goal.returns-clause-journal
returns-clause-journal g c = λ tell slot at q. let first = c.begin.ensures.journal slot at q in (first.below, first)

pub returns-clause-bound : goal.returns-clause-bound
returns-clause-bound g c = λ slot at q. (c.begin.ensures.journal slot at q).below

pub returns-clause-disk : goal.returns-clause-disk
returns-clause-disk g c = c.begin.ensures.disks.failed

pub returns-clause-onward : goal.returns-clause-onward
returns-clause-onward g c = c.begin.ensures.disks.onward

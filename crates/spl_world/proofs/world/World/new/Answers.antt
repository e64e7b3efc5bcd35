use Rattle.spl_circuit_world.specs.Worlds.{blank}
use Rattle.spl_node.specs.Benches.{images}
use Rattle.spl_world.proofs.{Common.{refl, sorted, registered}, HoldingLines.held_first, Opened.origin_blank}
use Rattle.spl_world.proofs.world.World.new.Goals as goal
use Rattle.spl_edge.proofs.Results.{when_ok}

pub begin-requires-clause-blank : goal.begin-requires-clause-blank
begin-requires-clause-blank g c = λ q. c.requires.blank

pub begin-requires-clause-settled : goal.begin-requires-clause-settled
begin-requires-clause-settled g c = λ q. absurd cc

pub returns-clause-sound : goal.returns-clause-sound
returns-clause-sound g c = c.begin.ensures.sound refl

pub returns-clause-stands : goal.returns-clause-stands
returns-clause-stands g c = λ tell.
    let es = c.args.registry.now in
    c.begin.ensures.stands (blank (sorted (registered es))) (origin_blank es (images g.D.Disk.view c.args.pairs.now.items) c.requires.blank) tell

pub returns-clause-held : goal.returns-clause-held
returns-clause-held g c = λ tell unpicked.
    when_ok c.begin.result (λ w stands. held_first g.D.Disk.view w c.args.pairs.now.items c.begin.new.pairs.items stands unpicked
    c.begin.ensures.disks.onward) (returns-clause-stands g c tell)

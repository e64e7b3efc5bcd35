use Rattle.spl_node.{specs.Benches.{AreSettled, AreBlank}, proofs.Benches.own_images}
use Rattle.spl_world.proofs.{Common.{inr, sym, subst, ◌∙◌, true≢false}, Leaving.no_journal, Opened.{made_opened, opens_at, read_there}}
use Rattle.spl_world.proofs.opening.open_at.Goals as goal
use Rattle.spl_edge.proofs.Results.{when_ok}

pub new-requires : goal.new-requires
new-requires g c =
    let ps = c.args.pairs.now.items in
    let there = read_there ps c.from.result c.args.position c.index_mut-disks.result.now c.from.ensures c.requires.room c.index_mut-disks.ensures.value in
    record { blank = subst AreBlank (own_images g.D.Disk.view ps c.from.result c.index_mut-disks.result.now there c.args.position c.from.ensures) (c.requires.blank c.if-blank.true) }

pub open-requires : goal.open-requires
open-requires g c =
    let ps = c.args.pairs.now.items in
    let there = read_there ps c.from.result c.args.position c.index_mut-disks.result.now c.from.ensures c.requires.room c.index_mut-disks.ensures.value in
    record { settled = subst AreSettled (own_images g.D.Disk.view ps c.from.result c.index_mut-disks.result.now there c.args.position c.from.ensures) (c.requires.settled c.if-blank.false) }

pub returns-then-blank-clause-opens : goal.returns-then-blank-clause-opens
returns-then-blank-clause-opens g c =
    let ps = c.args.pairs.now.items in
    let there = read_there ps c.from.result c.args.position c.index_mut-disks.result.now c.from.ensures c.requires.room c.index_mut-disks.ensures.value in
    let blank = subst AreBlank (own_images g.D.Disk.view ps c.from.result c.index_mut-disks.result.now there c.args.position c.from.ensures) (c.requires.blank c.if-blank.true) in
    opens_at g.D.Disk.view c.args.registry.now ps c.from.result c.args.position c.index_mut-disks.result.now c.new.new.disks c.from.ensures there
    c.node-id.result c.new.result c.node-id.ensures
    c.new.ensures.node (when_ok c.new.result (λ s made. made_opened _ _ s blank made) c.new.ensures.made)
    (λ slot at q. absurd (no_journal c.new.result c.new.ensures.ends.sound slot at q)) (inr blank) c.new.ensures.ends.at

pub returns-then-blank-clause-sound : goal.returns-then-blank-clause-sound
returns-then-blank-clause-sound g c = λ q. c.new.ensures.ends.sound

pub returns-clause-opens : goal.returns-clause-opens
returns-clause-opens g c =
    let ps = c.args.pairs.now.items in
    let there = read_there ps c.from.result c.args.position c.index_mut-disks.result.now c.from.ensures c.requires.room c.index_mut-disks.ensures.value in
    opens_at g.D.Disk.view c.args.registry.now ps c.from.result c.args.position c.index_mut-disks.result.now c.open.new.disks c.from.ensures there
    c.node-id.result c.open.result c.node-id.ensures
    c.open.ensures.node c.open.ensures.opened c.open.ensures.unread c.open.ensures.left c.open.ensures.ends

pub returns-clause-sound : goal.returns-clause-sound
returns-clause-sound g c = λ q. absurd (true≢false (sym q ∙ c.if-blank.false))

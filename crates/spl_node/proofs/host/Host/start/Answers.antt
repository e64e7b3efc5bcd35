use Rattle.std.proofs.Common.{◌∙◌, sym}
use Rattle.spl_edge.specs.Devices.{image_now, pair_view}
use Rattle.spl_snapshot.specs.Counting.{PairStays}
use Rattle.spl_node.{specs.Stands.Rests, proofs.{Hosting.{is_journal, started_cells, when_down}, Opened.{always, pair_stays_same, start_leaves, up_leaves}}}
use Rattle.spl_node.proofs.Walking.{handed_on}
use Rattle.spl_node.proofs.host.Host.start.Goals as goal

pub returns-in_err-node-clause-not : goal.returns-in_err-node-clause-not
returns-in_err-node-clause-not g c = λ tell at is.
    let rests : Rests (image_now (g.D.Disk.view c.args.disks.now.first)) (image_now (g.D.Disk.view c.args.disks.now.second)) =
    when_down c.args.self.now.node (Rests (image_now (g.D.Disk.view c.args.disks.now.first)) (image_now (g.D.Disk.view c.args.disks.now.second)))
    (sym c.is_some.ensures ∙ c.if-is_some.false) c.requires.stands.down in
    is_journal (image_now (g.D.Disk.view c.args.disks.now.first)) (image_now (g.D.Disk.view c.args.disks.now.second)) at tell rests.journal
    (c.in_err-node.ensures.not at (handed_on c.from_residual.result _ _ c.from_residual.ensures is))

pub returns-clause-cells : goal.returns-clause-cells
returns-clause-cells g c =
    started_cells c.args.self.now.id c.args.self.now.node c.in_ok-node.node (image_now (g.D.Disk.view c.args.disks.now.first))
    (image_now (g.D.Disk.view c.args.disks.now.second)) (sym c.is_some.ensures ∙ c.if-is_some.false) c.in_ok-node.ensures.here c.in_ok-node.ensures.cells

pub returns-in_err-node-clause-any_moment : goal.returns-in_err-node-clause-any_moment
returns-in_err-node-clause-any_moment g c =
    start_leaves c.args.self.now.id c.args.self.now.node (image_now (g.D.Disk.view c.args.disks.now.first))
    (image_now (g.D.Disk.view c.args.disks.now.second)) (g.D.Disk.view c.open.new.disks.first).image_at (g.D.Disk.view c.open.new.disks.second).image_at
    (g.D.Disk.view c.args.disks.now.first).moment (g.D.Disk.view c.open.new.disks.first).moment (g.D.Disk.view c.args.disks.now.second).moment
    (g.D.Disk.view c.open.new.disks.second).moment (sym c.is_some.ensures ∙ c.if-is_some.false) c.requires.stands.down c.in_err-node.ensures.any_moment

pub returns-clause-any_moment : goal.returns-clause-any_moment
returns-clause-any_moment g c =
    start_leaves c.args.self.now.id c.args.self.now.node (image_now (g.D.Disk.view c.args.disks.now.first))
    (image_now (g.D.Disk.view c.args.disks.now.second)) (g.D.Disk.view c.open.new.disks.first).image_at (g.D.Disk.view c.open.new.disks.second).image_at
    (g.D.Disk.view c.args.disks.now.first).moment (g.D.Disk.view c.open.new.disks.first).moment (g.D.Disk.view c.args.disks.now.second).moment
    (g.D.Disk.view c.open.new.disks.second).moment (sym c.is_some.ensures ∙ c.if-is_some.false) c.requires.stands.down c.in_ok-node.ensures.any_moment

pub returns-then-is_some-clause-any_moment : goal.returns-then-is_some-clause-any_moment
returns-then-is_some-clause-any_moment g c =
    up_leaves c.args.self.now.id c.args.self.now.node (g.D.Disk.view c.args.disks.now.first).image_at (g.D.Disk.view c.args.disks.now.second).image_at
    (g.D.Disk.view c.args.disks.now.first).moment (g.D.Disk.view c.args.disks.now.second).moment c.requires.stands.up c.requires.stands.down

pub returns-then-is_some-clause-written : goal.returns-then-is_some-clause-written
returns-then-is_some-clause-written g c =
    always (image_now (g.D.Disk.view c.args.disks.now.first)) (image_now (g.D.Disk.view c.args.disks.now.second))
    (PairStays (pair_view g.D.Disk.view c.args.disks.now) (pair_view g.D.Disk.view c.args.disks.now))
    (pair_stays_same (pair_view g.D.Disk.view c.args.disks.now))

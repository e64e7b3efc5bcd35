use Rattle.std.proofs.Common.{◌≡◌, ◌∙◌, Option, inl, refl, sym, ap, subst}
use Rattle.spl_edge.{proofs.Results.ok_both, specs.Devices.image_now}
use Rattle.spl_cell_rules.specs.Changes.{stopped_cell}
use Rattle.spl_snapshot.specs.Counting.{IfBoth}
use Rattle.spl_node.{proofs.Hosting.{is_there, up_node, up_runs}, specs.{Stands.{Rests, kept_cell, made_cell, StandFor}, declared.node.Node.Node}}
use Rattle.spl_node.proofs.{Hosting.{stopped_rests, stopped_cells, stopped_stand}, Leaving.{host_leaves, leaves_picked}}
use Rattle.spl_node.proofs.host.Host.stop.Goals as goal

pub returns-clause-stands : goal.returns-clause-stands
returns-clause-stands g c = ok_both c.pick_both.result
    (λ one other. record {
      up = tt;
      down = up_node c.args.self.now.node
          (Rests (image_now (g.D.Disk.view c.pick_both.new.disks.first)) (image_now (g.D.Disk.view c.pick_both.new.disks.second)))
          (is_there c.args.self.now.node c.is_none.result c.is_none.ensures c.if-is_none.false)
          (λ n is. stopped_rests c.args.self.now.id n (image_now (g.D.Disk.view c.args.disks.now.first))
          (image_now (g.D.Disk.view c.args.disks.now.second)) one.picks.image other.picks.image one.picks.told other.picks.told
          (up_runs c.args.self.now.id c.args.self.now.node n (image_now (g.D.Disk.view c.args.disks.now.first))
          (image_now (g.D.Disk.view c.args.disks.now.second)) is c.requires.stands.up) (image_now (g.D.Disk.view c.pick_both.new.disks.first))
          (image_now (g.D.Disk.view c.pick_both.new.disks.second)) one.picks.holds other.picks.holds);
    })
    c.pick_both.ensures.first c.pick_both.ensures.second

pub returns-clause-cells : goal.returns-clause-cells
returns-clause-cells g c = ok_both c.pick_both.result
    (λ one other up i. up_node c.args.self.now.node
    (made_cell c.args.self.now.id i (image_now (g.D.Disk.view c.pick_both.new.disks.first)) (image_now (g.D.Disk.view c.pick_both.new.disks.second))
    ≡ stopped_cell (kept_cell c.args.self.now.id c.args.self.now.node (image_now (g.D.Disk.view c.args.disks.now.first))
    (image_now (g.D.Disk.view c.args.disks.now.second)) i)) up
    (λ n is. stopped_cells c.args.self.now.id n (image_now (g.D.Disk.view c.args.disks.now.first))
    (image_now (g.D.Disk.view c.args.disks.now.second)) one.picks.image other.picks.image one.picks.told other.picks.told
    (up_runs c.args.self.now.id c.args.self.now.node n (image_now (g.D.Disk.view c.args.disks.now.first))
    (image_now (g.D.Disk.view c.args.disks.now.second)) is c.requires.stands.up) (image_now (g.D.Disk.view c.pick_both.new.disks.first))
    (image_now (g.D.Disk.view c.pick_both.new.disks.second)) one.picks.holds other.picks.holds i
    ∙ ap (λ (x : Option Node). stopped_cell
    (kept_cell c.args.self.now.id x (image_now (g.D.Disk.view c.args.disks.now.first)) (image_now (g.D.Disk.view c.args.disks.now.second)) i)) (sym is)))
    c.pick_both.ensures.first c.pick_both.ensures.second

pub returns-clause-picked : goal.returns-clause-picked
returns-clause-picked g c = ok_both c.pick_both.result
    (λ one other up. up_node c.args.self.now.node
    (IfBoth (image_now (g.D.Disk.view c.pick_both.new.disks.first)) (image_now (g.D.Disk.view c.pick_both.new.disks.second))
    (λ i j. StandFor c.args.self.now.id
    (kept_cell c.args.self.now.id c.args.self.now.node (image_now (g.D.Disk.view c.args.disks.now.first))
    (image_now (g.D.Disk.view c.args.disks.now.second))) i.bytes j.bytes)) up
    (λ n is. subst (λ (x : Option Node). IfBoth (image_now (g.D.Disk.view c.pick_both.new.disks.first))
    (image_now (g.D.Disk.view c.pick_both.new.disks.second))
    (λ i j. StandFor c.args.self.now.id
    (kept_cell c.args.self.now.id x (image_now (g.D.Disk.view c.args.disks.now.first))
    (image_now (g.D.Disk.view c.args.disks.now.second))) i.bytes j.bytes)) (sym is)
    (stopped_stand c.args.self.now.id n (image_now (g.D.Disk.view c.args.disks.now.first))
    (image_now (g.D.Disk.view c.args.disks.now.second)) one.picks.image other.picks.image one.picks.told other.picks.told
    (up_runs c.args.self.now.id c.args.self.now.node n (image_now (g.D.Disk.view c.args.disks.now.first))
    (image_now (g.D.Disk.view c.args.disks.now.second)) is c.requires.stands.up) (image_now (g.D.Disk.view c.pick_both.new.disks.first))
    (image_now (g.D.Disk.view c.pick_both.new.disks.second)) one.picks.holds other.picks.holds)))
    c.pick_both.ensures.first c.pick_both.ensures.second

-- ---- whatever the result

pub returns-then-is_none-clause-leaves : goal.returns-then-is_none-clause-leaves
returns-then-is_none-clause-leaves g c =
    host_leaves c.args.self.now.id c.args.self.now.node (g.D.Disk.view c.args.disks.now.first).image_at (g.D.Disk.view c.args.disks.now.second).image_at
    (g.D.Disk.view c.args.disks.now.first).moment (g.D.Disk.view c.args.disks.now.second).moment (g.met.D.StopDisk.tells c.args.disks.now.first)
    (g.met.D.StopDisk.tells c.args.disks.now.second) c.requires.stands.up c.requires.stands.down

pub returns-clause-leaves : goal.returns-clause-leaves
returns-clause-leaves g c =
    leaves_picked (g.D.Disk.view c.args.disks.now.first).image_at (g.D.Disk.view c.args.disks.now.second).image_at
    (g.D.Disk.view c.pick_both.new.disks.first).image_at (g.D.Disk.view c.pick_both.new.disks.second).image_at
    (g.D.Disk.view c.args.disks.now.first).moment (g.D.Disk.view c.args.disks.now.second).moment (g.D.Disk.view c.pick_both.new.disks.first).moment
    (g.D.Disk.view c.pick_both.new.disks.second).moment
    (StandFor c.args.self.now.id
    (kept_cell c.args.self.now.id c.args.self.now.node (image_now (g.D.Disk.view c.args.disks.now.first))
    (image_now (g.D.Disk.view c.args.disks.now.second)))) (g.met.D.StopDisk.tells c.args.disks.now.first)
    (g.met.D.StopDisk.tells c.args.disks.now.second) c.pick_both.ensures.first_left c.pick_both.ensures.second_left
    (host_leaves c.args.self.now.id c.args.self.now.node (g.D.Disk.view c.args.disks.now.first).image_at (g.D.Disk.view c.args.disks.now.second).image_at
    (g.D.Disk.view c.args.disks.now.first).moment (g.D.Disk.view c.args.disks.now.second).moment (g.met.D.StopDisk.tells c.args.disks.now.first)
    (g.met.D.StopDisk.tells c.args.disks.now.second) c.requires.stands.up c.requires.stands.down)

pub returns-then-is_none-clause-once : goal.returns-then-is_none-clause-once
returns-then-is_none-clause-once g c = record { first = inl refl; second = inl refl }

use Rattle.spl_node.specs.Benches.{images_of}
use Rattle.spl_world.proofs.{Common.pair_view, Ending.{hold_left, left_last}, NodeCalls.still_cell, Picking.plain_picks}
use Rattle.spl_world.proofs.slot.Slot.stop.Goals as goal
use Rattle.spl_edge.proofs.Results.{ok_both}

pub returns-clause-goes : goal.returns-clause-goes
returns-clause-goes g c =
    let first = g.D.Disk.view c.stop.new.disks.first in
    let second = g.D.Disk.view c.stop.new.disks.second in
    record {
      down = c.stop.ensures.down;
      stopped = c.stop.ensures.cells;
      same = λ down. still_cell g.D.Disk.view c.args.self.now.host c.stop.new.self c.args.disks.now c.stop.new.disks (c.stop.ensures.same down);
      stands = c.stop.ensures.stands;
      leaves = hold_left _ (images_of g.D.Disk.view c.stop.new.disks) (g.met.D.Disk.possible c.stop.new.disks.first) (g.met.D.Disk.possible c.stop.new.disks.second)
          (left_last first.image_at second.image_at first.moment second.moment _ c.stop.ensures.leaves);
    }

pub returns-clause-picks : goal.returns-clause-picks
returns-clause-picks g c = record {
  picks = ok_both c.stop.result
      (λ one other up off. plain_picks (pair_view g.D.Disk.view c.args.disks.now) (pair_view g.D.Disk.view c.stop.new.disks) off (one up) (other up))
      c.stop.ensures.picks_first c.stop.ensures.picks_second;
  forgets = record { once = c.stop.ensures.once; first_stays = c.stop.ensures.first_stays; second_stays = c.stop.ensures.second_stays };
}

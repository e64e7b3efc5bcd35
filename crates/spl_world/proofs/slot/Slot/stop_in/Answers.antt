use Rattle.spl_node.specs.{Stands.host_second, Stopping.{counting_arming, fill_of, other_arming}, Benches.images_of}
use Rattle.spl_world.proofs.{Common.{pair_view, chosen}, Ending.{hold_left, left_last}, Picking.{count_seen, other_higher}}
use Rattle.spl_world.proofs.slot.Slot.stop_in.Goals as goal
use Rattle.spl_edge.proofs.Results.{ok_three}

pub returns-clause-goes : goal.returns-clause-goes
returns-clause-goes g c =
    let first = g.D.Disk.view c.stop_in.new.disks.first in
    let second = g.D.Disk.view c.stop_in.new.disks.second in
    let stops = c.stop_in.ensures.stops in
    record {
      down = stops.down;
      tells = stops.tells;
      stopped = stops.cells;
      stands = stops.stands;
      leaves = hold_left _ (images_of g.D.Disk.view c.stop_in.new.disks) (g.met.D.Disk.possible c.stop_in.new.disks.first) (g.met.D.Disk.possible c.stop_in.new.disks.second)
          (left_last first.image_at second.image_at first.moment second.moment _ c.stop_in.ensures.leaves);
    }

pub returns-clause-picks : goal.returns-clause-picks
returns-clause-picks g c =
    let p = pair_view g.D.Disk.view c.args.disks.now in
    let q = pair_view g.D.Disk.view c.stop_in.new.disks in
    let how = c.args.stopping in
    let second = host_second c.args.self.now.host in
    let picks = c.stop_in.ensures.picks in
    record {
      picks = ok_three c.stop_in.result
          (λ still one other. record { second = second; counts = picks.counts; still = still; first_is = one; second_is = other })
          picks.still picks.picks_first picks.picks_second;
      risen = c.stop_in.ensures.fails.risen;
      risen_other = ok_three c.stop_in.result
          (λ one other rose full within. other_higher p q second (fill_of how) (chosen second (counting_arming how) (other_arming how))
          (chosen second (other_arming how) (counting_arming how)) picks.counts one other
          (count_seen g.D.Disk.view second c.args.disks.now c.stop_in.new.disks (rose full within)))
          picks.picks_first picks.picks_second c.stop_in.ensures.fails.risen_other;
      forgets = c.stop_in.ensures.forgets;
    }

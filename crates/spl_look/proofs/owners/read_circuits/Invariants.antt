use Rattle.std.proofs.Common.{◌≡◌}
use Rattle.spl_edge.specs.Devices.{image_now, pair_view}
use Rattle.spl_journal.specs.Journals.{left_of}
use Rattle.spl_snapshot.specs.{Counting.{IfBoth, PairStays, PairOnward}, Pairs.{PairWalks, pair_given, walk_in}}
use Rattle.spl_node.specs.Records.{is_record}
use Rattle.spl_look.specs.Owners.{first_without}
use Rattle.spl_look.proofs.owners.read_circuits.Given as goal

abbrev pub invariant-records : goal.invariant-records
invariant-records g l = record {
  walks : PairWalks is_record l.walk (image_now (g.D.Disk.view l.initial.disks.first)) (image_now (g.D.Disk.view l.initial.disks.second));
  found : IfBoth (image_now (g.D.Disk.view l.initial.disks.first)) (image_now (g.D.Disk.view l.initial.disks.second))
      (λ i j. l.first ≡ first_without l.fn.here (pair_given is_record l.walk i.bytes j.bytes));
  stays : PairStays (pair_view g.D.Disk.view l.initial.disks) (pair_view g.D.Disk.view l.disks);
  onward : PairOnward (pair_view g.D.Disk.view l.initial.disks) (pair_view g.D.Disk.view l.disks);
}

abbrev pub decreases-records : goal.decreases-records
decreases-records g l = left_of (walk_in l.walk)

use Rattle.std.proofs.Common.{◌≡◌, false}
use Rattle.spl_edge.specs.Devices.{image_now, pair_view}
use Rattle.spl_journal.specs.Journals.{left_of}
use Rattle.spl_cell.specs.States.{IsStill}
use Rattle.spl_snapshot.specs.{Counting.{IfBoth, PairStays, PairOnward}, Pairs.{PairWalks, pair_given, walk_in}}
use Rattle.spl_node.specs.Records.{is_record}
use Rattle.spl_look.specs.Telling.{IsMadeAt}
use Rattle.spl_look.proofs.peeking.read_cell.Given as goal

abbrev pub invariant-records : goal.invariant-records
invariant-records g l = record {
  fixed : l.cell.site ≡ l.initial.cell.site;
  running : l.cell.halted ≡ false;
  walks : PairWalks is_record l.walk (image_now (g.D.Disk.view l.initial.disks.first)) (image_now (g.D.Disk.view l.initial.disks.second));
  still : IsStill l.cell.state;
  made : IfBoth (image_now (g.D.Disk.view l.initial.disks.first)) (image_now (g.D.Disk.view l.initial.disks.second))
      (λ i j. IsMadeAt l.cell.site l.cell.state (pair_given is_record l.walk i.bytes j.bytes));
  stays : PairStays (pair_view g.D.Disk.view l.initial.disks) (pair_view g.D.Disk.view l.disks);
  onward : PairOnward (pair_view g.D.Disk.view l.initial.disks) (pair_view g.D.Disk.view l.disks);
}

abbrev pub decreases-records : goal.decreases-records
decreases-records g l = left_of (walk_in l.walk)

use Rattle.std.proofs.Common.{◌≡◌}
use Rattle.spl_edge.specs.Devices.{image_now, pair_view}
use Rattle.spl_circuit.specs.Nodes.{CircuitId}
use Rattle.spl_journal.specs.Journals.{left_of}
use Rattle.spl_cell.specs.States.{IsStill}
use Rattle.spl_snapshot.specs.{Counting.{IfBoth, PairStays, PairOnward}, Pairs.{PairWalks, pair_given, walk_in}}
use Rattle.spl_node.specs.{Kept.cell_at, Stands.IsMade, Records.is_record}
use Rattle.spl_node.proofs.opening.read_records.Given as goal

abbrev pub invariant-records : goal.invariant-records
invariant-records g l = record {
  here : l.cells.here ≡ l.initial.cells.here;
  walks : PairWalks is_record l.walk (image_now (g.D.Disk.view l.initial.disks.first)) (image_now (g.D.Disk.view l.initial.disks.second));
  still : (c : CircuitId) → IsStill (cell_at l.cells.entries c);
  made : IfBoth (image_now (g.D.Disk.view l.initial.disks.first)) (image_now (g.D.Disk.view l.initial.disks.second))
      (λ i j. IsMade l.cells (pair_given is_record l.walk i.bytes j.bytes));
  stays : PairStays (pair_view g.D.Disk.view l.initial.disks) (pair_view g.D.Disk.view l.disks);
  onward : PairOnward (pair_view g.D.Disk.view l.initial.disks) (pair_view g.D.Disk.view l.disks);
}

abbrev pub decreases-records : goal.decreases-records
decreases-records g l = left_of (walk_in l.walk)

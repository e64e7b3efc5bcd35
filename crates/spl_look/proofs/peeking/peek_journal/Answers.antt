use Rattle.std.proofs.Common.{rules}
use Rattle.spl_edge.specs.Devices.{pair_view}
use Rattle.spl_snapshot.specs.Counting.{pair_records}
use Rattle.spl_node.{specs.Records.is_record, proofs.Walking.handed_on}
use Rattle.spl_look.proofs.{Recorded.stays_read, ReadsOnly.{reads_as, reads_then, reads_well}}
use Rattle.spl_look.proofs.peeking.peek_journal.Goals as goal

pub returns-in_err-walk-clause-reads : goal.returns-in_err-walk-clause-reads
returns-in_err-walk-clause-reads g c = record {
  not = λ at is. c.in_err-walk.ensures.not at (handed_on c.from_residual.result _ _ c.from_residual.ensures is);
  failed = search rules;
  stays = search rules;
  onward = search rules;
}

pub returns-in_err-read_cell-clause-reads : goal.returns-in_err-read_cell-clause-reads
returns-in_err-read_cell-clause-reads g c =
    let reads = reads_then (pair_records is_record) (pair_view g.D.Disk.view c.args.disks.now) (pair_view g.D.Disk.view c.walk_pair.new.disks)
    (pair_view g.D.Disk.view c.read_cell.new.disks) c.read_cell.result
    c.in_ok-walk.ensures.stays c.in_ok-walk.ensures.onward c.read_cell.ensures.reads in
    reads_as (pair_records is_record) (pair_view g.D.Disk.view c.args.disks.now) (pair_view g.D.Disk.view c.read_cell.new.disks) c.read_cell.result _
    (λ e is. search rules) reads

pub returns-clause-read : goal.returns-clause-read
returns-clause-read g c =
    stays_read c.read_cell.new.cell.site c.read_cell.new.cell.state (pair_view g.D.Disk.view c.args.disks.now)
    (pair_view g.D.Disk.view c.walk_pair.new.disks) c.in_ok-walk.ensures.stays c.in_ok-read_cell.ensures.read

pub returns-clause-reads : goal.returns-clause-reads
returns-clause-reads g c =
    let reads = reads_then (pair_records is_record) (pair_view g.D.Disk.view c.args.disks.now) (pair_view g.D.Disk.view c.walk_pair.new.disks)
    (pair_view g.D.Disk.view c.read_cell.new.disks) c.read_cell.result
    c.in_ok-walk.ensures.stays c.in_ok-walk.ensures.onward c.read_cell.ensures.reads in
    reads_well (pair_records is_record) (pair_view g.D.Disk.view c.args.disks.now) (pair_view g.D.Disk.view c.read_cell.new.disks) _ reads.stays reads.onward

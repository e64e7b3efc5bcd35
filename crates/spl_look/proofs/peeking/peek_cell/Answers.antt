use Rattle.spl_edge.{proofs.Results.when_ok, specs.Devices.{image_now, pair_view}}
use Rattle.spl_snapshot.specs.Counting.{pair_records}
use Rattle.spl_node.{proofs.Peeking.both_none, specs.Records.is_record}
use Rattle.spl_look.proofs.{Recorded.{both_read, stays_read}, ReadsOnly.reads_then}
use Rattle.spl_look.proofs.peeking.peek_cell.Goals as goal

pub returns-clause-peeked : goal.returns-clause-peeked
returns-clause-peeked g c =
    when_ok c.peek_journal.result
    (λ k read. both_read k.site k.state (image_now (g.D.Disk.view c.args.disks.now.first)) (image_now (g.D.Disk.view c.args.disks.now.second))
    (c.in_ok-are_blank.ensures.bytes c.if-branch.false)
    (stays_read k.site k.state (pair_view g.D.Disk.view c.args.disks.now)
    (pair_view g.D.Disk.view c.are_blank.new.disks) c.in_ok-are_blank.ensures.stays read)) c.peek_journal.ensures.read

pub returns-clause-reads : goal.returns-clause-reads
returns-clause-reads g c =
    let reads = reads_then (pair_records is_record) (pair_view g.D.Disk.view c.args.disks.now) (pair_view g.D.Disk.view c.are_blank.new.disks)
    (pair_view g.D.Disk.view c.peek_journal.new.disks) c.peek_journal.result
    c.in_ok-are_blank.ensures.stays c.in_ok-are_blank.ensures.onward c.peek_journal.ensures.reads in
    record {
      not = λ at is. both_none at (image_now (g.D.Disk.view c.args.disks.now.first)) (image_now (g.D.Disk.view c.args.disks.now.second))
          (c.in_ok-are_blank.ensures.bytes c.if-branch.false) (reads.not at is);
      failed = reads.failed;
      stays = reads.stays;
      onward = reads.onward;
    }

use Rattle.spl_edge.{proofs.Results.when_ok, specs.Devices.{image_now, pair_view}}
use Rattle.spl_snapshot.specs.Counting.{pair_records}
use Rattle.spl_node.{proofs.Peeking.both_none, specs.Records.is_record}
use Rattle.spl_look.proofs.{Owned.{both_first_has, stays_first}, ReadsOnly.reads_then}
use Rattle.spl_look.proofs.owners.first_without.Goals as goal

pub returns-clause-first : goal.returns-clause-first
returns-clause-first g c =
    when_ok c.first_in_journal.result
    (λ found first. both_first_has c.args.here.now found (image_now (g.D.Disk.view c.args.disks.now.first))
    (image_now (g.D.Disk.view c.args.disks.now.second)) (c.in_ok-are_blank.ensures.bytes c.if-branch.false)
    (stays_first c.args.here.now found (pair_view g.D.Disk.view c.args.disks.now)
    (pair_view g.D.Disk.view c.are_blank.new.disks) c.in_ok-are_blank.ensures.stays first)) c.first_in_journal.ensures.first

pub returns-clause-reads : goal.returns-clause-reads
returns-clause-reads g c =
    let reads = reads_then (pair_records is_record) (pair_view g.D.Disk.view c.args.disks.now) (pair_view g.D.Disk.view c.are_blank.new.disks)
    (pair_view g.D.Disk.view c.first_in_journal.new.disks) c.first_in_journal.result
    c.in_ok-are_blank.ensures.stays c.in_ok-are_blank.ensures.onward c.first_in_journal.ensures.reads in
    record {
      not = λ at is. both_none at (image_now (g.D.Disk.view c.args.disks.now.first)) (image_now (g.D.Disk.view c.args.disks.now.second))
          (c.in_ok-are_blank.ensures.bytes c.if-branch.false) (reads.not at is);
      failed = reads.failed;
      stays = reads.stays;
      onward = reads.onward;
    }

use Rattle.std.proofs.Common.{rules}
use Rattle.spl_edge.{proofs.Results.when_ok, specs.Devices.pair_view}
use Rattle.spl_snapshot.specs.Counting.{pair_records}
use Rattle.spl_node.{specs.Records.is_record, proofs.Walking.handed_on}
use Rattle.spl_look.proofs.{Owned.stays_first, ReadsOnly.reads_then}
use Rattle.spl_look.proofs.owners.first_in_journal.Goals as goal

pub returns-in_err-walk-clause-reads : goal.returns-in_err-walk-clause-reads
returns-in_err-walk-clause-reads g c = record {
  not = λ at is. c.in_err-walk.ensures.not at (handed_on c.from_residual.result _ _ c.from_residual.ensures is);
  failed = search rules;
  stays = search rules;
  onward = search rules;
}

pub returns-clause-first : goal.returns-clause-first
returns-clause-first g c =
    when_ok c.read_circuits.result
    (λ found first. stays_first c.args.here.now found (pair_view g.D.Disk.view c.args.disks.now)
    (pair_view g.D.Disk.view c.walk_pair.new.disks) c.in_ok-walk.ensures.stays first) c.read_circuits.ensures.first

pub returns-clause-reads : goal.returns-clause-reads
returns-clause-reads g c =
    reads_then (pair_records is_record) (pair_view g.D.Disk.view c.args.disks.now) (pair_view g.D.Disk.view c.walk_pair.new.disks)
    (pair_view g.D.Disk.view c.read_circuits.new.disks) c.read_circuits.result
    c.in_ok-walk.ensures.stays c.in_ok-walk.ensures.onward c.read_circuits.ensures.reads

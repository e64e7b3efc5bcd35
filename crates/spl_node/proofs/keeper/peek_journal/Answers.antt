use Rattle.spl_node.proofs.{Disks.stays_join, Walking.handed_on}
use Rattle.spl_node.proofs.keeper.peek_journal.Goals as goal

pub returns-in_err-walk-clause-not : goal.returns-in_err-walk-clause-not
returns-in_err-walk-clause-not g c = λ at is. c.in_err-walk.ensures.not at (handed_on c.from_residual.result _ _ c.from_residual.ensures is)

pub returns-clause-stays : goal.returns-clause-stays
returns-clause-stays g c = record {
  first = stays_join (g.D.Disk.view c.args.disks.now.first) (g.D.Disk.view c.walk_pair.new.disks.first)
      (g.D.Disk.view c.read_records.new.disks.first) c.in_ok-walk.ensures.stays.first c.read_records.ensures.stays.first;
  second = stays_join (g.D.Disk.view c.args.disks.now.second) (g.D.Disk.view c.walk_pair.new.disks.second)
      (g.D.Disk.view c.read_records.new.disks.second) c.in_ok-walk.ensures.stays.second c.read_records.ensures.stays.second;
}

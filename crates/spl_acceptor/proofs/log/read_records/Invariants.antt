use Rattle.std.specs.Prelude.{◌≡◌, false, IfSome}
use Rattle.spl_edge.specs.Devices.{Onward, image_now}
use Rattle.spl_journal.specs.{Journals.{Walks, form_walked, given_by, left_of}, Reads.Stays, Records.is_older}
use Rattle.spl_acceptor.specs.{Logs.{is_paxos_record, records_read}, Records.MakeRounds}
use Rattle.spl_acceptor.proofs.log.read_records.Given as goal

abbrev pub invariant-records : goal.invariant-records
invariant-records g l = record {
  walks : IfSome (image_now (g.D.Disk.view l.initial.disk)) (Walks is_paxos_record l.walk);
  form : is_older (form_walked l.walk) ≡ false;
  made : IfSome (image_now (g.D.Disk.view l.initial.disk))
      (λ i. MakeRounds g.K.Keeps.with g.K.Keeps.first l.members (g.K.Keeps.kept l.rounds) (records_read (given_by is_paxos_record l.walk i.bytes)));
  stays : Stays (g.D.Disk.view l.initial.disk) (g.D.Disk.view l.disk);
  onward : Onward (g.D.Disk.view l.initial.disk) (g.D.Disk.view l.disk);
}

abbrev pub decreases-records : goal.decreases-records
decreases-records g l = left_of l.walk

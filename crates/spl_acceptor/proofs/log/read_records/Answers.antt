use Rattle.std.proofs.Common.{◌≡◌, ◌∙◌, ◌++◌, ◌∷◌, [], Option, Err, IfSome, ap, sym, subst}
use Rattle.spl_edge.specs.Devices.{Image, image_now}
use Rattle.spl_journal.specs.{Journals.{Walks, given_by}, Records.is_older}
use Rattle.spl_acceptor.specs.{Logs.{is_paxos_record, paxos_record_bytes, records_on}, Records.MakeRounds, declared.log_form.FoundRecord.FoundRecord}
use Rattle.spl_acceptor.proofs.{Logs.{fault_on, given_more, still_holds, stays_join, onward_join, handed_on}, Reading.record_again}
use Rattle.spl_acceptor.proofs.log.read_records.Goals as goal

pub returns-in_err-found-clause-not : goal.returns-in_err-found-clause-not
returns-in_err-found-clause-not g c = λ at is.
    let same : image_now (g.D.Disk.view c.records.disk) ≡ image_now (g.D.Disk.view c.args.disk.now) =
    still_holds (g.D.Disk.view c.args.disk.now) (g.D.Disk.view c.records.disk) c.records.invariant.stays in
    subst (λ (o : Option Image). IfSome o (λ i. records_on i.bytes ≡ Err at)) same
    (fault_on c.records.walk.at c.records.walk.extent c.records.walk.epoch c.records.walk.form c.records.walk.ended
    (image_now (g.D.Disk.view c.records.disk))
    (subst (λ (o : Option Image). IfSome o (Walks is_paxos_record c.records.walk)) (sym same) c.records.invariant.walks) c.records.invariant.form at
    (c.in_err-found.ensures.not at (handed_on c.from_residual.result _ _ c.from_residual.ensures is)))

pub records-preserved : goal.records-preserved
records-preserved g c =
    let told = image_now (g.D.Disk.view c.args.disk.now) in
    let tells = image_now (g.D.Disk.view c.records.disk) in
    let n = c.args.members in
    let x = c.in-Some.found.item in
    let same : tells ≡ told = still_holds (g.D.Disk.view c.args.disk.now) (g.D.Disk.view c.records.disk) c.records.invariant.stays in
    record {
      walks = subst (λ (o : Option Image). IfSome o (Walks is_paxos_record c.next.new.self)) same c.in_ok-found.ensures.walks;
      form = ap is_older c.in_ok-found.ensures.same.2 ∙ c.records.invariant.form;
      made = given_more (MakeRounds g.K.Keeps.with g.K.Keeps.first n (g.K.Keeps.kept c.records.rounds))
          (MakeRounds g.K.Keeps.with g.K.Keeps.first n (g.K.Keeps.kept c.replay_own.new.rounds)) told
          (λ i. given_by is_paxos_record c.records.walk i.bytes) (λ i. given_by is_paxos_record c.next.new.self i.bytes) (paxos_record_bytes x) x
          (record_again x c.in-Some.found.written)
          c.in_ok-replay_own.ensures c.records.invariant.made
          (subst (λ (o : Option Image). IfSome o
          (λ i. given_by is_paxos_record c.next.new.self i.bytes ≡ given_by is_paxos_record c.records.walk i.bytes ++ paxos_record_bytes x ∷ [])) same
          (subst (λ (found : Option FoundRecord). IfSome found
          (λ f. IfSome tells (λ i. given_by is_paxos_record c.next.new.self i.bytes
          ≡ given_by is_paxos_record c.records.walk i.bytes ++ paxos_record_bytes f.item ∷ [])))
          c.in-Some.is c.in_ok-found.ensures.next));
      stays = stays_join (g.D.Disk.view c.args.disk.now) (g.D.Disk.view c.records.disk)
          (g.D.Disk.view c.next.new.disk) c.records.invariant.stays c.in_ok-found.ensures.stays;
      onward = onward_join (g.D.Disk.view c.args.disk.now) (g.D.Disk.view c.records.disk)
          (g.D.Disk.view c.next.new.disk) c.records.invariant.onward c.in_ok-found.ensures.onward;
    }

pub returns-clause-stays : goal.returns-clause-stays
returns-clause-stays g c =
    stays_join (g.D.Disk.view c.args.disk.now) (g.D.Disk.view c.records.disk)
    (g.D.Disk.view c.next.new.disk) c.records.invariant.stays c.in_ok-found.ensures.stays

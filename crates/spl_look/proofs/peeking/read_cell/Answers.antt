use Rattle.std.{specs.Prelude.IfNone, proofs.Common.{◌≡◌, ◌++◌, ◌∷◌, [], ◌∙◌, Option, Err, IfSome, sym, subst, rules}}
use Rattle.spl_edge.specs.Devices.{image_now}
use Rattle.spl_snapshot.specs.{Counting.{IfBoth, HaveRecords, pair_records}, Pairs.pair_given}
use Rattle.spl_node.{specs.{Records.{is_record, record_bytes}, declared.form.Found.Found}, proofs.{Reading.record_again, Disks.{stays_join, onward_join}}}
use Rattle.spl_node.proofs.Walking.{handed_on, still_holds, both_still, walks_still}
use Rattle.spl_look.proofs.Recorded.{both_more, read_all}
use Rattle.spl_look.proofs.peeking.read_cell.Goals as goal

pub returns-in_err-found-clause-reads : goal.returns-in_err-found-clause-reads
returns-in_err-found-clause-reads g c = record {
  not = λ at is. both_still (λ i j. pair_records is_record i.bytes j.bytes ≡ Err at)
      (image_now (g.D.Disk.view c.args.disks.now.first)) (image_now (g.D.Disk.view c.args.disks.now.second))
      (image_now (g.D.Disk.view c.records.disks.first)) (image_now (g.D.Disk.view c.records.disks.second))
      (still_holds (g.D.Disk.view c.args.disks.now.first) (g.D.Disk.view c.records.disks.first) c.records.invariant.stays.first)
      (still_holds (g.D.Disk.view c.args.disks.now.second) (g.D.Disk.view c.records.disks.second) c.records.invariant.stays.second)
      (c.in_err-found.ensures.not at (handed_on c.from_residual.result _ _ c.from_residual.ensures is));
  failed = search rules;
  stays = search rules;
  onward = search rules;
}

pub returns-in_err-follow-clause-reads : goal.returns-in_err-follow-clause-reads
returns-in_err-follow-clause-reads g c = record {
  not = search rules;
  failed = search rules;
  onward = search rules;
  stays = record {
    first = stays_join (g.D.Disk.view c.args.disks.now.first) (g.D.Disk.view c.records.disks.first)
        (g.D.Disk.view c.next.new.disks.first) c.records.invariant.stays.first c.in_ok-found.ensures.stays.first;
    second = stays_join (g.D.Disk.view c.args.disks.now.second) (g.D.Disk.view c.records.disks.second)
        (g.D.Disk.view c.next.new.disks.second) c.records.invariant.stays.second c.in_ok-found.ensures.stays.second;
  };
}

pub records-preserved : goal.records-preserved
records-preserved g c =
    let told = image_now (g.D.Disk.view c.args.disks.now.first) in
    let other_told = image_now (g.D.Disk.view c.args.disks.now.second) in
    let tells = image_now (g.D.Disk.view c.records.disks.first) in
    let other_tells = image_now (g.D.Disk.view c.records.disks.second) in
    let same : tells ≡ told = still_holds (g.D.Disk.view c.args.disks.now.first) (g.D.Disk.view c.records.disks.first) c.records.invariant.stays.first in
    let other_same : other_tells ≡ other_told =
    still_holds (g.D.Disk.view c.args.disks.now.second) (g.D.Disk.view c.records.disks.second) c.records.invariant.stays.second in
    record {
      fixed = c.follow.ensures.fixed ∙ c.records.invariant.fixed;
      running = c.in_ok-follow.ensures.running;
      walks = walks_still c.next.new.self tells other_tells told other_told (sym same) (sym other_same) c.in_ok-found.ensures.walks;
      still = c.in_ok-follow.ensures.still;
      made = both_more told other_told c.records.cell.site c.follow.new.cell.site c.records.cell.state c.follow.new.cell.state
          (λ i j. pair_given is_record c.records.walk i.bytes j.bytes) (λ i j. pair_given is_record c.next.new.self i.bytes j.bytes)
          (record_bytes c.in-Some.found.item) c.in-Some.found.item
          (record_again c.in-Some.found.item c.in-Some.found.written) c.follow.ensures.fixed c.in_ok-follow.ensures.state c.records.invariant.made
          (both_still (λ i j. pair_given is_record c.next.new.self i.bytes j.bytes
          ≡ pair_given is_record c.records.walk i.bytes j.bytes
          ++ record_bytes c.in-Some.found.item ∷ []) told other_told tells other_tells same other_same
          (subst (λ (found : Option Found). IfSome found
          (λ f. IfBoth tells other_tells
          (λ i j. pair_given is_record c.next.new.self i.bytes j.bytes
          ≡ pair_given is_record c.records.walk i.bytes j.bytes ++ record_bytes f.item ∷ [])))
          c.in-Some.is c.in_ok-found.ensures.next));
      stays = record {
        first = stays_join (g.D.Disk.view c.args.disks.now.first) (g.D.Disk.view c.records.disks.first)
            (g.D.Disk.view c.next.new.disks.first) c.records.invariant.stays.first c.in_ok-found.ensures.stays.first;
        second = stays_join (g.D.Disk.view c.args.disks.now.second) (g.D.Disk.view c.records.disks.second)
            (g.D.Disk.view c.next.new.disks.second) c.records.invariant.stays.second c.in_ok-found.ensures.stays.second;
      };
      onward = record {
        first = onward_join (g.D.Disk.view c.args.disks.now.first) (g.D.Disk.view c.records.disks.first)
            (g.D.Disk.view c.next.new.disks.first) c.records.invariant.onward.first c.in_ok-found.ensures.onward.first;
        second = onward_join (g.D.Disk.view c.args.disks.now.second) (g.D.Disk.view c.records.disks.second)
            (g.D.Disk.view c.next.new.disks.second) c.records.invariant.onward.second c.in_ok-found.ensures.onward.second;
      };
    }

pub returns-clause-read : goal.returns-clause-read
returns-clause-read g c =
    let told = image_now (g.D.Disk.view c.args.disks.now.first) in
    let other_told = image_now (g.D.Disk.view c.args.disks.now.second) in
    let tells = image_now (g.D.Disk.view c.records.disks.first) in
    let other_tells = image_now (g.D.Disk.view c.records.disks.second) in
    read_all told other_told c.records.cell.site c.records.cell.state (λ i j. pair_given is_record c.records.walk i.bytes j.bytes) c.records.invariant.made
    (both_still (λ i j. HaveRecords is_record (pair_given is_record c.records.walk i.bytes j.bytes) i.bytes j.bytes) told other_told tells other_tells
    (still_holds (g.D.Disk.view c.args.disks.now.first) (g.D.Disk.view c.records.disks.first) c.records.invariant.stays.first)
    (still_holds (g.D.Disk.view c.args.disks.now.second) (g.D.Disk.view c.records.disks.second) c.records.invariant.stays.second)
    (subst (λ (found : Option Found). IfNone found
    (IfBoth tells other_tells
    (λ i j. HaveRecords is_record (pair_given is_record c.records.walk i.bytes j.bytes) i.bytes j.bytes))) c.in_default.is c.in_ok-found.ensures.none))

pub returns-clause-reads : goal.returns-clause-reads
returns-clause-reads g c = record {
  not = search rules;
  failed = search rules;
  stays = record {
    first = stays_join (g.D.Disk.view c.args.disks.now.first) (g.D.Disk.view c.records.disks.first)
        (g.D.Disk.view c.next.new.disks.first) c.records.invariant.stays.first c.in_ok-found.ensures.stays.first;
    second = stays_join (g.D.Disk.view c.args.disks.now.second) (g.D.Disk.view c.records.disks.second)
        (g.D.Disk.view c.next.new.disks.second) c.records.invariant.stays.second c.in_ok-found.ensures.stays.second;
  };
  onward = search rules;
}

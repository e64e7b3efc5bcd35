use Rattle.std.{specs.{Prelude.IfNone, Option.option_or}, proofs.Common.{◌≡◌, ◌++◌, ◌∷◌, [], ◌∙◌, Option, Err, IfSome, ap, sym, subst, rules}}
use Rattle.spl_circuit.specs.Nodes.{CircuitId}
use Rattle.spl_edge.specs.Devices.{image_now}
use Rattle.spl_snapshot.specs.{Counting.{IfBoth, HaveRecords, pair_records}, Pairs.pair_given}
use Rattle.spl_node.{specs.{Records.{is_record, record_bytes}, declared.form.Found.Found}, proofs.{Reading.record_again, Disks.{stays_join, onward_join}}}
use Rattle.spl_node.proofs.{Disks.{stays_same, onward_same}, Walking.{handed_on, still_holds, both_still, walks_still}}
use Rattle.spl_look.proofs.Owned.{both_found_all, both_found_more, both_found_none}
use Rattle.spl_look.proofs.owners.read_circuits.Goals as goal

pub returns-in_err-found-clause-reads : goal.returns-in_err-found-clause-reads
returns-in_err-found-clause-reads g c = record {
  not = λ at is. both_still (λ i j. pair_records is_record i.bytes j.bytes ≡ Err at)
      (image_now (g.D.Disk.view c.args.disks.now.first)) (image_now (g.D.Disk.view c.args.disks.now.second))
      (image_now (g.D.Disk.view c.records.disks.first)) (image_now (g.D.Disk.view c.records.disks.second))
      (still_holds (g.D.Disk.view c.args.disks.now.first) (g.D.Disk.view c.records.disks.first) c.records.invariant.stays.first)
      (still_holds (g.D.Disk.view c.args.disks.now.second) (g.D.Disk.view c.records.disks.second) c.records.invariant.stays.second)
      (c.in_err-found.ensures.not at (handed_on c.from_residual.result _ _ c.from_residual.ensures is));
  failed = search rules;
  stays = search rules;
  onward = search rules;
}

pub records-init : goal.records-init
records-init g c =
    let first = g.D.Disk.view c.args.disks.now.first in
    let second = g.D.Disk.view c.args.disks.now.second in
    record {
      walks = c.requires.walks;
      found = both_found_none (image_now first) (image_now second) c.args.here.now
          (λ i j. pair_given is_record c.args.walk.now i.bytes j.bytes) c.requires.start;
      stays = record { first = stays_same first; second = stays_same second };
      onward = record { first = onward_same first; second = onward_same second };
    }

pub records-preserved : goal.records-preserved
records-preserved g c =
    let told = image_now (g.D.Disk.view c.args.disks.now.first) in
    let other_told = image_now (g.D.Disk.view c.args.disks.now.second) in
    let tells = image_now (g.D.Disk.view c.records.disks.first) in
    let other_tells = image_now (g.D.Disk.view c.records.disks.second) in
    let same : tells ≡ told = still_holds (g.D.Disk.view c.args.disks.now.first) (g.D.Disk.view c.records.disks.first) c.records.invariant.stays.first in
    let other_same : other_tells ≡ other_told =
    still_holds (g.D.Disk.view c.args.disks.now.second) (g.D.Disk.view c.records.disks.second) c.records.invariant.stays.second in
    record {
      walks = walks_still c.next.new.self tells other_tells told other_told (sym same) (sym other_same) c.in_ok-found.ensures.walks;
      found = both_found_more told other_told c.args.here.now c.records.first c.or-first.result
          (λ i j. pair_given is_record c.records.walk i.bytes j.bytes) (λ i j. pair_given is_record c.next.new.self i.bytes j.bytes)
          (record_bytes c.in-Some.found.item) c.in-Some.found.item
          (record_again c.in-Some.found.item c.in-Some.found.written)
          (c.or-first.ensures ∙ ap (λ (o : Option CircuitId). option_or c.records.first o) c.without_in.ensures) c.records.invariant.found
          (both_still (λ i j. pair_given is_record c.next.new.self i.bytes j.bytes
          ≡ pair_given is_record c.records.walk i.bytes j.bytes
          ++ record_bytes c.in-Some.found.item ∷ []) told other_told tells other_tells same other_same
          (subst (λ (found : Option Found). IfSome found
          (λ f. IfBoth tells other_tells
          (λ i j. pair_given is_record c.next.new.self i.bytes j.bytes
          ≡ pair_given is_record c.records.walk i.bytes j.bytes ++ record_bytes f.item ∷ [])))
          c.in-Some.is c.in_ok-found.ensures.next));
      stays = record {
        first = stays_join (g.D.Disk.view c.args.disks.now.first) (g.D.Disk.view c.records.disks.first)
            (g.D.Disk.view c.next.new.disks.first) c.records.invariant.stays.first c.in_ok-found.ensures.stays.first;
        second = stays_join (g.D.Disk.view c.args.disks.now.second) (g.D.Disk.view c.records.disks.second)
            (g.D.Disk.view c.next.new.disks.second) c.records.invariant.stays.second c.in_ok-found.ensures.stays.second;
      };
      onward = record {
        first = onward_join (g.D.Disk.view c.args.disks.now.first) (g.D.Disk.view c.records.disks.first)
            (g.D.Disk.view c.next.new.disks.first) c.records.invariant.onward.first c.in_ok-found.ensures.onward.first;
        second = onward_join (g.D.Disk.view c.args.disks.now.second) (g.D.Disk.view c.records.disks.second)
            (g.D.Disk.view c.next.new.disks.second) c.records.invariant.onward.second c.in_ok-found.ensures.onward.second;
      };
    }

pub returns-clause-first : goal.returns-clause-first
returns-clause-first g c =
    let told = image_now (g.D.Disk.view c.args.disks.now.first) in
    let other_told = image_now (g.D.Disk.view c.args.disks.now.second) in
    let tells = image_now (g.D.Disk.view c.records.disks.first) in
    let other_tells = image_now (g.D.Disk.view c.records.disks.second) in
    both_found_all told other_told c.args.here.now c.records.first (λ i j. pair_given is_record c.records.walk i.bytes j.bytes) c.records.invariant.found
    (both_still (λ i j. HaveRecords is_record (pair_given is_record c.records.walk i.bytes j.bytes) i.bytes j.bytes) told other_told tells other_tells
    (still_holds (g.D.Disk.view c.args.disks.now.first) (g.D.Disk.view c.records.disks.first) c.records.invariant.stays.first)
    (still_holds (g.D.Disk.view c.args.disks.now.second) (g.D.Disk.view c.records.disks.second) c.records.invariant.stays.second)
    (subst (λ (found : Option Found). IfNone found
    (IfBoth tells other_tells
    (λ i j. HaveRecords is_record (pair_given is_record c.records.walk i.bytes j.bytes) i.bytes j.bytes))) c.in_default.is c.in_ok-found.ensures.none))

pub returns-clause-reads : goal.returns-clause-reads
returns-clause-reads g c = record {
  not = search rules;
  failed = search rules;
  stays = record {
    first = stays_join (g.D.Disk.view c.args.disks.now.first) (g.D.Disk.view c.records.disks.first)
        (g.D.Disk.view c.next.new.disks.first) c.records.invariant.stays.first c.in_ok-found.ensures.stays.first;
    second = stays_join (g.D.Disk.view c.args.disks.now.second) (g.D.Disk.view c.records.disks.second)
        (g.D.Disk.view c.next.new.disks.second) c.records.invariant.stays.second c.in_ok-found.ensures.stays.second;
  };
  onward = search rules;
}

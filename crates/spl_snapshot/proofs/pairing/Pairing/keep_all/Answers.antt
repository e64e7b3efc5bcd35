use Rattle.std.proofs.Common.{◌≡◌, ℕ, List, Bool, inr, refl, sym, subst, rules}
use Rattle.spl_edge.specs.Devices.{image_now, pair_view}
use Rattle.spl_journal.specs.{Gate.opened, Journals.end_of, Records.following}
use Rattle.spl_snapshot.specs.{Counting.{chosen, pair_records_of, HaveRecords, HaveEither, IfBoth, PairLeaves}, Pairs.journal_in, Stopped.PairPicksCount}
use Rattle.spl_snapshot.{specs.Stopped.StopsShut, proofs.Keeps.{kept_any, kept_after, stands_settled, both_any, both_after, both_last, all_calls}}
use Rattle.spl_snapshot.proofs.Shut.{count_picked, told_before}
use Rattle.spl_snapshot.proofs.pairing.Pairing.keep_all.Goals as goal

pub returns-in-Err-clause-leaves : goal.returns-in-Err-clause-leaves
returns-in-Err-clause-leaves g c = record {
  any_moment =
      kept_any g.R.Form.is_record (g.P.Packed.packed c.args.state.now) c.args.more.now (image_now (g.D.Disk.view c.args.disks.now.first))
      (image_now (g.D.Disk.view c.args.disks.now.second)) (g.D.Disk.view c.append_all.new.disks.first).image_at
      (g.D.Disk.view c.append_all.new.disks.second).image_at (g.D.Disk.view c.args.disks.now.first).moment
      (g.D.Disk.view c.append_all.new.disks.first).moment (g.D.Disk.view c.args.disks.now.second).moment
      (g.D.Disk.view c.append_all.new.disks.second).moment c.args.self.now.second c.in-Err.ensures.leaves.any_moment;
  after = search rules;
  told = search rules;
  stands = search rules;
}

pub returns-then-room-clause-leaves : goal.returns-then-room-clause-leaves
returns-then-room-clause-leaves g c = record {
  any_moment =
      kept_any g.R.Form.is_record (g.P.Packed.packed c.args.state.now) c.args.more.now (image_now (g.D.Disk.view c.args.disks.now.first))
      (image_now (g.D.Disk.view c.args.disks.now.second)) (g.D.Disk.view c.append_all.new.disks.first).image_at
      (g.D.Disk.view c.append_all.new.disks.second).image_at (g.D.Disk.view c.args.disks.now.first).moment
      (g.D.Disk.view c.append_all.new.disks.first).moment (g.D.Disk.view c.args.disks.now.second).moment
      (g.D.Disk.view c.append_all.new.disks.second).moment c.args.self.now.second c.in_default.ensures.leaves.any_moment;
  after = kept_after g.R.Form.is_record (g.P.Packed.packed c.args.state.now) c.args.more.now (image_now (g.D.Disk.view c.args.disks.now.first))
      (image_now (g.D.Disk.view c.args.disks.now.second)) (g.D.Disk.view c.append_all.new.disks.first).image_at
      (g.D.Disk.view c.append_all.new.disks.second).image_at (g.D.Disk.view c.append_all.new.disks.first).moment
      (g.D.Disk.view c.append_all.new.disks.first).moment (g.D.Disk.view c.append_all.new.disks.second).moment
      (g.D.Disk.view c.append_all.new.disks.second).moment c.in_default.ensures.leaves.after;
  told = search rules;
  stands = search rules;
}

pub returns-in_default-pack-clause-leaves : goal.returns-in_default-pack-clause-leaves
returns-in_default-pack-clause-leaves g c = record {
  any_moment =
      kept_any g.R.Form.is_record (g.P.Packed.packed c.args.state.now) c.args.more.now (image_now (g.D.Disk.view c.args.disks.now.first))
      (image_now (g.D.Disk.view c.args.disks.now.second)) (g.D.Disk.view c.append_all.new.disks.first).image_at
      (g.D.Disk.view c.append_all.new.disks.second).image_at (g.D.Disk.view c.args.disks.now.first).moment
      (g.D.Disk.view c.append_all.new.disks.first).moment (g.D.Disk.view c.args.disks.now.second).moment
      (g.D.Disk.view c.append_all.new.disks.second).moment c.args.self.now.second c.in_default.ensures.leaves.any_moment;
  after = search rules;
  told = search rules;
  stands = search rules;
}

pub returns-in-Err-checkpoint-clause-leaves : goal.returns-in-Err-checkpoint-clause-leaves
returns-in-Err-checkpoint-clause-leaves g c = record {
  any_moment =
      let full : c.in-Ok.contents ≡ g.P.Packed.packed c.args.state.now = search rules in
      both_any g.D.Disk.view c.args.disks.now.first c.args.disks.now.second c.append_all.new.disks.first c.append_all.new.disks.second
      c.checkpoint.new.disks.first c.checkpoint.new.disks.second g.R.Form.is_record (g.P.Packed.packed c.args.state.now) c.args.more.now
      (image_now (g.D.Disk.view c.args.disks.now.first))
      (image_now (g.D.Disk.view c.args.disks.now.second)) c.checkpoint.ensures.ends.onward.first.past c.checkpoint.ensures.ends.onward.first.later
      c.checkpoint.ensures.ends.onward.second.past c.checkpoint.ensures.ends.onward.second.later
      (stands_settled g.R.Form.is_record c.append_all.new.self (image_now (g.D.Disk.view c.append_all.new.disks.first))
      (image_now (g.D.Disk.view c.append_all.new.disks.second)) c.in_default.ensures.leaves.stands) c.in_default.ensures.leaves.told.0
      c.in_default.ensures.leaves.told.1 c.in_default.ensures.leaves.after
      c.args.self.now.second c.append_all.ensures.calls.other
      (subst (λ (b : Bool). chosen b c.checkpoint.new.disks.first c.checkpoint.new.disks.second
      ≡ chosen b c.append_all.new.disks.first c.append_all.new.disks.second) c.append_all.ensures.grown.same.0 c.checkpoint.ensures.calls.counting)
      c.in_default.ensures.leaves.any_moment
      (subst (λ (l : List (List ℕ)). IfBoth (image_now (g.D.Disk.view c.append_all.new.disks.first))
      (image_now (g.D.Disk.view c.append_all.new.disks.second))
      (λ i j. PairLeaves (pair_view g.D.Disk.view c.append_all.new.disks) (pair_view g.D.Disk.view c.checkpoint.new.disks)
      (HaveEither g.R.Form.is_record (pair_records_of g.R.Form.is_record i.bytes j.bytes) l))) full c.in-Err-checkpoint.ensures.leaves.any_moment);
  after = search rules;
  told = search rules;
  stands = search rules;
}

pub returns-clause-leaves : goal.returns-clause-leaves
returns-clause-leaves g c = record {
  any_moment =
      let full : c.in-Ok.contents ≡ g.P.Packed.packed c.args.state.now = search rules in
      both_any g.D.Disk.view c.args.disks.now.first c.args.disks.now.second c.append_all.new.disks.first c.append_all.new.disks.second
      c.checkpoint.new.disks.first c.checkpoint.new.disks.second g.R.Form.is_record (g.P.Packed.packed c.args.state.now) c.args.more.now
      (image_now (g.D.Disk.view c.args.disks.now.first))
      (image_now (g.D.Disk.view c.args.disks.now.second)) c.checkpoint.ensures.ends.onward.first.past c.checkpoint.ensures.ends.onward.first.later
      c.checkpoint.ensures.ends.onward.second.past c.checkpoint.ensures.ends.onward.second.later
      (stands_settled g.R.Form.is_record c.append_all.new.self (image_now (g.D.Disk.view c.append_all.new.disks.first))
      (image_now (g.D.Disk.view c.append_all.new.disks.second)) c.in_default.ensures.leaves.stands) c.in_default.ensures.leaves.told.0
      c.in_default.ensures.leaves.told.1 c.in_default.ensures.leaves.after
      c.args.self.now.second c.append_all.ensures.calls.other
      (subst (λ (b : Bool). chosen b c.checkpoint.new.disks.first c.checkpoint.new.disks.second
      ≡ chosen b c.append_all.new.disks.first c.append_all.new.disks.second) c.append_all.ensures.grown.same.0 c.checkpoint.ensures.calls.counting)
      c.in_default.ensures.leaves.any_moment
      (subst (λ (l : List (List ℕ)). IfBoth (image_now (g.D.Disk.view c.append_all.new.disks.first))
      (image_now (g.D.Disk.view c.append_all.new.disks.second))
      (λ i j. PairLeaves (pair_view g.D.Disk.view c.append_all.new.disks) (pair_view g.D.Disk.view c.checkpoint.new.disks)
      (HaveEither g.R.Form.is_record (pair_records_of g.R.Form.is_record i.bytes j.bytes) l))) full c.in_default-checkpoint.ensures.leaves.any_moment);
  after =
      let full : c.in-Ok.contents ≡ g.P.Packed.packed c.args.state.now = search rules in
      both_after g.D.Disk.view c.args.disks.now.first c.args.disks.now.second c.append_all.new.disks.first c.append_all.new.disks.second
      c.checkpoint.new.disks.first c.checkpoint.new.disks.second g.R.Form.is_record (g.P.Packed.packed c.args.state.now) c.args.more.now
      (image_now (g.D.Disk.view c.args.disks.now.first))
      (image_now (g.D.Disk.view c.args.disks.now.second)) c.checkpoint.ensures.ends.onward.first.past c.checkpoint.ensures.ends.onward.first.later
      c.checkpoint.ensures.ends.onward.second.past c.checkpoint.ensures.ends.onward.second.later
      (stands_settled g.R.Form.is_record c.append_all.new.self (image_now (g.D.Disk.view c.append_all.new.disks.first))
      (image_now (g.D.Disk.view c.append_all.new.disks.second)) c.in_default.ensures.leaves.stands) c.in_default.ensures.leaves.told.0
      c.in_default.ensures.leaves.told.1 c.in_default.ensures.leaves.after
      (subst (λ (l : List (List ℕ)). IfBoth (image_now (g.D.Disk.view c.append_all.new.disks.first))
      (image_now (g.D.Disk.view c.append_all.new.disks.second))
      (λ i j. PairLeaves (pair_view g.D.Disk.view c.checkpoint.new.disks) (pair_view g.D.Disk.view c.checkpoint.new.disks)
      (HaveRecords g.R.Form.is_record l))) full c.in_default-checkpoint.ensures.leaves.after);
  told = search rules;
  stands = search rules;
}

pub returns-in-Err-checkpoint-clause-calls : goal.returns-in-Err-checkpoint-clause-calls
returns-in-Err-checkpoint-clause-calls g c = record {
  by_calls =
      let full : c.in-Ok.contents ≡ g.P.Packed.packed c.args.state.now = search rules in
      inr (
        (all_calls g.D.Disk.view (chosen c.args.self.now.second c.append_all.new.disks.first c.append_all.new.disks.second)
            (chosen c.args.self.now.second c.checkpoint.new.disks.first c.checkpoint.new.disks.second) 4
            (g.D.Disk.view (chosen c.args.self.now.second c.args.disks.now.first c.args.disks.now.second))
            (opened (end_of (journal_in c.args.self.now)) (following c.args.more.now)) _ _
            (subst (λ (b : Bool). chosen b c.checkpoint.new.disks.first c.checkpoint.new.disks.second
            ≡ chosen b c.append_all.new.disks.first c.append_all.new.disks.second) c.append_all.ensures.grown.same.0 c.checkpoint.ensures.calls.counting)
            refl c.in_default.ensures.calls.by_calls),
        both_last g.D.Disk.view c.args.disks.now.first c.args.disks.now.second c.append_all.new.disks.first c.append_all.new.disks.second
            c.checkpoint.new.disks.first c.checkpoint.new.disks.second g.R.Form.is_record (g.P.Packed.packed c.args.state.now) c.args.more.now
            (image_now (g.D.Disk.view c.args.disks.now.first))
            (image_now (g.D.Disk.view c.args.disks.now.second)) c.checkpoint.ensures.ends.onward.first.past c.checkpoint.ensures.ends.onward.first.later
            c.checkpoint.ensures.ends.onward.second.past c.checkpoint.ensures.ends.onward.second.later
            (stands_settled g.R.Form.is_record c.append_all.new.self (image_now (g.D.Disk.view c.append_all.new.disks.first))
            (image_now (g.D.Disk.view c.append_all.new.disks.second)) c.in_default.ensures.leaves.stands) c.in_default.ensures.leaves.told.0
            c.in_default.ensures.leaves.told.1 c.in_default.ensures.leaves.after
            (subst (λ (l : List (List ℕ)). IfBoth (image_now (g.D.Disk.view c.append_all.new.disks.first))
            (image_now (g.D.Disk.view c.append_all.new.disks.second))
            (λ i j. PairLeaves (pair_view g.D.Disk.view c.append_all.new.disks) (pair_view g.D.Disk.view c.checkpoint.new.disks)
            (HaveEither g.R.Form.is_record (pair_records_of g.R.Form.is_record i.bytes j.bytes) l))) full c.in-Err-checkpoint.ensures.leaves.any_moment),
      );
  turned = search rules;
  passed = search rules;
  counts =
      λ is fill stops.
      let same = c.append_all.ensures.grown.same.0 in
      let still : StopsShut fill (g.D.Disk.view (chosen c.args.self.now.second c.append_all.new.disks.second c.append_all.new.disks.first)).armed
      (g.D.Disk.view (chosen c.args.self.now.second c.append_all.new.disks.second c.append_all.new.disks.first)).moment =
      subst (λ (d : _). StopsShut fill (g.D.Disk.view d).armed (g.D.Disk.view d).moment) (sym c.append_all.ensures.calls.other) stops in
      let then : StopsShut fill (g.D.Disk.view (chosen c.append_all.new.self.second c.append_all.new.disks.second c.append_all.new.disks.first)).armed
      (g.D.Disk.view (chosen c.append_all.new.self.second c.append_all.new.disks.second c.append_all.new.disks.first)).moment =
      subst (λ (b : Bool). StopsShut fill (g.D.Disk.view (chosen b c.append_all.new.disks.second c.append_all.new.disks.first)).armed
      (g.D.Disk.view (chosen b c.append_all.new.disks.second c.append_all.new.disks.first)).moment) (sym same) still in
      told_before (image_now (g.D.Disk.view c.args.disks.now.first)) (image_now (g.D.Disk.view c.args.disks.now.second))
      (image_now (g.D.Disk.view c.append_all.new.disks.first))
      (image_now (g.D.Disk.view c.append_all.new.disks.second)) _ c.in_default.ensures.leaves.told.0 c.in_default.ensures.leaves.told.1
      (subst (λ (b : Bool). PairPicksCount (pair_view g.D.Disk.view c.append_all.new.disks) (pair_view g.D.Disk.view c.checkpoint.new.disks) fill b) same
      (c.in-Err-checkpoint.ensures.calls.counts is fill then));
  no_checkpoint = search rules;
  risen = search rules;
}

pub returns-clause-calls : goal.returns-clause-calls
returns-clause-calls g c = record {
  by_calls =
      let full : c.in-Ok.contents ≡ g.P.Packed.packed c.args.state.now = search rules in
      inr (
        (all_calls g.D.Disk.view (chosen c.args.self.now.second c.append_all.new.disks.first c.append_all.new.disks.second)
            (chosen c.args.self.now.second c.checkpoint.new.disks.first c.checkpoint.new.disks.second) 4
            (g.D.Disk.view (chosen c.args.self.now.second c.args.disks.now.first c.args.disks.now.second))
            (opened (end_of (journal_in c.args.self.now)) (following c.args.more.now)) _ _
            (subst (λ (b : Bool). chosen b c.checkpoint.new.disks.first c.checkpoint.new.disks.second
            ≡ chosen b c.append_all.new.disks.first c.append_all.new.disks.second) c.append_all.ensures.grown.same.0 c.checkpoint.ensures.calls.counting)
            refl c.in_default.ensures.calls.by_calls),
        both_after g.D.Disk.view c.args.disks.now.first c.args.disks.now.second c.append_all.new.disks.first c.append_all.new.disks.second
            c.checkpoint.new.disks.first c.checkpoint.new.disks.second g.R.Form.is_record (g.P.Packed.packed c.args.state.now) c.args.more.now
            (image_now (g.D.Disk.view c.args.disks.now.first))
            (image_now (g.D.Disk.view c.args.disks.now.second)) c.checkpoint.ensures.ends.onward.first.past c.checkpoint.ensures.ends.onward.first.later
            c.checkpoint.ensures.ends.onward.second.past c.checkpoint.ensures.ends.onward.second.later
            (stands_settled g.R.Form.is_record c.append_all.new.self (image_now (g.D.Disk.view c.append_all.new.disks.first))
            (image_now (g.D.Disk.view c.append_all.new.disks.second)) c.in_default.ensures.leaves.stands) c.in_default.ensures.leaves.told.0
            c.in_default.ensures.leaves.told.1 c.in_default.ensures.leaves.after
            (subst (λ (l : List (List ℕ)). IfBoth (image_now (g.D.Disk.view c.append_all.new.disks.first))
            (image_now (g.D.Disk.view c.append_all.new.disks.second))
            (λ i j. PairLeaves (pair_view g.D.Disk.view c.checkpoint.new.disks) (pair_view g.D.Disk.view c.checkpoint.new.disks)
            (HaveRecords g.R.Form.is_record l))) full c.in_default-checkpoint.ensures.leaves.after),
      );
  turned = search rules;
  passed = search rules;
  counts = search rules;
  no_checkpoint = search rules;
  risen = search rules;
}

-- ---- which disk counts

pub returns-in-Err-clause-calls : goal.returns-in-Err-clause-calls
returns-in-Err-clause-calls g c = record {
  by_calls = search rules;
  turned = search rules;
  passed = search rules;
  counts =
      λ is fill stops. count_picked c.args.self.now.second fill (image_now (g.D.Disk.view c.args.disks.now.first))
      (image_now (g.D.Disk.view c.args.disks.now.second)) (g.D.Disk.view c.append_all.new.disks.first).image_at
      (g.D.Disk.view c.append_all.new.disks.second).image_at
      (g.D.Disk.view c.args.disks.now.first).moment (g.D.Disk.view c.append_all.new.disks.first).moment (g.D.Disk.view c.args.disks.now.second).moment
      (g.D.Disk.view c.append_all.new.disks.second).moment c.append_all.ensures.ends.onward.first.later c.append_all.ensures.ends.onward.second.later
      c.append_all.ensures.leaves.counts;
  no_checkpoint = search rules;
  risen = search rules;
}

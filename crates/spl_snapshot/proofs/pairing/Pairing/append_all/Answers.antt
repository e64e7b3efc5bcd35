use Rattle.std.proofs.Common.{rules, ◌≡◌, ℕ, Bool, IfSome, refl, sym, subst}
use Rattle.spl_edge.specs.Devices.{image_now}
use Rattle.spl_journal.specs.{Clear.IsAtRest, Gate.{ByCalls, opened}, Records.{following, Standing}}
use Rattle.spl_snapshot.{specs.Counting.{second_counts, chosen, IfBoth}, proofs.Appending.{first_any, second_any, first_after, second_after}}
use Rattle.spl_snapshot.proofs.Shut.{append_first, append_second}
use Rattle.spl_snapshot.proofs.pairing.Pairing.append_all.Goals as goal

pub append_all-requires-clause-running : goal.append_all-requires-clause-running
append_all-requires-clause-running g c = c.requires.stands.running

pub returns-in-Err-clause-leaves : goal.returns-in-Err-clause-leaves
returns-in-Err-clause-leaves g c = record {
  any_moment =
      second_any g.R.Form.is_record c.args.more.now c.args.self.now.journal.end c.args.self.now.journal.extent c.args.self.now.journal.epoch
      c.args.self.now.other (image_now (g.D.Disk.view c.args.disks.now.first)) (image_now (g.D.Disk.view c.args.disks.now.second))
      (g.D.Disk.view c.args.disks.now.first).image_at (g.D.Disk.view c.append_all.new.disk).image_at (g.D.Disk.view c.args.disks.now.first).moment
      (g.D.Disk.view c.args.disks.now.second).moment (g.D.Disk.view c.append_all.new.disk).moment
      (subst (λ (b : Bool). IfSome (chosen b (image_now (g.D.Disk.view c.args.disks.now.first)) (image_now (g.D.Disk.view c.args.disks.now.second)))
      (Standing g.R.Form.is_record c.args.self.now.journal.end c.args.self.now.journal.extent c.args.self.now.journal.epoch)) c.if-self.true
      c.requires.stands.counting)
      (subst (λ (b : Bool). IfSome (chosen b (image_now (g.D.Disk.view c.args.disks.now.second)) (image_now (g.D.Disk.view c.args.disks.now.first)))
      (IsAtRest c.args.self.now.other)) c.if-self.true c.requires.stands.other)
      (subst (λ (b : Bool). IfBoth (image_now (g.D.Disk.view c.args.disks.now.first)) (image_now (g.D.Disk.view c.args.disks.now.second))
      (λ i j. second_counts i.bytes j.bytes ≡ b)) c.if-self.true c.requires.stands.counts) refl c.in-Err.ensures.any_moment c.in-Err.ensures.head;
  after = search rules;
  counts = append_second g.R.Form.is_record c.args.self.now.journal.end c.args.self.now.journal.extent c.args.self.now.journal.epoch c.args.self.now.other
      c.args.self.now.second (image_now (g.D.Disk.view c.args.disks.now.first)) (image_now (g.D.Disk.view c.args.disks.now.second))
      (g.D.Disk.view c.args.disks.now.first).image_at (g.D.Disk.view c.append_all.new.disk).image_at (g.D.Disk.view c.args.disks.now.first).moment
      (g.D.Disk.view c.args.disks.now.second).moment
      (g.D.Disk.view c.append_all.new.disk).moment c.if-self.true c.requires.stands.counting c.requires.stands.other c.requires.stands.counts refl
      c.in-Err.ensures.head;
  told = search rules;
  stands = search rules;
}

pub returns-then-self-clause-leaves : goal.returns-then-self-clause-leaves
returns-then-self-clause-leaves g c = record {
  any_moment =
      second_any g.R.Form.is_record c.args.more.now c.args.self.now.journal.end c.args.self.now.journal.extent c.args.self.now.journal.epoch
      c.args.self.now.other (image_now (g.D.Disk.view c.args.disks.now.first)) (image_now (g.D.Disk.view c.args.disks.now.second))
      (g.D.Disk.view c.args.disks.now.first).image_at (g.D.Disk.view c.append_all.new.disk).image_at (g.D.Disk.view c.args.disks.now.first).moment
      (g.D.Disk.view c.args.disks.now.second).moment (g.D.Disk.view c.append_all.new.disk).moment
      (subst (λ (b : Bool). IfSome (chosen b (image_now (g.D.Disk.view c.args.disks.now.first)) (image_now (g.D.Disk.view c.args.disks.now.second)))
      (Standing g.R.Form.is_record c.args.self.now.journal.end c.args.self.now.journal.extent c.args.self.now.journal.epoch)) c.if-self.true
      c.requires.stands.counting)
      (subst (λ (b : Bool). IfSome (chosen b (image_now (g.D.Disk.view c.args.disks.now.second)) (image_now (g.D.Disk.view c.args.disks.now.first)))
      (IsAtRest c.args.self.now.other)) c.if-self.true c.requires.stands.other)
      (subst (λ (b : Bool). IfBoth (image_now (g.D.Disk.view c.args.disks.now.first)) (image_now (g.D.Disk.view c.args.disks.now.second))
      (λ i j. second_counts i.bytes j.bytes ≡ b)) c.if-self.true c.requires.stands.counts) refl c.in_default.ensures.any_moment c.in_default.ensures.head;
  after = second_after g.R.Form.is_record c.args.more.now c.args.self.now.journal.end c.args.self.now.journal.extent c.args.self.now.journal.epoch
      c.args.self.now.other c.append_all.new.self.end c.append_all.new.self.extent (image_now (g.D.Disk.view c.args.disks.now.first))
      (image_now (g.D.Disk.view c.args.disks.now.second)) (g.D.Disk.view c.args.disks.now.first).image_at (g.D.Disk.view c.append_all.new.disk).image_at
      (g.D.Disk.view c.args.disks.now.first).moment (g.D.Disk.view c.append_all.new.disk).moment
      (subst (λ (b : Bool). IfSome (chosen b (image_now (g.D.Disk.view c.args.disks.now.first)) (image_now (g.D.Disk.view c.args.disks.now.second)))
      (Standing g.R.Form.is_record c.args.self.now.journal.end c.args.self.now.journal.extent c.args.self.now.journal.epoch)) c.if-self.true
      c.requires.stands.counting)
      (subst (λ (b : Bool). IfSome (chosen b (image_now (g.D.Disk.view c.args.disks.now.second)) (image_now (g.D.Disk.view c.args.disks.now.first)))
      (IsAtRest c.args.self.now.other)) c.if-self.true c.requires.stands.other)
      (subst (λ (b : Bool). IfBoth (image_now (g.D.Disk.view c.args.disks.now.first)) (image_now (g.D.Disk.view c.args.disks.now.second))
      (λ i j. second_counts i.bytes j.bytes ≡ b)) c.if-self.true c.requires.stands.counts) refl
      (subst (λ (n : ℕ). IfSome (image_now (g.D.Disk.view c.append_all.new.disk))
      (Standing g.R.Form.is_record c.append_all.new.self.end c.append_all.new.self.extent n)) c.in_default.ensures.same.1 c.in_default.ensures.stands)
      c.in_default.ensures.records;
  counts = append_second g.R.Form.is_record c.args.self.now.journal.end c.args.self.now.journal.extent c.args.self.now.journal.epoch c.args.self.now.other
      c.args.self.now.second (image_now (g.D.Disk.view c.args.disks.now.first)) (image_now (g.D.Disk.view c.args.disks.now.second))
      (g.D.Disk.view c.args.disks.now.first).image_at (g.D.Disk.view c.append_all.new.disk).image_at (g.D.Disk.view c.args.disks.now.first).moment
      (g.D.Disk.view c.args.disks.now.second).moment
      (g.D.Disk.view c.append_all.new.disk).moment c.if-self.true c.requires.stands.counting c.requires.stands.other c.requires.stands.counts refl
      c.in_default.ensures.head;
  told = search rules;
  stands = search rules;
}

pub returns-then-self-clause-calls : goal.returns-then-self-clause-calls
returns-then-self-clause-calls g c = record {
  by_calls =
      subst (λ (b : Bool). ByCalls 4 (g.D.Disk.view (chosen b c.args.disks.now.first c.args.disks.now.second))
      (g.D.Disk.view (chosen b c.args.disks.now.first c.append_all.new.disk)) (opened c.args.self.now.journal.end (following c.args.more.now)) _ _)
      (sym c.if-self.true) c.in_default.ensures.by_calls;
  other = search rules;
  four = search rules;
}

pub append_all-requires-2-clause-running : goal.append_all-requires-2-clause-running
append_all-requires-2-clause-running g c = c.requires.stands.running

pub returns-in-Err-append_all-clause-leaves : goal.returns-in-Err-append_all-clause-leaves
returns-in-Err-append_all-clause-leaves g c = record {
  any_moment =
      first_any g.R.Form.is_record c.args.more.now c.args.self.now.journal.end c.args.self.now.journal.extent c.args.self.now.journal.epoch
      c.args.self.now.other (image_now (g.D.Disk.view c.args.disks.now.first)) (image_now (g.D.Disk.view c.args.disks.now.second))
      (g.D.Disk.view c.append_all-2.new.disk).image_at (g.D.Disk.view c.args.disks.now.second).image_at (g.D.Disk.view c.args.disks.now.first).moment
      (g.D.Disk.view c.append_all-2.new.disk).moment (g.D.Disk.view c.args.disks.now.second).moment
      (subst (λ (b : Bool). IfSome (chosen b (image_now (g.D.Disk.view c.args.disks.now.first)) (image_now (g.D.Disk.view c.args.disks.now.second)))
      (Standing g.R.Form.is_record c.args.self.now.journal.end c.args.self.now.journal.extent c.args.self.now.journal.epoch)) c.if-self.false
      c.requires.stands.counting)
      (subst (λ (b : Bool). IfSome (chosen b (image_now (g.D.Disk.view c.args.disks.now.second)) (image_now (g.D.Disk.view c.args.disks.now.first)))
      (IsAtRest c.args.self.now.other)) c.if-self.false c.requires.stands.other)
      (subst (λ (b : Bool). IfBoth (image_now (g.D.Disk.view c.args.disks.now.first)) (image_now (g.D.Disk.view c.args.disks.now.second))
      (λ i j. second_counts i.bytes j.bytes ≡ b)) c.if-self.false c.requires.stands.counts) refl c.in-Err-append_all.ensures.any_moment
      c.in-Err-append_all.ensures.head;
  after = search rules;
  counts = append_first g.R.Form.is_record c.args.self.now.journal.end c.args.self.now.journal.extent c.args.self.now.journal.epoch c.args.self.now.other
      c.args.self.now.second (image_now (g.D.Disk.view c.args.disks.now.first)) (image_now (g.D.Disk.view c.args.disks.now.second))
      (g.D.Disk.view c.append_all-2.new.disk).image_at (g.D.Disk.view c.args.disks.now.second).image_at (g.D.Disk.view c.args.disks.now.first).moment
      (g.D.Disk.view c.append_all-2.new.disk).moment
      (g.D.Disk.view c.args.disks.now.second).moment c.if-self.false c.requires.stands.counting c.requires.stands.other c.requires.stands.counts refl
      c.in-Err-append_all.ensures.head;
  told = search rules;
  stands = search rules;
}

pub returns-clause-leaves : goal.returns-clause-leaves
returns-clause-leaves g c = record {
  any_moment =
      first_any g.R.Form.is_record c.args.more.now c.args.self.now.journal.end c.args.self.now.journal.extent c.args.self.now.journal.epoch
      c.args.self.now.other (image_now (g.D.Disk.view c.args.disks.now.first)) (image_now (g.D.Disk.view c.args.disks.now.second))
      (g.D.Disk.view c.append_all-2.new.disk).image_at (g.D.Disk.view c.args.disks.now.second).image_at (g.D.Disk.view c.args.disks.now.first).moment
      (g.D.Disk.view c.append_all-2.new.disk).moment (g.D.Disk.view c.args.disks.now.second).moment
      (subst (λ (b : Bool). IfSome (chosen b (image_now (g.D.Disk.view c.args.disks.now.first)) (image_now (g.D.Disk.view c.args.disks.now.second)))
      (Standing g.R.Form.is_record c.args.self.now.journal.end c.args.self.now.journal.extent c.args.self.now.journal.epoch)) c.if-self.false
      c.requires.stands.counting)
      (subst (λ (b : Bool). IfSome (chosen b (image_now (g.D.Disk.view c.args.disks.now.second)) (image_now (g.D.Disk.view c.args.disks.now.first)))
      (IsAtRest c.args.self.now.other)) c.if-self.false c.requires.stands.other)
      (subst (λ (b : Bool). IfBoth (image_now (g.D.Disk.view c.args.disks.now.first)) (image_now (g.D.Disk.view c.args.disks.now.second))
      (λ i j. second_counts i.bytes j.bytes ≡ b)) c.if-self.false c.requires.stands.counts) refl c.in_default-append_all.ensures.any_moment
      c.in_default-append_all.ensures.head;
  after = first_after g.R.Form.is_record c.args.more.now c.args.self.now.journal.end c.args.self.now.journal.extent c.args.self.now.journal.epoch
      c.args.self.now.other c.append_all-2.new.self.end c.append_all-2.new.self.extent (image_now (g.D.Disk.view c.args.disks.now.first))
      (image_now (g.D.Disk.view c.args.disks.now.second)) (g.D.Disk.view c.append_all-2.new.disk).image_at (g.D.Disk.view c.args.disks.now.second).image_at
      (g.D.Disk.view c.append_all-2.new.disk).moment (g.D.Disk.view c.args.disks.now.second).moment
      (subst (λ (b : Bool). IfSome (chosen b (image_now (g.D.Disk.view c.args.disks.now.first)) (image_now (g.D.Disk.view c.args.disks.now.second)))
      (Standing g.R.Form.is_record c.args.self.now.journal.end c.args.self.now.journal.extent c.args.self.now.journal.epoch)) c.if-self.false
      c.requires.stands.counting)
      (subst (λ (b : Bool). IfSome (chosen b (image_now (g.D.Disk.view c.args.disks.now.second)) (image_now (g.D.Disk.view c.args.disks.now.first)))
      (IsAtRest c.args.self.now.other)) c.if-self.false c.requires.stands.other)
      (subst (λ (b : Bool). IfBoth (image_now (g.D.Disk.view c.args.disks.now.first)) (image_now (g.D.Disk.view c.args.disks.now.second))
      (λ i j. second_counts i.bytes j.bytes ≡ b)) c.if-self.false c.requires.stands.counts) refl
      (subst (λ (n : ℕ). IfSome (image_now (g.D.Disk.view c.append_all-2.new.disk))
      (Standing g.R.Form.is_record c.append_all-2.new.self.end c.append_all-2.new.self.extent n)) c.in_default-append_all.ensures.same.1
      c.in_default-append_all.ensures.stands) c.in_default-append_all.ensures.records;
  counts = append_first g.R.Form.is_record c.args.self.now.journal.end c.args.self.now.journal.extent c.args.self.now.journal.epoch c.args.self.now.other
      c.args.self.now.second (image_now (g.D.Disk.view c.args.disks.now.first)) (image_now (g.D.Disk.view c.args.disks.now.second))
      (g.D.Disk.view c.append_all-2.new.disk).image_at (g.D.Disk.view c.args.disks.now.second).image_at (g.D.Disk.view c.args.disks.now.first).moment
      (g.D.Disk.view c.append_all-2.new.disk).moment
      (g.D.Disk.view c.args.disks.now.second).moment c.if-self.false c.requires.stands.counting c.requires.stands.other c.requires.stands.counts refl
      c.in_default-append_all.ensures.head;
  told = search rules;
  stands = search rules;
}

pub returns-clause-calls : goal.returns-clause-calls
returns-clause-calls g c = record {
  by_calls =
      subst (λ (b : Bool). ByCalls 4 (g.D.Disk.view (chosen b c.args.disks.now.first c.args.disks.now.second))
      (g.D.Disk.view (chosen b c.append_all-2.new.disk c.args.disks.now.second)) (opened c.args.self.now.journal.end (following c.args.more.now)) _ _)
      (sym c.if-self.false) c.in_default-append_all.ensures.by_calls;
  other = search rules;
  four = search rules;
}

use Rattle.std.proofs.Common.{◌≡◌, Bool, not, IfSome, refl, sym, ap, subst}
use Rattle.spl_edge.specs.Devices.{image_now}
use Rattle.spl_journal.specs.Records.{Standing}
use Rattle.spl_snapshot.{specs.{Anew.IsBelow, Counting.{chosen, second_counts, IfBoth}, Stopped.StopsShut}, proofs.Checkpoints.{counts_first, counts_second}}
use Rattle.spl_snapshot.proofs.{Checkpoints.{first_anew, first_records, second_anew, second_records}, Shut.{same_error, shut_first, shut_second}}
use Rattle.spl_snapshot.proofs.anew.write_other.Goals as goal

pub returns-in-Ok-clause-counts : goal.returns-in-Ok-clause-counts
returns-in-Ok-clause-counts g c =
    subst (λ (b : Bool). IfBoth (image_now (g.D.Disk.view c.write_anew.new.disk)) (image_now (g.D.Disk.view c.args.disks.now.second))
    (λ i j. second_counts i.bytes j.bytes ≡ b)) (sym (ap not c.if-second.true))
    (counts_first g.R.Form.is_record c.args.contents.now c.args.epoch c.in-Ok.journal.end c.in-Ok.journal.extent
    (image_now (g.D.Disk.view c.write_anew.new.disk)) (image_now (g.D.Disk.view c.args.disks.now.second))
    (subst (λ (b : Bool). IfSome (chosen b (image_now (g.D.Disk.view c.args.disks.now.first)) (image_now (g.D.Disk.view c.args.disks.now.second)))
    (IsBelow g.R.Form.is_record c.args.epoch)) c.if-second.true c.requires.below)
    (subst (λ n. IfSome (image_now (g.D.Disk.view c.write_anew.new.disk))
    (Standing g.R.Form.is_record c.in-Ok.journal.end c.in-Ok.journal.extent n)) c.in-Ok.ensures.fresh.0 c.in-Ok.ensures.stands))

pub returns-in-Ok-clause-any_moment : goal.returns-in-Ok-clause-any_moment
returns-in-Ok-clause-any_moment g c =
    first_anew g.R.Form.is_record c.args.contents.now c.args.epoch (image_now (g.D.Disk.view c.args.disks.now.first))
    (image_now (g.D.Disk.view c.args.disks.now.second)) (g.D.Disk.view c.write_anew.new.disk).image_at (g.D.Disk.view c.args.disks.now.second).image_at
    (g.D.Disk.view c.args.disks.now.first).moment (g.D.Disk.view c.write_anew.new.disk).moment (g.D.Disk.view c.args.disks.now.second).moment
    (subst (λ (b : Bool). IfSome (chosen b (image_now (g.D.Disk.view c.args.disks.now.first)) (image_now (g.D.Disk.view c.args.disks.now.second)))
    (IsBelow g.R.Form.is_record c.args.epoch)) c.if-second.true c.requires.below)
    (subst (λ (b : Bool). IfBoth (image_now (g.D.Disk.view c.args.disks.now.first)) (image_now (g.D.Disk.view c.args.disks.now.second))
    (λ i j. second_counts i.bytes j.bytes ≡ b)) c.if-second.true c.requires.counts) refl c.in-Ok.ensures.any_moment

pub returns-in-Ok-clause-after : goal.returns-in-Ok-clause-after
returns-in-Ok-clause-after g c =
    first_records g.R.Form.is_record c.args.contents.now c.args.epoch c.in-Ok.journal.end c.in-Ok.journal.extent
    (g.D.Disk.view c.write_anew.new.disk).image_at (g.D.Disk.view c.args.disks.now.second).image_at (g.D.Disk.view c.write_anew.new.disk).moment
    (g.D.Disk.view c.args.disks.now.second).moment
    (subst (λ (b : Bool). IfSome (chosen b (image_now (g.D.Disk.view c.args.disks.now.first)) (image_now (g.D.Disk.view c.args.disks.now.second)))
    (IsBelow g.R.Form.is_record c.args.epoch)) c.if-second.true c.requires.below)
    (subst (λ n. IfSome (image_now (g.D.Disk.view c.write_anew.new.disk))
    (Standing g.R.Form.is_record c.in-Ok.journal.end c.in-Ok.journal.extent n)) c.in-Ok.ensures.fresh.0 c.in-Ok.ensures.stands) c.in-Ok.ensures.records

pub returns-in-Err-clause-any_moment : goal.returns-in-Err-clause-any_moment
returns-in-Err-clause-any_moment g c =
    first_anew g.R.Form.is_record c.args.contents.now c.args.epoch (image_now (g.D.Disk.view c.args.disks.now.first))
    (image_now (g.D.Disk.view c.args.disks.now.second)) (g.D.Disk.view c.write_anew.new.disk).image_at (g.D.Disk.view c.args.disks.now.second).image_at
    (g.D.Disk.view c.args.disks.now.first).moment (g.D.Disk.view c.write_anew.new.disk).moment (g.D.Disk.view c.args.disks.now.second).moment
    (subst (λ (b : Bool). IfSome (chosen b (image_now (g.D.Disk.view c.args.disks.now.first)) (image_now (g.D.Disk.view c.args.disks.now.second)))
    (IsBelow g.R.Form.is_record c.args.epoch)) c.if-second.true c.requires.below)
    (subst (λ (b : Bool). IfBoth (image_now (g.D.Disk.view c.args.disks.now.first)) (image_now (g.D.Disk.view c.args.disks.now.second))
    (λ i j. second_counts i.bytes j.bytes ≡ b)) c.if-second.true c.requires.counts) refl c.in-Err.ensures.any_moment

pub returns-in-Err-clause-shut : goal.returns-in-Err-clause-shut
returns-in-Err-clause-shut g c =
    λ is fill stops. shut_first g.R.Form.is_record c.args.epoch c.args.second fill (image_now (g.D.Disk.view c.args.disks.now.first))
    (image_now (g.D.Disk.view c.args.disks.now.second)) (image_now (g.D.Disk.view c.write_anew.new.disk)) c.if-second.true c.requires.below c.requires.counts
    (c.in-Err.ensures.shut (same_error is) fill
    (subst (λ (b : Bool). StopsShut fill (g.D.Disk.view (chosen b c.args.disks.now.second c.args.disks.now.first)).armed
    (g.D.Disk.view (chosen b c.args.disks.now.second c.args.disks.now.first)).moment) c.if-second.true stops))

pub returns-in-Ok-write_anew-clause-counts : goal.returns-in-Ok-write_anew-clause-counts
returns-in-Ok-write_anew-clause-counts g c =
    subst (λ (b : Bool). IfBoth (image_now (g.D.Disk.view c.args.disks.now.first)) (image_now (g.D.Disk.view c.write_anew-2.new.disk))
    (λ i j. second_counts i.bytes j.bytes ≡ b)) (sym (ap not c.if-second.false))
    (counts_second g.R.Form.is_record c.args.contents.now c.args.epoch c.in-Ok-write_anew.journal.end c.in-Ok-write_anew.journal.extent
    (image_now (g.D.Disk.view c.args.disks.now.first)) (image_now (g.D.Disk.view c.write_anew-2.new.disk))
    (subst (λ (b : Bool). IfSome (chosen b (image_now (g.D.Disk.view c.args.disks.now.first)) (image_now (g.D.Disk.view c.args.disks.now.second)))
    (IsBelow g.R.Form.is_record c.args.epoch)) c.if-second.false c.requires.below)
    (subst (λ n. IfSome (image_now (g.D.Disk.view c.write_anew-2.new.disk))
    (Standing g.R.Form.is_record c.in-Ok-write_anew.journal.end c.in-Ok-write_anew.journal.extent n)) c.in-Ok-write_anew.ensures.fresh.0
    c.in-Ok-write_anew.ensures.stands))

pub returns-in-Ok-write_anew-clause-any_moment : goal.returns-in-Ok-write_anew-clause-any_moment
returns-in-Ok-write_anew-clause-any_moment g c =
    second_anew g.R.Form.is_record c.args.contents.now c.args.epoch (image_now (g.D.Disk.view c.args.disks.now.first))
    (image_now (g.D.Disk.view c.args.disks.now.second)) (g.D.Disk.view c.args.disks.now.first).image_at (g.D.Disk.view c.write_anew-2.new.disk).image_at
    (g.D.Disk.view c.args.disks.now.first).moment (g.D.Disk.view c.args.disks.now.second).moment (g.D.Disk.view c.write_anew-2.new.disk).moment
    (subst (λ (b : Bool). IfSome (chosen b (image_now (g.D.Disk.view c.args.disks.now.first)) (image_now (g.D.Disk.view c.args.disks.now.second)))
    (IsBelow g.R.Form.is_record c.args.epoch)) c.if-second.false c.requires.below)
    (subst (λ (b : Bool). IfBoth (image_now (g.D.Disk.view c.args.disks.now.first)) (image_now (g.D.Disk.view c.args.disks.now.second))
    (λ i j. second_counts i.bytes j.bytes ≡ b)) c.if-second.false c.requires.counts) refl c.in-Ok-write_anew.ensures.any_moment

pub returns-in-Ok-write_anew-clause-after : goal.returns-in-Ok-write_anew-clause-after
returns-in-Ok-write_anew-clause-after g c =
    second_records g.R.Form.is_record c.args.contents.now c.args.epoch c.in-Ok-write_anew.journal.end c.in-Ok-write_anew.journal.extent
    (g.D.Disk.view c.args.disks.now.first).image_at (g.D.Disk.view c.write_anew-2.new.disk).image_at (g.D.Disk.view c.args.disks.now.first).moment
    (g.D.Disk.view c.write_anew-2.new.disk).moment
    (subst (λ (b : Bool). IfSome (chosen b (image_now (g.D.Disk.view c.args.disks.now.first)) (image_now (g.D.Disk.view c.args.disks.now.second)))
    (IsBelow g.R.Form.is_record c.args.epoch)) c.if-second.false c.requires.below)
    (subst (λ n. IfSome (image_now (g.D.Disk.view c.write_anew-2.new.disk))
    (Standing g.R.Form.is_record c.in-Ok-write_anew.journal.end c.in-Ok-write_anew.journal.extent n)) c.in-Ok-write_anew.ensures.fresh.0
    c.in-Ok-write_anew.ensures.stands) c.in-Ok-write_anew.ensures.records

pub returns-in-Err-write_anew-clause-any_moment : goal.returns-in-Err-write_anew-clause-any_moment
returns-in-Err-write_anew-clause-any_moment g c =
    second_anew g.R.Form.is_record c.args.contents.now c.args.epoch (image_now (g.D.Disk.view c.args.disks.now.first))
    (image_now (g.D.Disk.view c.args.disks.now.second)) (g.D.Disk.view c.args.disks.now.first).image_at (g.D.Disk.view c.write_anew-2.new.disk).image_at
    (g.D.Disk.view c.args.disks.now.first).moment (g.D.Disk.view c.args.disks.now.second).moment (g.D.Disk.view c.write_anew-2.new.disk).moment
    (subst (λ (b : Bool). IfSome (chosen b (image_now (g.D.Disk.view c.args.disks.now.first)) (image_now (g.D.Disk.view c.args.disks.now.second)))
    (IsBelow g.R.Form.is_record c.args.epoch)) c.if-second.false c.requires.below)
    (subst (λ (b : Bool). IfBoth (image_now (g.D.Disk.view c.args.disks.now.first)) (image_now (g.D.Disk.view c.args.disks.now.second))
    (λ i j. second_counts i.bytes j.bytes ≡ b)) c.if-second.false c.requires.counts) refl c.in-Err-write_anew.ensures.any_moment

pub returns-in-Err-write_anew-clause-shut : goal.returns-in-Err-write_anew-clause-shut
returns-in-Err-write_anew-clause-shut g c =
    λ is fill stops. shut_second g.R.Form.is_record c.args.epoch c.args.second fill (image_now (g.D.Disk.view c.args.disks.now.first))
    (image_now (g.D.Disk.view c.args.disks.now.second))
    (image_now (g.D.Disk.view c.write_anew-2.new.disk)) c.if-second.false c.requires.below c.requires.counts
    (c.in-Err-write_anew.ensures.shut (same_error is) fill
    (subst (λ (b : Bool). StopsShut fill (g.D.Disk.view (chosen b c.args.disks.now.second c.args.disks.now.first)).armed
    (g.D.Disk.view (chosen b c.args.disks.now.second c.args.disks.now.first)).moment) c.if-second.false stops))

use Rattle.std.proofs.Common.{ℕ, IfSome, refl, subst}
use Rattle.spl_edge.specs.Devices.{image_now}
use Rattle.spl_journal.{specs.{Gate.LeavesSince, Records.IsClosedOrFilled}, proofs.Heads.all_passed}
use Rattle.spl_snapshot.proofs.{Checkpoints.{clear_leaves, fill_leaves, eight_passed}, Shut.{cleared_shut, filled_shut}}
use Rattle.spl_snapshot.proofs.anew.write_anew.Goals as goal

pub returns-in-Err-clause-any_moment : goal.returns-in-Err-clause-any_moment
returns-in-Err-clause-any_moment g c =
    clear_leaves g.R.Form.is_record c.args.epoch c.args.contents.now (image_now (g.D.Disk.view c.args.disk.now)) (g.D.Disk.view c.clear.new.disk).image_at
    (g.D.Disk.view c.args.disk.now).moment (g.D.Disk.view c.clear.new.disk).moment c.in-Err.ensures.any_moment

pub returns-in-Ok-fill-clause-any_moment : goal.returns-in-Ok-fill-clause-any_moment
returns-in-Ok-fill-clause-any_moment g c =
    fill_leaves g.R.Form.is_record c.args.epoch c.args.contents.now (image_now (g.D.Disk.view c.args.disk.now)) (g.D.Disk.view c.clear.new.disk).image_at
    (g.D.Disk.view c.fill.new.disk).image_at (g.D.Disk.view c.args.disk.now).moment (g.D.Disk.view c.clear.new.disk).moment
    (g.D.Disk.view c.fill.new.disk).moment c.in-Ok.ensures.any_moment c.in-Ok.ensures.cleared c.in-Ok-fill.ensures.onward.past
    (subst (λ (n : ℕ). IfSome (image_now (g.D.Disk.view c.clear.new.disk))
    (λ i. LeavesSince (g.D.Disk.view c.clear.new.disk) (g.D.Disk.view c.fill.new.disk)
    (IsClosedOrFilled g.R.Form.is_record n c.args.contents.now))) c.in-Ok.ensures.epoch c.in-Ok-fill.ensures.any_moment)

pub returns-in-Err-fill-clause-any_moment : goal.returns-in-Err-fill-clause-any_moment
returns-in-Err-fill-clause-any_moment g c =
    fill_leaves g.R.Form.is_record c.args.epoch c.args.contents.now (image_now (g.D.Disk.view c.args.disk.now)) (g.D.Disk.view c.clear.new.disk).image_at
    (g.D.Disk.view c.fill.new.disk).image_at (g.D.Disk.view c.args.disk.now).moment (g.D.Disk.view c.clear.new.disk).moment
    (g.D.Disk.view c.fill.new.disk).moment c.in-Ok.ensures.any_moment c.in-Ok.ensures.cleared c.in-Err-fill.ensures.onward.past
    (subst (λ (n : ℕ). IfSome (image_now (g.D.Disk.view c.clear.new.disk))
    (λ i. LeavesSince (g.D.Disk.view c.clear.new.disk) (g.D.Disk.view c.fill.new.disk)
    (IsClosedOrFilled g.R.Form.is_record n c.args.contents.now))) c.in-Ok.ensures.epoch c.in-Err-fill.ensures.any_moment)

pub returns-in-Ok-fill-clause-passed : goal.returns-in-Ok-fill-clause-passed
returns-in-Ok-fill-clause-passed g c =
    eight_passed (g.D.Disk.view c.args.disk.now).armed (g.D.Disk.view c.clear.new.disk).armed (g.D.Disk.view c.args.disk.now).moment
    (g.D.Disk.view c.clear.new.disk).moment c.in-Ok.ensures.four c.clear.ensures.onward.armed (all_passed 4 _ _ _ _ _ c.in-Ok.ensures.by_calls refl)
    (all_passed 4 _ _ _ _ _ c.in-Ok-fill.ensures.by_calls refl)

pub returns-in-Err-clause-shut : goal.returns-in-Err-clause-shut
returns-in-Err-clause-shut g c =
    λ is fill stops. cleared_shut (image_now (g.D.Disk.view c.args.disk.now)) (g.D.Disk.view c.clear.new.disk).image_at
    (g.D.Disk.view c.args.disk.now).moment (g.D.Disk.view c.clear.new.disk).moment fill c.clear.ensures.onward.later c.in-Err.ensures.any_moment

pub returns-in-Err-fill-clause-shut : goal.returns-in-Err-fill-clause-shut
returns-in-Err-fill-clause-shut g c =
    λ is fill stops. filled_shut c.args.epoch c.args.contents.now fill (g.D.Disk.view c.args.disk.now).armed (g.D.Disk.view c.args.disk.now).moment stops
    (g.D.Disk.view c.clear.new.disk) (g.D.Disk.view c.fill.new.disk) c.in-Err-fill.ensures.by_calls c.clear.ensures.onward.armed c.in-Ok.ensures.four
    (all_passed 4 _ _ _ _ _ c.in-Ok.ensures.by_calls refl)
    (image_now (g.D.Disk.view c.args.disk.now)) c.in-Ok.ensures.cleared is c.heads_are_opened_last.ensures

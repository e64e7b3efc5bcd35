use Rattle.std.{specs.Option.option_map, proofs.Common.{◌≡◌, ◌+◌, ◌-◌, ℕ, List, length, IfSome, ap, subst, refl, rules, arith}}
use Rattle.spl_edge.specs.Devices.{image_now}
use Rattle.spl_journal.{specs.{Gate.{LeavesSince, IsAfterGate, opened}, Records.filling}, proofs.Fills.{length-filling, ready_cleared, fill_stands}}
use Rattle.spl_journal.proofs.Fills.{fill_records, fill_leaves, fill_begun}
use Rattle.spl_journal.proofs.filling.fill.Goals as goal

pub returns-in_default-clause-any_moment : goal.returns-in_default-clause-any_moment
returns-in_default-clause-any_moment g c =
    fill_begun g.R.Form.is_record c.args.cleared.epoch c.args.contents.now c.requires.good (search rules) (image_now (g.D.Disk.view c.args.disk.now))
    (g.D.Disk.view c.args.disk.now).image_at (g.D.Disk.view c.args.disk.now).moment c.requires.cleared refl

pub open_gate-requires-clause-ready : goal.open_gate-requires-clause-ready
open_gate-requires-clause-ready g c = ready_cleared c.args.cleared.epoch (image_now (g.D.Disk.view c.args.disk.now)) c.requires.cleared

pub returns-in-Err-clause-any_moment : goal.returns-in-Err-clause-any_moment
returns-in-Err-clause-any_moment g c =
    let piece : c.deref.result.now ≡ filling c.args.contents.now = search rules in
    fill_leaves g.R.Form.is_record c.args.cleared.epoch c.args.contents.now c.requires.good (search rules) (image_now (g.D.Disk.view c.args.disk.now))
    (g.D.Disk.view c.open_gate.new.disk).image_at (g.D.Disk.view c.args.disk.now).moment (g.D.Disk.view c.open_gate.new.disk).moment c.requires.cleared
    (subst (λ (l : List ℕ). IfSome (image_now (g.D.Disk.view c.args.disk.now))
    (λ i. LeavesSince (g.D.Disk.view c.args.disk.now) (g.D.Disk.view c.open_gate.new.disk)
    (IsAfterGate 16 l i.bytes))) piece c.open_gate.ensures.any_moment)

pub returns-clause-any_moment : goal.returns-clause-any_moment
returns-clause-any_moment g c =
    let piece : c.deref.result.now ≡ filling c.args.contents.now = search rules in
    fill_leaves g.R.Form.is_record c.args.cleared.epoch c.args.contents.now c.requires.good (search rules) (image_now (g.D.Disk.view c.args.disk.now))
    (g.D.Disk.view c.open_gate.new.disk).image_at (g.D.Disk.view c.args.disk.now).moment (g.D.Disk.view c.open_gate.new.disk).moment c.requires.cleared
    (subst (λ (l : List ℕ). IfSome (image_now (g.D.Disk.view c.args.disk.now))
    (λ i. LeavesSince (g.D.Disk.view c.args.disk.now) (g.D.Disk.view c.open_gate.new.disk)
    (IsAfterGate 16 l i.bytes))) piece c.open_gate.ensures.any_moment)

pub returns-clause-stands : goal.returns-clause-stands
returns-clause-stands g c =
    let piece : c.deref.result.now ≡ filling c.args.contents.now = search rules in
    let is : (image_now (g.D.Disk.view c.open_gate.new.disk))
    ≡ option_map (opened 16 (filling c.args.contents.now) 4) (image_now (g.D.Disk.view c.args.disk.now)) = subst
    (λ (l : List ℕ). (image_now (g.D.Disk.view c.open_gate.new.disk))
    ≡ option_map (opened 16 l 4) (image_now (g.D.Disk.view c.args.disk.now))) piece c.in_default-open_gate.ensures.opened in
    fill_stands g.R.Form.is_record c.args.cleared.epoch c.args.contents.now c.requires.good (search rules) (image_now (g.D.Disk.view c.args.disk.now))
    (image_now (g.D.Disk.view c.open_gate.new.disk)) (17 + c.len.result - 1) (17 + c.len.result)
    (omega (arith, c.len.ensures, ap length piece, length-filling c.args.contents.now))
    (omega (arith, c.len.ensures, ap length piece, length-filling c.args.contents.now)) c.requires.cleared is

pub returns-clause-records : goal.returns-clause-records
returns-clause-records g c =
    let piece : c.deref.result.now ≡ filling c.args.contents.now = search rules in
    let is : (image_now (g.D.Disk.view c.open_gate.new.disk))
    ≡ option_map (opened 16 (filling c.args.contents.now) 4) (image_now (g.D.Disk.view c.args.disk.now)) = subst
    (λ (l : List ℕ). (image_now (g.D.Disk.view c.open_gate.new.disk))
    ≡ option_map (opened 16 l 4) (image_now (g.D.Disk.view c.args.disk.now))) piece c.in_default-open_gate.ensures.opened in
    fill_records g.R.Form.is_record c.args.cleared.epoch c.args.contents.now c.requires.good (search rules) (image_now (g.D.Disk.view c.args.disk.now))
    (image_now (g.D.Disk.view c.open_gate.new.disk)) c.requires.cleared is

use Rattle.std.{specs.Option.option_map, proofs.Common.{◌≡◌, ◌+◌, ◌-◌, ◌<◌, ◌^◌, ℕ, List, length, take, drop, length-drop, IfSome, ap, subst, ◌∙◌, refl}}
use Rattle.std.proofs.{Common.{rules, arith}, lemmas.List.take_all}
use Rattle.spl_edge.specs.Devices.{image_now}
use Rattle.spl_journal.{specs.{Gate.{LeavesSince, IsAfterGate, opened}, Records.{blocks, filling, following}}, proofs.{Gates.no_calls, Appends.append_leaves}}
use Rattle.spl_journal.proofs.{Appends.{head_leaves, append_begun, stands_after, records_told, still_told}, Fills.length-filling}
use Rattle.spl_journal.proofs.journal.Journal.append_all.Goals as goal

pub returns-in_default-clause-any_moment : goal.returns-in_default-clause-any_moment
returns-in_default-clause-any_moment g c =
    append_leaves g.R.Form.is_record c.args.self.now.end c.args.self.now.extent c.args.self.now.epoch c.args.contents.now c.requires.some
    (image_now (g.D.Disk.view c.args.disk.now)) (g.D.Disk.view c.args.disk.now).image_at (g.D.Disk.view c.args.disk.now).moment
    (g.D.Disk.view c.args.disk.now).moment c.requires.stands c.requires.good
    (append_begun g.R.Form.is_record c.args.self.now.end c.args.self.now.extent c.args.self.now.epoch c.args.contents.now c.requires.some
    (image_now (g.D.Disk.view c.args.disk.now)) (g.D.Disk.view c.args.disk.now).image_at (g.D.Disk.view c.args.disk.now).moment c.requires.stands refl)

pub returns-in_default-clause-head : goal.returns-in_default-clause-head
returns-in_default-clause-head g c =
    head_leaves g.R.Form.is_record c.args.self.now.end c.args.self.now.extent c.args.self.now.epoch c.args.contents.now c.requires.some
    (image_now (g.D.Disk.view c.args.disk.now)) (g.D.Disk.view c.args.disk.now).image_at (g.D.Disk.view c.args.disk.now).moment
    (g.D.Disk.view c.args.disk.now).moment c.requires.stands
    (append_begun g.R.Form.is_record c.args.self.now.end c.args.self.now.extent c.args.self.now.epoch c.args.contents.now c.requires.some
    (image_now (g.D.Disk.view c.args.disk.now)) (g.D.Disk.view c.args.disk.now).image_at (g.D.Disk.view c.args.disk.now).moment c.requires.stands refl)

pub returns-in_default-clause-by_calls : goal.returns-in_default-clause-by_calls
returns-in_default-clause-by_calls g c =
    no_calls (g.D.Disk.view c.args.disk.now) c.args.self.now.end (following c.args.contents.now) _ _ (λ ok. cc) (λ failed. cc)

pub returns-in-Err-clause-any_moment : goal.returns-in-Err-clause-any_moment
returns-in-Err-clause-any_moment g c =
    let whole : c.deref.result.now ≡ filling c.args.contents.now = search rules in
    let piece : take (length c.deref.result.now - 1) (drop 1 c.deref.result.now) ≡ following c.args.contents.now =
    take_all (length c.deref.result.now - 1) (drop 1 c.deref.result.now) (omega (arith, length-drop 1 c.deref.result.now)) ∙ ap (drop 1) whole in
    append_leaves g.R.Form.is_record c.args.self.now.end c.args.self.now.extent c.args.self.now.epoch c.args.contents.now c.requires.some
    (image_now (g.D.Disk.view c.args.disk.now)) (g.D.Disk.view c.open_gate.new.disk).image_at (g.D.Disk.view c.args.disk.now).moment
    (g.D.Disk.view c.open_gate.new.disk).moment c.requires.stands c.requires.good
    (subst (λ (l : List ℕ). IfSome (image_now (g.D.Disk.view c.args.disk.now))
    (λ i. LeavesSince (g.D.Disk.view c.args.disk.now) (g.D.Disk.view c.open_gate.new.disk)
    (IsAfterGate c.args.self.now.end l i.bytes))) piece c.open_gate.ensures.any_moment)

pub returns-in-Err-clause-head : goal.returns-in-Err-clause-head
returns-in-Err-clause-head g c =
    let whole : c.deref.result.now ≡ filling c.args.contents.now = search rules in
    let piece : take (length c.deref.result.now - 1) (drop 1 c.deref.result.now) ≡ following c.args.contents.now =
    take_all (length c.deref.result.now - 1) (drop 1 c.deref.result.now) (omega (arith, length-drop 1 c.deref.result.now)) ∙ ap (drop 1) whole in
    head_leaves g.R.Form.is_record c.args.self.now.end c.args.self.now.extent c.args.self.now.epoch c.args.contents.now c.requires.some
    (image_now (g.D.Disk.view c.args.disk.now)) (g.D.Disk.view c.open_gate.new.disk).image_at (g.D.Disk.view c.args.disk.now).moment
    (g.D.Disk.view c.open_gate.new.disk).moment c.requires.stands
    (subst (λ (l : List ℕ). IfSome (image_now (g.D.Disk.view c.args.disk.now))
    (λ i. LeavesSince (g.D.Disk.view c.args.disk.now) (g.D.Disk.view c.open_gate.new.disk)
    (IsAfterGate c.args.self.now.end l i.bytes))) piece c.open_gate.ensures.any_moment)

pub returns-clause-any_moment : goal.returns-clause-any_moment
returns-clause-any_moment g c =
    let whole : c.deref.result.now ≡ filling c.args.contents.now = search rules in
    let piece : take (length c.deref.result.now - 1) (drop 1 c.deref.result.now) ≡ following c.args.contents.now =
    take_all (length c.deref.result.now - 1) (drop 1 c.deref.result.now) (omega (arith, length-drop 1 c.deref.result.now)) ∙ ap (drop 1) whole in
    append_leaves g.R.Form.is_record c.args.self.now.end c.args.self.now.extent c.args.self.now.epoch c.args.contents.now c.requires.some
    (image_now (g.D.Disk.view c.args.disk.now)) (g.D.Disk.view c.open_gate.new.disk).image_at (g.D.Disk.view c.args.disk.now).moment
    (g.D.Disk.view c.open_gate.new.disk).moment c.requires.stands c.requires.good
    (subst (λ (l : List ℕ). IfSome (image_now (g.D.Disk.view c.args.disk.now))
    (λ i. LeavesSince (g.D.Disk.view c.args.disk.now) (g.D.Disk.view c.open_gate.new.disk)
    (IsAfterGate c.args.self.now.end l i.bytes))) piece c.open_gate.ensures.any_moment)

pub returns-clause-head : goal.returns-clause-head
returns-clause-head g c =
    let whole : c.deref.result.now ≡ filling c.args.contents.now = search rules in
    let piece : take (length c.deref.result.now - 1) (drop 1 c.deref.result.now) ≡ following c.args.contents.now =
    take_all (length c.deref.result.now - 1) (drop 1 c.deref.result.now) (omega (arith, length-drop 1 c.deref.result.now)) ∙ ap (drop 1) whole in
    head_leaves g.R.Form.is_record c.args.self.now.end c.args.self.now.extent c.args.self.now.epoch c.args.contents.now c.requires.some
    (image_now (g.D.Disk.view c.args.disk.now)) (g.D.Disk.view c.open_gate.new.disk).image_at (g.D.Disk.view c.args.disk.now).moment
    (g.D.Disk.view c.open_gate.new.disk).moment c.requires.stands
    (subst (λ (l : List ℕ). IfSome (image_now (g.D.Disk.view c.args.disk.now))
    (λ i. LeavesSince (g.D.Disk.view c.args.disk.now) (g.D.Disk.view c.open_gate.new.disk)
    (IsAfterGate c.args.self.now.end l i.bytes))) piece c.open_gate.ensures.any_moment)

pub returns-clause-stands : goal.returns-clause-stands
returns-clause-stands g c =
    let whole : c.deref.result.now ≡ filling c.args.contents.now = search rules in
    let piece : take (length c.deref.result.now - 1) (drop 1 c.deref.result.now) ≡ following c.args.contents.now =
    take_all (length c.deref.result.now - 1) (drop 1 c.deref.result.now) (omega (arith, length-drop 1 c.deref.result.now)) ∙ ap (drop 1) whole in
    let is : (image_now (g.D.Disk.view c.open_gate.new.disk))
    ≡ option_map (opened c.args.self.now.end (following c.args.contents.now) 4) (image_now (g.D.Disk.view c.args.disk.now)) = subst
    (λ (l : List ℕ). (image_now (g.D.Disk.view c.open_gate.new.disk))
    ≡ option_map (opened c.args.self.now.end l 4) (image_now (g.D.Disk.view c.args.disk.now))) piece c.in_default-open_gate.ensures.opened in
    let size : c.len.result ≡ length (blocks c.args.contents.now) + 1 = search rules ∙ length-filling c.args.contents.now in
    stands_after g.R.Form.is_record c.args.self.now.end c.args.self.now.extent c.args.self.now.epoch c.args.contents.now c.requires.some
    (image_now (g.D.Disk.view c.args.disk.now)) (image_now (g.D.Disk.view c.open_gate.new.disk))
    (c.args.self.now.end + (c.len.result - 1)) c.max-self.result c.requires.stands c.requires.good is (omega (arith, size)) c.max-self.ensures

pub returns-clause-records : goal.returns-clause-records
returns-clause-records g c =
    let whole : c.deref.result.now ≡ filling c.args.contents.now = search rules in
    let piece : take (length c.deref.result.now - 1) (drop 1 c.deref.result.now) ≡ following c.args.contents.now =
    take_all (length c.deref.result.now - 1) (drop 1 c.deref.result.now) (omega (arith, length-drop 1 c.deref.result.now)) ∙ ap (drop 1) whole in
    let is : (image_now (g.D.Disk.view c.open_gate.new.disk))
    ≡ option_map (opened c.args.self.now.end (following c.args.contents.now) 4) (image_now (g.D.Disk.view c.args.disk.now)) = subst
    (λ (l : List ℕ). (image_now (g.D.Disk.view c.open_gate.new.disk))
    ≡ option_map (opened c.args.self.now.end l 4) (image_now (g.D.Disk.view c.args.disk.now))) piece c.in_default-open_gate.ensures.opened in
    records_told g.R.Form.is_record c.args.self.now.end c.args.self.now.extent c.args.self.now.epoch c.args.contents.now c.requires.some
    (image_now (g.D.Disk.view c.args.disk.now)) (image_now (g.D.Disk.view c.open_gate.new.disk)) c.requires.stands c.requires.good is

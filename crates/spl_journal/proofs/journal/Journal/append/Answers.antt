use Rattle.std.{specs.Option.option_map, proofs.Common.{◌≡◌, ◌+◌, ◌<◌, ◌^◌, ℕ, List, [], ◌∷◌, length, IfSome, ap, subst, sym, ◌∙◌, refl, rules, arith}}
use Rattle.spl_edge.specs.Devices.{image_now}
use Rattle.spl_journal.{specs.{Gate.{LeavesSince, IsAfterGate, opened}, Records.{following, sized}}, proofs.{Gates.no_calls, Appends.length-sized}}
use Rattle.spl_journal.proofs.Appends.{length-one, following_one, append_leaves, head_leaves, append_begun, stands_after, records_told, still_told}
use Rattle.spl_journal.proofs.journal.Journal.append.Goals as goal

pub returns-in_default-clause-any_moment : goal.returns-in_default-clause-any_moment
returns-in_default-clause-any_moment g c =
    append_leaves g.R.Form.is_record c.args.self.now.end c.args.self.now.extent c.args.self.now.epoch (c.args.bytes.now ∷ []) (omega arith)
    (image_now (g.D.Disk.view c.args.disk.now)) (g.D.Disk.view c.args.disk.now).image_at (g.D.Disk.view c.args.disk.now).moment
    (g.D.Disk.view c.args.disk.now).moment c.requires.stands (c.requires.good, tt)
    (append_begun g.R.Form.is_record c.args.self.now.end c.args.self.now.extent c.args.self.now.epoch (c.args.bytes.now ∷ []) (omega arith)
    (image_now (g.D.Disk.view c.args.disk.now)) (g.D.Disk.view c.args.disk.now).image_at (g.D.Disk.view c.args.disk.now).moment c.requires.stands refl)

pub returns-in_default-clause-head : goal.returns-in_default-clause-head
returns-in_default-clause-head g c =
    head_leaves g.R.Form.is_record c.args.self.now.end c.args.self.now.extent c.args.self.now.epoch (c.args.bytes.now ∷ []) (omega arith)
    (image_now (g.D.Disk.view c.args.disk.now)) (g.D.Disk.view c.args.disk.now).image_at (g.D.Disk.view c.args.disk.now).moment
    (g.D.Disk.view c.args.disk.now).moment c.requires.stands
    (append_begun g.R.Form.is_record c.args.self.now.end c.args.self.now.extent c.args.self.now.epoch (c.args.bytes.now ∷ []) (omega arith)
    (image_now (g.D.Disk.view c.args.disk.now)) (g.D.Disk.view c.args.disk.now).image_at (g.D.Disk.view c.args.disk.now).moment c.requires.stands refl)

pub returns-in_default-clause-by_calls : goal.returns-in_default-clause-by_calls
returns-in_default-clause-by_calls g c = no_calls (g.D.Disk.view c.args.disk.now) c.args.self.now.end (sized c.args.bytes.now) _ _ (λ ok. cc) (λ failed. cc)

pub returns-in-Err-clause-any_moment : goal.returns-in-Err-clause-any_moment
returns-in-Err-clause-any_moment g c =
    let piece : c.deref.result.now ≡ following (c.args.bytes.now ∷ []) = search rules ∙ sym (following_one c.args.bytes.now) in
    append_leaves g.R.Form.is_record c.args.self.now.end c.args.self.now.extent c.args.self.now.epoch (c.args.bytes.now ∷ []) (omega arith)
    (image_now (g.D.Disk.view c.args.disk.now)) (g.D.Disk.view c.open_gate.new.disk).image_at (g.D.Disk.view c.args.disk.now).moment
    (g.D.Disk.view c.open_gate.new.disk).moment c.requires.stands (c.requires.good, tt)
    (subst (λ (l : List ℕ). IfSome (image_now (g.D.Disk.view c.args.disk.now))
    (λ i. LeavesSince (g.D.Disk.view c.args.disk.now) (g.D.Disk.view c.open_gate.new.disk)
    (IsAfterGate c.args.self.now.end l i.bytes))) piece c.open_gate.ensures.any_moment)

pub returns-in-Err-clause-head : goal.returns-in-Err-clause-head
returns-in-Err-clause-head g c =
    let piece : c.deref.result.now ≡ following (c.args.bytes.now ∷ []) = search rules ∙ sym (following_one c.args.bytes.now) in
    head_leaves g.R.Form.is_record c.args.self.now.end c.args.self.now.extent c.args.self.now.epoch (c.args.bytes.now ∷ []) (omega arith)
    (image_now (g.D.Disk.view c.args.disk.now)) (g.D.Disk.view c.open_gate.new.disk).image_at (g.D.Disk.view c.args.disk.now).moment
    (g.D.Disk.view c.open_gate.new.disk).moment c.requires.stands
    (subst (λ (l : List ℕ). IfSome (image_now (g.D.Disk.view c.args.disk.now))
    (λ i. LeavesSince (g.D.Disk.view c.args.disk.now) (g.D.Disk.view c.open_gate.new.disk)
    (IsAfterGate c.args.self.now.end l i.bytes))) piece c.open_gate.ensures.any_moment)

pub returns-clause-any_moment : goal.returns-clause-any_moment
returns-clause-any_moment g c =
    let piece : c.deref.result.now ≡ following (c.args.bytes.now ∷ []) = search rules ∙ sym (following_one c.args.bytes.now) in
    append_leaves g.R.Form.is_record c.args.self.now.end c.args.self.now.extent c.args.self.now.epoch (c.args.bytes.now ∷ []) (omega arith)
    (image_now (g.D.Disk.view c.args.disk.now)) (g.D.Disk.view c.open_gate.new.disk).image_at (g.D.Disk.view c.args.disk.now).moment
    (g.D.Disk.view c.open_gate.new.disk).moment c.requires.stands (c.requires.good, tt)
    (subst (λ (l : List ℕ). IfSome (image_now (g.D.Disk.view c.args.disk.now))
    (λ i. LeavesSince (g.D.Disk.view c.args.disk.now) (g.D.Disk.view c.open_gate.new.disk)
    (IsAfterGate c.args.self.now.end l i.bytes))) piece c.open_gate.ensures.any_moment)

pub returns-clause-head : goal.returns-clause-head
returns-clause-head g c =
    let piece : c.deref.result.now ≡ following (c.args.bytes.now ∷ []) = search rules ∙ sym (following_one c.args.bytes.now) in
    head_leaves g.R.Form.is_record c.args.self.now.end c.args.self.now.extent c.args.self.now.epoch (c.args.bytes.now ∷ []) (omega arith)
    (image_now (g.D.Disk.view c.args.disk.now)) (g.D.Disk.view c.open_gate.new.disk).image_at (g.D.Disk.view c.args.disk.now).moment
    (g.D.Disk.view c.open_gate.new.disk).moment c.requires.stands
    (subst (λ (l : List ℕ). IfSome (image_now (g.D.Disk.view c.args.disk.now))
    (λ i. LeavesSince (g.D.Disk.view c.args.disk.now) (g.D.Disk.view c.open_gate.new.disk)
    (IsAfterGate c.args.self.now.end l i.bytes))) piece c.open_gate.ensures.any_moment)

pub returns-clause-stands : goal.returns-clause-stands
returns-clause-stands g c =
    let piece : c.deref.result.now ≡ following (c.args.bytes.now ∷ []) = search rules ∙ sym (following_one c.args.bytes.now) in
    let is : (image_now (g.D.Disk.view c.open_gate.new.disk))
    ≡ option_map (opened c.args.self.now.end (following (c.args.bytes.now ∷ [])) 4) (image_now (g.D.Disk.view c.args.disk.now)) = subst
    (λ (l : List ℕ). (image_now (g.D.Disk.view c.open_gate.new.disk))
    ≡ option_map (opened c.args.self.now.end l 4) (image_now (g.D.Disk.view c.args.disk.now))) piece c.in_default-open_gate.ensures.opened in
    stands_after g.R.Form.is_record c.args.self.now.end c.args.self.now.extent c.args.self.now.epoch (c.args.bytes.now ∷ []) (omega arith)
    (image_now (g.D.Disk.view c.args.disk.now)) (image_now (g.D.Disk.view c.open_gate.new.disk))
    (c.args.self.now.end + 5 + length c.args.bytes.now) c.max-self.result c.requires.stands (c.requires.good, tt) is
    (omega (arith, length-one c.args.bytes.now)) c.max-self.ensures

pub returns-clause-records : goal.returns-clause-records
returns-clause-records g c =
    let piece : c.deref.result.now ≡ following (c.args.bytes.now ∷ []) = search rules ∙ sym (following_one c.args.bytes.now) in
    let is : (image_now (g.D.Disk.view c.open_gate.new.disk))
    ≡ option_map (opened c.args.self.now.end (following (c.args.bytes.now ∷ [])) 4) (image_now (g.D.Disk.view c.args.disk.now)) = subst
    (λ (l : List ℕ). (image_now (g.D.Disk.view c.open_gate.new.disk))
    ≡ option_map (opened c.args.self.now.end l 4) (image_now (g.D.Disk.view c.args.disk.now))) piece c.in_default-open_gate.ensures.opened in
    records_told g.R.Form.is_record c.args.self.now.end c.args.self.now.extent c.args.self.now.epoch (c.args.bytes.now ∷ []) (omega arith)
    (image_now (g.D.Disk.view c.args.disk.now)) (image_now (g.D.Disk.view c.open_gate.new.disk)) c.requires.stands (c.requires.good, tt) is

pub invariant_of-self-2 : goal.invariant_of-self-2
invariant_of-self-2 g c =
    let piece : c.deref.result.now ≡ sized c.args.bytes.now = search rules in
    let bound : c.args.self.now.end + 6 + length c.args.bytes.now < 2 ^ 63 =
    omega (arith, c.in_default-open_gate.ensures.bound, ap length piece, length-sized c.args.bytes.now) in
    record { small = omega (arith, bound); low = c.args.self.now.low; short = omega (arith, bound, c.args.self.now.short, c.max-self.ensures) }

pub returns-clause-tells : goal.returns-clause-tells
returns-clause-tells g c =
    still_told (image_now (g.D.Disk.view c.args.disk.now)) (image_now (g.D.Disk.view c.open_gate.new.disk))
    (opened c.args.self.now.end c.deref.result.now 4) c.in_default-open_gate.ensures.opened

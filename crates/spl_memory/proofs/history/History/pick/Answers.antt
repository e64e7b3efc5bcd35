use Rattle.std.proofs.{Common.{◌≡◌, ◌∙◌, ◌-◌, ◌++◌, ◌∷◌, ℕ, List, [], length, take, drop, sym, ap, refl, rules}, lemmas.List.{take_rest, take-append-drop}}
use Rattle.spl_edge.specs.Devices.{settled_at, picked_bytes, picked_of}
use Rattle.spl_memory.specs.{Changes.Picked, Histories.{calls_in, pending}, Marks.calls_of, Replay.filled_in}
use Rattle.spl_memory.{specs.declared.marks.{Kind.TheVariants.Picked as WasPicked, Mark.Mark, Pick.Pick}, proofs.Marked.{marked, pending-none}}
use Rattle.spl_memory.proofs.{Kept.pushed_to, Held.{held_settled, filled_in_is}}
use Rattle.spl_memory.proofs.history.History.pick.Goals as goal

pub returns-clause-calls : goal.returns-clause-calls
returns-clause-calls c =
    let bytes = c.args.self.now.bytes.items in
    let filled = c.in_ok-filled.filled.items in
    let same = c.same_first-same.result in
    let taken = c.in_ok-new.field-0 in
    let change = Picked c.args.fill c.args.arming c.args.faults in
    let front : take same bytes ≡ take same filled = search rules in
    let part : c.in_ok-old.old.items ≡ take (length bytes - same) (drop same bytes) = search rules in
    let old = part ∙ take_rest bytes same in
    let kept : taken.value ≡ record { fill = c.args.fill; arming = c.args.arming; faults = c.args.faults; same = same; old = c.in_ok-old.old } = search rules in
    let before = ap (λ (p : Pick). take p.same filled ++ p.old.items) kept ∙ ap (λ (l : List ℕ). take same filled ++ l) old
    ∙ ap (λ (l : List ℕ). l ++ drop same bytes) (sym front) ∙ take-append-drop same bytes in
    pushed_to c.args.moment (λ i. settled_at (picked_bytes c.args.fill i)) (λ i. picked_of c.args.fill c.args.arming c.args.faults i ∷ [])
    (calls_in c.args.self.now) (calls_of c.push.new.self.items filled)
    (record { moment = c.args.moment; change = change })
    (marked c.args.self.now.marks.items c.push.new.self.items (record { moment = c.args.moment; kind = WasPicked taken }) bytes filled change
    (search rules) before
    (ap (λ (p : Pick). Picked p.fill p.arming p.faults) kept))
    refl (λ i. refl) (λ i. refl)

pub returns-clause-held : goal.returns-clause-held
returns-clause-held c =
    let push = returns-clause-calls c in
    let filled = c.in_ok-filled.filled.items in
    let all : c.len-self.result ≡ length c.push.new.self.items = search rules in
    let marks = c.args.self.now.marks.items in
    let since = c.args.self.now.since in
    let bytes = c.args.self.now.bytes.items in
    let part : filled ≡ filled_in c.args.fill (take (length marks - since) (drop since marks)) bytes = search rules in
    let done = part ∙ ap (λ (us : List Mark). filled_in c.args.fill us bytes) (take_rest marks since) in
    λ i held. held_settled i (calls_of c.push.new.self.items filled) filled _
    (push.step i ∙ ap (λ (l : List ℕ). settled_at l) (sym (done ∙ filled_in_is i (calls_in c.args.self.now) bytes (pending c.args.self.now) c.args.fill held)))
    (pending-none c.push.new.self.items c.len-self.result all)

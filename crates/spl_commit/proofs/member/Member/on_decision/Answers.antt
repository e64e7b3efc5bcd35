use Rattle.std.{specs.Prelude.{Some, None}, proofs.Common.{◌≡◌, ◌∙◌, ℕ, sym, ap, subst}}
use Rattle.spl_agree.specs.Rows.{changes_one, on_decision}
use Rattle.spl_agree.specs.declared.event.GroupChange.TheVariants as change
use Rattle.spl_agree.specs.declared.event.Note.TheVariants as note
use Rattle.spl_part.specs.Promises.{decided_of}
use Rattle.spl_commit.{specs.Views.group_by, proofs.RowSteps.{as_given, DecisionGives, decision-stray, decision-none, decision-gives}}
use Rattle.spl_commit.proofs.member.Member.on_decision.Goals as goal

pub returns-then-sender-self : goal.returns-then-sender-self
returns-then-sender-self g c =
    let m = c.args.self.now in
    let group = group_by (g.M.Agreed.rules c.args.self.now.content) c.args.self.now in
    let stray : c.args.sender ≡ c.args.self.now.coordinator → ⊥ = rw (← c.self.view_is) c.if-sender-self.true in
    c.nothing.ensures ∙ sym (decision-stray group m.state c.args.sender c.args.round c.args.commit stray)

pub returns-in_default : goal.returns-in_default
returns-in_default g c =
    let m = c.args.self.now in
    let group = group_by (g.M.Agreed.rules c.args.self.now.content) c.args.self.now in
    let led : c.args.sender ≡ c.args.self.now.coordinator = rw (← c.self.view_is) c.if-sender-self.false in
    let none : c.args.self.now.state.promise ≡ None = rw (← c.self.view_is, c.in_default.is) in
    c.nothing-in_default.ensures ∙ sym (decision-none group m.state c.args.sender c.args.round c.args.commit led none)

pub returns-in-Ignored : goal.returns-in-Ignored
returns-in-Ignored g c =
    let m = c.args.self.now in
    let group = group_by (g.M.Agreed.rules c.args.self.now.content) c.args.self.now in
    let led : c.args.sender ≡ c.args.self.now.coordinator = rw (← c.self.view_is) c.if-sender-self.false in
    let promised : c.args.self.now.state.promise ≡ Some c.in-Some.promise = rw (← c.self.view_is, c.in-Some.is) in
    let outcome =
    c.on_decision.ensures ∙ ap (λ (kept : ℕ × Unit {0}). decided_of kept c.args.round c.args.commit)
    (c.kept.ensures ∙ ap (λ (round : ℕ). (round, tt)) c.tick.ensures) in
    let all = on_decision group m.state c.args.sender c.args.round c.args.commit in
    let gives = decision-gives group m.state c.args.sender c.args.round c.args.commit led c.in-Some.promise c.on_decision.result promised outcome in
    c.nothing-in-Ignored.ensures ∙ subst (DecisionGives all c.in-Some.promise.1) c.in-Ignored.is gives

pub returns-in-Aborted : goal.returns-in-Aborted
returns-in-Aborted g c =
    let m = c.args.self.now in
    let group = group_by (g.M.Agreed.rules c.args.self.now.content) c.args.self.now in
    let led : c.args.sender ≡ c.args.self.now.coordinator = rw (← c.self.view_is) c.if-sender-self.false in
    let promised : c.args.self.now.state.promise ≡ Some c.in-Some.promise = rw (← c.self.view_is, c.in-Some.is) in
    let outcome =
    c.on_decision.ensures ∙ ap (λ (kept : ℕ × Unit {0}). decided_of kept c.args.round c.args.commit)
    (c.kept.ensures ∙ ap (λ (round : ℕ). (round, tt)) c.tick.ensures) in
    let all = on_decision group m.state c.args.sender c.args.round c.args.commit in
    let gives = decision-gives group m.state c.args.sender c.args.round c.args.commit led c.in-Some.promise c.on_decision.result promised outcome in
    as_given c.changes_one.result (changes_one (note.Aborted c.in-Aborted.round) change.Abort) all c.changes_one.ensures
    (subst (DecisionGives all c.in-Some.promise.1) c.in-Aborted.is gives)

pub returns-in_ok-value-in-Committed : goal.returns-in_ok-value-in-Committed
returns-in_ok-value-in-Committed g c =
    let m = c.args.self.now in
    let group = group_by (g.M.Agreed.rules c.args.self.now.content) c.args.self.now in
    let led : c.args.sender ≡ c.args.self.now.coordinator = rw (← c.self.view_is) c.if-sender-self.false in
    let promised : c.args.self.now.state.promise ≡ Some c.in-Some.promise = rw (← c.self.view_is, c.in-Some.is) in
    let outcome =
    c.on_decision.ensures ∙ ap (λ (kept : ℕ × Unit {0}). decided_of kept c.args.round c.args.commit)
    (c.kept.ensures ∙ ap (λ (round : ℕ). (round, tt)) c.tick.ensures) in
    let all = on_decision group m.state c.args.sender c.args.round c.args.commit in
    let gives = decision-gives group m.state c.args.sender c.args.round c.args.commit led c.in-Some.promise c.on_decision.result promised outcome in
    let round = c.in-Committed.round in
    as_given c.changes_one-in-Committed.result
    (changes_one (note.Committed round) (change.Commit round c.in_ok-value-in-Committed.value)) all c.changes_one-in-Committed.ensures
    (ap (λ v. changes_one (note.Committed round) (change.Commit round v)) (c.in_ok-value-in-Committed.ensures ∙ c.value.ensures)
    ∙ subst (DecisionGives all c.in-Some.promise.1) c.in-Committed.is gives)

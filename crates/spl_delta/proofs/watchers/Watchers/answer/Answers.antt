use Rattle.std.{specs.{Prelude.IfOk, Str.bytes_eq}, proofs.Common.{rules, ◌≡◌, ◌∙◌, [], false, List, Some, ap, sym, subst}}
use Rattle.spl_circuit.specs.Nodes.{CircuitId}
use Rattle.spl_cell_rules.specs.Cells.{Held}
use Rattle.spl_delta.{specs.{Kept.{group_or_none, watchers_of}, Watches.{Watcher, told_by, watch_circuit, watchers_after}}, proofs.Entries.at_err}
use Rattle.spl_delta.proofs.Entries.{others_stay, when_ok, written_back}
use Rattle.spl_delta.proofs.watchers.Watchers.answer.Goals as goal

-- ---- a circuit that had a line of a watcher

pub returns-in-Some-clause-answer : goal.returns-in-Some-clause-answer
returns-in-Some-clause-answer c = λ h here.
    let k = c.circuit-circuit.result in
    let was : c.in-Some.group.now ≡ watchers_of c.args.self.now (watch_circuit c.args.line.now) =
    ap group_or_none c.in-Some.ensures.value ∙ ap (λ gs. watchers_of gs k) c.self.view_is ∙ ap (watchers_of c.args.self.now) c.circuit-circuit.ensures in
    subst (λ (ts : List Watcher). IfOk c.answer.result (λ a. a ≡ told_by h ts c.args.line.now)) was (c.answer.ensures.answer h here)

pub returns-in-Some-clause-after : goal.returns-in-Some-clause-after
returns-in-Some-clause-after c = λ h here.
    let k = c.circuit-circuit.result in
    let w = c.answer.new.self in
    let was : c.in-Some.group.now ≡ watchers_of c.args.self.now (watch_circuit c.args.line.now) =
    ap group_or_none c.in-Some.ensures.value ∙ ap (λ gs. watchers_of gs k) c.self.view_is ∙ ap (watchers_of c.args.self.now) c.circuit-circuit.ensures in
    let kept = (c.get_mut.follows.holds w).3 (search rules) in
    let is : watchers_of (c.get_mut.follows.lender w).entries (watch_circuit c.args.line.now) ≡ w =
    ap (watchers_of (c.get_mut.follows.lender w).entries) (sym c.circuit-circuit.ensures) ∙ ap group_or_none kept.1 in
    when_ok c.answer.result (λ a told. is ∙ (told ∙ ap (λ (ts : List Watcher). watchers_after (Held h) ts c.args.line.now a) was))
    (c.answer.ensures.after h here)

pub returns-in-Some-clause-others : goal.returns-in-Some-clause-others
returns-in-Some-clause-others c = λ d off.
    let k = c.circuit-circuit.result in
    let w = c.answer.new.self in
    let apart : bytes_eq k d ≡ false = subst (λ (e : CircuitId). bytes_eq e d ≡ false) (sym c.circuit-circuit.ensures) off in
    ap group_or_none (others_stay c.self.inside.groups (c.get_mut.follows.lender w) k (Some w) ((c.get_mut.follows.holds w).3 (search rules)) d apart)
    ∙ ap (λ gs. watchers_of gs d) c.self.view_is

pub returns-in-Some-clause-err : goal.returns-in-Some-clause-err
returns-in-Some-clause-err c = at_err c.answer.result (λ same d.
    let w = c.answer.new.self in
    ap (λ gs. watchers_of gs d)
    (written_back c.self.inside.groups (c.get_mut.follows.lender w) c.circuit-circuit.result w (ap Some same ∙ c.in-Some.ensures.value)
    ((c.get_mut.follows.holds w).0)) ∙ ap (λ gs. watchers_of gs d) c.self.view_is) c.answer.ensures.err

-- ---- its first line

pub returns-clause-after : goal.returns-clause-after
returns-clause-after c = λ h here.
    let none : watchers_of c.args.self.now (watch_circuit c.args.line.now) ≡ [] =
    ap (watchers_of c.args.self.now) (sym c.circuit-circuit.ensures) ∙ ap (λ gs. watchers_of gs c.circuit-circuit.result) (sym c.self.view_is)
    ∙ ap group_or_none (sym c.in_default.ensures.value) in
    ap (watchers_of c.keep.new.self) (sym c.circuit-circuit.ensures)
    ∙ (c.in_ok-keep.ensures.own
    ∙ (c.in_ok-answer.ensures.after h here
    ∙ ap (λ (ts : List Watcher). watchers_after (Held h) ts c.args.line.now c.in_ok-answer.answer) (c.new-group.ensures ∙ sym none)))

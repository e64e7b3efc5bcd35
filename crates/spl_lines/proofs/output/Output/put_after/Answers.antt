use Rattle.std.proofs.Common.{ℕ, List, ◌++◌, sym, ◌∙◌, ap, subst, append-nil}
use Rattle.spl_lines.{specs.Due.{IsOutputDue, IsDuePart}, proofs.{Results.ok_then, Dues.{due_waits, due_whole}, Outputs.{is_answered, is_traced, not_shown}}}
use Rattle.spl_lines.proofs.output.Output.put_after.Goals as goal

pub returns-then-number-skip-clause-ok : goal.returns-then-number-skip-clause-ok
returns-then-number-skip-clause-ok g c =
    let written = (g.W.Sink.view c.args.sink.now).written in
    let waiting = c.args.self.now in
    subst (IsOutputDue written written waiting)
    (sym (ap (λ (l : List ℕ). waiting ++ l) (not_shown c.args.traced c.args.skip c.args.number c.args.text.now c.if-number-skip.true)
    ∙ append-nil waiting)) (due_waits written waiting)

pub returns-then-number-skip-clause-part : goal.returns-then-number-skip-clause-part
returns-then-number-skip-clause-part g c =
    let written = (g.W.Sink.view c.args.sink.now).written in
    let waiting = c.args.self.now in
    due_whole written written waiting _
    (subst (IsOutputDue written written waiting)
    (sym (ap (λ (l : List ℕ). waiting ++ l) (not_shown c.args.traced c.args.skip c.args.number c.args.text.now c.if-number-skip.true)
    ∙ append-nil waiting)) (due_waits written waiting))

pub returns-then-traced-clause-ok : goal.returns-then-traced-clause-ok
returns-then-traced-clause-ok g c = ok_then c.put_text.result c.put_text.ensures.ok (λ due.
    subst (λ (l : List ℕ). IsOutputDue (g.W.Sink.view c.args.sink.now).written (g.W.Sink.view c.put_text.new.sink).written c.put_text.new.self
    (c.args.self.now ++ l)) (sym (is_traced c.args.traced c.args.skip c.args.number c.args.text.now c.if-number-skip.false c.if-traced.true)) due)

pub returns-then-traced-clause-part : goal.returns-then-traced-clause-part
returns-then-traced-clause-part g c =
    subst (λ (l : List ℕ). IsDuePart (g.W.Sink.view c.args.sink.now).written (g.W.Sink.view c.put_text.new.sink).written c.put_text.new.self
    (c.args.self.now ++ l)) (sym
    (is_traced c.args.traced c.args.skip c.args.number c.args.text.now c.if-number-skip.false c.if-traced.true)) c.put_text.ensures.part

pub returns-clause-ok : goal.returns-clause-ok
returns-clause-ok g c = ok_then c.put.result c.put.ensures.ok (λ due.
    subst (λ (l : List ℕ). IsOutputDue (g.W.Sink.view c.args.sink.now).written (g.W.Sink.view c.put.new.sink).written c.put.new.self
    (c.args.self.now ++ l)) (sym (is_answered c.args.traced c.args.skip c.args.number c.args.text.now c.if-number-skip.false c.if-traced.false)) due)

pub returns-clause-part : goal.returns-clause-part
returns-clause-part g c =
    subst (λ (l : List ℕ). IsDuePart (g.W.Sink.view c.args.sink.now).written (g.W.Sink.view c.put.new.sink).written c.put.new.self (c.args.self.now ++ l))
    (sym (is_answered c.args.traced c.args.skip c.args.number c.args.text.now c.if-number-skip.false c.if-traced.false)) c.put.ensures.part

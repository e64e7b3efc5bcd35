use Rattle.std.proofs.Common.{ℕ, List, [], ◌∷◌, ◌++◌, ap, ◌∙◌, subst}
use Rattle.spl_lines.{specs.{Due.{IsOutputDue, IsDuePart}, Tasks.printed}, proofs.{Dues.{due_due, due_then}, Results.ok_then}}
use Rattle.spl_lines.proofs.output.Output.put.Goals as goal

pub returns-clause-ok : goal.returns-clause-ok
returns-clause-ok g c =
    let line = printed c.args.number c.args.text.now in
    let digits = c.as_bytes-digits.ensures.value ∙ c.format.ensures.text in
    let is = c.in_ok-append.ensures.ok ∙ ap (λ (d : List ℕ). c.make_room.new.self ++ (d ++ 32 ∷ c.args.text.now ++ 10 ∷ [])) digits in
    ok_then c.settle.result c.settle.ensures.ok (λ due.
    due_due _ _ _ c.make_room.new.self c.settle.new.self c.args.self.now line c.in_ok-make_room.ensures.ok
    (subst (IsOutputDue (g.W.Sink.view c.make_room.new.sink).written (g.W.Sink.view c.settle.new.sink).written c.settle.new.self) is due))

pub returns-clause-part : goal.returns-clause-part
returns-clause-part g c =
    let line = printed c.args.number c.args.text.now in
    let digits = c.as_bytes-digits.ensures.value ∙ c.format.ensures.text in
    let is = c.in_ok-append.ensures.ok ∙ ap (λ (d : List ℕ). c.make_room.new.self ++ (d ++ 32 ∷ c.args.text.now ++ 10 ∷ [])) digits in
    due_then _ _ _ c.make_room.new.self c.settle.new.self c.args.self.now line c.in_ok-make_room.ensures.ok
    (subst (IsDuePart (g.W.Sink.view c.make_room.new.sink).written (g.W.Sink.view c.settle.new.sink).written c.settle.new.self) is c.settle.ensures.part)

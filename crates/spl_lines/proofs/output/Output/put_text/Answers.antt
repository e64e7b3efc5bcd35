use Rattle.std.proofs.Common.{ℕ, List, ◌++◌, subst}
use Rattle.spl_lines.{specs.Due.{IsOutputDue, IsDuePart}, proofs.{Dues.{due_due, due_then}, Results.ok_then}}
use Rattle.spl_lines.proofs.output.Output.put_text.Goals as goal

pub returns-clause-ok : goal.returns-clause-ok
returns-clause-ok g c =
    ok_then c.settle.result c.settle.ensures.ok (λ due.
    due_due _ _ _ c.make_room.new.self c.settle.new.self c.args.self.now c.args.text.now c.in_ok-make_room.ensures.ok
    (subst (IsOutputDue (g.W.Sink.view c.make_room.new.sink).written
    (g.W.Sink.view c.settle.new.sink).written c.settle.new.self) c.in_ok-append_text.ensures.ok due))

pub returns-clause-part : goal.returns-clause-part
returns-clause-part g c =
    due_then _ _ _ c.make_room.new.self c.settle.new.self c.args.self.now c.args.text.now c.in_ok-make_room.ensures.ok
    (subst (IsDuePart (g.W.Sink.view c.make_room.new.sink).written
    (g.W.Sink.view c.settle.new.sink).written c.settle.new.self) c.in_ok-append_text.ensures.ok c.settle.ensures.part)

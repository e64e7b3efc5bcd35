use Rattle.std.{specs.Prelude.IsErrOf, proofs.{Common.{◌≡◌, Some, List, subst, sym, rules}, lemmas.Result.IfOk-at_ok}}
use Rattle.spl_circuit.specs.Nodes.{Node}
use Rattle.spl_lines.specs.Tasks.{IsLine, line_said}
use Rattle.spl_lines.specs.declared.reading.Unread.TheVariants as unread
use Rattle.spl_runs.proofs.{Sources.{line_bad, line_broken, line_done, line_silent, line_unread}, Tasks.{allowed, not_allowed}}
use Rattle.spl_runs.proofs.run.Run.line.Goals as goal

pub returns-in-Ok : goal.returns-in-Ok
returns-in-Ok g c =
    let line = c.args.line.now.bytes.now in
    let is_said : line_said line ≡ Some c.in-Ok.said = IfOk-at_ok (λ s. line_said line ≡ Some s) c.in-Ok.is c.read_admitted.ensures.said in
    let is_line : IsLine c.args.self.now.nodes.items line =
    subst (λ (ns : List Node). IsLine ns line) c.deref.ensures.value
    (IfOk-at_ok (λ s. IsLine c.deref.result.now line) c.in-Ok.is c.read_admitted.ensures.good) in
    line_done (allowed g.H.Halt.linked c.args.self.now.unanswered c.args.self.now.nodes.items line c.in-Ok.said is_line is_said
    (search rules)) is_said c.settle.ensures.good c.in_ok-answer-in-Ok.ensures.step (c.settle.ensures.step (g.W.Sink.view c.answer.new.out))

pub returns-in_err-answer-in-Ok : goal.returns-in_err-answer-in-Ok
returns-in_err-answer-in-Ok g c =
    let line = c.args.line.now.bytes.now in
    let is_said : line_said line ≡ Some c.in-Ok.said = IfOk-at_ok (λ s. line_said line ≡ Some s) c.in-Ok.is c.read_admitted.ensures.said in
    let is_line : IsLine c.args.self.now.nodes.items line =
    subst (λ (ns : List Node). IsLine ns line) c.deref.ensures.value
    (IfOk-at_ok (λ s. IsLine c.deref.result.now line) c.in-Ok.is c.read_admitted.ensures.good) in
    line_broken (allowed g.H.Halt.linked c.args.self.now.unanswered c.args.self.now.nodes.items line c.in-Ok.said is_line is_said
    (search rules)) is_said _ c.from_residual.ensures c.in_err-answer-in-Ok.ensures.good c.in_err-answer-in-Ok.ensures.step

pub returns-then-not-is_taken : goal.returns-then-not-is_taken
returns-then-not-is_taken g c =
    line_bad c.requires.go (not_allowed g.H.Halt.linked c.args.self.now.unanswered c.args.self.now.nodes.items c.args.line.now.bytes.now c.in-Ok.said
    (IfOk-at_ok (λ s. line_said c.args.line.now.bytes.now ≡ Some s) c.in-Ok.is c.read_admitted.ensures.said) (search rules) (search rules))

pub returns-in-Err-Silent : goal.returns-in-Err-Silent
returns-in-Err-Silent g c =
    let silent : IsErrOf c.read_admitted.result unread.Silent = search rules in
    let h = c.read_admitted.ensures.silent silent in
    line_silent c.requires.go (subst (λ (ns : List Node). IsLine ns c.args.line.now.bytes.now) c.deref.ensures.value h.0) h.1

pub returns-in-Err-BadLine : goal.returns-in-Err-BadLine
returns-in-Err-BadLine g c =
    let bad : IsErrOf c.read_admitted.result unread.BadLine = search rules in
    line_bad c.requires.go (λ a. c.read_admitted.ensures.bad bad
    (subst (λ (ns : List Node). IsLine ns c.args.line.now.bytes.now) (sym c.deref.ensures.value) a.good))

pub returns : goal.returns
returns g c = line_unread c.requires.go

use Rattle.std.proofs.Common.{◌≡◌, ◌∷◌, ◌∙◌, Bool, Option, [], ap, false, subst, true, ℕ, List}
use Rattle.spl_edge.specs.declared.fault.DeviceError.TheVariants.{Failed}
use Rattle.spl_lines.{specs.Tasks.{ran_by, Task, text_for}, proofs.Tasks.{ran-append, right_text}}
use Rattle.spl_lines.specs.declared.reading.Said.TheVariants as say
use Rattle.spl_circuit_world.specs.{Projection.{keeps_record, Ran, lines_fit}, Whole.whole_world}
use Rattle.spl_runs.{specs.{Moments.AreDone, Run.{origin, Plan, Devices}, Steps.{HasRun, task}, declared.run.Run.Run}, proofs.Causes.err_as}
use Rattle.spl_runs.proofs.Steps.{step_failed, step_short, step_unwritten, step_written}
use Rattle.spl_runs.proofs.run.Run.answer_line.Goals as goal
use Rattle.spl_sched.specs.declared.line.Line.{Line}
use Rattle.spl_trace.{specs.Traced.{flat_line, written_lines}, proofs.Wholes.flat-whole}

-- what is told of a line of the nodes
told_line : {linked on : Bool} {p : Plan} {ts : List Task} {number : Option ℕ} {l : Line} {r s : Run} {x y z : Devices} {a answer : List ℕ} → p.traced ≡ on
    → AreDone linked p ts r z x → HasRun linked p ts (task number (say.Line l)) s z y answer
    → (on ≡ false → a ≡ answer) → (on ≡ true → a ≡ written_lines (flat_line (λ c. whole_world (origin p) c (ran_by ts)) l (keeps_record l)))
    → a ≡ text_for p.traced (origin p) ts (say.Line l)
told_line {linked} {on} {p} {ts} {number} {l} {a = a} same d ran answered traced =
    right_text on p.traced (origin p) ts (say.Line l) a same (λ off. answered off ∙ ran.ran.0)
    (λ is. traced is ∙ ap written_lines
    (flat-whole (origin p) (ran_by ts) l (keeps_record l) d.ran.stands.begins
    (subst (λ (rs : List Ran). lines_fit rs ≡ true) (ran-append ts (task number (say.Line l) ∷ [])) ran.ran.1.stands.fit)))

pub returns-in_err-answer-clause-step : goal.returns-in_err-answer-clause-step
returns-in_err-answer-clause-step g c = step_failed _ _ c.from_residual.ensures (c.in_err-answer.ensures.runs (g.W.Sink.view c.args.out.now))

pub returns-in_err-tell_line-clause-step : goal.returns-in_err-tell_line-clause-step
returns-in_err-tell_line-clause-step g c =
    step_short (c.in_ok-answer.ensures.runs (g.W.Sink.view c.args.out.now)) _ _ c.tell_line.new.out c.from_residual-in_err-tell_line.ensures

pub returns-in_err-put_after-clause-step : goal.returns-in_err-put_after-clause-step
returns-in_err-put_after-clause-step g c =
    let sink = g.W.Sink.view c.args.out.now in
    step_unwritten (c.in_ok-answer.ensures.runs sink) c.args.read.now.line.number c.tell_line.new.out c.put_after.new.self
    (g.W.Sink.view c.put_after.new.sink) c.is_on.ensures c.deref.ensures.value
    (λ p ts z on d ran. told_line on d ran (λ off. c.in_ok-tell_line.ensures.answer off)
    (λ is. c.in_ok-tell_line.ensures.trace (λ i. whole_world (origin p) i (ran_by ts)) (keeps_record c.args.read.now.says.now) is
    (c.in_ok-answer.ensures.heard p ts z sink d)))
    _ c.from_residual-in_err-put_after.ensures c.in_err-put_after.ensures.part c.in_err-put_after.ensures.cause.later
    (λ q. c.in_err-put_after.ensures.cause.failed (err_as _ Failed q))

pub returns-clause-step : goal.returns-clause-step
returns-clause-step g c =
    let sink = g.W.Sink.view c.args.out.now in
    step_written (c.in_ok-answer.ensures.runs sink) c.args.read.now.line.number c.tell_line.new.out c.put_after.new.self
    (g.W.Sink.view c.put_after.new.sink) c.is_on.ensures c.deref.ensures.value
    (λ p ts z on d ran. told_line on d ran (λ off. c.in_ok-tell_line.ensures.answer off)
    (λ is. c.in_ok-tell_line.ensures.trace (λ i. whole_world (origin p) i (ran_by ts)) (keeps_record c.args.read.now.says.now) is
    (c.in_ok-answer.ensures.heard p ts z sink d)))
    _ c.in_ok-put_after.ensures.ok c.in_ok-put_after.ensures.cause.later

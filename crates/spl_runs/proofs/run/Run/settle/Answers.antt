use Rattle.std.proofs.Common.{◌≡◌, ◌∙◌, None, ap, sym}
use Rattle.spl_runs.{specs.Run.calm_in, proofs.{Steps.{step_as, step_failed, step_silent, step_still}, Tasks.{calm_after, calm_none}}}
use Rattle.spl_runs.proofs.run.Run.settle.Goals as goal

pub returns-then-not-is_linked-clause-step : goal.returns-then-not-is_linked-clause-step
returns-then-not-is_linked-clause-step g c =
    λ sink. step_as (sym (calm_none g.H.Halt.linked c.args.self.now.unanswered c.args.said.now (cc))) (step_still c.requires.go)

pub returns-in_default-clause-step : goal.returns-in_default-clause-step
returns-in_default-clause-step g c = λ sink.
    let none : c.circuit.result ≡ None = cc in
    step_as (sym (calm_after g.H.Halt.linked c.args.self.now.unanswered c.args.said.now (cc) ∙ ap calm_in (sym c.circuit.ensures ∙ none)))
    (step_still c.requires.go)

pub returns-in_err-run-clause-step : goal.returns-in_err-run-clause-step
returns-in_err-run-clause-step g c = λ sink.
    step_as (sym (calm_after g.H.Halt.linked c.args.self.now.unanswered c.args.said.now (cc) ∙ ap calm_in (sym c.circuit.ensures ∙ c.in-Some.is)))
    (step_failed None _ c.from_residual.ensures (c.in_err-run.ensures.runs sink))

pub returns-clause-step : goal.returns-clause-step
returns-clause-step g c = λ sink.
    step_as (sym (calm_after g.H.Halt.linked c.args.self.now.unanswered c.args.said.now (cc) ∙ ap calm_in (sym c.circuit.ensures ∙ c.in-Some.is)))
    (step_silent (c.in_ok-run.ensures.runs sink) _)

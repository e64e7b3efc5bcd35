use Rattle.std.proofs.Common.{◌∙◌, sym}
use Rattle.spl_edge.specs.declared.fault.DeviceError.TheVariants.{Failed}
use Rattle.spl_runs.{specs.Run.{origin, devices}, proofs.{Causes.err_as, Steps.{step_failed, step_short, step_unwritten, step_written}}}
use Rattle.spl_runs.proofs.run.Run.answer_watch.Goals as goal
use Rattle.spl_lines.proofs.Tasks.{right_text}
use Rattle.spl_lines.specs.declared.reading.Said.TheVariants as say

pub returns-in_err-answer-clause-step : goal.returns-in_err-answer-clause-step
returns-in_err-answer-clause-step g c =
    λ linked disks links go. step_failed _ _ c.from_residual.ensures (c.in_err-answer.ensures linked (devices (g.W.Sink.view c.args.out.now) disks links) go)

pub returns-in_err-tell_watch-clause-step : goal.returns-in_err-tell_watch-clause-step
returns-in_err-tell_watch-clause-step g c =
    λ linked disks links go. step_short
    (c.in_ok-answer.ensures linked (devices (g.W.Sink.view c.args.out.now) disks links) go) _ _ c.tell_watch.new.out c.from_residual-in_err-tell_watch.ensures

pub returns-in_err-put_after-clause-step : goal.returns-in_err-put_after-clause-step
returns-in_err-put_after-clause-step g c = λ linked disks links go.
    step_unwritten (c.in_ok-answer.ensures linked
    (devices (g.W.Sink.view c.args.out.now) disks links) go) c.args.read.now.line.number c.tell_watch.new.out c.put_after.new.self
    (g.W.Sink.view c.put_after.new.sink) c.is_on-2.ensures c.deref.ensures.value
    (λ p ts z on d ran. right_text _ p.traced (origin p) ts (say.Watch c.args.read.now.says.now) _ (on ∙ sym c.is_on.ensures)
    (λ off. c.in_ok-tell_watch.ensures.answer off ∙ ran.ran.0) (λ is. c.in_ok-tell_watch.ensures.trace is))
    _ c.from_residual-in_err-put_after.ensures c.in_err-put_after.ensures.part c.in_err-put_after.ensures.cause.later
    (λ q. c.in_err-put_after.ensures.cause.failed (err_as _ Failed q))

pub returns-clause-step : goal.returns-clause-step
returns-clause-step g c = λ linked disks links go.
    step_written (c.in_ok-answer.ensures linked
    (devices (g.W.Sink.view c.args.out.now) disks links) go) c.args.read.now.line.number c.tell_watch.new.out c.put_after.new.self
    (g.W.Sink.view c.put_after.new.sink) c.is_on-2.ensures c.deref.ensures.value
    (λ p ts z on d ran. right_text _ p.traced (origin p) ts (say.Watch c.args.read.now.says.now) _ (on ∙ sym c.is_on.ensures)
    (λ off. c.in_ok-tell_watch.ensures.answer off ∙ ran.ran.0) (λ is. c.in_ok-tell_watch.ensures.trace is))
    _ c.in_ok-put_after.ensures.ok c.in_ok-put_after.ensures.cause.later

use Rattle.std.proofs.Common.{Ok, ◌∙◌, ap, sym}
use Rattle.spl_frame.specs.Frames.{frames_of}
use Rattle.spl_fragments.{specs.Joining.{joined_message, last_answer}, proofs.{Joins.err_known, Framed.joins_fail}}
use Rattle.spl_fragments.proofs.frames.read_frames.Goals as goal

pub returns-in_err-last : goal.returns-in_err-last
returns-in_err-last c =
    let all = joined_message (frames_of c.args.bytes.now) in
    let e = c.in_err-last.field-0.0 in
    let body = c.in-Some.body.now in
    err_known c.from_residual.result e all c.from_residual.ensures
    (λ known. joins_fail c.loop-body.joiner (Ok c.loop-body.last) e body (frames_of c.in-Some.after.now) all (c.in_err-last.ensures.answer known)
    (ap (λ fs. last_answer c.loop-body.joiner (Ok c.loop-body.last) fs) (sym (ap (λ s. s.frames) c.in-Some.ensures.some)) ∙ c.loop-body.invariant))

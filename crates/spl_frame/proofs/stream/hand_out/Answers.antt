use Rattle.std.{specs.Prelude.IfSome, proofs.Common.{◌≡◌, subst, sym}}
use Rattle.spl_frame.{specs.{Frames.{stream_of, after}, Heard.Heard}, proofs.Hearing.heard_frame}
use Rattle.spl_frame.proofs.stream.hand_out.Goals as goal

pub loop-body-preserved : goal.loop-body-preserved
loop-body-preserved c = λ heard h.
    subst (λ fs. Heard heard fs c.next.new.self) (sym c.in_ok-push.ensures.ok)
    (heard_frame c.loop-body.framer c.next.new.self c.in-Some.body heard c.loop-body.frames
    (subst (λ o. IfSome o (λ body. stream_of c.loop-body.framer ≡ after body (stream_of c.next.new.self))) c.in-Some.is c.in_ok-body.ensures.some)
    (c.loop-body.invariant heard h))

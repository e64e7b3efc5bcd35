use Rattle.std.proofs.{Common.{◌≡◌, ◌+◌, ◌≤◌, length, drop, ap, subst, ◌∙◌}, lemmas.List.take_rest}
use Rattle.spl_frame.{specs.Frames.{stream_of, after}, proofs.Buffers.handed_out}
use Rattle.spl_frame.proofs.framer.Framer.next.Goals as goal

pub invariant_of-self : goal.invariant_of-self
invariant_of-self c =
    let old = c.self.inside in
    let body = c.in-Some.body.now in
    let left = take_rest c.deref.result.now old.start ∙ ap (drop old.start) c.deref.ensures.value in
    handed_out old.bytes.items old.start old.end old.fault body c.self.invariant
    (subst (λ b. 6 + length body ≤ length b) left c.in-Some.ensures.within)
    (subst (λ b. stream_of b ≡ after body (stream_of (drop (6 + length body) b))) left c.in-Some.ensures.some)

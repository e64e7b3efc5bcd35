use Rattle.std.proofs.Common.{List, ℕ, ap, ◌∙◌}
use Rattle.spl_frame.specs.Frames.{frames_of}
use Rattle.spl_wire.specs.Forms.{message_form}
use Rattle.spl_fragments.specs.{Parts.message_bodies, Joining.joined_message}
use Rattle.spl_pump.{specs.Wires.{IsSentAs, sent_as}, proofs.Messages.{is_found, none_found, same_boxed, sized_short}}
use Rattle.spl_pump.proofs.message.message_in_parts.Goals as goal

pub returns-in-Ok : goal.returns-in-Ok
unfolding sent_as
returns-in-Ok c = same_boxed c.boxed.result c.in-Ok.message (λ m. IsSentAs m c.args.frames.now) c.boxed.ensures (λ m s.
    let sent : List (List ℕ) = message_bodies (message_form.spell m) in
    let same = ap frames_of s.frames ∙ c.frames_are_read_back.ensures sent (sized_short sent (c.bodies_are_sized.ensures m)) in
    is_found c.in-Ok.message m (λ known. c.in-Ok.ensures known ∙ ap joined_message same ∙ c.a_message_is_joined.ensures m s.fits s.short))

pub returns-in-Err : goal.returns-in-Err
unfolding sent_as
returns-in-Err c = none_found c.not_joined.result c.in-Err.fault (λ m. IsSentAs m c.args.frames.now) c.not_joined.ensures.known (λ m s known.
    let sent : List (List ℕ) = message_bodies (message_form.spell m) in
    let same = ap frames_of s.frames ∙ c.frames_are_read_back.ensures sent (sized_short sent (c.bodies_are_sized.ensures m)) in
    c.in-Err.ensures known ∙ ap joined_message same ∙ c.a_message_is_joined.ensures m s.fits s.short)

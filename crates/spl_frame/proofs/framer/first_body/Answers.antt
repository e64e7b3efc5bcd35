use Rattle.std.proofs.{Common.{◌≡◌, ◌+◌, length, drop, take, Ok, Some, ap, sym, ◌∙◌, arith}, lemmas.List.{length-drop, length-take-le}}
use Rattle.spl_frame.{specs.Frames.{first_frame, stream_of, after}, proofs.{FirstFrames.first_frame_whole, Streams.stream_is}}
use Rattle.spl_frame.proofs.framer.first_body.Goals as goal

pub returns-in-Ok-Some-clause-some : goal.returns-in-Ok-Some-clause-some
returns-in-Ok-Some-clause-some c =
    let bytes = c.args.bytes.now in
    let size = c.in-Ok-Some.size in
    let body = c.split_at-in-Ok-Some.result.1.now in
    let e : first_frame bytes ≡ Ok (Some size) = sym c.in-Ok-Some.ensures ∙ ap (λ o. Ok o) c.in-Ok-Some.field-0-is in
    let w = first_frame_whole bytes size e in
    let is : body ≡ drop 6 (take size bytes) = c.split_at-in-Ok-Some.ensures.back ∙ ap (drop 6) c.split_at.ensures.front in
    let n : 6 + length body ≡ size = omega (arith, ap length is, length-drop 6 (take size bytes), length-take-le size bytes w.there, w.size) in
    stream_is bytes (Ok (Some size)) e ∙ ap (λ b. after b (stream_of (drop size bytes))) (sym is) ∙ ap (λ k. after body (stream_of (drop k bytes))) (sym n)

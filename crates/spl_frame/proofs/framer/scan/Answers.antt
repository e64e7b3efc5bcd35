use Rattle.std.proofs.{Common.{◌≡◌, drop, Ok, Some, ap, sym, ◌∙◌, arith}, lemmas.List.{length-drop, drop-drop, take_rest}}
use Rattle.spl_frame.{specs.Frames.{first_frame, stream_of}, proofs.{FirstFrames.first_frame_whole, Streams.end_more}}
use Rattle.spl_frame.proofs.framer.scan.Goals as goal

pub loop-size-preserved : goal.loop-size-preserved
loop-size-preserved c =
    let bytes = c.args.bytes.now in
    let e : first_frame (drop c.loop-size.at bytes) ≡ Ok (Some c.in-Ok-Some.size) =
    ap first_frame (sym (take_rest bytes c.loop-size.at)) ∙ sym c.in-Ok-Some.ensures ∙ ap (λ o. Ok o) c.in-Ok-Some.field-0-is in
    let w = first_frame_whole (drop c.loop-size.at bytes) c.in-Ok-Some.size e in
    let i = c.loop-size.invariant in
    let m = end_more (drop c.loop-size.at bytes) c.in-Ok-Some.size e in
    let same = drop-drop c.in-Ok-Some.size c.loop-size.at bytes in (
      omega (arith, i.0),
      omega (arith, i.1, w.there, length-drop c.loop-size.at bytes),
      (i.2.0 ∙ m.0 ∙ ap (λ r. (stream_of r).rest) same, i.2.1 ∙ m.1 ∙ ap (λ r. (stream_of r).fault) same),
    )

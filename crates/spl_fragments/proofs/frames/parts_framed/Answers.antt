use Rattle.std.{specs.List.flat_map, proofs.Common.arith}
use Rattle.spl_frame.specs.Frames.{frame}
use Rattle.spl_fragments.{specs.Parts.parts, proofs.Framed.frames_go_on}
use Rattle.spl_fragments.proofs.frames.parts_framed.Goals as goal

pub loop-rest-preserved : goal.loop-rest-preserved
loop-rest-preserved c =
    rw (c.in_ok-put_part.ensures, c.split_at.ensures.front, c.split_at.ensures.back)
    (frames_go_on c.loop-rest.frames c.loop-rest.rest.now (flat_map frame (parts c.args.bytes.now)) (omega arith) c.loop-rest.invariant)

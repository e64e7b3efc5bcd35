use Rattle.std.proofs.Common.{arith}
use Rattle.spl_fragments.{specs.Parts.parts, proofs.Cuts.cut_goes_on}
use Rattle.spl_fragments.proofs.bodies.parts.Goals as goal

pub loop-rest-preserved : goal.loop-rest-preserved
loop-rest-preserved c =
    rw (c.in_ok-push.ensures.ok, c.in_ok-part.ensures, c.split_at.ensures.front, c.split_at.ensures.back)
    (cut_goes_on c.loop-rest.parts c.loop-rest.rest.now (parts c.args.bytes.now) (omega arith) c.loop-rest.invariant)

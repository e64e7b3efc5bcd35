-- Levels of the same bytes are the same.
use Rattle.std.proofs.Common.{rules, ◌<◌, length, sym, ◌∙◌, arith}
use Rattle.spl_proof.proofs.Clashing.{beside_more, same_level}
use Rattle.spl_proof.proofs.clash.clash_of_proofs.Goals as goal

pub loop-i-preserved : goal.loop-i-preserved
loop-i-preserved c =
    let ones = c.as_slice-ones.result.now in
    let others = c.as_slice-others.result.now in
    let first : c.loop-i.i < length ones = first_of (omega arith, search rules, grind arith) in
    let second : c.loop-i.i < length others = first_of (omega arith, search rules, grind arith) in
    beside_more c.loop-i.i c.args.a.now ones others c.args.x.now.end c.args.y.now.end _ first second
    (same_level _ _ c.in_ok-one.ensures.fits c.in_ok-other.ensures.fits
    (sym c.in_ok-one.ensures.bytes ∙ sym c.bytes.ensures ∙ c.same_bytes.ensures.same c.if-not-same_bytes.false ∙ c.bytes-in-loop-i.ensures
    ∙ c.in_ok-other.ensures.bytes))
    c.loop-i.invariant

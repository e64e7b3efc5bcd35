-- Digest by digest.
use Rattle.std.proofs.{Common.{◌≡◌, ◌<◌, ◌≤◌, ◌+◌, ◌-◌, length, take, Ok, sym, ap, subst, ◌∙◌, arith}, lemmas.List.{take_all, take_more_set, length-set}}
use Rattle.std.proofs.lemmas.Result.{err_from_is_err_and}
use Rattle.spl_base.{specs.Form.items_at, proofs.Loops.{with_prefix, goes_on, ends, is_done}}
use Rattle.spl_proof.specs.Forms.{digest}
use Rattle.spl_proof.proofs.codec.take_level.Goals as goal

pub returns-in_err-x : goal.returns-in_err-x
returns-in_err-x c =
    let p = err_from_is_err_and c.from_residual.result c.from_residual.ensures.1 in
    rw (p.1, p.2) (ends digest.parse c.in_err-x.field-0.0 (take c.loop-i.i c.loop-i.x) 16 c.loop-i.i c.loop-i.r
    (items_at digest.parse 16 c.args.r.now) c.loop-i-test.true c.in_err-x.ensures c.loop-i.invariant.0)

pub loop-i-preserved : goal.loop-i-preserved
loop-i-preserved c =
    let low : c.loop-i.i < length c.loop-i.x = omega (arith, c.loop-i.invariant.1) in (
      subst (λ prefix. with_prefix prefix (items_at digest.parse (16 - (c.loop-i.i + 1)) c.take_digest.new.r) ≡ items_at digest.parse 16 c.args.r.now)
          (sym (take_more_set c.loop-i.x c.loop-i.i c.in_ok-x.field-0 low))
          (goes_on digest.parse (take c.loop-i.i c.loop-i.x) 16 c.loop-i.i c.loop-i.r c.in_ok-x.field-0 c.take_digest.new.r
          (items_at digest.parse 16 c.args.r.now) c.loop-i-test.true c.in_ok-x.ensures c.loop-i.invariant.0),
      length-set c.loop-i.x c.loop-i.i c.in_ok-x.field-0 ∙ c.loop-i.invariant.1,
    )

pub returns : goal.returns
returns c =
    let all : length c.loop-i.x ≤ c.loop-i.i = omega (arith, c.loop-i.invariant.1) in
    is_done digest.parse (take c.loop-i.i c.loop-i.x) 16 c.loop-i.i c.loop-i.r (items_at digest.parse 16 c.args.r.now) c.loop-i-test.false c.loop-i.invariant.0
    ∙ ap (λ xs. Ok (xs, c.loop-i.r)) (take_all c.loop-i.i c.loop-i.x all)

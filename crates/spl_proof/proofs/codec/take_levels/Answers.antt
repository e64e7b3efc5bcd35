-- Level by level.
use Rattle.std.proofs.{Common.{◌+◌, length, ap, ◌∙◌, length-append}, lemmas.Result.err_from_is_err_and}
use Rattle.spl_base.{specs.Form.items_at, proofs.Loops.{goes_on, ends}}
use Rattle.spl_proof.specs.Forms.{level}
use Rattle.spl_proof.proofs.codec.take_levels.Goals as goal

pub returns-in_err-x : goal.returns-in_err-x
returns-in_err-x c =
    let p = err_from_is_err_and c.from_residual.result c.from_residual.ensures.1 in
    rw (p.1, p.2) (ends level.parse c.in_err-x.field-0.0 c.loop.levels c.args.count c.loop.counter c.loop.r
    (items_at level.parse c.args.count c.args.r.now) c.loop-test.true c.in_err-x.ensures c.loop.invariant.0)

pub loop-preserved : goal.loop-preserved
loop-preserved c = (
  rw c.in_ok-push.ensures.ok
      (goes_on level.parse c.loop.levels c.args.count c.loop.counter c.loop.r c.in_ok-x.x c.take_level.new.r
      (items_at level.parse c.args.count c.args.r.now) c.loop-test.true c.in_ok-x.ensures c.loop.invariant.0),
  simp length-append at (ap length c.in_ok-push.ensures.ok) ∙ ap (λ n. n + 1) c.loop.invariant.1,
)

use Rattle.std.proofs.lemmas.Result.{err_from_is_err_and}
use Rattle.spl_base.{specs.Form.items_at, proofs.Loops.{goes_on, ends, is_done}}
use Rattle.spl_base.proofs.field.take_items.Goals as goal

pub returns-in_err-x : goal.returns-in_err-x
returns-in_err-x g c =
    let p = err_from_is_err_and c.from_residual-in_err-x.result c.from_residual-in_err-x.ensures.1 in
    let parse = g.T.Field.form.parse in
    rw (p.1, p.2) (ends parse c.in_err-x.field-0.0 c.loop.items c.args.count c.loop.counter c.loop.r
    (items_at parse c.args.count c.args.r.now) c.loop-test.true c.in_err-x.ensures c.loop.invariant)

pub loop-preserved : goal.loop-preserved
loop-preserved g c =
    let parse = g.T.Field.form.parse in
    rw c.in_ok-push.ensures.ok
    (goes_on parse c.loop.items c.args.count c.loop.counter c.loop.r c.in_ok-x.x c.take_parts.new.r
    (items_at parse c.args.count c.args.r.now) c.loop-test.true c.in_ok-x.ensures c.loop.invariant)

pub returns : goal.returns
returns g c =
    let parse = g.T.Field.form.parse in
    is_done parse c.loop.items c.args.count c.loop.counter c.loop.r (items_at parse c.args.count c.args.r.now) c.loop-test.false c.loop.invariant

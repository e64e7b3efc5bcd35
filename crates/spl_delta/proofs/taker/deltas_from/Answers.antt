use Rattle.std.{specs.Prelude.slice_get, proofs.Common.{◌≡◌, ◌<◌, None, rules}}
use Rattle.spl_scabbard.specs.Readers.{ids_of}
use Rattle.spl_delta.{specs.Watches.deltas, proofs.Deltas.{one-more, no-more}}
use Rattle.spl_delta.proofs.taker.deltas_from.Goals as goal

pub returns-in_default : goal.returns-in_default
returns-in_default c =
    let none : slice_get (ids_of c.args.service.now) c.loop-left.place ≡ None = search rules in
    no-more c.args.service.now c.loop-left.out
    (deltas c.args.service.now c.args.from c.args.count) c.loop-left.place c.loop-left.left none c.loop-left.invariant

pub loop-left-preserved : goal.loop-left-preserved
loop-left-preserved c =
    let low : 0 < c.loop-left.left = search rules in
    let next =
    one-more c.args.service.now c.loop-left.out
    (deltas c.args.service.now c.args.from c.args.count) c.loop-left.place c.loop-left.left c.in_ok-delta_at.field-0 low c.in_ok-delta_at.ensures
    c.loop-left.invariant in
    rw (c.in_ok-push.ensures.ok, c.in_ok-place.ensures) next

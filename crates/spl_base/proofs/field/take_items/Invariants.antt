use Rattle.std.proofs.Common.{◌≡◌, ◌-◌}
use Rattle.spl_base.{specs.Form.items_at, proofs.Loops.with_prefix}
use Rattle.spl_base.proofs.field.take_items.Given as goal

abbrev pub invariant-loop : goal.invariant-loop
invariant-loop g l = with_prefix l.items (items_at g.T.Field.form.parse (l.count - l.counter) l.r) ≡ items_at g.T.Field.form.parse l.count l.fn.r

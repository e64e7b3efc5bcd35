use Rattle.std.proofs.Common.{◌≡◌, ◌-◌, length}
use Rattle.spl_base.{specs.Form.items_at, proofs.Loops.with_prefix}
use Rattle.spl_proof.specs.Forms.{level}
use Rattle.spl_proof.proofs.codec.take_levels.Given as goal

abbrev pub invariant-loop : goal.invariant-loop
invariant-loop l = (with_prefix l.levels (items_at level.parse (l.count - l.counter) l.r) ≡ items_at level.parse l.count l.fn.r) × (length l.levels ≡ l.counter)

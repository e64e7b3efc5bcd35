use Rattle.std.proofs.Common.{◌≡◌, ◌-◌, length, take}
use Rattle.spl_base.{specs.Form.items_at, proofs.Loops.with_prefix}
use Rattle.spl_proof.specs.Forms.{digest}
use Rattle.spl_proof.proofs.codec.take_level.Given as goal

abbrev pub invariant-loop-i : goal.invariant-loop-i
invariant-loop-i l = (with_prefix (take l.i l.x) (items_at digest.parse (16 - l.i) l.r) ≡ items_at digest.parse 16 l.fn.r) × (length l.x ≡ 16)

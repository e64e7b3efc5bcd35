use Rattle.std.proofs.Common.{◌≡◌, take}
use Rattle.spl_base.proofs.text.is_text.Given as goal

abbrev pub invariant-loop-i : goal.invariant-loop-i
invariant-loop-i l = take l.i l.bytes ≡ take l.i l.text

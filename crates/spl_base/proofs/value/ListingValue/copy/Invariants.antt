use Rattle.std.proofs.Common.{◌≡◌, take}
use Rattle.spl_base.proofs.value.ListingValue.copy.Given as goal

abbrev pub invariant-loop-x : goal.invariant-loop-x
invariant-loop-x g l = l.items ≡ take l.x-index l.x-items

use Rattle.std.{specs.List.flat_map, proofs.Common.{◌≡◌, ◌++◌, take}}
use Rattle.spl_serve.specs.Waits.{unless_accepted}
use Rattle.spl_serve.proofs.waits.append_missing.Given as goal

abbrev pub invariant-loop-member : goal.invariant-loop-member
invariant-loop-member l = l.out.items ≡ l.fn.out.items ++ flat_map (unless_accepted l.words l.accepted) (take l.member-index l.members)

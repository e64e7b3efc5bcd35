use Rattle.std.proofs.Common.{◌≡◌, ◌++◌}
use Rattle.spl_node.proofs.packing.put_pieces.Given as goal

-- those so far
abbrev pub invariant-loop-piece : goal.invariant-loop-piece
invariant-loop-piece l = l.records ≡ l.initial.records ++ l.yielded

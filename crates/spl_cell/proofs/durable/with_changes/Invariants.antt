use Rattle.std.{specs.Prelude.map, proofs.Common.{◌≡◌, ◌++◌}}
use Rattle.spl_cell.proofs.durable.with_changes.Given as goal

-- those so far
abbrev pub invariant-loop-change : goal.invariant-loop-change
invariant-loop-change g l = l.all ≡ l.fn.first ++ map g.L.Lane.kind.change l.yielded

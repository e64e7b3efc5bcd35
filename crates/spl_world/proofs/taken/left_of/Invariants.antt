use Rattle.spl_world.proofs.Common.{◌≤◌, ◌+◌, take, sum}
use Rattle.spl_world.proofs.taken.left_of.Given as goal

-- the numbers so far are taken off
abbrev pub invariant-loop-count : goal.invariant-loop-count
invariant-loop-count l = l.total ≤ l.left + sum (take l.count-index l.row)

use Rattle.std.proofs.Common.{◌≡◌, ◌≤◌, length, take}
use Rattle.spl_memory.specs.Marks.{marks_undone}
use Rattle.spl_memory.proofs.history.old_bytes.Given as goal

pub record IsPutBack (l : goal.Live-loop-left) : Type 0 where
  pub within : l.left ≤ length l.marks
  pub rest : marks_undone (take l.left l.marks) l.old.items ≡ marks_undone l.marks l.bytes

abbrev pub invariant-loop-left : goal.invariant-loop-left
invariant-loop-left l = IsPutBack l

abbrev pub decreases-loop-left : goal.decreases-loop-left
decreases-loop-left l = l.left

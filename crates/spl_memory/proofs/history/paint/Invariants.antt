use Rattle.std.proofs.Common.{◌≡◌, drop, map}
use Rattle.spl_edge.specs.Devices.{filled}
use Rattle.spl_memory.specs.Marks.{range_of}
use Rattle.spl_memory.proofs.history.paint.Given as goal

abbrev pub invariant-loop-mark : goal.invariant-loop-mark
invariant-loop-mark l = filled l.byte (map range_of (drop l.mark-index l.marks)) l.bytes ≡ filled l.byte (map range_of l.marks) l.initial.bytes

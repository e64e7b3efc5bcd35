use Rattle.std.proofs.Common.{◌≤◌, ◌-◌, length, drop}
use Rattle.spl_frame.{specs.Frames.stream_of, proofs.Streams.SameEnd}
use Rattle.spl_frame.proofs.framer.scan.Given as goal

abbrev pub invariant-loop-size : goal.invariant-loop-size
invariant-loop-size l = (l.from ≤ l.at) × (l.at ≤ length l.bytes) × SameEnd (stream_of (drop l.from l.bytes)) (stream_of (drop l.at l.bytes))

abbrev pub decreases-loop-size : goal.decreases-loop-size
decreases-loop-size l = length l.bytes - l.at

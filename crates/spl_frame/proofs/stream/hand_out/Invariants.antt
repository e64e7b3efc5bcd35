use Rattle.std.proofs.Common.{ℕ, List, length}
use Rattle.spl_frame.specs.{Frames.frames_of, Heard.Heard}
use Rattle.spl_frame.proofs.stream.hand_out.Given as goal

abbrev pub invariant-loop-body : goal.invariant-loop-body
invariant-loop-body l = (heard : List ℕ) → Heard heard l.fn.frames l.fn.framer → Heard heard l.frames l.framer

abbrev pub decreases-loop-body : goal.decreases-loop-body
decreases-loop-body l = length (frames_of l.framer)

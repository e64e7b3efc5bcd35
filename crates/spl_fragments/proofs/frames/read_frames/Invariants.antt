use Rattle.std.proofs.Common.{◌≡◌, length, Ok}
use Rattle.spl_frame.specs.Frames.{frames_of}
use Rattle.spl_fragments.specs.Joining.{joined_message, last_answer}
use Rattle.spl_fragments.proofs.frames.read_frames.Given as goal

-- those of the rest end as all of them do
abbrev pub invariant-loop-body : goal.invariant-loop-body
invariant-loop-body l = last_answer l.joiner (Ok l.last) (frames_of l.rest) ≡ joined_message (frames_of l.bytes)

abbrev pub decreases-loop-body : goal.decreases-loop-body
decreases-loop-body l = length l.rest

use Rattle.std.{specs.List.flat_map, proofs.Common.{◌≡◌, ◌++◌, length}}
use Rattle.spl_frame.specs.Frames.{frame}
use Rattle.spl_fragments.specs.Parts.{parts}
use Rattle.spl_fragments.proofs.frames.parts_framed.Given as goal

-- those so far, and those of the rest
abbrev pub invariant-loop-rest : goal.invariant-loop-rest
invariant-loop-rest l = l.frames ++ flat_map frame (parts l.rest) ≡ flat_map frame (parts l.bytes)

abbrev pub decreases-loop-rest : goal.decreases-loop-rest
decreases-loop-rest l = length l.rest

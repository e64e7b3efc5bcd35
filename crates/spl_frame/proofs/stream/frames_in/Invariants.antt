use Rattle.std.{specs.List.flat_map, proofs.Common.{◌≡◌, [], take}}
use Rattle.spl_frame.specs.{Frames.frames_of, Heard.Heard}
use Rattle.spl_frame.proofs.stream.frames_in.Given as goal

abbrev pub invariant-loop-piece : goal.invariant-loop-piece
invariant-loop-piece l = Heard (flat_map (λ p. p) (take l.piece-index l.pieces)) l.frames l.framer × (frames_of l.framer ≡ [])

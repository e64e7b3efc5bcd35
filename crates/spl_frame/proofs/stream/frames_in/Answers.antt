use Rattle.std.{specs.List.flat_map, proofs.{Common.{◌≡◌, ◌+◌, ◌++◌, ◌∷◌, [], List, ℕ, ap, sym, subst, take, ◌∙◌, arith}, lemmas.List.{take_more, take_all}}}
use Rattle.std.proofs.lemmas.List.{flat_map_more}
use Rattle.spl_frame.{specs.{Frames.{frames_of, fault_of}, Heard.Heard}, proofs.Hearing.heard_all}
use Rattle.spl_frame.proofs.stream.frames_in.Goals as goal

pub loop-piece-preserved : goal.loop-piece-preserved
loop-piece-preserved c =
    let pieces = c.args.pieces.now in
    let i = c.loop-piece.piece-index in
    let before : List ℕ = flat_map (λ p. p) (take i pieces) in
    let piece : List ℕ = c.bytes.result.now in
    let item : take (i + 1) pieces ≡ take i pieces ++ piece ∷ [] =
    take_more pieces i c.piece-item.result c.loop-piece-test.true ∙ ap (λ p. take i pieces ++ p ∷ []) (sym (c.bytes.ensures ∙ c.piece-item.is)) in
    let grown : before ++ piece ≡ flat_map (λ p. p) (take (i + 1) pieces) =
    flat_map_more (λ p. p) [] (take i pieces) piece ∙ ap (flat_map (λ p. p)) (sym item) in (
      subst (λ h. Heard h c.hand_out.new.frames c.hand_out.new.framer) grown
          (c.in_ok-hand_out.ensures.heard (before ++ piece) (c.in_ok-hear.ensures before c.loop-piece.frames c.loop-piece.invariant.0)),
      c.in_ok-hand_out.ensures.none,
    )

pub returns-clause-frames : goal.returns-clause-frames
returns-clause-frames c =
    let pieces = c.args.pieces.now in
    let all : take c.loop-piece.piece-index pieces ≡ pieces = take_all c.loop-piece.piece-index pieces (omega (arith, c.loop-piece-test.false)) in
    (heard_all (flat_map (λ p. p)
    (take c.loop-piece.piece-index pieces)) c.loop-piece.framer c.loop-piece.frames c.loop-piece.invariant.0 c.loop-piece.invariant.1).0
    ∙ ap (λ ps. frames_of (flat_map (λ p. p) ps)) all

pub returns-clause-fault : goal.returns-clause-fault
returns-clause-fault c =
    let pieces = c.args.pieces.now in
    let all : take c.loop-piece.piece-index pieces ≡ pieces = take_all c.loop-piece.piece-index pieces (omega (arith, c.loop-piece-test.false)) in
    c.fault.ensures
    ∙ (heard_all (flat_map (λ p. p)
    (take c.loop-piece.piece-index pieces)) c.loop-piece.framer c.loop-piece.frames c.loop-piece.invariant.0 c.loop-piece.invariant.1).1
    ∙ ap (λ ps. fault_of (flat_map (λ p. p) ps)) all

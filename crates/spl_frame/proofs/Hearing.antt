-- What stays true while a stream is heard.
use Rattle.std.proofs.Common.{◌≡◌, ℕ, List, [], ◌∷◌, ◌++◌, Some, sym, ap, ◌∙◌, append_assoc}
use Rattle.spl_frame.{specs.{Frames.{stream_of, frames_of, fault_of, after}, Heard.Heard, declared.fault.FrameFault.FrameFault}, proofs.Streams.stream_append}
use Rattle.spl_frame.proofs.Streams.{after_fault, nil_of, append_nil}

-- a piece without a fault
pub heard_more : (old piece heard : List ℕ) (frames : List (List ℕ)) → Heard heard frames old → Heard (heard ++ piece) frames (old ++ piece)
heard_more old piece heard frames h more =
    let all = append_assoc heard piece more in
    let left = append_assoc old piece more in
    let s = h (piece ++ more) in (
      ap (λ b. (stream_of b).frames) all ∙ s.0 ∙ ap (λ b. frames ++ (stream_of b).frames) (sym left),
      ap (λ b. (stream_of b).fault) all ∙ s.1 ∙ ap (λ b. (stream_of b).fault) (sym left),
    )

-- bytes that have the same frames and the same fault
pub heard_fault : (old piece new heard : List ℕ) (frames : List (List ℕ)) (e : FrameFault) → fault_of (old ++ piece) ≡ Some e
    → frames_of new ≡ frames_of (old ++ piece) → fault_of new ≡ Some e → Heard heard frames old → Heard (heard ++ piece) frames new
heard_fault old piece new heard frames e f g k h more =
    let s = heard_more old piece heard frames h more in
    let a = after_fault (old ++ piece) more e f in
    let b = after_fault new more e k in
    (s.0 ∙ ap (λ fs. frames ++ fs) (a.0 ∙ sym g ∙ sym b.0), s.1 ∙ a.1 ∙ sym b.1)

-- a frame at the beginning stays there, whatever comes
pub first_frame_stays : (old new body more : List ℕ) → stream_of old ≡ after body (stream_of new)
    → stream_of (old ++ more) ≡ after body (stream_of (new ++ more))
first_frame_stays old new body more e =
    stream_append more old
    ∙ ap (λ s. record {
      frames = s.frames
          ++ (stream_of (s.rest ++ more)).frames;
      rest = (stream_of (s.rest ++ more)).rest;
      fault = (stream_of (s.rest ++ more)).fault;
    }) e
    ∙ ap (after body) (sym (stream_append more new))

-- a frame is handed out
pub heard_frame : (old new body heard : List ℕ) (frames : List (List ℕ)) → stream_of old ≡ after body (stream_of new) → Heard heard frames old
    → Heard heard (frames ++ body ∷ []) new
heard_frame old new body heard frames e h more =
    let s = first_frame_stays old new body more e in (
      (h more).0 ∙ ap (λ t. frames ++ t.frames) s ∙ sym (append_assoc frames (body ∷ []) (stream_of (new ++ more)).frames),
      (h more).1 ∙ ap (λ t. t.fault) s,
    )

-- at the end
pub heard_all : (heard left : List ℕ) (frames : List (List ℕ)) → Heard heard frames left → frames_of left ≡ []
    → (frames ≡ frames_of heard) × (fault_of left ≡ fault_of heard)
heard_all heard left frames h e =
    let s = h [] in
    let all = nil_of heard in
    let rest = nil_of left in (
      sym (ap (λ b. (stream_of b).frames) (sym all) ∙ s.0 ∙ ap (λ b. frames ++ (stream_of b).frames) rest ∙ ap (λ fs. frames ++ fs) e ∙ append_nil frames),
      sym (ap (λ b. (stream_of b).fault) (sym all) ∙ s.1 ∙ ap (λ b. (stream_of b).fault) rest),
    )

-- The frames of what was put, and of a prefix of it.
use Rattle.std.{specs.List.{All, flat_map}, proofs.Common.{◌≡◌, ◌≤◌, ℕ, List, [], ◌∷◌, ◌++◌, length, take, drop, Option, Some, None, Ok, Err, refl, sym, ap}}
use Rattle.std.proofs.{Common.{subst, ◌∙◌, append-nil, arith}, lemmas.List.{Concat.{flat_map-append, flat_map-cons}, Elements.{All-append, All-cons}}}
use Rattle.std.proofs.lemmas.List.Elements.{All-head, All-nil}
use Rattle.spl_frame.specs.{Frames.{IsBody, after, fault_of, frame, frames_of, stream_of}, declared.fault.FrameFault.FrameFault}
use Rattle.spl_frame.{specs.declared.header.TheConstants.LONGEST_BODY, proofs.{FirstFrames.{IsWhole, body_length, first_frame_whole}, Streams.after_fault}}
use Rattle.spl_frame.proofs.Streams.{by_first_frame, joined, read_frames, stream_append, stream_is}
use Rattle.spl_fragments.specs.Parts.{IsSized, message_bodies}
use Rattle.spl_wire.specs.{Forms.message_form, declared.message.Message.Message}
use Rattle.spl_talk.specs.Connections.{message_frames}

-- ---- a frame's body is short

body_short : (bytes : List ℕ) (n : ℕ) → IsWhole bytes n → IsBody (drop 6 (take n bytes))
body_short bytes n w = omega (arith, body_length bytes n w, w.short)

pub frames_short : (bytes : List ℕ) → All IsBody (frames_of bytes)
frames_short = by_first_frame (λ bytes. All IsBody (frames_of bytes))
    (λ bytes e. subst (λ s. All IsBody s.frames) (sym (stream_is bytes (Ok None) e)) (All-nil IsBody))
    (λ bytes f e. subst (λ s. All IsBody s.frames) (sym (stream_is bytes (Err f) e)) (All-nil IsBody))
    (λ bytes n e more. subst (λ s. All IsBody s.frames) (sym (stream_is bytes (Ok (Some n)) e))
    (All-cons IsBody (drop 6 (take n bytes)) (frames_of (drop n bytes)) (body_short bytes n (first_frame_whole bytes n e)) more))

-- the first one
pub first_short : (old new body : List ℕ) → stream_of old ≡ after body (stream_of new) → length body ≤ LONGEST_BODY
first_short old new body is = All-head IsBody body (frames_of new) (subst (λ s. All IsBody s.frames) is (frames_short old))

-- ---- a prefix of frames

some_fault : FrameFault → Option FrameFault
some_fault f = Some f

none_or_some : (f : FrameFault) (o : Option FrameFault) → o ≡ Some f → o ≡ None → ⊥
none_or_some f o some none = absurd cc

pub record StartsFrames (bs : List (List ℕ)) (came : List ℕ) : Type 0 where
  pub left : List (List ℕ)
  pub frames : frames_of came ++ left ≡ bs
  pub fault : fault_of came ≡ None

-- what is left has no frame where all bytes came
pub frames_of_prefix : (bs : List (List ℕ)) (came left : List ℕ) → All IsBody bs → came ++ left ≡ flat_map frame bs → StartsFrames bs came
frames_of_prefix bs came left sized is =
    let whole : stream_of (flat_map frame bs) ≡ joined bs (stream_of []) = ap stream_of (sym (append-nil (flat_map frame bs))) ∙ read_frames bs [] sized in
    let split : joined (frames_of came) (stream_of ((stream_of came).rest ++ left)) ≡ joined bs (stream_of []) =
    sym (stream_append left came) ∙ ap stream_of is ∙ whole in
    let none : fault_of (came ++ left) ≡ None = ap (λ s. s.fault) (ap stream_of is ∙ whole) in
    record {
      left = frames_of ((stream_of came).rest ++ left);
      frames = ap (λ s. s.frames) split ∙ append-nil bs;
      fault = by (fault_of came) refl none;
    }
  where
    by : (o : Option FrameFault) → fault_of came ≡ o → fault_of (came ++ left) ≡ None → fault_of came ≡ None
    by None e none = e
    by (Some f) e none = absurd (none_or_some f (fault_of (came ++ left)) (after_fault came left f e).1 none)

pub frames_of_all : (bs : List (List ℕ)) → All IsBody bs → frames_of (flat_map frame bs) ≡ bs
frames_of_all bs sized = ap (λ l. frames_of l) (sym (append-nil (flat_map frame bs))) ∙ ap (λ s. s.frames) (read_frames bs [] sized) ∙ append-nil bs

-- ---- the bodies of messages

abbrev pub bodies_of : Message → List (List ℕ)
bodies_of m = message_bodies (message_form.spell m)

-- the frames of their bodies are those of messages
pub framed_bodies : (ms : List Message) → flat_map frame (flat_map bodies_of ms) ≡ flat_map message_frames ms
framed_bodies [] = refl
framed_bodies (m ∷ ms) =
    ap (flat_map frame) (flat_map-cons bodies_of m ms)
    ∙ flat_map-append frame (bodies_of m) (flat_map bodies_of ms)
    ∙ ap (λ (l : List ℕ). message_frames m ++ l) (framed_bodies ms)
    ∙ sym (flat_map-cons message_frames m ms)

-- a greeting and messages
pub framed : (greeting : List ℕ) (ms : List Message) → frame greeting ++ flat_map message_frames ms ≡ flat_map frame (greeting ∷ flat_map bodies_of ms)
framed greeting ms = ap (λ (l : List ℕ). frame greeting ++ l) (sym (framed_bodies ms)) ∙ sym (flat_map-cons frame greeting (flat_map bodies_of ms))

sized_short : (bs : List (List ℕ)) → All IsSized bs → All IsBody bs
sized_short bs sized = λ k d within. (sized k d within).most

pub bodies_short : ((m : Message) → All IsSized (bodies_of m)) → (ms : List Message) → All IsBody (flat_map bodies_of ms)
bodies_short sized [] = All-nil IsBody
bodies_short sized (m ∷ ms) =
    subst (All IsBody) (sym (flat_map-cons bodies_of m ms))
    (All-append IsBody (bodies_of m) (flat_map bodies_of ms) (sized_short (bodies_of m) (sized m)) (bodies_short sized ms))

-- How a stream is cut into frames.
use Rattle.std.{specs.List.{flat_map, All}, proofs.Common.{◌≡◌, ℕ, zero, suc, ◌+◌, ◌≤◌, List, [], ◌∷◌, ◌++◌, length, take, drop, Option, Some, None, Result}}
use Rattle.std.proofs.{Common.{Ok, Err, refl, sym, ap, subst, ◌∙◌, append_assoc, arith}, lemmas.List.{take_at, drop_at, length-drop, take-append-le}}
use Rattle.std.proofs.lemmas.List.{drop-append-le, Concat.flat_map-cons, Elements.{All-nil, All-cons, All-head, All-tail}}
use Rattle.spl_base.specs.{Form.IsBytes, FormLaws.IsBytes-drop}
use Rattle.spl_frame.specs.Frames.{frame, IsBody, first_frame, Stream, after, stream_by, stream_within, stream_of, IsPart, EndsIn, IsStream}
use Rattle.spl_frame.{specs.declared.fault.FrameFault.{FrameFault, TheVariants.NoMemory}, proofs.FirstFrames.{first_frame_whole, whole_first_frame}}
use Rattle.spl_frame.proofs.FirstFrames.{first_frame_grows, fault_grows, frame_is_whole, shown_first_frame, whole_is_frame, body_length, first_frame_shows}
use Rattle.spl_frame.proofs.FirstFrames.{first_frame_faulty}

abbrev done : Option ℕ → Result (Option ℕ) FrameFault
done n = Ok n

other_size : (n : ℕ) → done None ≡ done (Some n) → ⊥
other_size n e = absurd cc

other_fault : (f : FrameFault) → done None ≡ Err f → ⊥
other_fault f e = absurd cc

pub append_nil : (xs : List (List ℕ)) → xs ++ [] ≡ xs
append_nil [] = refl
append_nil (x ∷ xs) = ap (λ r. x ∷ r) (append_nil xs)

-- ---- however many frames are looked for

same_by : (r : Result (Option ℕ) FrameFault) (f g : List ℕ → Stream) (bytes : List ℕ) → ((n : ℕ) → r ≡ Ok (Some n) → f (drop n bytes) ≡ g (drop n bytes))
    → stream_by r f bytes ≡ stream_by r g bytes
same_by (Err e) f g bytes h = refl
same_by (Ok None) f g bytes h = refl
same_by (Ok (Some n)) f g bytes h = ap (after (drop 6 (take n bytes))) (h n refl)

shorter : (k n : ℕ) (bytes : List ℕ) → first_frame bytes ≡ Ok (Some n) → length bytes ≤ suc k → length (drop n bytes) ≤ k
shorter k n bytes e l = let w = first_frame_whole bytes n e in omega (arith, length-drop n bytes, w.size, w.there, l)

same_within : (k m : ℕ) (bytes : List ℕ) → length bytes ≤ k → length bytes ≤ m → stream_within k bytes ≡ stream_within m bytes
same_within zero zero bytes l r = refl
same_within zero (suc m) [] l r = refl
same_within zero (suc m) (x ∷ xs) l r = absurd (omega (arith, l))
same_within (suc k) zero [] l r = refl
same_within (suc k) zero (x ∷ xs) l r = absurd (omega (arith, r))
same_within (suc k) (suc m) bytes l r =
    same_by (first_frame bytes) (stream_within k) (stream_within m) bytes
    (λ n e. same_within k m (drop n bytes) (shorter k n bytes e l) (shorter m n bytes e r))

pub stream_first_frame : (bytes : List ℕ) → stream_of bytes ≡ stream_by (first_frame bytes) stream_of bytes
stream_first_frame bytes =
    same_within (length bytes) (suc (length bytes)) bytes (omega arith) (omega arith)
    ∙ same_by (first_frame bytes) (stream_within (length bytes)) stream_of bytes
    (λ n e. same_within (length bytes) (length (drop n bytes)) (drop n bytes) (omega (arith, length-drop n bytes)) (omega arith))

pub stream_is : (bytes : List ℕ) (r : Result (Option ℕ) FrameFault) → first_frame bytes ≡ r → stream_of bytes ≡ stream_by r stream_of bytes
stream_is bytes r e = stream_first_frame bytes ∙ ap (λ v. stream_by v stream_of bytes) e

-- by the beginning, or by the bytes after the frame there
pub by_first_frame : (P : List ℕ → Type 0)
    → ((bytes : List ℕ) → first_frame bytes ≡ Ok None → P bytes)
    → ((bytes : List ℕ) (e : FrameFault) → first_frame bytes ≡ Err e → P bytes)
    → ((bytes : List ℕ) (n : ℕ) → first_frame bytes ≡ Ok (Some n) → P (drop n bytes) → P bytes)
    → (bytes : List ℕ) → P bytes
by_first_frame P part fault more bytes = down (length bytes) bytes (omega arith) (first_frame bytes) refl
  where
    down : (k : ℕ) (bytes : List ℕ) → length bytes ≤ k → (r : Result (Option ℕ) FrameFault) → first_frame bytes ≡ r → P bytes
    down k bytes l (Ok None) e = part bytes e
    down k bytes l (Err f) e = fault bytes f e
    down zero bytes l (Ok (Some n)) e = absurd (let w = first_frame_whole bytes n e in omega (arith, w.size, w.there, l))
    down (suc k) bytes l (Ok (Some n)) e = more bytes n e (down k (drop n bytes) (shorter k n bytes e l) (first_frame (drop n bytes)) refl)

-- ---- more bytes after

abbrev pub joined : List (List ℕ) → Stream → Stream
joined fs s = record { frames = fs ++ s.frames; rest = s.rest; fault = s.fault }

pub stream_append : (ys xs : List ℕ) → stream_of (xs ++ ys) ≡ joined (stream_of xs).frames (stream_of ((stream_of xs).rest ++ ys))
stream_append ys = by_first_frame (λ xs. stream_of (xs ++ ys) ≡ joined (stream_of xs).frames (stream_of ((stream_of xs).rest ++ ys)))
    (λ xs e. sym (ap (λ s. joined s.frames (stream_of (s.rest ++ ys))) (stream_is xs (Ok None) e)))
    (λ xs f e. sym (ap (λ s. joined s.frames (stream_of (s.rest ++ ys))) (stream_is xs (Err f) e)))
    (λ xs n e h.
    let w = first_frame_whole xs n e in
    let le : n ≤ length xs = w.there in
    stream_is (xs ++ ys) (Ok (Some n)) (first_frame_grows xs ys n e)
    ∙ ap (λ t. after (drop 6 t) (stream_of (drop n (xs ++ ys)))) (take-append-le n xs ys le)
    ∙ ap (λ t. after (drop 6 (take n xs)) (stream_of t)) (drop-append-le n xs ys le)
    ∙ ap (after (drop 6 (take n xs))) h
    ∙ sym (ap (λ s. joined s.frames (stream_of (s.rest ++ ys))) (stream_is xs (Ok (Some n)) e)))

-- what the prefix of the rest is
abbrev pub ended : Option FrameFault → Result (Option ℕ) FrameFault
ended None = Ok None
ended (Some e) = Err e

pub rest_first_frame : (xs : List ℕ) → first_frame (stream_of xs).rest ≡ ended (stream_of xs).fault
rest_first_frame = by_first_frame (λ xs. first_frame (stream_of xs).rest ≡ ended (stream_of xs).fault)
    (λ xs e. subst (λ s. first_frame s.rest ≡ ended s.fault) (sym (stream_is xs (Ok None) e)) e)
    (λ xs f e. subst (λ s. first_frame s.rest ≡ ended s.fault) (sym (stream_is xs (Err f) e)) e)
    (λ xs n e h. subst (λ s. first_frame s.rest ≡ ended s.fault) (sym (stream_is xs (Ok (Some n)) e)) h)

-- after a fault nothing changes
pub after_fault : (xs ys : List ℕ) (f : FrameFault) → (stream_of xs).fault ≡ Some f
    → ((stream_of (xs ++ ys)).frames ≡ (stream_of xs).frames) × ((stream_of (xs ++ ys)).fault ≡ Some f)
after_fault xs ys f e =
    let shown = fault_grows (stream_of xs).rest ys f (rest_first_frame xs ∙ ap ended e) in
    let all = stream_append ys xs ∙ ap (joined (stream_of xs).frames) (stream_is ((stream_of xs).rest ++ ys) (Err f) shown) in
    (ap (λ s. s.frames) all ∙ append_nil (stream_of xs).frames, ap (λ s. s.fault) all)

-- ---- frames are read back

pub read_frame : (body rest : List ℕ) → IsBody body → stream_of (frame body ++ rest) ≡ after body (stream_of rest)
read_frame body rest l =
    let n : ℕ = 6 + length body in
    let size : length (frame body) ≡ 6 + length body = omega arith in
    stream_is (frame body ++ rest) (Ok (Some (6 + length body))) (whole_first_frame (frame body ++ rest) (6 + length body) (frame_is_whole body rest l))
    ∙ ap (λ t. after (drop 6 t) (stream_of (drop (6 + length body) (frame body ++ rest)))) (take_at (frame body) rest (6 + length body) size)
    ∙ ap (λ t. after body (stream_of t)) (drop_at (frame body) rest (6 + length body) size)

pub read_frames : (bodies : List (List ℕ)) (rest : List ℕ) → All IsBody bodies → stream_of (flat_map frame bodies ++ rest) ≡ joined bodies (stream_of rest)
read_frames [] rest h = refl
read_frames (b ∷ bs) rest h =
    ap (λ r. stream_of (r ++ rest)) (flat_map-cons frame b bs)
    ∙ ap stream_of (append_assoc (frame b) (flat_map frame bs) rest)
    ∙ read_frame b (flat_map frame bs ++ rest) (All-head IsBody b bs h)
    ∙ ap (after b) (read_frames bs rest (All-tail IsBody b bs h))

-- ---- one reading

part : (bytes : List ℕ) → first_frame bytes ≡ Ok None → IsPart bytes
part bytes e = record {
  no_frame =
      λ body more l is. other_size (6 + length body)
      (sym e ∙ ap first_frame is ∙ whole_first_frame (frame body ++ more) (6 + length body) (frame_is_whole body more l));
  no_fault = λ f s. other_fault f (sym e ∙ shown_first_frame f bytes s);
}

part_by : (bytes : List ℕ) (r : Result (Option ℕ) FrameFault) → first_frame bytes ≡ r → IsBytes bytes → IsPart bytes → first_frame bytes ≡ Ok None
part_by bytes (Ok None) e h p = e
part_by bytes (Err f) e h p = absurd (p.no_fault f (first_frame_shows f bytes h e))
part_by bytes (Ok (Some n)) e h p =
    let w = first_frame_whole bytes n e in
    absurd (p.no_frame (drop 6 (take n bytes)) (drop n bytes) (omega (arith, body_length bytes n w, w.short)) (whole_is_frame bytes n h w))

end_first_frame : (fault : Option FrameFault) (bytes : List ℕ) → IsBytes bytes → EndsIn fault bytes → first_frame bytes ≡ ended fault
end_first_frame None bytes h p = part_by bytes (first_frame bytes) refl h p
end_first_frame (Some f) bytes h s = shown_first_frame f bytes s

end_stream : (fault : Option FrameFault) (bytes : List ℕ) → first_frame bytes ≡ ended fault
    → stream_of bytes ≡ record { frames = []; rest = bytes; fault = fault }
end_stream None bytes e = stream_is bytes (Ok None) e
end_stream (Some f) bytes e = stream_is bytes (Err f) e

pub one_reading : (bytes : List ℕ) (s : Stream) → IsBytes bytes → IsStream bytes s → stream_of bytes ≡ s
one_reading bytes s h is =
    let size : length (flat_map frame s.frames) ≡ length (flat_map frame s.frames) = refl in
    let rest : drop (length (flat_map frame s.frames)) bytes ≡ s.rest =
    ap (drop (length (flat_map frame s.frames))) is.whole ∙ drop_at (flat_map frame s.frames) s.rest (length (flat_map frame s.frames)) refl in
    let bytes_there : IsBytes s.rest = subst IsBytes rest (IsBytes-drop (length (flat_map frame s.frames)) bytes h) in
    ap stream_of is.whole
    ∙ read_frames s.frames s.rest is.bodies
    ∙ ap (joined s.frames) (end_stream s.fault s.rest (end_first_frame s.fault s.rest bytes_there is.ending))
    ∙ ap (λ fs. record { frames = fs; rest = s.rest; fault = s.fault }) (append_nil s.frames)

pub stream_is_read : (bytes : List ℕ) → IsBytes bytes → IsStream bytes (stream_of bytes)
stream_is_read = by_first_frame (λ bytes. IsBytes bytes → IsStream bytes (stream_of bytes))
    (λ bytes e h. subst (IsStream bytes) (sym (stream_is bytes (Ok None) e)) (record { whole = refl; bodies = All-nil IsBody; ending = part bytes e }))
    (λ bytes f e h. subst (IsStream bytes) (sym (stream_is bytes (Err f) e))
    (record { whole = refl; bodies = All-nil IsBody; ending = first_frame_shows f bytes h e }))
    (λ bytes n e further h.
    let w = first_frame_whole bytes n e in
    let body : List ℕ = drop 6 (take n bytes) in
    let s = further (IsBytes-drop n bytes h) in
    subst (IsStream bytes) (sym (stream_is bytes (Ok (Some n)) e)) (record {
      whole = whole_is_frame bytes n h w ∙ ap (λ r. frame body ++ r) s.whole
          ∙ sym (append_assoc (frame body) (flat_map frame (stream_of (drop n bytes)).frames) (stream_of (drop n bytes)).rest)
          ∙ ap (λ r. r ++ (stream_of (drop n bytes)).rest) (sym (flat_map-cons frame body (stream_of (drop n bytes)).frames));
      bodies = All-cons IsBody body (stream_of (drop n bytes)).frames (omega (arith, body_length bytes n w, w.short)) s.bodies;
      ending = s.ending;
    }))

-- ---- what a walk over the buffer keeps

-- what stands after the frames from one place on, seen from a later one
abbrev pub SameEnd : Stream → Stream → Type 0
SameEnd s t = (s.rest ≡ t.rest) × (s.fault ≡ t.fault)

pub end_more : (bytes : List ℕ) (n : ℕ) → first_frame bytes ≡ Ok (Some n) → SameEnd (stream_of bytes) (stream_of (drop n bytes))
end_more bytes n e = let s = stream_is bytes (Ok (Some n)) e in (ap (λ s. s.rest) s, ap (λ s. s.fault) s)

-- bytes that come after the rest
pub end_append : (ys xs : List ℕ) → SameEnd (stream_of (xs ++ ys)) (stream_of ((stream_of xs).rest ++ ys))
end_append ys xs = let s = stream_append ys xs in (ap (λ s. s.rest) s, ap (λ s. s.fault) s)

pub end_part : (bytes : List ℕ) (f : Option FrameFault) → first_frame bytes ≡ ended f
    → SameEnd (stream_of bytes) (record { frames = []; rest = bytes; fault = f })
end_part bytes f e = let s = end_stream f bytes e in (ap (λ s. s.rest) s, ap (λ s. s.fault) s)

pub nil_of : (xs : List ℕ) → xs ++ [] ≡ xs
nil_of [] = refl
nil_of (x ∷ xs) = ap (λ r. x ∷ r) (nil_of xs)

pub frames_back : (bodies : List (List ℕ)) → All IsBody bodies → (stream_of (flat_map frame bodies)).frames ≡ bodies
frames_back bodies h =
    ap (λ r. (stream_of r).frames) (sym (nil_of (flat_map frame bodies)))
    ∙ ap (λ s. s.frames) (read_frames bodies [] h)
    ∙ append_nil bodies

pub rest_short : (bytes : List ℕ) → length (stream_of bytes).rest ≤ length bytes
rest_short = by_first_frame (λ bytes. length (stream_of bytes).rest ≤ length bytes)
    (λ bytes e. subst (λ s. length s.rest ≤ length bytes) (sym (stream_is bytes (Ok None) e)) (omega arith))
    (λ bytes f e. subst (λ s. length s.rest ≤ length bytes) (sym (stream_is bytes (Err f) e)) (omega arith))
    (λ bytes n e h. subst (λ s. length s.rest ≤ length bytes) (sym (stream_is bytes (Ok (Some n)) e)) (omega (arith, h, length-drop n bytes)))

pub frames_after_fault : (xs ys : List ℕ) (f : FrameFault) → (stream_of xs).fault ≡ Some f → (stream_of xs).frames ≡ (stream_of (xs ++ ys)).frames
frames_after_fault xs ys f e = sym (after_fault xs ys f e).0

pub fault_after_fault : (xs ys : List ℕ) (f : FrameFault) → (stream_of xs).fault ≡ Some f → (stream_of (xs ++ ys)).fault ≡ Some f
fault_after_fault xs ys f e = (after_fault xs ys f e).1

-- running out of memory is no fault of a stream
pub fault_is_real : (xs : List ℕ) → (stream_of xs).fault ≡ Some NoMemory → ⊥
fault_is_real xs e = first_frame_faulty (stream_of xs).rest NoMemory (rest_first_frame xs ∙ ap ended e)

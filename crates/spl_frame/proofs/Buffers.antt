-- What a framer keeps, as its buffer changes.
use Rattle.std.proofs.{Common.{◌≡◌, ℕ, ◌+◌, ◌-◌, ◌≤◌, List, ◌++◌, length, drop, Option, sym, ap, ◌∙◌, arith}, lemmas.List.{length-drop, drop-append-le}}
use Rattle.std.proofs.lemmas.List.{drop-drop}
use Rattle.spl_frame.{specs.{Frames.{stream_of, after}, Buffer.IsBuffer, declared.fault.FrameFault.FrameFault}, proofs.Streams.{end_append, rest_short}}

-- the bytes that were handed out are dropped
pub compacted : (bytes : List ℕ) (start end : ℕ) (fault : Option FrameFault) → IsBuffer bytes start end fault
    → IsBuffer (drop start bytes) 0 (end - start) fault
compacted bytes start end fault b = record {
  order = omega arith;
  within = omega (arith, b.order, b.within, length-drop start bytes);
  after = b.after ∙ ap (λ n. drop n bytes) (omega (arith, b.order)) ∙ sym (drop-drop (end - start) start bytes);
  shows = b.shows;
}

-- a frame is handed out
pub handed_out : (bytes : List ℕ) (start end : ℕ) (fault : Option FrameFault) (body : List ℕ) → IsBuffer bytes start end fault
    → 6 + length body ≤ length (drop start bytes) → stream_of (drop start bytes) ≡ after body (stream_of (drop (6 + length body) (drop start bytes)))
    → IsBuffer bytes (start + (6 + length body)) end fault
handed_out bytes start end fault body b l e =
    let n : ℕ = 6 + length body in
    let same : drop (6 + length body) (drop start bytes) ≡ drop (start + (6 + length body)) bytes = drop-drop (6 + length body) start bytes in
    let rest : (stream_of (drop (start + (6 + length body)) bytes)).rest ≡ drop end bytes =
    ap (λ r. (stream_of r).rest) (sym same) ∙ sym (ap (λ s. s.rest) e) ∙ b.after in
    record {
      order = omega (
        arith,
        b.order,
        b.within,
        l,
        length-drop start bytes,
        length-drop end bytes,
        length-drop (start + (6 + length body)) bytes,
        ap length rest,
        rest_short (drop (start + (6 + length body)) bytes),
      );
      within = b.within;
      after = rest;
      shows = ap (λ r. (stream_of r).fault) (sym same) ∙ sym (ap (λ s. s.fault) e) ∙ b.shows;
    }

-- a piece is appended, and the frames in it are walked over
pub grown : (bytes piece : List ℕ) (start end : ℕ) (fault : Option FrameFault) (further : ℕ) (found : Option FrameFault) → IsBuffer bytes start end fault
    → end ≤ further → further ≤ length (bytes ++ piece) → (stream_of (drop end (bytes ++ piece))).rest ≡ drop further (bytes ++ piece)
    → (stream_of (drop end (bytes ++ piece))).fault ≡ found → IsBuffer (bytes ++ piece) start further found
grown bytes piece start end fault further found b le within rest shows =
    let from_start : drop start (bytes ++ piece) ≡ drop start bytes ++ piece = drop-append-le start bytes piece (omega (arith, b.order, b.within)) in
    let from_end : drop end (bytes ++ piece) ≡ (stream_of (drop start bytes)).rest ++ piece =
    drop-append-le end bytes piece b.within ∙ ap (λ r. r ++ piece) (sym b.after) in
    let same = end_append piece (drop start bytes) in
    record {
      order = omega (arith, b.order, le);
      within = within;
      after = ap (λ r. (stream_of r).rest) from_start ∙ same.0 ∙ ap (λ r. (stream_of r).rest) (sym from_end) ∙ rest;
      shows = ap (λ r. (stream_of r).fault) from_start ∙ same.1 ∙ ap (λ r. (stream_of r).fault) (sym from_end) ∙ shows;
    }

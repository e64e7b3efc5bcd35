-- The frames of the bodies of a message.
use Rattle.std.{specs.List.flat_map, proofs.Common.{◌≡◌, ℕ, zero, suc, ◌+◌, ◌<◌, ◌≤◌, ◌⊎◌, inl, inr, Bool, true, false, cond, ltb, List, [], ◌∷◌, ◌++◌}}
use Rattle.std.proofs.Common.{length, take, drop, Option, Result, Err, refl, sym, ap, ◌∙◌, append_assoc, append-nil, length-append, arith}
use Rattle.std.proofs.lemmas.{Bool.{lt-ltb, le-ltb, ltb-true, ltb-false, cases_Bool}, List.{length-take-le, Concat.flat_map-cons}}
use Rattle.spl_frame.specs.{Frames.frame, declared.header.TheConstants.LONGEST_BODY}
use Rattle.spl_wire.specs.declared.message.Message.{Message}
use Rattle.spl_fragments.specs.{Parts.{message_bodies, cut_parts, parts}, Joining.{Joining, joining_after, after_by, join_answer, content, last_answer}}
use Rattle.spl_fragments.{specs.declared.{bodies.TheConstants.{LONGEST_PART, MORE, LAST}, fault.JoinFault.JoinFault}, proofs.Cuts.{cut_more, cut_last}}
use Rattle.spl_fragments.proofs.Joins.{fault_stays}

pub frames_go_on : (done rest all : List ℕ) → LONGEST_PART < length rest → done ++ flat_map frame (parts rest) ≡ all
    → (done ++ frame (MORE ∷ take LONGEST_PART rest)) ++ flat_map frame (parts (drop LONGEST_PART rest)) ≡ all
frames_go_on done rest all long is =
    append_assoc done (frame (MORE ∷ take LONGEST_PART rest)) (flat_map frame (parts (drop LONGEST_PART rest)))
    ∙ ap (λ (l : List ℕ). done ++ l)
    (sym (flat_map-cons frame (MORE ∷ take LONGEST_PART rest) (parts (drop LONGEST_PART rest)))
    ∙ ap (flat_map frame) (sym (cut_more LONGEST_PART rest (omega arith) long)))
    ∙ is

one : (body : List ℕ) → flat_map frame (body ∷ []) ≡ frame body
one body = flat_map-cons frame body [] ∙ append-nil (frame body)

pub frames_end : (done rest all : List ℕ) → length rest ≤ LONGEST_PART → done ++ flat_map frame (parts rest) ≡ all → done ++ frame (LAST ∷ rest) ≡ all
frames_end done rest all short is =
    ap (λ (l : List ℕ). done ++ l) (sym (one (LAST ∷ rest)) ∙ ap (flat_map frame) (sym (cut_last LONGEST_PART rest (omega arith) short))) ∙ is

pub whole_framed : (bytes : List ℕ) → length bytes ≤ LONGEST_BODY → frame bytes ≡ flat_map frame (message_bodies bytes)
whole_framed bytes short = sym (ap (λ (b : Bool). flat_map frame (cond b (parts bytes) (bytes ∷ []))) (le-ltb LONGEST_BODY (length bytes) short) ∙ one bytes)

pub parts_framed : (bytes : List ℕ) → LONGEST_BODY < length bytes → flat_map frame (parts bytes) ≡ flat_map frame (message_bodies bytes)
parts_framed bytes long = sym (ap (λ (b : Bool). flat_map frame (cond b (parts bytes) (bytes ∷ []))) (lt-ltb LONGEST_BODY (length bytes) long))

-- ---- how long frames are

cut_some : (n k : ℕ) (bytes : List ℕ) → 1 ≤ length (flat_map frame (cut_parts n k bytes))
cut_some n k bytes = some (cut_parts n k bytes) (begins n k bytes)
  where
    Some : List (List ℕ) → Type 0
    Some bs = (b : List ℕ) × (others : List (List ℕ)) × (bs ≡ b ∷ others)

    by : (n k : ℕ) (bytes : List ℕ) (b : Bool) → Some (cond b ((MORE ∷ take n bytes) ∷ cut_parts n k (drop n bytes)) ((LAST ∷ bytes) ∷ []))
    by n k bytes true = (MORE ∷ take n bytes, cut_parts n k (drop n bytes), refl)
    by n k bytes false = (LAST ∷ bytes, [], refl)

    begins : (n k : ℕ) (bytes : List ℕ) → Some (cut_parts n k bytes)
    begins n zero bytes = (LAST ∷ bytes, [], refl)
    begins n (suc k) bytes = by n k bytes (ltb n (length bytes))

    some : (bs : List (List ℕ)) → Some bs → 1 ≤ length (flat_map frame bs)
    some bs (b, others, is) =
        omega (
          arith,
          ap (λ (l : List (List ℕ)). length (flat_map frame l)) is,
          ap length (flat_map-cons frame b others),
          length-append (frame b) (flat_map frame others),
        )

-- parts take more than a frame has
parts_long : (bytes : List ℕ) → LONGEST_BODY < length bytes → LONGEST_BODY + 6 < length (flat_map frame (parts bytes))
parts_long bytes long =
    let more = cut_more LONGEST_PART bytes (omega arith) (omega (arith, long)) in
    let first : List ℕ = MORE ∷ take LONGEST_PART bytes in
    let others : List (List ℕ) = cut_parts LONGEST_PART (length (drop LONGEST_PART bytes)) (drop LONGEST_PART bytes) in
    let size : length (take LONGEST_PART bytes) ≡ LONGEST_PART = length-take-le LONGEST_PART bytes (omega (arith, long)) in
    omega (
      arith,
      ap (λ (l : List (List ℕ)). length (flat_map frame l)) more,
      ap length (flat_map-cons frame first others),
      length-append (frame first) (flat_map frame others),
      size,
      cut_some LONGEST_PART (length (drop LONGEST_PART bytes)) (drop LONGEST_PART bytes),
    )

-- what is no longer than a frame is one
pub one_framed : (bytes : List ℕ) → length (flat_map frame (message_bodies bytes)) ≤ LONGEST_BODY + 6 → flat_map frame (message_bodies bytes) ≡ frame bytes
one_framed bytes short = by (cases_Bool (ltb LONGEST_BODY (length bytes)))
  where
    by : (ltb LONGEST_BODY (length bytes) ≡ true) ⊎ (ltb LONGEST_BODY (length bytes) ≡ false) → flat_map frame (message_bodies bytes) ≡ frame bytes
    by (inl e) =
        let long = ltb-true LONGEST_BODY (length bytes) e in
        absurd (omega (arith, parts_long bytes long, short, ap length (parts_framed bytes long)))
    by (inr e) = sym (whole_framed bytes (ltb-false LONGEST_BODY (length bytes) e))

-- ---- one frame after another

pub joins_next : (j k : Joining) (last found : Result (Option Message) JoinFault) (b : List ℕ) (bs : List (List ℕ)) (all : Result (Option Message) JoinFault)
    → found ≡ join_answer j b → k ≡ joining_after j b → last_answer j last (b ∷ bs) ≡ all → last_answer k found bs ≡ all
joins_next j k last found b bs all is next before = rw (is, next) before

pub joins_fail : (j : Joining) (last : Result (Option Message) JoinFault) (e : JoinFault) (b : List ℕ) (bs : List (List ℕ))
    (all : Result (Option Message) JoinFault)
    → Err e ≡ join_answer j b → last_answer j last (b ∷ bs) ≡ all → Err e ≡ all
joins_fail j last e b bs all is before =
    sym (ap (λ (r : Result (Option Message) JoinFault). last_answer (after_by j.held (content b) r) r bs) (sym is) ∙ fault_stays j.held e bs) ∙ before

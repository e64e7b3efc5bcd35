-- What a disk in memory keeps.
use Rattle.std.proofs.Common.{◌≡◌, ⊎_elim, ℕ, ◌+◌, ◌-◌, ◌<◌, ◌≤◌, List, [], ◌∷◌, ◌++◌, length, get_or, take, map, refl, sym, ◌∙◌, ap, subst, arith}
use Rattle.std.proofs.{Common.length-take, lemmas.List.{get_or-take, map_push, take_more}}
use Rattle.spl_edge.specs.{Devices.{Image, MayLeave, patched, after_write, after_cut, after_sync, settled_at, picked_bytes, filled}, ImageLaws.length-patched}
use Rattle.spl_edge.specs.{ImageLaws.{patched_outside, length-filled, filled_outside, outside_both}, declared.fill.Fill.{Fill, TheVariants.{Old, New, Byte}}}
use Rattle.spl_memory.specs.{Marks.{was, marks_undone, range_of}, Replay.{replayed, filled_in, IsImageSound, IsReplayHeld}, Changes.Call}
use Rattle.spl_memory.{specs.declared.marks.Mark.Mark, proofs.Marked.undone-push}

pub sound_settled : (bytes : List ℕ) → IsImageSound (settled_at bytes)
sound_settled bytes =
    record {
      old_least = omega arith;
      old_greatest = omega arith;
      new = record { no_shorter = omega arith; no_longer = omega arith; same = λ k a b out. refl };
    }

pub sound_synced : (i : Image) → IsImageSound (after_sync i)
sound_synced i =
    record {
      old_least = omega arith;
      old_greatest = omega arith;
      new = record { no_shorter = omega arith; no_longer = omega arith; same = λ k a b out. refl };
    }

pub sound_write : (i : Image) (at : ℕ) (piece : List ℕ) → at ≤ length i.bytes → IsImageSound i → IsImageSound (after_write at piece i)
sound_write i at piece within sound =
    let long = length-patched i.bytes piece at within in
    record {
      old_least = sound.old_least;
      old_greatest = omega (arith, sound.old_greatest);
      new = record {
        no_shorter = omega (arith, long, sound.new.no_shorter);
        no_longer = omega (arith, long, sound.new.no_longer);
        same = λ k now then out.
            let (rest, last) = outside_both k i.touched (at, length piece) out in
            let here : k < length i.bytes = ⊎_elim (λ (b : k < at). omega (arith, within)) (λ (a : at + length piece ≤ k). omega (arith, long, now)) last in
            patched_outside i.bytes piece at k within last ∙ sound.new.same k here then rest;
      };
    }

pub sound_cut : (i : Image) (n : ℕ) → n ≤ length i.bytes → IsImageSound i → IsImageSound (after_cut n i)
sound_cut i n within sound =
    let long = length-take n i.bytes in
    record {
      old_least = omega (arith, sound.old_least);
      old_greatest = sound.old_greatest;
      new = record {
        no_shorter = omega (arith, long);
        no_longer = omega (arith, long, sound.new.no_longer);
        same = λ k now then out.
            let (rest, last) = outside_both k i.touched (n, 0) out in
            get_or-take n i.bytes k 0 (omega (arith, long, now)) ∙ sound.new.same k (omega (arith, long, now)) then rest;
      };
    }

-- each fill gives an image that a crash may leave
pub allowed : (i : Image) (fill : Fill) → IsImageSound i → MayLeave i (picked_bytes fill i)
allowed i Old sound = record { no_shorter = sound.old_least; no_longer = sound.old_greatest; same = λ k a b out. refl }
allowed i New sound = sound.new
allowed i (Byte b) sound =
    let long = length-filled b i.touched i.bytes in
    record {
      no_shorter = omega (arith, long, sound.new.no_shorter);
      no_longer = omega (arith, long, sound.new.no_longer);
      same = λ k now then out. filled_outside b k i.touched i.bytes (omega (arith, long, now)) out ∙ sound.new.same k (omega (arith, long, now)) then out;
    }

-- a change and what undoes it
held_more : (first : Image) (calls later : List Call) (bytes now : List ℕ) (undo more : List Mark) (u : Mark) (next : Image)
    → IsReplayHeld first calls bytes undo → replayed first later ≡ next → now ≡ next.bytes → next.synced ≡ (replayed first calls).synced
    → next.touched ≡ (replayed first calls).touched ++ range_of u ∷ []
    → IsImageSound next → more ≡ undo ++ u ∷ [] → was u.kind now ≡ bytes → IsReplayHeld first later now more
held_more first calls later bytes now undo more u next held is bytes_are synced touched sound grown undoes = record {
  bytes_are = bytes_are ∙ sym (ap (λ (i : Image). i.bytes) is);
  undoes = ap (λ (us : List Mark). marks_undone us now) grown ∙ undone-push undo u now ∙ ap (λ (l : List ℕ). marks_undone undo l) undoes ∙ held.undoes
      ∙ sym synced ∙ sym (ap (λ (i : Image). i.synced) is);
  ranges = ap (λ (us : List Mark). map range_of us) grown ∙ map_push range_of undo u ∙ ap (λ (rs : List (ℕ × ℕ)). rs ++ range_of u ∷ []) held.ranges
      ∙ sym touched ∙ sym (ap (λ (i : Image). i.touched) is);
  sound = subst IsImageSound (sym is) sound;
}

pub held_write : (first : Image) (calls later : List Call) (bytes now : List ℕ) (undo more : List Mark) (u : Mark) (at : ℕ) (piece : List ℕ)
    → replayed first later ≡ after_write at piece (replayed first calls) → now ≡ patched bytes at piece → more ≡ undo ++ u ∷ []
    → range_of u ≡ (at, length piece) → was u.kind now ≡ bytes → at ≤ length bytes → IsReplayHeld first calls bytes undo → IsReplayHeld first later now more
held_write first calls later bytes now undo more u at piece is done grown range back within held =
    held_more first calls later bytes now undo more u (after_write at piece (replayed first calls)) held is
    (done ∙ ap (λ (l : List ℕ). patched l at piece) held.bytes_are) refl
    (ap (λ (r : ℕ × ℕ). (replayed first calls).touched ++ r ∷ []) (sym range))
    (sound_write (replayed first calls) at piece (omega (arith, within, ap length held.bytes_are)) held.sound) grown back

pub held_cut : (first : Image) (calls later : List Call) (bytes now : List ℕ) (undo more : List Mark) (u : Mark) (n : ℕ)
    → replayed first later ≡ after_cut n (replayed first calls) → now ≡ take n bytes → more ≡ undo ++ u ∷ []
    → range_of u ≡ (n, 0) → was u.kind now ≡ bytes → n ≤ length bytes → IsReplayHeld first calls bytes undo → IsReplayHeld first later now more
held_cut first calls later bytes now undo more u n is done grown range back within held =
    held_more first calls later bytes now undo more u (after_cut n (replayed first calls)) held is
    (done ∙ ap (λ (l : List ℕ). take n l) held.bytes_are) refl
    (ap (λ (r : ℕ × ℕ). (replayed first calls).touched ++ r ∷ []) (sym range))
    (sound_cut (replayed first calls) n (omega (arith, within, ap length held.bytes_are)) held.sound) grown back

pub held_settled : (first : Image) (later : List Call) (now : List ℕ) (undo : List Mark) → replayed first later ≡ settled_at now → undo ≡ []
    → IsReplayHeld first later now undo
held_settled first later now undo is none = record {
  bytes_are = sym (ap (λ (i : Image). i.bytes) is);
  undoes = ap (λ (us : List Mark). marks_undone us now) none ∙ sym (ap (λ (i : Image). i.synced) is);
  ranges = ap (λ (us : List Mark). map range_of us) none ∙ sym (ap (λ (i : Image). i.touched) is);
  sound = subst IsImageSound (sym is) (sound_settled now);
}

-- what a pick leaves is what it says
pub filled_in_is : (first : Image) (calls : List Call) (bytes : List ℕ) (undo : List Mark) (fill : Fill) → IsReplayHeld first calls bytes undo
    → filled_in fill undo bytes ≡ picked_bytes fill (replayed first calls)
filled_in_is first calls bytes undo Old held = held.undoes
filled_in_is first calls bytes undo New held = held.bytes_are
filled_in_is first calls bytes undo (Byte b) held =
    ap (λ (rs : List (ℕ × ℕ)). filled b rs bytes) held.ranges ∙ ap (λ (l : List ℕ). filled b (replayed first calls).touched l) held.bytes_are

pub undo_more : (undo : List Mark) (left : ℕ) (u : Mark) (old new : List ℕ) → 0 < left → left ≤ length undo → u ≡ get_or undo (left - 1) u
    → new ≡ was u.kind old → marks_undone (take (left - 1) undo) new ≡ marks_undone (take left undo) old
undo_more undo left u old new some within is done =
    let more : take left undo ≡ take (left - 1) undo ++ u ∷ [] =
    ap (λ (n : ℕ). take n undo) (omega arith) ∙ take_more undo (left - 1) u (omega arith) ∙ ap (λ (x : Mark). take (left - 1) undo ++ x ∷ []) (sym is) in
    ap (λ (l : List ℕ). marks_undone (take (left - 1) undo) l) done ∙ sym (undone-push (take (left - 1) undo) u old)
    ∙ ap (λ (us : List Mark). marks_undone us old) (sym more)

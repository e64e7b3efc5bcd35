-- What bytes and their changes keep.
use Rattle.std.proofs.{Common.{◌≡◌, ℕ, ◌≤◌, List, [], ◌∷◌, ◌++◌, length, take, drop, refl, sym, ◌∙◌, ap, subst, arith}, Math.Seq.drop-nil}
use Rattle.spl_edge.specs.Devices.{Image, patched, after_write, after_cut, Picked}
use Rattle.spl_memory.specs.{Changes.{Change, Wrote, Cut, Call}, Histories.{calls_in, pending, IsHeldBy, IsSameHistory, Gained}, Marks.calls_of}
use Rattle.spl_memory.specs.{Replay.{after_change, kept_by, IsReplayHeld, Pushed}, declared.{history.History.History, marks.Mark.Mark}}
use Rattle.spl_memory.proofs.{Marked.{marked, pending-push}, Kept.pushed_to, Held.{held_write, held_cut}}

pub same_calls : (old new : History) → IsSameHistory old new → calls_in new ≡ calls_in old
same_calls old new same = ap (λ (l : List Mark). calls_of l new.bytes.items) same.marks ∙ ap (λ (l : List ℕ). calls_of old.marks.items l) same.bytes

pub same_held : (first : Image) (old new : History) → IsSameHistory old new → IsHeldBy first old → IsHeldBy first new
same_held first old new same held =
    let left : pending new ≡ pending old = ap (λ (n : ℕ). drop n new.marks.items) same.since ∙ ap (λ (l : List Mark). drop old.since l) same.marks in
    subst (λ (l : List Call). IsReplayHeld first l new.bytes.items (pending new)) (sym (same_calls old new same))
    (subst (λ (l : List ℕ). IsReplayHeld first (calls_in old) l (pending new)) (sym same.bytes)
    (subst (λ (l : List Mark). IsReplayHeld first (calls_in old) old.bytes.items l) (sym left) held))

pub gained_push : (t : ℕ) (change : Change) (range : ℕ × ℕ) (f : Image → Image) (kept : Image → List Picked) (old new : History)
    → ((i : Image) → after_change change i ≡ f i) → ((i : Image) → kept_by change i ≡ kept i) → Gained t change range old new
    → Pushed t f kept (calls_in old) (calls_in new)
gained_push t change range f kept old new does keeps gained =
    pushed_to t f kept (calls_in old) (calls_in new) (record { moment = gained.mark.moment; change = change })
    (marked old.marks.items new.marks.items gained.mark old.bytes.items new.bytes.items change gained.marks gained.before gained.change) gained.moment does
    keeps

gained_pending : (t : ℕ) (change : Change) (range : ℕ × ℕ) (old new : History) → old.since ≤ length old.marks.items
    → (gained : Gained t change range old new) → pending new ≡ pending old ++ gained.mark ∷ []
gained_pending t change range old new within gained =
    ap (λ (n : ℕ). drop n new.marks.items) gained.since ∙ pending-push old.marks.items new.marks.items gained.mark old.since within gained.marks

-- a write more
pub write_push : (t at : ℕ) (piece : List ℕ) (old new : History) → Gained t (Wrote at piece) (at, length piece) old new
    → Pushed t (after_write at piece) (λ i. []) (calls_in old) (calls_in new)
write_push t at piece old new gained = gained_push t (Wrote at piece) (at, length piece) (after_write at piece) (λ i. []) old new (λ i. refl) (λ i. refl) gained

pub write_held : (first : Image) (t at : ℕ) (piece : List ℕ) (old new : History) → at ≤ length old.bytes.items
    → Gained t (Wrote at piece) (at, length piece) old new
    → new.bytes.items ≡ patched old.bytes.items at piece → IsHeldBy first old → IsHeldBy first new
write_held first t at piece old new within gained is held =
    held_write first (calls_in old) (calls_in new) old.bytes.items new.bytes.items (pending old) (pending new) gained.mark at piece
    ((write_push t at piece old new gained).step first) is
    (gained_pending t (Wrote at piece) (at, length piece) old new (omega (arith, old.within, old.marks.ok.0)) gained)
    gained.range gained.before within held

-- a cut more
pub cut_push : (t n : ℕ) (old new : History) → Gained t (Cut n) (n, 0) old new → Pushed t (after_cut n) (λ i. []) (calls_in old) (calls_in new)
cut_push t n old new gained = gained_push t (Cut n) (n, 0) (after_cut n) (λ i. []) old new (λ i. refl) (λ i. refl) gained

pub cut_held : (first : Image) (t n : ℕ) (old new : History) → n ≤ length old.bytes.items → Gained t (Cut n) (n, 0) old new
    → new.bytes.items ≡ take n old.bytes.items → IsHeldBy first old → IsHeldBy first new
cut_held first t n old new within gained is held =
    held_cut first (calls_in old) (calls_in new) old.bytes.items new.bytes.items (pending old) (pending new) gained.mark n
    ((cut_push t n old new gained).step first) is (gained_pending t (Cut n) (n, 0) old new (omega (arith, old.within, old.marks.ok.0)) gained)
    gained.range gained.before within held

-- with no changes yet
pub blank_calls : (h : History) → h.marks.items ≡ [] → calls_in h ≡ []
blank_calls h none = ap (λ (l : List Mark). calls_of l h.bytes.items) none

pub blank_pending : (h : History) → h.marks.items ≡ [] → pending h ≡ []
blank_pending h none = ap (λ (l : List Mark). drop h.since l) none ∙ drop-nil h.since

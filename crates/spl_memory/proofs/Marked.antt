-- A mark more.
use Rattle.std.proofs.Common.{◌≡◌, inl, ℕ, ◌+◌, ◌-◌, ◌<◌, ◌≤◌, min, List, [], ◌∷◌, ◌++◌, length, get_or, take, drop, refl, sym, ◌∙◌, ap, append_assoc, arith}
use Rattle.std.proofs.{Common.{drop-cons, length-take, length-drop}, lemmas.List.{append-nil, take_all, drop_all, get_or-take, get_or-drop, length-take-le}}
use Rattle.std.proofs.{lemmas.List.drop-append-le, Math.Seq.{take-append_seam, drop-append_seam, drop-length}}
use Rattle.spl_edge.specs.{Devices.patched, ImageLaws.{length-patched, patched_below, patched_above, patched_back}}
use Rattle.spl_memory.specs.{Changes.{Change, Call}, Marks.{was, marks_undone, change_of, call_of, calls_of}, declared.marks.Mark.Mark}

pub undone-push : (undo : List Mark) (m : Mark) (now : List ℕ) → marks_undone (undo ++ m ∷ []) now ≡ marks_undone undo (was m.kind now)
undone-push [] m now = refl
undone-push (x ∷ undo) m now = ap (λ (l : List ℕ). was x.kind l) (undone-push undo m now)

-- the earlier changes are read off the bytes from before
calls-push : (marks : List Mark) (m : Mark) (now : List ℕ) → calls_of (marks ++ m ∷ []) now ≡ calls_of marks (was m.kind now) ++ call_of m now ∷ []
calls-push [] m now = refl
calls-push (x ∷ marks) m now =
    ap (λ (l : List ℕ). call_of x l ∷ calls_of (marks ++ m ∷ []) now) (undone-push marks m now)
    ∙ ap (λ (l : List Call). call_of x (marks_undone marks (was m.kind now)) ∷ l) (calls-push marks m now)

pub marked : (marks more : List Mark) (m : Mark) (bytes now : List ℕ) (change : Change) → more ≡ marks ++ m ∷ [] → was m.kind now ≡ bytes
    → change_of m.kind now ≡ change
    → calls_of more now ≡ calls_of marks bytes ++ record { moment = m.moment; change = change } ∷ []
marked marks more m bytes now change grown before is =
    ap (λ (l : List Mark). calls_of l now) grown ∙ calls-push marks m now
    ∙ ap (λ (l : List ℕ). calls_of marks l ++ call_of m now ∷ []) before
    ∙ ap (λ (c : Change). calls_of marks bytes ++ record { moment = m.moment; change = c } ∷ []) is

pub pending-push : (marks more : List Mark) (m : Mark) (since : ℕ) → since ≤ length marks → more ≡ marks ++ m ∷ []
    → drop since more ≡ drop since marks ++ m ∷ []
pending-push marks more m since within grown = ap (λ (l : List Mark). drop since l) grown ∙ drop-append-le since marks (m ∷ []) within

pub pending-none : (marks : List Mark) (since : ℕ) → since ≡ length marks → drop since marks ≡ []
pending-none marks since all = ap (λ (n : ℕ). drop n marks) all ∙ drop-length marks

-- ---- what each mark gives

front_in : (bytes piece : List ℕ) (at : ℕ) → at ≤ length bytes → take at (patched bytes at piece) ≡ take at bytes
front_in bytes piece at within =
    let size : at ≡ length (take at bytes) = sym (length-take-le at bytes within) in
    let rest = piece ++ drop (at + length piece) bytes in
    ap (λ (l : List ℕ). take at l) (append_assoc (take at bytes) piece (drop (at + length piece) bytes))
    ∙ ap (λ (n : ℕ). take n (take at bytes ++ rest)) size ∙ take-append_seam (take at bytes) rest

-- what was written stands there
pub piece_in : (bytes piece : List ℕ) (at : ℕ) → at ≤ length bytes → take (length piece) (drop at (patched bytes at piece)) ≡ piece
piece_in bytes piece at within =
    let size : at ≡ length (take at bytes) = sym (length-take-le at bytes within) in
    let rest = piece ++ drop (at + length piece) bytes in
    ap (λ (l : List ℕ). take (length piece) (drop at l)) (append_assoc (take at bytes) piece (drop (at + length piece) bytes))
    ∙ ap (λ (n : ℕ). take (length piece) (drop n (take at bytes ++ rest))) size
    ∙ ap (λ (l : List ℕ). take (length piece) l) (drop-append_seam (take at bytes) rest)
    ∙ take-append_seam piece (drop (at + length piece) bytes)

pub append_is : (bytes piece : List ℕ) (at : ℕ) → at ≡ length bytes → bytes ++ piece ≡ patched bytes at piece
append_is bytes piece at all =
    sym (append-nil (bytes ++ piece))
    ∙ ap (λ (l : List ℕ). l ++ piece ++ []) (sym (take_all at bytes (omega (arith, all))))
    ∙ ap (λ (l : List ℕ). take at bytes ++ piece ++ l) (sym (drop_all (at + length piece) bytes (omega (arith, all))))

pub append_back : (bytes piece : List ℕ) (at : ℕ) → at ≡ length bytes → take at (patched bytes at piece) ≡ bytes
append_back bytes piece at all = front_in bytes piece at (omega (arith, all)) ∙ take_all at bytes (omega (arith, all))

pub write_back : (bytes piece : List ℕ) (at : ℕ) → at ≤ length bytes
    → take (length bytes) (patched (patched bytes at piece) at (take (min (length piece) (length bytes - at)) (drop at bytes))) ≡ bytes
write_back bytes piece at within =
    let long = length-patched bytes piece at within in
    let size : length (take (min (length piece) (length bytes - at)) (drop at bytes)) ≡ min (length piece) (length bytes - at) =
    omega (arith, length-take (min (length piece) (length bytes - at)) (drop at bytes), length-drop at bytes) in
    patched_back bytes (patched bytes at piece) (take (min (length piece) (length bytes - at)) (drop at bytes)) at within (omega (arith, long, within))
    (inl (omega (arith, long)))
    (λ k below. patched_below bytes piece at k within below)
    (λ k above lt. patched_above bytes piece at k within (omega (arith, size, above, lt)))
    (λ k lt. get_or-take (min (length piece) (length bytes - at)) (drop at bytes) k 0 (omega (arith, size, lt)) ∙ get_or-drop at bytes k 0)
    (omega (arith, size, within))

one_at : (bytes : List ℕ) (at : ℕ) → at < length bytes → take 1 (drop at bytes) ≡ get_or bytes at 0 ∷ []
one_at bytes at within = ap (λ (l : List ℕ). take 1 l) (drop-cons bytes at 0 within)

pub turn_back : (bytes : List ℕ) (at byte old : ℕ) → at < length bytes → old ≡ get_or bytes at 0 → patched (patched bytes at (byte ∷ [])) at (old ∷ []) ≡ bytes
turn_back bytes at byte old within is =
    let now = patched bytes at (byte ∷ []) in
    let long : length now ≡ length bytes = omega (arith, length-patched bytes (byte ∷ []) at (omega arith)) in
    let all : length (patched now at (old ∷ [])) ≤ length bytes = omega (arith, length-patched now (old ∷ []) at (omega (arith, long)), long) in
    let one : take (min 1 (length bytes - at)) (drop at bytes) ≡ old ∷ [] =
    ap (λ (n : ℕ). take n (drop at bytes)) (let few : min 1 (length bytes - at) ≡ 1 = omega arith in few) ∙ one_at bytes at within
    ∙ ap (λ (n : ℕ). n ∷ []) (sym is) in
    sym (take_all (length bytes) (patched now at (old ∷ [])) all)
    ∙ ap (λ (l : List ℕ). take (length bytes) (patched now at l)) (sym one)
    ∙ write_back bytes (byte ∷ []) at (omega arith)

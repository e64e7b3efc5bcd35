-- Bytes at an offset, taken back and painted over.
use Rattle.std.proofs.Common.{◌≡◌, ◌⊎◌, inl, inr, ⊎_elim, ℕ, ◌+◌, ◌-◌, ◌<◌, ◌≤◌, min, max, List, [], ◌∷◌, ◌++◌, length, get_or, take, drop, replicate, refl}
use Rattle.std.proofs.{Common.{sym, ◌∙◌, ap, arith, length-append, length-take, length-drop, append_assoc}, lemmas.List.{take_all, drop_all, ext_get_or}}
use Rattle.std.proofs.lemmas.{List.{get_or-take, get_or-drop, get_or_append_left, get_or-append_right, length-replicate, get_or-replicate}, Bool.cases_lt}
use Rattle.spl_edge.specs.Devices.{patched, IsOutside, painted, filled}

split : (old bytes : List ℕ) (at : ℕ) → patched old at bytes ≡ take at old ++ (bytes ++ drop (at + length bytes) old)
split old bytes at = append_assoc (take at old) bytes (drop (at + length bytes) old)

pub length-patched : (old bytes : List ℕ) (at : ℕ) → at ≤ length old → length (patched old at bytes) ≡ max (length old) (at + length bytes)
length-patched old bytes at within =
    omega (
      arith,
      length-append (take at old ++ bytes) (drop (at + length bytes) old),
      length-append (take at old) bytes,
      length-take at old,
      length-drop (at + length bytes) old,
    )

-- outside of the range nothing changes
pub patched_below : (old bytes : List ℕ) (at k : ℕ) → at ≤ length old → k < at → get_or (patched old at bytes) k 0 ≡ get_or old k 0
patched_below old bytes at k within below =
    ap (λ (l : List ℕ). get_or l k 0) (split old bytes at)
    ∙ get_or_append_left (take at old) (bytes ++ drop (at + length bytes) old) 0 k (omega (arith, length-take at old)) ∙ get_or-take at old k 0 below

pub patched_above : (old bytes : List ℕ) (at k : ℕ) → at ≤ length old → at + length bytes ≤ k → get_or (patched old at bytes) k 0 ≡ get_or old k 0
patched_above old bytes at k within above =
    ap (λ (l : List ℕ). get_or l k 0) (split old bytes at)
    ∙ get_or-append_right (take at old) (bytes ++ drop (at + length bytes) old) at k 0 (omega (arith, length-take at old)) (omega arith)
    ∙ get_or-append_right bytes (drop (at + length bytes) old) (length bytes) (k - at) 0 refl (omega arith)
    ∙ get_or-drop (at + length bytes) old (k - at - length bytes) 0
    ∙ ap (λ (n : ℕ). get_or old n 0) (omega arith)

pub patched_within : (old bytes : List ℕ) (at k : ℕ) → at ≤ length old → at ≤ k → k < at + length bytes
    → get_or (patched old at bytes) k 0 ≡ get_or bytes (k - at) 0
patched_within old bytes at k within above below =
    ap (λ (l : List ℕ). get_or l k 0) (split old bytes at)
    ∙ get_or-append_right (take at old) (bytes ++ drop (at + length bytes) old) at k 0 (omega (arith, length-take at old)) (omega arith)
    ∙ get_or_append_left bytes (drop (at + length bytes) old) 0 (k - at) (omega arith)

pub patched_outside : (old bytes : List ℕ) (at k : ℕ) → at ≤ length old → (k < at) ⊎ (at + length bytes ≤ k)
    → get_or (patched old at bytes) k 0 ≡ get_or old k 0
patched_outside old bytes at k within = ⊎_elim (patched_below old bytes at k within) (patched_above old bytes at k within)

-- what a write or a cut took away, put back
pub patched_back : (old now taken : List ℕ) (at : ℕ) → at ≤ length old → at ≤ length now → length old ≤ length now ⊎ (length old ≤ at + length taken)
    → ((k : ℕ) → k < at → get_or now k 0 ≡ get_or old k 0) → ((k : ℕ) → at + length taken ≤ k → k < length old → get_or now k 0 ≡ get_or old k 0)
    → ((k : ℕ) → k < length taken → get_or taken k 0 ≡ get_or old (at + k) 0) → at + length taken ≤ length old
    → take (length old) (patched now at taken) ≡ old
patched_back old now taken at within here room below above mid short = ext_get_or 0 (take (length old) (patched now at taken)) old long same
  where
    long : length (take (length old) (patched now at taken)) ≡ length old
    long = ⊎_elim (λ (r : length old ≤ length now). omega (
      arith,
      length-take (length old) (patched now at taken),
      length-patched now taken at here,
    )) (λ (r : length old ≤ at + length taken). omega (
      arith,
      length-take (length old) (patched now at taken),
      length-patched now taken at here,
    )) room

    same : (k : ℕ) → k < length (take (length old) (patched now at taken)) → get_or (take (length old) (patched now at taken)) k 0 ≡ get_or old k 0
    same k lt =
        let less : k < length old = omega (arith, long) in
        get_or-take (length old) (patched now at taken) k 0 less
        ∙ ⊎_elim (λ (b : k < at). patched_below now taken at k here b ∙ below k b)
        (λ (a : at ≤ k). ⊎_elim
        (λ (b : k < at + length taken). patched_within now taken at k here a b ∙ mid (k - at) (omega arith) ∙ ap (λ (n : ℕ). get_or old n 0) (omega arith))
        (λ (b : at + length taken ≤ k). patched_above now taken at k here b ∙ above k b less)
        (cases_lt k (at + length taken)))
        (cases_lt k at)

-- an offset past the end is the end
pub patched_min : (old bytes : List ℕ) (at : ℕ) → patched old (min at (length old)) bytes ≡ patched old at bytes
patched_min old bytes at = ⊎_elim
    (λ (b : at < length old). ap (λ (n : ℕ). patched old n bytes) (omega arith))
    (λ (a : length old ≤ at). ap (λ (n : ℕ). patched old n bytes) (omega arith)
    ∙ ap (λ (l : List ℕ). l ++ bytes ++ drop (length old + length bytes) old) (take_all (length old) old (omega arith) ∙ sym (take_all at old a))
    ∙ ap (λ (l : List ℕ). take at old ++ bytes ++ l) (drop_all (length old + length bytes) old (omega arith)
    ∙ sym (drop_all (at + length bytes) old (omega arith))))
    (cases_lt at (length old))

pub length-painted : (b at n : ℕ) (bytes : List ℕ) → length (painted b (at, n) bytes) ≡ length bytes
length-painted b at n bytes =
    let same = patched_min bytes (replicate n b) at in
    omega (
      arith,
      length-take (length bytes) (patched bytes at (replicate n b)),
      ap length same,
      length-patched bytes (replicate n b) (min at (length bytes)) (omega arith),
    )

pub painted_outside : (b at n k : ℕ) (bytes : List ℕ) → k < length bytes → (k < at) ⊎ (at + n ≤ k) → get_or (painted b (at, n) bytes) k 0 ≡ get_or bytes k 0
painted_outside b at n k bytes lt out =
    get_or-take (length bytes) (patched bytes at (replicate n b)) k 0 lt
    ∙ ap (λ (l : List ℕ). get_or l k 0) (sym (patched_min bytes (replicate n b) at))
    ∙ patched_outside bytes (replicate n b) (min at (length bytes)) k (omega arith)
    (⊎_elim (λ (l : k < at). inl (omega arith)) (λ (r : at + n ≤ k). inr (omega (arith, length-replicate n b))) out)

pub length-filled : (b : ℕ) (ranges : List (ℕ × ℕ)) (bytes : List ℕ) → length (filled b ranges bytes) ≡ length bytes
length-filled b [] bytes = refl
length-filled b (range ∷ ranges) bytes = length-filled b ranges (painted b range bytes) ∙ length-painted b range.0 range.1 bytes

pub filled_outside : (b k : ℕ) (ranges : List (ℕ × ℕ)) (bytes : List ℕ) → k < length bytes → IsOutside k ranges
    → get_or (filled b ranges bytes) k 0 ≡ get_or bytes k 0
filled_outside b k [] bytes lt out = refl
filled_outside b k (range ∷ ranges) bytes lt out =
    filled_outside b k ranges (painted b range bytes) (omega (arith, length-painted b range.0 range.1 bytes)) out.1
    ∙ painted_outside b range.0 range.1 k bytes lt out.0

pub outside_both : (k : ℕ) (ranges : List (ℕ × ℕ)) (range : ℕ × ℕ) → IsOutside k (ranges ++ range ∷ [])
    → IsOutside k ranges × ((k < range.0) ⊎ (range.0 + range.1 ≤ k))
outside_both k [] range out = (tt, out.0)
outside_both k (r ∷ ranges) range out = let (rest, last) = outside_both k ranges range out.1 in ((out.0, rest), last)

-- what a fill of a part leaves
pub painted_is : (b at n from count : ℕ) (bytes ys : List ℕ) → from ≡ min at (length bytes) → count ≡ min n (length bytes - from) → length ys ≡ count
    → ((k : ℕ) → k < count → get_or ys k 0 ≡ b)
    → take from bytes ++ (ys ++ drop (from + count) bytes) ≡ painted b (at, n) bytes
painted_is b at n from count bytes ys start size long all =
    ap (λ (m : ℕ). take from bytes ++ (ys ++ drop (from + m) bytes)) (sym long) ∙ sym (split bytes ys from)
    ∙ ext_get_or 0 (patched bytes from ys) (painted b (at, n) bytes) (ours ∙ sym theirs) same
  where
    here : from ≤ length bytes
    here = omega (arith, start)

    ours : length (patched bytes from ys) ≡ length bytes
    ours = omega (arith, length-patched bytes ys from here, start, size, long)

    theirs : length (painted b (at, n) bytes) ≡ length bytes
    theirs = length-painted b at n bytes

    whole : (k : ℕ) → k < length bytes → get_or (painted b (at, n) bytes) k 0 ≡ get_or (patched bytes from (replicate n b)) k 0
    whole k lt =
        get_or-take (length bytes) (patched bytes at (replicate n b)) k 0 lt
        ∙ ap (λ (l : List ℕ). get_or l k 0) (sym (patched_min bytes (replicate n b) at) ∙ ap (λ (m : ℕ). patched bytes m (replicate n b)) (sym start))

    same : (k : ℕ) → k < length (patched bytes from ys) → get_or (patched bytes from ys) k 0 ≡ get_or (painted b (at, n) bytes) k 0
    same k lt = ⊎_elim
        (λ (l : k < from). patched_below bytes ys from k here l ∙ sym (whole k (omega (arith, ours, lt)) ∙ patched_below bytes (replicate n b) from k here l))
        (λ (r : from ≤ k). ⊎_elim
        (λ (l : k < from + count). patched_within bytes ys from k here r (omega (arith, long, l)) ∙ all (k - from) (omega (arith, l, r))
        ∙ sym (whole k (omega (arith, ours, lt)) ∙ patched_within bytes (replicate n b) from k here r (omega (arith, length-replicate n b, l, size))
        ∙ get_or-replicate n (k - from) b 0 (omega (arith, l, r, size))))
        (λ (a : from + count ≤ k). patched_above bytes ys from k here (omega (arith, long, a))
        ∙ sym (whole k (omega (arith, ours, lt)) ∙ patched_above bytes (replicate n b) from k here (omega (arith, length-replicate n b, a, size, ours, lt))))
        (cases_lt k (from + count)))
        (cases_lt k from)

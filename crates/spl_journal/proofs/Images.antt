-- What a crash leaves at each stage of opening a gate.
use Rattle.std.proofs.Common.{◌≡◌, inl, inr, ⊎_elim, ℕ, ◌+◌, ◌-◌, ◌<◌, ◌≤◌, max, List, [], ◌∷◌, ◌++◌, length, get_or, take, refl, sym, ◌∙◌, ap, subst, arith}
use Rattle.std.proofs.{Common.length-take, lemmas.{List.{ext_get_or, get_or-take}, Bool.cases_lt}}
use Rattle.spl_edge.specs.{Devices.{Image, IsOutside, IsSettled, MayLeave, patched, after_write, after_sync, PartOfWrite}, ImageLaws.length-patched}
use Rattle.spl_edge.specs.ImageLaws.{patched_below, patched_within, patched_outside}
use Rattle.spl_journal.specs.Gate.{IsReady, IsAfterGate}

-- what a crash leaves of this image has P
abbrev pub Safe : (List ℕ → Type 0) → Image → Type 0
Safe P i = (c : List ℕ) → MayLeave i c → P c

-- with nothing written since the last sync
pub only : (i : Image) (c : List ℕ) → i.touched ≡ [] → i.least ≡ length i.synced → i.greatest ≡ length i.synced → MayLeave i c → c ≡ i.synced
only i c none least greatest left = ext_get_or 0 c i.synced (omega (arith, least, greatest, left.no_shorter, left.no_longer))
    (λ k lt. left.same k lt (omega (arith, lt, greatest, left.no_longer)) (subst (λ (rs : List (ℕ × ℕ)). IsOutside k rs) (sym none) tt))

pub only_settled : (i : Image) (c : List ℕ) → IsSettled i → MayLeave i c → c ≡ i.bytes
only_settled i c settled left =
    only i c settled.none (settled.least ∙ ap length (sym settled.same)) (settled.greatest ∙ ap length (sym settled.same)) left ∙ settled.same

-- the beginning stays where all that was written stands after it
pub prefix_stays : (i : Image) (c : List ℕ) (at n : ℕ) → i.touched ≡ (at, n) ∷ [] → at ≤ length i.synced → at ≤ i.least → MayLeave i c
    → take at c ≡ take at i.synced
prefix_stays i c at n touched within least left =
    ext_get_or 0 (take at c) (take at i.synced) (omega (arith, length-take at c, length-take at i.synced, within, least, left.no_shorter))
    (λ k lt. get_or-take at c k 0 (omega (arith, length-take at c, lt))
    ∙ left.same k (omega (arith, length-take at c, lt)) (omega (arith, length-take at c, lt, within))
    (subst (λ (rs : List (ℕ × ℕ)). IsOutside k rs) (sym touched) (inl (omega (arith, length-take at c, lt)), tt))
    ∙ sym (get_or-take at i.synced k 0 (omega (arith, length-take at c, lt))))

-- all stays but one byte
pub one_byte : (i : Image) (c : List ℕ) (at : ℕ) → i.touched ≡ (at, 1) ∷ [] → at < length i.synced → i.least ≡ length i.synced
    → i.greatest ≡ length i.synced → MayLeave i c → c ≡ patched i.synced at (get_or c at 0 ∷ [])
one_byte i c at touched within least greatest left =
    let long : length c ≡ length i.synced = omega (arith, least, greatest, left.no_shorter, left.no_longer) in
    let size : length (patched i.synced at (get_or c at 0 ∷ [])) ≡ length i.synced =
    omega (arith, length-patched i.synced (get_or c at 0 ∷ []) at (omega (arith, within)), within) in
    ext_get_or 0 c (patched i.synced at (get_or c at 0 ∷ [])) (omega (arith, long, size))
    (λ k lt. ⊎_elim
    (λ (b : k < at). left.same k lt (omega (arith, lt, long)) (subst (λ (rs : List (ℕ × ℕ)). IsOutside k rs) (sym touched) (inl b, tt))
    ∙ sym (patched_outside i.synced (get_or c at 0 ∷ []) at k (omega (arith, within)) (inl b)))
    (λ (a : at ≤ k). ⊎_elim
    (λ (b : k < at + 1). let same : k ≡ at = omega arith in let zero_th : k - at ≡ 0 = omega (arith, same) in
    ap (λ (n : ℕ). get_or c n 0) same
    ∙ sym (patched_within i.synced (get_or c at 0 ∷ []) at k (omega (arith, within)) a b ∙ ap (λ (n : ℕ). get_or (get_or c at 0 ∷ []) n 0) zero_th))
    (λ (b : at + 1 ≤ k). left.same k lt (omega (arith, lt, long)) (subst (λ (rs : List (ℕ × ℕ)). IsOutside k rs) (sym touched) (inr b, tt))
    ∙ sym (patched_outside i.synced (get_or c at 0 ∷ []) at k (omega (arith, within)) (inr b)))
    (cases_lt k (at + 1)))
    (cases_lt k at))

pub prefix_of_patched : (bytes piece : List ℕ) (at : ℕ) → at ≤ length bytes → take at (patched bytes at piece) ≡ take at bytes
prefix_of_patched bytes piece at within = ext_get_or 0 (take at (patched bytes at piece)) (take at bytes)
    (omega (arith, length-take at (patched bytes at piece), length-take at bytes, length-patched bytes piece at within))
    (λ k lt. get_or-take at (patched bytes at piece) k 0 (omega (arith, length-take at (patched bytes at piece), lt))
    ∙ patched_below bytes piece at k within (omega (arith, length-take at (patched bytes at piece), lt))
    ∙ sym (get_or-take at bytes k 0 (omega (arith, length-take at (patched bytes at piece), lt))))

module _ (gate : ℕ) (piece : List ℕ) (i : Image) (ready : IsReady gate i) where
  abbrev P : List ℕ → Type 0
  P = IsAfterGate gate piece i.bytes

  pub safe_0 : Safe P i
  safe_0 c left =
      let same = only_settled i c ready.settled left in
      inl (record { same = ap (λ (l : List ℕ). take (gate + 1) l) same; within = omega (arith, ap length same, ready.within) })

  torn : (j : Image) → j.synced ≡ i.bytes → j.touched ≡ (gate + 1, length piece) ∷ [] → j.least ≡ length i.bytes → Safe P j
  torn j synced touched least c left = inl (record {
    same = prefix_stays j c (gate + 1) (length piece) touched (omega (arith, ready.within, ap length synced)) (omega (arith, ready.within, least)) left
        ∙ ap (λ (l : List ℕ). take (gate + 1) l) synced;
    within = omega (arith, ready.within, least, left.no_shorter);
  })

  pub safe_1 : Safe P (after_write (gate + 1) piece i)
  safe_1 = torn (after_write (gate + 1) piece i) (ready.settled.same)
      (ap (λ (rs : List (ℕ × ℕ)). rs ++ (gate + 1, length piece) ∷ []) ready.settled.none) ready.settled.least

  pub part_0 : (j : Image) → PartOfWrite (gate + 1) (length piece) i j → Safe P j
  part_0 j part =
      torn j (part.synced ∙ ready.settled.same) (part.touched ∙ ap (λ (rs : List (ℕ × ℕ)). rs ++ (gate + 1, length piece) ∷ []) ready.settled.none)
      (part.least ∙ ready.settled.least)

  pub safe_2 : Safe P (after_sync (after_write (gate + 1) piece i))
  safe_2 c left =
      let same : c ≡ patched i.bytes (gate + 1) piece = only (after_sync (after_write (gate + 1) piece i)) c refl refl refl left in
      let long = length-patched i.bytes piece (gate + 1) (omega (arith, ready.within)) in
      inl (record {
        same = ap (λ (l : List ℕ). take (gate + 1) l) same ∙ prefix_of_patched i.bytes piece (gate + 1) (omega (arith, ready.within));
        within = omega (arith, ap length same, long, ready.within);
      })

  torn_gate : (j : Image) → j.synced ≡ patched i.bytes (gate + 1) piece → j.touched ≡ (gate, 1) ∷ [] → j.least ≡ length (patched i.bytes (gate + 1) piece)
      → j.greatest ≡ max (length (patched i.bytes (gate + 1) piece)) (gate + 1) → Safe P j
  torn_gate j synced touched least greatest c left =
      let long = length-patched i.bytes piece (gate + 1) (omega (arith, ready.within)) in
      inr (
        get_or c gate 0,
        one_byte j c gate touched (omega (arith, ap length synced, long, ready.within)) (least ∙ ap length (sym synced))
            (omega (arith, greatest, ap length synced, long, ready.within)) left
            ∙ ap (λ (l : List ℕ). patched l gate (get_or c gate 0 ∷ [])) synced,
      )

  pub safe_3 : Safe P (after_write gate (1 ∷ []) (after_sync (after_write (gate + 1) piece i)))
  safe_3 = torn_gate (after_write gate (1 ∷ []) (after_sync (after_write (gate + 1) piece i))) refl refl refl refl

  pub part_2 : (j : Image) → PartOfWrite gate 1 (after_sync (after_write (gate + 1) piece i)) j → Safe P j
  part_2 j part = torn_gate j part.synced part.touched part.least part.greatest

  pub safe_4 : Safe P (after_sync (after_write gate (1 ∷ []) (after_sync (after_write (gate + 1) piece i))))
  safe_4 c left = inr (1, only (after_sync (after_write gate (1 ∷ []) (after_sync (after_write (gate + 1) piece i)))) c refl refl refl left)

-- What a stop in an append leaves.
use Rattle.std.proofs.Common.{◌≡◌, inl, inr, ⊎_elim, ℕ, zero, suc, ◌+◌, ◌<◌, ◌≤◌, List, [], ◌∷◌, ◌++◌, length, get_or, take, Bool, true, false, ◌==◌, Ok}
use Rattle.std.proofs.{Common.{refl, sym, ◌∙◌, ap, subst, arith, length-take}, lemmas.{List.{ext_get_or, get_or-take, take-take}, Bool.{cases_lt, cases_eq}}}
use Rattle.std.proofs.lemmas.Bool.Decides.{nat_tests}
use Rattle.spl_edge.specs.{Devices.{Image, patched, settled_at, painted, filled, picked_bytes}, ImageLaws.{length-patched, length-painted, painted_outside}}
use Rattle.spl_edge.specs.{ImageLaws.{patched_below, patched_above, patched_within}, declared.fill.Fill.{Fill, TheVariants.{Old, New, Byte}}}
use Rattle.spl_journal.specs.{Clear.IsCleared, Gate.{after, opened, IsAfterGate}, Records.{closed_prefix, blocks, filling, following, is_open, records}}
use Rattle.spl_journal.{specs.Records.{records_of, AreGood, Standing, SameHead, is_kept, kept_all}, proofs.{Images.prefix_of_patched, Walks.closed}}
use Rattle.spl_journal.proofs.{Walks.prefix_same, Fills.{shut_by, shut_up}, Sizes.length-closed_prefix, Appends.{prefix_kept, gate_is, long, prefix_after}}
use Rattle.spl_journal.proofs.Appends.{shut_after, head_stays}

-- one byte over another
patched_again : (old : List ℕ) (at x y : ℕ) → at < length old
    → take (length (patched old at (x ∷ []))) (patched (patched old at (x ∷ [])) at (y ∷ [])) ≡ patched old at (y ∷ [])
patched_again old at x y within =
    ext_get_or 0 (take (length once) twice) (patched old at (y ∷ [])) (omega (arith, length-take (length once) twice, size, size_twice, size_y)) same
  where
    once : List ℕ
    once = patched old at (x ∷ [])

    twice : List ℕ
    twice = patched once at (y ∷ [])

    size : length once ≡ length old
    size = omega (arith, length-patched old (x ∷ []) at (omega (arith, within)), within)

    size_twice : length twice ≡ length old
    size_twice = omega (arith, length-patched once (y ∷ []) at (omega (arith, within, size)), within, size)

    size_y : length (patched old at (y ∷ [])) ≡ length old
    size_y = omega (arith, length-patched old (y ∷ []) at (omega (arith, within)), within)

    same : (k : ℕ) → k < length (take (length once) twice) → get_or (take (length once) twice) k 0 ≡ get_or (patched old at (y ∷ [])) k 0
    same k lt =
        let less : k < length once = omega (arith, length-take (length once) twice, lt) in
        get_or-take (length once) twice k 0 less
        ∙ ⊎_elim
        (λ (b : k < at). patched_below once (y ∷ []) at k (omega (arith, within, size)) b ∙ patched_below old (x ∷ []) at k (omega (arith, within)) b
        ∙ sym (patched_below old (y ∷ []) at k (omega (arith, within)) b))
        (λ (a : at ≤ k). ⊎_elim
        (λ (b : k < at + 1). patched_within once (y ∷ []) at k (omega (arith, within, size)) a b
        ∙ sym (patched_within old (y ∷ []) at k (omega (arith, within)) a b))
        (λ (b : at + 1 ≤ k). patched_above once (y ∷ []) at k (omega (arith, within, size)) b ∙ patched_above old (x ∷ []) at k (omega (arith, within)) b
        ∙ sym (patched_above old (y ∷ []) at k (omega (arith, within)) b))
        (cases_lt k (at + 1)))
        (cases_lt k at)

-- a range after the gate that is painted
painted_prefix : (b at n m : ℕ) (bytes : List ℕ) → m ≤ at → take m (painted b (at, n) bytes) ≡ take m bytes
painted_prefix b at n m bytes le =
    ext_get_or 0 (take m (painted b (at, n) bytes)) (take m bytes)
    (omega (arith, length-take m (painted b (at, n) bytes), length-take m bytes, length-painted b at n bytes))
    (λ k lt. get_or-take m (painted b (at, n) bytes) k 0 (omega (arith, length-take m (painted b (at, n) bytes), lt))
    ∙ painted_outside b at n k bytes (omega (arith, length-take m (painted b (at, n) bytes), length-painted b at n bytes, lt))
    (inl (omega (arith, length-take m (painted b (at, n) bytes), lt, le)))
    ∙ sym (get_or-take m bytes k 0 (omega (arith, length-take m (painted b (at, n) bytes), lt))))

one_is : (b : ℕ) → b ≡ 1 → (b == 1) ≡ true
one_is b is = grind (arith, nat_tests)

one_is_not : (b : ℕ) → (b ≡ 1 → ⊥) → (b == 1) ≡ false
one_is_not b other = grind (arith, nat_tests)

module _ (fits : List ℕ → Bool) (gate extent epoch : ℕ) (i : Image) (ns : List (List ℕ)) (some : 0 < length ns) (s : Standing fits gate extent epoch i)
    (good : AreGood fits ns) where
  -- all as it was up to the gate
  up : (c : List ℕ) → take (gate + 1) c ≡ take (gate + 1) i.bytes → gate < length c → records fits c ≡ Ok (records_of fits i.bytes)
  up c same within =
      let less : take gate c ≡ take gate i.bytes =
      sym (take-take gate (gate + 1) c (omega arith)) ∙ ap (take gate) same ∙ take-take gate (gate + 1) i.bytes (omega arith) in
      let at_gate : get_or c gate 0 ≡ get_or i.bytes gate 0 =
      sym (get_or-take (gate + 1) c gate 0 (omega arith)) ∙ ap (λ (l : List ℕ). get_or l gate 0) same
      ∙ get_or-take (gate + 1) i.bytes gate 0 (omega arith) in
      closed fits gate (records_of fits i.bytes) c (prefix_same fits gate (records_of fits i.bytes) i.bytes c s.holds.prefix less within)
      (λ one. s.holds.shut (sym at_gate ∙ one))

  staged_prefix : take (gate + 1) (patched i.bytes (gate + 1) (following ns)) ≡ take (gate + 1) i.bytes
  staged_prefix = prefix_of_patched i.bytes (following ns) (gate + 1) (omega (arith, s.holds.prefix.room))

  staged_long : gate < length (patched i.bytes (gate + 1) (following ns))
  staged_long = omega (arith, length-patched i.bytes (following ns) (gate + 1) (omega (arith, s.holds.prefix.room)), s.holds.prefix.room)

  up_staged : records fits (patched i.bytes (gate + 1) (following ns)) ≡ Ok (records_of fits i.bytes)
  up_staged = up (patched i.bytes (gate + 1) (following ns)) staged_prefix staged_long

  -- by the byte in the gate
  by_gate : (byte : ℕ) → records fits (after gate (following ns) i.bytes byte) ≡ Ok (kept_all (byte == 1) (records_of fits i.bytes) ns)
  by_gate byte = ⊎_elim
      (λ (one : byte ≡ 1).
      let now : after gate (following ns) i.bytes byte ≡ after gate (following ns) i.bytes 1 = ap (after gate (following ns) i.bytes) one in
      ap (records fits) now
      ∙ closed fits (gate + length (blocks ns)) (records_of fits i.bytes ++ ns) (after gate (following ns) i.bytes 1)
      (prefix_after fits gate (records_of fits i.bytes) i.bytes ns some (after gate (following ns) i.bytes 1) s.holds.prefix s.form_is good refl)
      (shut_after fits gate (records_of fits i.bytes) i.bytes ns some (after gate (following ns) i.bytes 1) s.holds.prefix s.form_is good refl)
      ∙ ap (λ (b : Bool). Ok (kept_all b (records_of fits i.bytes) ns)) (sym (one_is byte one)))
      (λ other.
      closed fits gate (records_of fits i.bytes) (after gate (following ns) i.bytes byte)
      (prefix_same fits gate (records_of fits i.bytes) i.bytes (after gate (following ns) i.bytes byte) s.holds.prefix
      (prefix_kept gate (following ns) i.bytes byte s.holds.prefix.room (after gate (following ns) i.bytes byte) refl)
      (omega (arith, long gate (following ns) i.bytes byte s.holds.prefix.room (after gate (following ns) i.bytes byte) refl)))
      (λ one. other (sym (gate_is gate (following ns) i.bytes byte s.holds.prefix.room (after gate (following ns) i.bytes byte) refl) ∙ one))
      ∙ ap (λ (b : Bool). Ok (kept_all b (records_of fits i.bytes) ns)) (sym (one_is_not byte other)))
      (cases_eq byte 1)

  at_rest : records fits i.bytes ≡ Ok (records_of fits i.bytes)
  at_rest = closed fits gate (records_of fits i.bytes) i.bytes s.holds.prefix s.holds.shut

  pub stopped : (calls : ℕ) (fill : Fill)
      → records fits (picked_bytes fill (opened gate (following ns) calls i)) ≡ Ok (kept_all (is_kept calls fill) (records_of fits i.bytes) ns)
  stopped zero Old = ap (records fits) s.holds.settled.same ∙ at_rest
  stopped zero New = at_rest
  stopped zero (Byte b) = ap (λ (ranges : List (ℕ × ℕ)). records fits (filled b ranges i.bytes)) s.holds.settled.none ∙ at_rest
  stopped (suc zero) Old = ap (records fits) s.holds.settled.same ∙ at_rest
  stopped (suc zero) New = up_staged
  stopped (suc zero) (Byte b) =
      ap (λ (ranges : List (ℕ × ℕ)). records fits
      (filled b (ranges ++ (gate + 1, length (following ns)) ∷ []) (patched i.bytes (gate + 1) (following ns)))) s.holds.settled.none
      ∙ up (painted b (gate + 1, length (following ns)) (patched i.bytes (gate + 1) (following ns)))
      (painted_prefix b (gate + 1) (length (following ns)) (gate + 1) (patched i.bytes (gate + 1) (following ns)) (omega arith) ∙ staged_prefix)
      (omega (arith, length-painted b (gate + 1) (length (following ns)) (patched i.bytes (gate + 1) (following ns)), staged_long))
  stopped (suc (suc zero)) Old = up_staged
  stopped (suc (suc zero)) New = up_staged
  stopped (suc (suc zero)) (Byte b) = up_staged
  stopped (suc (suc (suc zero))) Old = up_staged
  stopped (suc (suc (suc zero))) New = by_gate 1
  stopped (suc (suc (suc zero))) (Byte b) = ap (records fits) (patched_again (patched i.bytes (gate + 1) (following ns)) gate 1 b staged_long) ∙ by_gate b
  stopped (suc (suc (suc (suc n)))) Old = by_gate 1
  stopped (suc (suc (suc (suc n)))) New = by_gate 1
  stopped (suc (suc (suc (suc n)))) (Byte b) = by_gate 1

  left_up : (c : List ℕ) → take (gate + 1) c ≡ take (gate + 1) i.bytes → gate < length c → IsAfterGate gate (following ns) i.bytes c
  left_up c same within = inl (record { same = same; within = within })

  left_staged : IsAfterGate gate (following ns) i.bytes (patched i.bytes (gate + 1) (following ns))
  left_staged = left_up (patched i.bytes (gate + 1) (following ns)) staged_prefix staged_long

  left_same : (c : List ℕ) → c ≡ i.bytes → IsAfterGate gate (following ns) i.bytes c
  left_same c same = left_up c (ap (take (gate + 1)) same) (omega (arith, ap length same, s.holds.prefix.room))

  -- and all that is picked is the beginning, or the whole piece after the gate
  left : (calls : ℕ) (fill : Fill) → IsAfterGate gate (following ns) i.bytes (picked_bytes fill (opened gate (following ns) calls i))
  left zero Old = left_same i.synced s.holds.settled.same
  left zero New = left_same i.bytes refl
  left zero (Byte b) = left_same (filled b i.touched i.bytes) (ap (λ (ranges : List (ℕ × ℕ)). filled b ranges i.bytes) s.holds.settled.none)
  left (suc zero) Old = left_same i.synced s.holds.settled.same
  left (suc zero) New = left_staged
  left (suc zero) (Byte b) =
      subst (λ (ranges : List (ℕ × ℕ)). IsAfterGate gate (following ns) i.bytes
      (filled b (ranges ++ (gate + 1, length (following ns)) ∷ []) (patched i.bytes (gate + 1) (following ns)))) (sym s.holds.settled.none)
      (left_up (painted b (gate + 1, length (following ns)) (patched i.bytes (gate + 1) (following ns)))
      (painted_prefix b (gate + 1) (length (following ns)) (gate + 1) (patched i.bytes (gate + 1) (following ns)) (omega arith) ∙ staged_prefix)
      (omega (arith, length-painted b (gate + 1) (length (following ns)) (patched i.bytes (gate + 1) (following ns)), staged_long)))
  left (suc (suc zero)) Old = left_staged
  left (suc (suc zero)) New = left_staged
  left (suc (suc zero)) (Byte b) = left_staged
  left (suc (suc (suc zero))) Old = left_staged
  left (suc (suc (suc zero))) New = inr (1, refl)
  left (suc (suc (suc zero))) (Byte b) = inr (b, patched_again (patched i.bytes (gate + 1) (following ns)) gate 1 b staged_long)
  left (suc (suc (suc (suc n)))) Old = inr (1, refl)
  left (suc (suc (suc (suc n)))) New = inr (1, refl)
  left (suc (suc (suc (suc n)))) (Byte b) = inr (1, refl)

  pub stopped_head : (calls : ℕ) (fill : Fill) → SameHead i.bytes (picked_bytes fill (opened gate (following ns) calls i))
  stopped_head calls fill =
      head_stays gate (following ns) i.bytes (picked_bytes fill (opened gate (following ns) calls i))
      (omega (arith, s.holds.prefix.place)) s.holds.prefix.room (left calls fill)

-- ---- a journal that is written whole

not_one : (b : ℕ) → (b == 1) ≡ false → b ≡ 1 → ⊥
not_one b is one = grind (arith, nat_tests)

module _ (epoch : ℕ) (rs : List (List ℕ)) where
  long_prefix : 17 ≤ length (closed_prefix epoch)
  long_prefix = omega (arith, length-closed_prefix epoch)

  shut_rest : is_open (closed_prefix epoch) ≡ false
  shut_rest = shut_up epoch (closed_prefix epoch) refl

  filled_prefix : take 17 (patched (closed_prefix epoch) 17 (filling rs)) ≡ take 17 (closed_prefix epoch)
  filled_prefix = prefix_of_patched (closed_prefix epoch) (filling rs) 17 long_prefix

  shut_filled : is_open (patched (closed_prefix epoch) 17 (filling rs)) ≡ false
  shut_filled = shut_up epoch (patched (closed_prefix epoch) 17 (filling rs)) filled_prefix

  filled_long : 16 < length (patched (closed_prefix epoch) 17 (filling rs))
  filled_long = omega (arith, length-patched (closed_prefix epoch) (filling rs) 17 long_prefix, long_prefix)

  -- until its head gate is kept open the head is shut
  pub shut_head_kept : (calls : ℕ) (fill : Fill) → is_kept calls fill ≡ false
      → is_open (picked_bytes fill (opened 16 (filling rs) calls (settled_at (closed_prefix epoch)))) ≡ false
  shut_head_kept zero Old lost = shut_rest
  shut_head_kept zero New lost = shut_rest
  shut_head_kept zero (Byte b) lost = shut_rest
  shut_head_kept (suc zero) Old lost = shut_rest
  shut_head_kept (suc zero) New lost = shut_filled
  shut_head_kept (suc zero) (Byte b) lost = shut_up epoch (painted b (17, length (filling rs)) (patched (closed_prefix epoch) 17 (filling rs)))
      (painted_prefix b 17 (length (filling rs)) 17 (patched (closed_prefix epoch) 17 (filling rs)) (omega arith) ∙ filled_prefix)
  shut_head_kept (suc (suc zero)) Old lost = shut_filled
  shut_head_kept (suc (suc zero)) New lost = shut_filled
  shut_head_kept (suc (suc zero)) (Byte b) lost = shut_filled
  shut_head_kept (suc (suc (suc zero))) Old lost = shut_filled
  shut_head_kept (suc (suc (suc zero))) New lost = cc
  shut_head_kept (suc (suc (suc zero))) (Byte b) lost =
      ap is_open (patched_again (patched (closed_prefix epoch) 17 (filling rs)) 16 1 b filled_long) ∙ shut_by epoch b rs (not_one b lost)
  shut_head_kept (suc (suc (suc (suc n)))) fill lost = cc

pub shut_kept : (epoch : ℕ) (rs : List (List ℕ)) (i : Image) (calls : ℕ) (fill : Fill) → IsCleared epoch i → is_kept calls fill ≡ false
    → is_open (picked_bytes fill (opened 16 (filling rs) calls i)) ≡ false
shut_kept epoch rs i calls fill cleared lost =
    ap (λ (j : Image). is_open (picked_bytes fill (opened 16 (filling rs) calls j))) cleared ∙ shut_head_kept epoch rs calls fill lost

-- What an append leaves, as records.
use Rattle.std.{specs.Option.option_map, proofs.Common.{◌≡◌, ◌≢◌, inl, inr, ⊎_elim, ℕ, ◌+◌, ◌-◌, ◌<◌, ◌≤◌, max, List, [], ◌∷◌, ◌++◌, length, get_or, take}}
use Rattle.std.proofs.Common.{drop, Bool, Option, None, Some, IfSome, IsSome, Ok, refl, sym, ◌∙◌, ap, subst, arith, append_assoc, length-append, length-take}
use Rattle.std.proofs.{Common.length-drop, lemmas.{List.{take_at, drop_at, get_or_at, get_or-take, get_or-drop, take-take, append-nil}, Bool.cases_eq}}
use Rattle.spl_edge.specs.Devices.{Image, patched}
use Rattle.spl_journal.specs.{Gate.{IsReady, IsUpToGate, IsAfterGate, after, opened, LeavesBetween}, Records.{form_in, longest_in, size_bytes, block, blocks}}
use Rattle.spl_journal.specs.Records.{filling, following, sized, records, records_of, AreGood, AreRecords, IsPrefix, Holds, Standing, IsBeforeOrAll, SameHead}
use Rattle.spl_journal.{specs.declared.journal_form.TheConstants.WRITTEN, proofs.{Forms.{longest_of, same_form, same_longest}, Sizes.length-size_bytes}}
use Rattle.spl_journal.proofs.{Sizes.same_epoch, Pieces.{lift1, lift2}, Readings.holds_own, Images.{Safe, prefix_of_patched, only_settled}, Gates.started}
use Rattle.spl_journal.proofs.Walks.{length-block, closed, prefix_all, prefix_same}

pub after_is : (gate : ℕ) (piece bytes : List ℕ) (byte : ℕ) → gate < length bytes
    → after gate piece bytes byte ≡ take gate bytes ++ byte ∷ (piece ++ drop (gate + 1 + length piece) bytes)
after_is gate piece bytes byte within =
    let staged = patched bytes (gate + 1) piece in
    let start : take (gate + 1) bytes ++ piece ++ drop (gate + 1 + length piece) bytes
    ≡ take (gate + 1) bytes ++ (piece ++ drop (gate + 1 + length piece) bytes) = append_assoc (take (gate + 1) bytes) piece
    (drop (gate + 1 + length piece) bytes) in
    let rest : drop (gate + 1) staged ≡ piece ++ drop (gate + 1 + length piece) bytes =
    ap (drop (gate + 1)) start
    ∙ drop_at (take (gate + 1) bytes) (piece ++ drop (gate + 1 + length piece) bytes) (gate + 1) (omega (arith, length-take (gate + 1) bytes, within)) in
    let prefix : take gate staged ≡ take gate bytes =
    sym (take-take gate (gate + 1) staged (omega arith)) ∙ ap (take gate) (prefix_of_patched bytes piece (gate + 1) (omega (arith, within)))
    ∙ take-take gate (gate + 1) bytes (omega arith) in
    ap (λ (l : List ℕ). l ++ (byte ∷ []) ++ drop (gate + 1) staged) prefix ∙ ap (λ (l : List ℕ). take gate bytes ++ (byte ∷ []) ++ l) rest
    ∙ append_assoc (take gate bytes) (byte ∷ []) (piece ++ drop (gate + 1 + length piece) bytes)

module _ (gate : ℕ) (piece bytes : List ℕ) (byte : ℕ) (within : gate < length bytes) (c : List ℕ) (is : c ≡ after gate piece bytes byte) where
  whole : c ≡ take gate bytes ++ byte ∷ (piece ++ drop (gate + 1 + length piece) bytes)
  whole = is ∙ after_is gate piece bytes byte within

  size : length (take gate bytes) ≡ gate
  size = omega (arith, length-take gate bytes, within)

  pub prefix_kept : take gate c ≡ take gate bytes
  prefix_kept = ap (take gate) whole ∙ take_at (take gate bytes) (byte ∷ (piece ++ drop (gate + 1 + length piece) bytes)) gate size

  pub gate_is : get_or c gate 0 ≡ byte
  gate_is = ap (λ (l : List ℕ). get_or l gate 0) whole ∙ get_or_at (take gate bytes) byte (piece ++ drop (gate + 1 + length piece) bytes) 0 gate size

  pub rest_is : drop gate c ≡ byte ∷ (piece ++ drop (gate + 1 + length piece) bytes)
  rest_is = ap (drop gate) whole ∙ drop_at (take gate bytes) (byte ∷ (piece ++ drop (gate + 1 + length piece) bytes)) gate size

  pub long : length c ≡ gate + 1 + (length piece + (length bytes - (gate + 1 + length piece)))
  long = omega (
    arith,
    ap length whole,
    length-append (take gate bytes) (byte ∷ (piece ++ drop (gate + 1 + length piece) bytes)),
    size,
    length-append piece (drop (gate + 1 + length piece) bytes),
    length-drop (gate + 1 + length piece) bytes,
  )

pub length-sized : (r : List ℕ) → length (sized r) ≡ 5 + length r
length-sized r = omega (arith, length-append (size_bytes (length r) ++ r) (0 ∷ []), length-append (size_bytes (length r)) r, length-size_bytes (length r))

pub length-following : (ns : List (List ℕ)) → 0 < length ns → length (following ns) ≡ length (blocks ns)
length-following [] some = absurd (omega (arith, some))
length-following (n ∷ ns) some = omega (arith, length-append (blocks (n ∷ ns)) (0 ∷ []), length-drop 1 (filling (n ∷ ns)))

-- the gate of the first before them
opened_following : (ns : List (List ℕ)) → 0 < length ns → 1 ∷ following ns ≡ filling ns
opened_following [] some = absurd (omega (arith, some))
opened_following (n ∷ ns) some = refl

-- one record alone
pub following_one : (r : List ℕ) → following (r ∷ []) ≡ sized r
following_one r = ap (λ (l : List ℕ). l ++ 0 ∷ []) (append-nil (size_bytes (length r) ++ r))

pub length-one : (r : List ℕ) → length (blocks (r ∷ [])) ≡ 5 + length r
length-one r = omega (arith, ap length (append-nil (block r)), length-block r)

-- a prefix has the head in it
prefix_17 : (gate : ℕ) (c bytes : List ℕ) → 17 ≤ gate → take gate c ≡ take gate bytes → take 17 c ≡ take 17 bytes
prefix_17 gate c bytes low same = sym (take-take 17 gate c low) ∙ ap (take 17) same ∙ take-take 17 gate bytes low

-- the gate is open: one record more, and a closed gate after it
module _ (fits : List ℕ → Bool) (gate : ℕ) (rs : List (List ℕ)) (bytes : List ℕ) (ns : List (List ℕ)) (some : 0 < length ns) (c : List ℕ)
    (prefix : IsPrefix fits gate rs bytes) (form : form_in bytes ≡ Some WRITTEN) (good : AreGood fits ns) (is : c ≡ after gate (following ns) bytes 1) where
  rest : drop gate c ≡ blocks ns ++ 0 ∷ drop (gate + 1 + length (following ns)) bytes
  rest = rest_is gate (following ns) bytes 1 prefix.room c is
      ∙ ap (λ (l : List ℕ). l ++ drop (gate + 1 + length (following ns)) bytes) (opened_following ns some)
      ∙ append_assoc (blocks ns) (0 ∷ []) (drop (gate + 1 + length (following ns)) bytes)

  room : gate + length (blocks ns) < length c
  room = omega (arith, long gate (following ns) bytes 1 prefix.room c is, length-following ns some)

  kept : take gate c ≡ take gate bytes
  kept = prefix_kept gate (following ns) bytes 1 prefix.room c is

  longest : longest_in c ≡ WRITTEN.longest
  longest = same_longest bytes c (prefix_17 gate c bytes (omega (arith, prefix.place)) kept) ∙ longest_of bytes WRITTEN form

  pub prefix_after : IsPrefix fits (gate + length (blocks ns)) (rs ++ ns) c
  prefix_after =
      prefix_all fits gate rs c ns (prefix_same fits gate rs bytes c prefix kept (omega (arith, room)))
      (subst (λ (n : ℕ). AreRecords n fits ns) (sym longest) good)
      (ap (take (length (blocks ns))) rest ∙ take_at (blocks ns) (0 ∷ drop (gate + 1 + length (following ns)) bytes) (length (blocks ns)) refl) room

  pub shut_after : get_or c (gate + length (blocks ns)) 0 ≢ 1
  shut_after one =
      let place : gate + length (blocks ns) ≡ gate + (length (blocks ns)) = omega arith in
      let nought : get_or c (gate + length (blocks ns)) 0 ≡ 0 =
      ap (λ (n : ℕ). get_or c n 0) place ∙ sym (get_or-drop gate c (length (blocks ns)) 0) ∙ ap (λ (l : List ℕ). get_or l (length (blocks ns)) 0) rest
      ∙ get_or_at (blocks ns) 0 (drop (gate + 1 + length (following ns)) bytes) 0 (length (blocks ns)) refl in
      omega (arith, one, nought)

-- each outcome of an append
pub before_or_all : (fits : List ℕ → Bool) (gate : ℕ) (rs : List (List ℕ)) (bytes : List ℕ) (ns : List (List ℕ)) (some : 0 < length ns) (c : List ℕ)
    → IsPrefix fits gate rs bytes → get_or bytes gate 0 ≢ 1 → form_in bytes ≡ Some WRITTEN → AreGood fits ns → IsAfterGate gate (following ns) bytes c
    → IsBeforeOrAll fits rs ns c
before_or_all fits gate rs bytes ns some c prefix shut form good = ⊎_elim
    (λ (up : IsUpToGate gate bytes c).
    let less : take gate c ≡ take gate bytes =
    sym (take-take gate (gate + 1) c (omega arith)) ∙ ap (take gate) up.same ∙ take-take gate (gate + 1) bytes (omega arith) in
    let same : get_or c gate 0 ≡ get_or bytes gate 0 =
    sym (get_or-take (gate + 1) c gate 0 (omega arith)) ∙ ap (λ (l : List ℕ). get_or l gate 0) up.same
    ∙ get_or-take (gate + 1) bytes gate 0 (omega arith) in
    inl (closed fits gate rs c (prefix_same fits gate rs bytes c prefix less up.within) (λ one. shut (sym same ∙ one))))
    (λ (byte, is). ⊎_elim
    (λ (one : byte ≡ 1).
    let now : c ≡ after gate (following ns) bytes 1 = is ∙ ap (after gate (following ns) bytes) one in
    inr (closed fits (gate + length (blocks ns)) (rs ++ ns) c (prefix_after fits gate rs bytes ns some c prefix form good now)
    (shut_after fits gate rs bytes ns some c prefix form good now)))
    (λ other. inl (closed fits gate rs c
    (prefix_same fits gate rs bytes c prefix (prefix_kept gate (following ns) bytes byte prefix.room c is)
    (omega (arith, long gate (following ns) bytes byte prefix.room c is)))
    (λ one. other (sym (gate_is gate (following ns) bytes byte prefix.room c is) ∙ one))))
    (cases_eq byte 1))

pub leaves_map : (at : ℕ → Option Image) (first last : ℕ) (P Q : List ℕ → Type 0) → ((c : List ℕ) → P c → Q c) → LeavesBetween at first last P
    → LeavesBetween at first last Q
leaves_map at first last P Q f left k low high = lift1 (at k) (Safe P) (Safe Q) (left k low high) (λ i safe c may. f c (safe c may))

-- the head stays
pub head_stays : (gate : ℕ) (piece bytes c : List ℕ) → 17 ≤ gate → gate < length bytes → IsAfterGate gate piece bytes c → SameHead bytes c
head_stays gate piece bytes c low within = ⊎_elim
    (λ (up : IsUpToGate gate bytes c). record { same = prefix_17 (gate + 1) c bytes (omega (arith, low)) up.same; room = omega (arith, low, up.within) })
    (λ (byte, is). record {
      same = prefix_17 gate c bytes low (prefix_kept gate piece bytes byte within c is);
      room = omega (arith, low, within, long gate piece bytes byte within c is);
    })

module _ (fits : List ℕ → Bool) (gate extent epoch : ℕ) (ns : List (List ℕ)) (some : 0 < length ns) where
  pub ready : (told : Option Image) → IfSome told (Standing fits gate extent epoch) → IfSome told (IsReady gate)
  ready told stands =
      lift1 told (Standing fits gate extent epoch) (IsReady gate) stands (λ i s. record { settled = s.holds.settled; within = s.holds.prefix.room })

  low : (i : Image) → Standing fits gate extent epoch i → 17 ≤ gate
  low i s = omega (arith, s.holds.prefix.place)

  -- what is left has the records of before, or one more
  pub append_leaves : (told : Option Image) (at : ℕ → Option Image) (first last : ℕ) → IfSome told (Standing fits gate extent epoch) → AreGood fits ns
      → IfSome told (λ i. LeavesBetween at first last (IsAfterGate gate (following ns) i.bytes))
      → IfSome told (λ i. LeavesBetween at first last (IsBeforeOrAll fits (records_of fits i.bytes) ns))
  append_leaves told at first last stands good left =
      lift2 told (Standing fits gate extent epoch) (λ i. LeavesBetween at first last (IsAfterGate gate (following ns) i.bytes))
      (λ i. LeavesBetween at first last (IsBeforeOrAll fits (records_of fits i.bytes) ns)) stands left
      (λ i s l. leaves_map at first last (IsAfterGate gate (following ns) i.bytes) (IsBeforeOrAll fits (records_of fits i.bytes) ns)
      (λ c b. before_or_all fits gate (records_of fits i.bytes) i.bytes ns some c s.holds.prefix s.holds.shut s.form_is good b) l)

  pub head_leaves : (told : Option Image) (at : ℕ → Option Image) (first last : ℕ) → IfSome told (Standing fits gate extent epoch)
      → IfSome told (λ i. LeavesBetween at first last (IsAfterGate gate (following ns) i.bytes))
      → IfSome told (λ i. LeavesBetween at first last (SameHead i.bytes))
  head_leaves told at first last stands left =
      lift2 told (Standing fits gate extent epoch) (λ i. LeavesBetween at first last (IsAfterGate gate (following ns) i.bytes))
      (λ i. LeavesBetween at first last (SameHead i.bytes)) stands left
      (λ i s l. leaves_map at first last (IsAfterGate gate (following ns) i.bytes) (SameHead i.bytes)
      (λ c b. head_stays gate (following ns) i.bytes c (low i s) s.holds.prefix.room b) l)

  -- before the first call
  begun : (i : Image) (at : ℕ → Option Image) (first : ℕ) → Standing fits gate extent epoch i → at first ≡ Some i
      → LeavesBetween at first first (IsAfterGate gate (following ns) i.bytes)
  begun i at first s here =
      started at first (IsAfterGate gate (following ns) i.bytes)
      (subst (λ (o : Option Image). IfSome o (Safe (IsAfterGate gate (following ns) i.bytes))) (sym here)
      (λ c left. let same = only_settled i c s.holds.settled left in
      inl (record { same = ap (take (gate + 1)) same; within = omega (arith, ap length same, s.holds.prefix.room) })))

  pub append_begun : (told : Option Image) (at : ℕ → Option Image) (first : ℕ) → IfSome told (Standing fits gate extent epoch) → at first ≡ told
      → IfSome told (λ i. LeavesBetween at first first (IsAfterGate gate (following ns) i.bytes))
  append_begun None at first stands here = tt
  append_begun (Some i) at first stands here = begun i at first stands here

  module _ (i : Image) (s : Standing fits gate extent epoch i) (good : AreGood fits ns) where
    holds_after : Holds fits (gate + length (blocks ns)) (records_of fits i.bytes ++ ns) (opened gate (following ns) 4 i)
    holds_after = record {
      prefix = prefix_after fits gate (records_of fits i.bytes) i.bytes ns some (after gate (following ns) i.bytes 1) s.holds.prefix s.form_is good refl;
      shut = shut_after fits gate (records_of fits i.bytes) i.bytes ns some (after gate (following ns) i.bytes 1) s.holds.prefix s.form_is good refl;
      settled = record { same = refl; none = refl; least = refl; greatest = refl };
    }

    records_after : records fits (opened gate (following ns) 4 i).bytes ≡ Ok (records_of fits i.bytes ++ ns)
    records_after =
        closed fits (gate + length (blocks ns)) (records_of fits i.bytes ++ ns) (opened gate (following ns) 4 i).bytes holds_after.prefix holds_after.shut

    standing_after : (end size : ℕ) → end ≡ gate + length (blocks ns) → size ≡ max extent (end + 1)
        → Standing fits end size epoch (opened gate (following ns) 4 i)
    standing_after end size place grown =
        let kept : take 17 (after gate (following ns) i.bytes 1) ≡ take 17 i.bytes =
        (head_stays gate (following ns) i.bytes (after gate (following ns) i.bytes 1) (low i s) s.holds.prefix.room (inr (1, refl))).same in
        record {
          holds = subst (λ (n : ℕ). Holds fits n (records_of fits (opened gate (following ns) 4 i).bytes) (opened gate (following ns) 4 i)) (sym place)
              (holds_own fits (gate + length (blocks ns)) (records_of fits i.bytes ++ ns) (opened gate (following ns) 4 i) holds_after);
          extent_is =
              omega (
                arith,
                long gate (following ns) i.bytes 1 s.holds.prefix.room (after gate (following ns) i.bytes 1) refl,
                length-following ns some,
                s.extent_is,
                s.holds.prefix.room,
                place,
                grown,
              );
          epoch_is = same_epoch i.bytes (after gate (following ns) i.bytes 1) kept ∙ s.epoch_is;
          form_is = same_form i.bytes (after gate (following ns) i.bytes 1) kept ∙ s.form_is;
        }

  pub stands_after : (told new : Option Image) (end size : ℕ) → IfSome told (Standing fits gate extent epoch) → AreGood fits ns
      → new ≡ option_map (opened gate (following ns) 4) told → end ≡ gate + length (blocks ns) → size ≡ max extent (end + 1)
      → IfSome new (Standing fits end size epoch)
  stands_after None new end size stands good is place grown = subst (λ (o : Option Image). IfSome o (Standing fits end size epoch)) (sym is) tt
  stands_after (Some i) new end size stands good is place grown =
      subst (λ (o : Option Image). IfSome o (Standing fits end size epoch)) (sym is) (standing_after i stands good end size place grown)

  pub records_told : (told new : Option Image) → IfSome told (Standing fits gate extent epoch) → AreGood fits ns
      → new ≡ option_map (opened gate (following ns) 4) told → IfSome told (λ i. IfSome new (λ j. records fits j.bytes ≡ Ok (records_of fits i.bytes ++ ns)))
  records_told None new stands good is = tt
  records_told (Some i) new stands good is =
      subst (λ (o : Option Image). IfSome o (λ j. records fits j.bytes ≡ Ok (records_of fits i.bytes ++ ns))) (sym is) (records_after i stands good)

-- what reported goes on reporting
pub still_told : (told new : Option Image) (f : Image → Image) → new ≡ option_map f told → IfSome told (λ i. IsSome new)
still_told None new f is = tt
still_told (Some i) new f is = subst (λ (o : Option Image). IsSome o) (sym is) refl

-- The watchers of a circuit by their names.
use Rattle.std.{specs.{List.{list_any, position_from}, Prelude.{nat_le, nat_lt, is_some}}, proofs.Common.{◌≡◌, ◌⊎◌, inl, inr, ℕ, zero, suc, ◌+◌, ◌<◌, ◌≤◌}}
use Rattle.std.proofs.Common.{true, false, List, [], ◌∷◌, length, slice_get, slice_set, Option, Some, None, refl, sym, ap, subst, ◌∙◌, arith}
use Rattle.std.proofs.lemmas.Bool.{lt-ltb, le-ltb, le-leb, lt-leb}
use Rattle.spl_agree.proofs.Tests.{bool_cases, length-values}
use Rattle.spl_circuit.specs.{Equality.same_definition, Same.{definition_is, definition_same}, declared.definition.Definition.Definition}
use Rattle.spl_command.specs.declared.batch.Batch.{Batch}
use Rattle.spl_cell_rules.specs.Cells.{Bound, Held}
use Rattle.spl_delta.specs.Watches.{deltas, IsHere, Watcher, is_named, moved_on, pulled_by, taken_count, watched, watcher_named, watchers_after}
use Rattle.spl_delta.specs.declared.answer.WatchAnswer.{WatchAnswer, TheVariants.{Watching, Taken, Down, NoCircuit, NotActive, NameTaken, BadPlace}}
use Rattle.spl_delta.specs.declared.{answer.WatchAnswer.TheVariants.{NoWatcher, WrongCircuit, TooManyWatchers}, group.TheConstants.MOST_WATCHERS}
use Rattle.spl_delta.specs.declared.line.WatchLine.TheVariants.{Pull}

-- what stands at an index is written back
pub set_back : {X : Type 0} (xs : List X) (i : ℕ) (x : X) → slice_get xs i ≡ Some x → slice_set xs i x ≡ xs
set_back [] i x h = refl
set_back (y ∷ xs) zero x h = let same : y ≡ x = cc in ap (λ (z : _). z ∷ xs) (sym same)
set_back (y ∷ xs) (suc i) x h = ap (λ (zs : List _). y ∷ zs) (set_back xs i x h)

-- the first watcher of a name stands at this index
pub record IsFound (name : List ℕ) (ts : List Watcher) (i : ℕ) (t : Watcher) : Type 0 where
  pub there : slice_get ts i ≡ Some t
  pub named : watcher_named name ts ≡ Some t
  pub taken : list_any (is_named name) ts ≡ true
  pub moves : (n : ℕ) → moved_on name n ts ≡ slice_set ts i (record t { next = t.next + n })

found_from : (name : List ℕ) (ts : List Watcher) (k j : ℕ) → position_from (is_named name) k ts ≡ Some j
    → (i : ℕ) × (j ≡ k + i) × (t : Watcher) × IsFound name ts i t
found_from name [] k j h = cc
found_from name (x ∷ ts) k j h = go (bool_cases (is_named name x)) (found_from name ts (k + 1) j)
  where
    after : is_named name x ≡ false → (i : ℕ) (t : Watcher) → IsFound name ts i t → IsFound name (x ∷ ts) (suc i) t
    after q i t f = record { there = f.there; named = rw q f.named; taken = rw q f.taken; moves = λ n. rw q (ap (λ (us : List Watcher). x ∷ us) (f.moves n)) }

    go : (is_named name x ≡ true) ⊎ (is_named name x ≡ false)
        → (position_from (is_named name) (k + 1) ts ≡ Some j → (i : ℕ) × (j ≡ (k + 1) + i) × (t : Watcher) × IsFound name ts i t)
        → (i : ℕ) × (j ≡ k + i) × (t : Watcher) × IsFound name (x ∷ ts) i t
    go (inl q) more =
        let here : Some k ≡ Some j = rw q at h in
        let same : k ≡ j = cc in
        let e : j ≡ k + 0 = omega (arith, same) in
        (0, e, x, record { there = refl; named = rw q refl; taken = rw q refl; moves = λ n. rw q refl })
    go (inr q) more =
        let r = more (rw q at h) in
        let e : j ≡ k + suc r.0 = omega (arith, r.1) in
        (suc r.0, e, r.2, after q r.0 r.2 r.3)

pub found : (name : List ℕ) (ts : List Watcher) (i : ℕ) → position_from (is_named name) 0 ts ≡ Some i → (t : Watcher) × IsFound name ts i t
found name ts i h =
    let r = found_from name ts 0 i h in
    let e : r.0 ≡ i = omega (arith, r.1) in
    (r.2, subst (λ (j : ℕ). IsFound name ts j r.2) e r.3)

-- no watcher has the name
pub unnamed : (name : List ℕ) (ts : List Watcher) (k : ℕ) → position_from (is_named name) k ts ≡ None
    → (watcher_named name ts ≡ None) × (list_any (is_named name) ts ≡ false)
unnamed name [] k h = (refl, refl)
unnamed name (x ∷ ts) k h = go (bool_cases (is_named name x)) (unnamed name ts (k + 1))
  where
    go : (is_named name x ≡ true) ⊎ (is_named name x ≡ false)
        → (position_from (is_named name) (k + 1) ts ≡ None → (watcher_named name ts ≡ None) × (list_any (is_named name) ts ≡ false))
        → (watcher_named name (x ∷ ts) ≡ None) × (list_any (is_named name) (x ∷ ts) ≡ false)
    go (inl q) more = absurd (let here : Some k ≡ None = rw q at h in cc)
    go (inr q) more = let r = more (rw q at h) in (rw q r.0, rw q r.1)

-- ---- what becomes of the watchers after a pull

module _ (h : Bound) (name n c : List ℕ) (count : ℕ) (ts : List Watcher) (i : ℕ) (t : Watcher) (f : IsFound name ts i t) where
  abbrev moved : WatchAnswer → List Watcher
  moved a = slice_set ts i (record t { next = t.next + taken_count a })

  still : moved NoWatcher ≡ ts
  still =
      let none : t.next + 0 ≡ t.next = omega arith in
      ap (λ (k : ℕ). slice_set ts i (record t { next = k })) none ∙ set_back ts i t f.there

  pub moved_after : (a : WatchAnswer) → moved a ≡ watchers_after (Held h) ts (Pull n c name count) a
  moved_after (Watching place) = still
  moved_after (Taken ds) = sym (f.moves (length ds))
  moved_after Down = still
  moved_after NoCircuit = still
  moved_after NotActive = still
  moved_after NameTaken = still
  moved_after (BadPlace committed) = still
  moved_after NoWatcher = still
  moved_after WrongCircuit = still
  moved_after TooManyWatchers = still

-- ---- at a cell that is bound to this definition, and has these batches

module _ (h : Bound) (d : Definition) (bs : List Batch) (here : IsHere h d bs) where
  committed_is : length h.batches.history ≡ length bs
  committed_is = sym (length-values h.batches.history) ∙ ap length here.batches_are

  -- what one takes
  module _ (count : ℕ) (t : Watcher) where
    pub pulled_other : (d ≡ t.definition → ⊥) → WrongCircuit ≡ pulled_by h count (Some t)
    pulled_other off = go (bool_cases (same_definition h.definition t.definition))
      where
        go : (same_definition h.definition t.definition ≡ true) ⊎ (same_definition h.definition t.definition ≡ false)
            → WrongCircuit ≡ pulled_by h count (Some t)
        go (inl q) = absurd (off (sym here.definition_is ∙ definition_is h.definition t.definition q))
        go (inr q) = rw q refl

    pub pulled_own : d ≡ t.definition → Taken (deltas bs t.next count) ≡ pulled_by h count (Some t)
    pulled_own same =
        let is : same_definition h.definition t.definition ≡ true =
        ap (same_definition h.definition) (sym same ∙ sym here.definition_is) ∙ definition_same h.definition in
        rw is (ap (λ (xs : List Batch). Taken (deltas xs t.next count)) (sym here.batches_are))

  -- what one more is told
  module _ (ts : List Watcher) (name : List ℕ) (place : ℕ) where
    pub told_taken : is_some (position_from (is_named name) 0 ts) ≡ true → NameTaken ≡ watched h ts name place
    told_taken some = go (position_from (is_named name) 0 ts) refl
      where
        go : (o : Option ℕ) → position_from (is_named name) 0 ts ≡ o → NameTaken ≡ watched h ts name place
        go (Some i) q = let taken = (found name ts i q).1.taken in rw taken refl
        go None q = absurd (let none : is_some (position_from (is_named name) 0 ts) ≡ false = ap is_some q in cc)

    module _ (free : is_some (position_from (is_named name) 0 ts) ≡ false) where
      none_named : list_any (is_named name) ts ≡ false
      none_named = go (position_from (is_named name) 0 ts) refl
        where
          go : (o : Option ℕ) → position_from (is_named name) 0 ts ≡ o → list_any (is_named name) ts ≡ false
          go None q = (unnamed name ts 0 q).1
          go (Some i) q = absurd (let some : is_some (position_from (is_named name) 0 ts) ≡ true = ap is_some q in cc)

      pub told_bad : length bs < place → BadPlace (length bs) ≡ watched h ts name place
      told_bad less =
          let low : nat_lt (length h.batches.history) place ≡ true = lt-ltb (length h.batches.history) place (omega (arith, less, committed_is)) in
          ap BadPlace (sym committed_is) ∙ (rw (none_named, low) refl)

      module _ (more : place ≤ length bs) where
        low : nat_lt (length h.batches.history) place ≡ false
        low = le-ltb (length h.batches.history) place (omega (arith, more, committed_is))

        pub told_many : 16 ≤ length ts → TooManyWatchers ≡ watched h ts name place
        told_many many = let full : nat_le MOST_WATCHERS (length ts) ≡ true = le-leb MOST_WATCHERS (length ts) many in rw (none_named, low, full) refl

        pub told_watching : length ts < 16 → Watching place ≡ watched h ts name place
        told_watching few = let room : nat_le MOST_WATCHERS (length ts) ≡ false = lt-leb MOST_WATCHERS (length ts) few in rw (none_named, low, room) refl

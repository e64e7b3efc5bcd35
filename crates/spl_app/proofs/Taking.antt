-- What a watcher takes is of the circuit's one list of batches: from its first place on, each delta once and in order.
use Rattle.std.specs.{Prelude.{Option, Some, None, nat_le, nat_lt, slice_get, if◌then◌else◌}, List.list_any, Option.option_map, Str.bytes_eq}
use Rattle.std.proofs.Common.{◌≡◌, ℕ, zero, suc, ◌+◌, ◌-◌, ◌≤◌, ◌<◌, ◌⊎◌, true, false, ◌&&◌, List, [], ◌∷◌, ◌++◌, append-nil, append_assoc, length}
use Rattle.std.proofs.{Common.{length-append, take, refl, sym, ap, subst, ◌∙◌, inl, inr, arith, le_of_lt}, lemmas.Bool.{leb-false, leb-true}}
use Rattle.std.proofs.lemmas.Option.{slice_get_within}
use Rattle.spl_agree.{specs.{Member.values, World.IsPrefixOf}, proofs.Tests.{bool_cases, if_holds, length-values, ltb_not}}
use Rattle.spl_circuit.specs.{Equality.same_definition, Nodes.{NodeId, CircuitId}, Rules.service, Same.{definition_is, node_is, node_same}}
use Rattle.spl_circuit.specs.declared.definition.Definition.{Definition}
use Rattle.spl_command.specs.{Lists.state_of, declared.batch.Batch.Batch}
use Rattle.spl_wire.specs.declared.answer.Answer.{Answer}
use Rattle.spl_cell_rules.specs.Cells.{Bound, Cell, Empty, Held, Purged, runs}
use Rattle.spl_circuit_world.specs.{Origins.is-blank, Projection.{AllPlain, Ran, lines_fit}, Worlds.{IsOrigin, Occurrence, Origin, World, blank, empty_world}}
use Rattle.spl_circuit_world.{specs.{Worlds.first_world, Whole.{whole_happened, whole_world}}, proofs.{Happens.{plain-whole, whole-run}, Owns.fits-left}}
use Rattle.spl_circuit_safety.{specs.Agreement.{batch_list, batches_in, HasLeft, gone_on_in}, proofs.{Occurrences.begins-batches, Shown.list-grows}}
use Rattle.spl_circuit_safety.proofs.ShownOn.{batches-begin, batches-grow}
use Rattle.spl_delta.specs.Watches.{and_deltas, delta_of, deltas, with_deltas, Watcher, is_named, moved_on, pulled_by, watch_told_at, told_by, watch_answer}
use Rattle.spl_delta.specs.Watches.{watch_circuit, watch_node, watcher_named, watchers_after, Line, OfLine, OfWatch, OfWatcher, Task, TaskAnswer}
use Rattle.spl_delta.specs.{Watches.{circuit_watched, lines_in, task_answer}, declared.answer.WatchAnswer.{WatchAnswer, TheVariants.{BadPlace, Down}}}
use Rattle.spl_delta.specs.declared.{answer.WatchAnswer.TheVariants.{NameTaken, NotActive, Taken, TooManyWatchers, Watching, WrongCircuit}, delta.Delta.Delta}
use Rattle.spl_delta.{specs.declared.{group.TheConstants.MOST_WATCHERS, line.WatchLine.{WatchLine, TheVariants.{Pull, Watch}}}, proofs.Replays.cut}
use Rattle.spl_delta.proofs.{Replays.{deltas-on, prefix-deltas, pulled, replays}, WholeWatched.{gone-append, lines-both, next, watch-answered}}
use Rattle.spl_delta.proofs.WholeWatched.{watchers-after_all, watchers_of, world_of}
use Rattle.spl_app.specs.Taken.{TakesOneList, WatchersTakeOn, WatchersTakeOneList, deltas_after, taken_by, answer_deltas}

-- ---- watchers by their names

-- one more: those of its name before it come first
more-named : (m : List ℕ) (x : Watcher) (ws : List Watcher) (t : Watcher) → watcher_named m (ws ++ x ∷ []) ≡ Some t
    → (watcher_named m ws ≡ Some t) ⊎ ((watcher_named m ws ≡ None) × (t ≡ x))
more-named m x [] t h = go (bool_cases (is_named m x))
  where
    go : (is_named m x ≡ true) ⊎ (is_named m x ≡ false) → (watcher_named m [] ≡ Some t) ⊎ ((watcher_named m [] ≡ None) × (t ≡ x))
    go (inl q) = let k : Some x ≡ Some t = rw q at h in inr (refl, cc)
    go (inr q) = let k : None ≡ Some t = rw q at h in absurd cc
more-named m x (w ∷ ws) t h = go (bool_cases (is_named m w)) (more-named m x ws t)
  where
    go : (is_named m w ≡ true) ⊎ (is_named m w ≡ false)
        → (watcher_named m (ws ++ x ∷ []) ≡ Some t → (watcher_named m ws ≡ Some t) ⊎ ((watcher_named m ws ≡ None) × (t ≡ x)))
        → (watcher_named m (w ∷ ws) ≡ Some t) ⊎ ((watcher_named m (w ∷ ws) ≡ None) × (t ≡ x))
    go (inl q) rest = let k : Some w ≡ Some t = rw q at h in inl (rw q k)
    go (inr q) rest = let k : watcher_named m (ws ++ x ∷ []) ≡ Some t = rw q at h in rw q (rest k)

more-unnamed : (m : List ℕ) (x : Watcher) (ws : List Watcher) → watcher_named m (ws ++ x ∷ []) ≡ None → watcher_named m ws ≡ None
more-unnamed m x [] h = refl
more-unnamed m x (w ∷ ws) h = go (bool_cases (is_named m w)) (more-unnamed m x ws)
  where
    go : (is_named m w ≡ true) ⊎ (is_named m w ≡ false) → (watcher_named m (ws ++ x ∷ []) ≡ None → watcher_named m ws ≡ None) → watcher_named m (w ∷ ws) ≡ None
    go (inl q) rest = let k : Some w ≡ None = rw q at h in absurd cc
    go (inr q) rest = let k : watcher_named m (ws ++ x ∷ []) ≡ None = rw q at h in rw q (rest k)

named-is : (m : List ℕ) (ws : List Watcher) (t : Watcher) → watcher_named m ws ≡ Some t → t.name ≡ m
named-is m [] t h = cc
named-is m (w ∷ ws) t h = go (bool_cases (is_named m w)) (named-is m ws t)
  where
    go : (is_named m w ≡ true) ⊎ (is_named m w ≡ false) → (watcher_named m ws ≡ Some t → t.name ≡ m) → t.name ≡ m
    go (inl q) rest = let k : Some w ≡ Some t = rw q at h in let same : w ≡ t = cc in subst (λ (u : Watcher). u.name ≡ m) same (node_is w.name m q)
    go (inr q) rest = let k : watcher_named m ws ≡ Some t = rw q at h in rest k

-- the watcher with so many more
abbrev on : Watcher → ℕ → Watcher
on t k = record t { next = t.next + k }

-- one that moved on, and the others
moved-named : (name m : List ℕ) (k : ℕ) (ws : List Watcher) (t u : Watcher) → watcher_named name ws ≡ Some t
    → watcher_named m (moved_on name k ws) ≡ Some u → ((bytes_eq name m ≡ true) × (u ≡ on t k)) ⊎ ((bytes_eq name m ≡ false) × (watcher_named m ws ≡ Some u))
moved-named name m k [] t u h j = cc
moved-named name m k (w ∷ ws) t u h j =
    go (bool_cases (is_named name w)) (bool_cases (bytes_eq name m)) (bool_cases (is_named m w)) (moved-named name m k ws t u)
  where
    go : (is_named name w ≡ true) ⊎ (is_named name w ≡ false) → (bytes_eq name m ≡ true) ⊎ (bytes_eq name m ≡ false)
        → (is_named m w ≡ true) ⊎ (is_named m w ≡ false)
        → (watcher_named name ws ≡ Some t → watcher_named m (moved_on name k ws) ≡ Some u
        → ((bytes_eq name m ≡ true) × (u ≡ on t k)) ⊎ ((bytes_eq name m ≡ false) × (watcher_named m ws ≡ Some u)))
        → ((bytes_eq name m ≡ true) × (u ≡ on t k)) ⊎ ((bytes_eq name m ≡ false) × (watcher_named m (w ∷ ws) ≡ Some u))
    go (inl q) (inl s) r rest =
        let mine : is_named m w ≡ true = subst (λ (x : List ℕ). is_named x w ≡ true) (node_is name m s) q in
        let found : Some w ≡ Some t = rw q at h in
        let moved : watcher_named m (on w k ∷ ws) ≡ Some u = rw q at j in
        let here : Some (on w k) ≡ Some u = rw mine at moved in
        let first : w ≡ t = cc in
        let second : on w k ≡ u = cc in
        inl (s, sym second ∙ ap (λ (x : Watcher). on x k) first)
    go (inl q) (inr s) (inl r) rest =
        let is : name ≡ m = sym (node_is w.name name q) ∙ node_is w.name m r in
        let same : bytes_eq name m ≡ true = subst (λ (x : List ℕ). bytes_eq name x ≡ true) is (node_same name) in
        absurd cc
    go (inl q) (inr s) (inr r) rest =
        let moved : watcher_named m (on w k ∷ ws) ≡ Some u = rw q at j in
        let other : watcher_named m ws ≡ Some u = rw r at moved in
        inr (s, rw r other)
    go (inr q) (inl s) (inl r) rest =
        let same : is_named name w ≡ true = subst (λ (x : List ℕ). is_named x w ≡ true) (sym (node_is name m s)) r in
        absurd cc
    go (inr q) (inr s) (inl r) rest =
        let moved : watcher_named m (w ∷ moved_on name k ws) ≡ Some u = rw q at j in
        let here : Some w ≡ Some u = rw r at moved in
        inr (s, rw r here)
    go (inr q) s (inr r) rest =
        let found : watcher_named name ws ≡ Some t = rw q at h in
        let moved : watcher_named m (w ∷ moved_on name k ws) ≡ Some u = rw q at j in
        let later : watcher_named m (moved_on name k ws) ≡ Some u = rw r at moved in
        rw r (rest found later)

moved-unnamed : (name m : List ℕ) (k : ℕ) (ws : List Watcher) → watcher_named m (moved_on name k ws) ≡ None → watcher_named m ws ≡ None
moved-unnamed name m k [] h = refl
moved-unnamed name m k (w ∷ ws) h = go (bool_cases (is_named name w)) (bool_cases (is_named m w)) (moved-unnamed name m k ws)
  where
    go : (is_named name w ≡ true) ⊎ (is_named name w ≡ false) → (is_named m w ≡ true) ⊎ (is_named m w ≡ false)
        → (watcher_named m (moved_on name k ws) ≡ None → watcher_named m ws ≡ None) → watcher_named m (w ∷ ws) ≡ None
    go (inl q) (inl r) rest = let moved : watcher_named m (on w k ∷ ws) ≡ None = rw q at h in let here : Some (on w k) ≡ None = rw r at moved in absurd cc
    go (inl q) (inr r) rest =
        let moved : watcher_named m (on w k ∷ ws) ≡ None = rw q at h in let other : watcher_named m ws ≡ None = rw r at moved in rw r other
    go (inr q) (inl r) rest = let moved : watcher_named m (w ∷ moved_on name k ws) ≡ None = rw q at h in let here : Some w ≡ None = rw r at moved in absurd cc
    go (inr q) (inr r) rest =
        let moved : watcher_named m (w ∷ moved_on name k ws) ≡ None = rw q at h in
        let later : watcher_named m (moved_on name k ws) ≡ None = rw r at moved in rw r (rest later)

-- ---- deltas from a place that the batches don't reach

none-past : (bs : List Batch) (place count : ℕ) → length bs ≤ place → deltas bs place count ≡ []
none-past bs place zero h = refl
none-past bs place (suc count) h = go (slice_get bs place) refl
  where
    go : (o : Option Batch) → slice_get bs place ≡ o → deltas bs place (suc count) ≡ []
    go None e = ap (λ (o : Option Batch). and_deltas (option_map (delta_of bs place) o) (deltas bs (place + 1) count)) e
    go (Some b) e = let within : place < length bs = slice_get_within bs place b e in absurd (off within)
      where
        off : place < length bs → ⊥
        off k = omega (arith, h, k)

-- what a member has of a list from a place within it stays within it
pulled-within : (xs ys : List Batch) (place count : ℕ) → IsPrefixOf xs ys → place ≤ length ys → place + length (deltas xs place count) ≤ length ys
pulled-within xs ys place count p h = go (bool_cases (nat_le place (length xs)))
  where
    long : length ys ≡ length xs + length p.0
    long = sym (ap length p.1) ∙ length-append xs p.0

    go : (nat_le place (length xs) ≡ true) ⊎ (nat_le place (length xs) ≡ false) → place + length (deltas xs place count) ≤ length ys
    go (inl q) = let k = cut xs place count (leb-true place (length xs) q) in omega (arith, k.within, long)
    go (inr q) =
        let none : length (deltas xs place count) ≡ 0 = ap length (none-past xs place count (le_of_lt (leb-false place (length xs) q))) in
        omega (arith, h, none)

-- ---- what the watchers of a circuit have taken so far

-- a list of batches that grows from line to line, and that the batches at bound cells begin
module _ (o : Origin) (start : IsOrigin o) (c : CircuitId) (list : Definition → List Ran → List Batch)
    (grown : (rs more : List Ran) (d : Definition) → IsPrefixOf (list d rs) (list d (rs ++ more)))
    (heads : (rs : List Ran) → lines_fit rs ≡ true → (n : NodeId) (b : Bound) → (whole_world o c rs).at n ≡ Held b
    → IsPrefixOf (values b.batches.history) (list b.definition rs)) where
  record Took (rs : List Ran) (t : Watcher) (ds : List Delta) : Type 0 where
    below : t.start ≤ t.next
    there : t.next ≤ length (list t.definition rs)
    taken : ds ≡ deltas (list t.definition rs) t.start (t.next - t.start)

  record AllTook (rs : List Ran) (ws : List Watcher) (took : List ℕ → List Delta) : Type 0 where
    each : (m : List ℕ) (t : Watcher) → watcher_named m ws ≡ Some t → Took rs t (took m)
    none : (m : List ℕ) → watcher_named m ws ≡ None → took m ≡ []

  took-as : (rs : List Ran) (ws : List Watcher) (took other : List ℕ → List Delta) → ((m : List ℕ) → other m ≡ took m) → AllTook rs ws took
      → AllTook rs ws other
  took-as rs ws took other same h = record {
    each = λ m t q. subst (λ (ds : List Delta). Took rs t ds) (sym (same m)) (h.each m t q);
    none = λ m q. same m ∙ h.none m q;
  }

  longer : {A : Type 0} (xs ys : List A) → IsPrefixOf xs ys → length xs ≤ length ys
  longer xs ys p = let long : length ys ≡ length xs + length p.0 = sym (ap length p.1) ∙ length-append xs p.0 in omega (arith, long)

  took-line : (rs more : List Ran) (ws : List Watcher) (took : List ℕ → List Delta) → AllTook rs ws took → AllTook (rs ++ more) ws took
  took-line rs more ws took h = record {
    each = λ m t q.
        let k = h.each m t q in
        let p = grown rs more t.definition in
        let less = longer (list t.definition rs) (list t.definition (rs ++ more)) p in record {
          below = k.below;
          there = omega (arith, k.there, less);
          taken = k.taken ∙ (prefix-deltas (list t.definition rs) p.0 t.start (t.next - t.start) (omega (arith, k.below, k.there))
              ∙ ap (λ (bs : List Batch). deltas bs t.start (t.next - t.start)) p.1);
        };
    none = h.none;
  }

  -- ---- a line of a watcher

  module _ (rs : List Ran) (fit : lines_fit rs ≡ true) (ws : List Watcher) (took : List ℕ → List Delta) (h : AllTook rs ws took) (n : NodeId)
      (d : CircuitId) (is : bytes_eq d c ≡ true) (name : List ℕ) where
    abbrev w : World
    w = whole_world o c rs

    -- the batches at a bound cell begin the list
    begins : (b : Bound) → w.at n ≡ Held b → IsPrefixOf (values b.batches.history) (list b.definition rs)
    begins b e = heads rs fit n b e

    still : AllTook rs ws (λ m. took m ++ [])
    still = took-as rs ws took (λ m. took m ++ []) (λ m. append-nil (took m)) h

    -- one more watches
    module _ (place : ℕ) where
      abbrev watching : WatchLine
      watching = Watch n d name place

      abbrev Joined : Cell → WatchAnswer → Type 0
      Joined k a = AllTook rs (watchers_after k ws watching a) (λ m. took m ++ [])

      joined : (b : Bound) → w.at n ≡ Held b → place ≤ length b.batches.history → Joined (Held b) (Watching place)
      joined b e less = record { each = each; none = λ m q. still.none m (more-unnamed m new ws q) }
        where
          new : Watcher
          new = record { name = name; definition = b.definition; start = place; next = place }

          each : (m : List ℕ) (t : Watcher) → watcher_named m (ws ++ new ∷ []) ≡ Some t → Took rs t (took m ++ [])
          each m t q = go (more-named m new ws t q)
            where
              go : (watcher_named m ws ≡ Some t) ⊎ ((watcher_named m ws ≡ None) × (t ≡ new)) → Took rs t (took m ++ [])
              go (inl k) = still.each m t k
              go (inr k) = subst (λ (u : Watcher). Took rs u (took m ++ [])) (sym k.1) (record {
                below = omega arith;
                there = (let more =
                    longer (values b.batches.history) (list b.definition rs) (begins b e) in omega (arith, less, more, length-values b.batches.history));
                taken = still.none m k.0 ∙ sym (ap (λ (count : ℕ). deltas (list b.definition rs) place count) nothing);
              })
                where
                  nothing : place - place ≡ 0
                  nothing = omega arith

      joined-at : (k : Cell) → w.at n ≡ k → Joined k (watch_told_at k ws watching)
      joined-at Empty e = still
      joined-at (Purged g) e = still
      joined-at (Held b) e = if_holds (Joined (Held b)) (runs b) (told_by b ws watching) NotActive (λ q.
          if_holds (Joined (Held b)) (list_any (is_named name) ws) NameTaken _ (λ r. still) (λ r.
          if_holds (Joined (Held b)) (nat_lt (length b.batches.history) place) (BadPlace (length b.batches.history)) _ (λ s. still) (λ s.
          if_holds (Joined (Held b)) (nat_le MOST_WATCHERS (length ws)) TooManyWatchers (Watching place) (λ u. still) (λ u.
          joined b e (ltb_not (length b.batches.history) place s))))) (λ q. still)

      watch-took : Joined (w.at n) (watch_answer w ws watching)
      watch-took = if_holds (Joined (w.at n)) (w.up n) (watch_told_at (w.at n) ws watching) Down (λ q. joined-at (w.at n) refl) (λ q. still)

    -- one takes more
    module _ (count : ℕ) where
      abbrev pulling : WatchLine
      pulling = Pull n d name count

      abbrev Moved : Cell → WatchAnswer → Type 0
      Moved k a = AllTook rs (watchers_after k ws pulling a) (λ m. took m ++ answer_deltas c m (OfWatcher pulling) (OfWatch a))

      moved : (b : Bound) → w.at n ≡ Held b → (t : Watcher) → watcher_named name ws ≡ Some t → b.definition ≡ t.definition
          → Moved (Held b) (Taken (deltas (values b.batches.history) t.next count))
      moved b e t found same = record { each = each; none = none }
        where
          ds : List Delta
          ds = deltas (values b.batches.history) t.next count

          k : Took rs t (took name)
          k = h.each name t found

          p : IsPrefixOf (values b.batches.history) (list t.definition rs)
          p = subst (λ (f : Definition). IsPrefixOf (values b.batches.history) (list f rs)) same (begins b e)

          within : t.next + length ds ≤ length (list t.definition rs)
          within = pulled-within (values b.batches.history) (list t.definition rs) t.next count p k.there

          whole : (t.next - t.start) + length ds ≡ (t.next + length ds) - t.start
          whole = omega (arith, k.below)

          at_next : t.start + (t.next - t.start) ≡ t.next
          at_next = omega (arith, k.below)

          first : t.start + (t.next - t.start) ≤ length (list t.definition rs)
          first = omega (arith, at_next, k.there)

          here : Took rs (on t (length ds)) (took name ++ ds)
          here = record {
            below = omega (arith, k.below);
            there = within;
            taken =
                ap (λ (es : List Delta). es ++ ds) k.taken
                ∙ (ap (λ (es : List Delta). deltas (list t.definition rs) t.start (t.next - t.start) ++ es)
                (pulled (values b.batches.history) (list t.definition rs) t.next count p)
                ∙ (ap (λ (i : ℕ). deltas (list t.definition rs) t.start (t.next - t.start) ++ deltas (list t.definition rs) i (length ds)) (sym at_next)
                ∙ (sym (deltas-on (list t.definition rs) t.start (t.next - t.start) (length ds) first)
                ∙ ap (λ (i : ℕ). deltas (list t.definition rs) t.start i) whole)));
          }

          mine : (m : List ℕ) → bytes_eq name m ≡ true → (if bytes_eq d c && bytes_eq name m then ds else []) ≡ ds
          mine m q = rw (is, q)

          other : (m : List ℕ) → bytes_eq name m ≡ false → (if bytes_eq d c && bytes_eq name m then ds else []) ≡ []
          other m q = rw (is, q)

          each : (m : List ℕ) (u : Watcher) → watcher_named m (moved_on name (length ds) ws) ≡ Some u
              → Took rs u (took m ++ (if bytes_eq d c && bytes_eq name m then ds else []))
          each m u q = go (moved-named name m (length ds) ws t u found q)
            where
              go : ((bytes_eq name m ≡ true) × (u ≡ on t (length ds))) ⊎ ((bytes_eq name m ≡ false) × (watcher_named m ws ≡ Some u))
                  → Took rs u (took m ++ (if bytes_eq d c && bytes_eq name m then ds else []))
              go (inl r) =
                  subst (λ (es : List Delta). Took rs u (took m ++ es)) (sym (mine m r.0))
                  (subst (λ (x : List ℕ). Took rs u (took x ++ ds)) (node_is name m r.0) (subst (λ (x : Watcher). Took rs x (took name ++ ds)) (sym r.1) here))
              go (inr r) = subst (λ (es : List Delta). Took rs u (took m ++ es)) (sym (other m r.0)) (still.each m u r.1)

          none : (m : List ℕ) → watcher_named m (moved_on name (length ds) ws) ≡ None → took m ++ (if bytes_eq d c && bytes_eq name m then ds else []) ≡ []
          none m q = go (bool_cases (bytes_eq name m))
            where
              unnamed : watcher_named m ws ≡ None
              unnamed = moved-unnamed name m (length ds) ws q

              go : (bytes_eq name m ≡ true) ⊎ (bytes_eq name m ≡ false) → took m ++ (if bytes_eq d c && bytes_eq name m then ds else []) ≡ []
              go (inl r) =
                  let was : watcher_named name ws ≡ None = subst (λ (x : List ℕ). watcher_named x ws ≡ None) (sym (node_is name m r)) unnamed in
                  absurd cc
              go (inr r) = ap (λ (es : List Delta). took m ++ es) (other m r) ∙ still.none m unnamed

      moved-by : (b : Bound) → w.at n ≡ Held b → (o : Option Watcher) → watcher_named name ws ≡ o → Moved (Held b) (pulled_by b count o)
      moved-by b e None found = still
      moved-by b e (Some t) found =
          if_holds (Moved (Held b)) (same_definition b.definition t.definition) (Taken (deltas (values b.batches.history) t.next count)) WrongCircuit
          (λ q. moved b e t found (definition_is b.definition t.definition q)) (λ q. still)

      moved-at : (k : Cell) → w.at n ≡ k → Moved k (watch_told_at k ws pulling)
      moved-at Empty e = still
      moved-at (Purged g) e = still
      moved-at (Held b) e = if_holds (Moved (Held b)) (runs b) (told_by b ws pulling) NotActive (λ q. moved-by b e (watcher_named name ws) refl) (λ q. still)

      pull-took : Moved (w.at n) (watch_answer w ws pulling)
      pull-took = if_holds (Moved (w.at n)) (w.up n) (watch_told_at (w.at n) ws pulling) Down (λ q. moved-at (w.at n) refl) (λ q. still)

  watch-line : (rs : List Ran) → lines_fit rs ≡ true → (ws : List Watcher) (took : List ℕ → List Delta) → AllTook rs ws took → (l : WatchLine)
      → bytes_eq (watch_circuit l) c ≡ true → let w = whole_world o c rs in
      AllTook rs (watchers_after (w.at (watch_node l)) ws l (watch_answer w ws l))
      (λ m. took m ++ answer_deltas c m (OfWatcher l) (OfWatch (watch_answer w ws l)))
  watch-line rs fit ws took h (Watch n d name place) is = watch-took rs fit ws took h n d is name place
  watch-line rs fit ws took h (Pull n d name count) is = pull-took rs fit ws took h n d is name count

  -- a line of a watcher of another circuit takes nothing of this one
  elsewhere : (m : List ℕ) (l : WatchLine) (a : WatchAnswer) → bytes_eq (watch_circuit l) c ≡ false → answer_deltas c m (OfWatcher l) (OfWatch a) ≡ []
  elsewhere m (Watch n d name place) a off = refl
  elsewhere m (Pull n d name count) (Taken ds) off = rw off
  elsewhere m (Pull n d name count) _ off = refl

  -- ---- after any tasks

  abbrev took_by : List Task → List ℕ → List Delta
  took_by ts m = taken_by o c m ts

  taken-append : (m : List ℕ) (before xs ys : List Task)
      → deltas_after o c m before (xs ++ ys) ≡ deltas_after o c m before xs ++ deltas_after o c m (before ++ xs) ys
  taken-append m before [] ys = ap (λ (zs : List Task). deltas_after o c m zs ys) (sym (append-nil before))
  taken-append m before (x ∷ xs) ys =
      let here = answer_deltas c m x (task_answer o before x) in
      ap (λ (es : List Delta). here ++ es) (taken-append m (before ++ x ∷ []) xs ys)
      ∙ (ap (λ (zs : List Task). here ++ (deltas_after o c m (before ++ x ∷ []) xs ++ deltas_after o c m zs ys)) (append_assoc before (x ∷ []) xs)
      ∙ sym (append_assoc here (deltas_after o c m (before ++ x ∷ []) xs) (deltas_after o c m (before ++ x ∷ xs) ys)))

  took-more : (ts : List Task) (t : Task) (m : List ℕ) → took_by (ts ++ t ∷ []) m ≡ took_by ts m ++ answer_deltas c m t (task_answer o ts t)
  took-more ts t m = taken-append m [] ts (t ∷ []) ∙ ap (λ (es : List Delta). took_by ts m ++ es) (append-nil (answer_deltas c m t (task_answer o ts t)))

  abbrev Good : List Task → Type 0
  Good ts = AllTook (lines_in ts) (watchers_of o c ts) (took_by ts)

  took-task : (ts : List Task) (t : Task) → lines_fit (lines_in ts) ≡ true → Good ts → Good (ts ++ t ∷ [])
  took-task ts (Line r) fit h =
      subst (λ (rs : List Ran). AllTook rs (watchers_of o c (ts ++ Line r ∷ [])) (took_by (ts ++ Line r ∷ []))) (sym (lines-both ts (Line r ∷ [])))
      (subst (λ (ws : List Watcher). AllTook (lines_in ts ++ r ∷ []) ws (took_by (ts ++ Line r ∷ [])))
      (sym (gone-append c (first_world o c) [] ts (Line r ∷ [])))
      (took-as (lines_in ts ++ r ∷ []) (watchers_of o c ts) (took_by ts) (took_by (ts ++ Line r ∷ []))
      (λ m. took-more ts (Line r) m ∙ append-nil (took_by ts m)) (took-line (lines_in ts) (r ∷ []) (watchers_of o c ts) (took_by ts) h)))
  took-task ts (OfWatcher l) fit h =
      subst (λ (rs : List Ran). AllTook rs (watchers_of o c (ts ++ OfWatcher l ∷ [])) (took_by (ts ++ OfWatcher l ∷ [])))
      (sym (lines-both ts (OfWatcher l ∷ []) ∙ append-nil (lines_in ts)))
      (subst (λ (ws : List Watcher). AllTook (lines_in ts) ws (took_by (ts ++ OfWatcher l ∷ [])))
      (sym (gone-append c (first_world o c) [] ts (OfWatcher l ∷ []))) (go (bool_cases (bytes_eq (watch_circuit l) c))))
    where
      go : (bytes_eq (watch_circuit l) c ≡ true) ⊎ (bytes_eq (watch_circuit l) c ≡ false)
          → AllTook (lines_in ts) (next c (world_of o c ts) (watchers_of o c ts) l) (took_by (ts ++ OfWatcher l ∷ []))
      go (inl q) =
          let w = world_of o c ts in
          let ws = watchers_of o c ts in
          let after : next c w ws l ≡ watchers_after (w.at (watch_node l)) ws l (watch_answer w ws l) = rw q in
          subst (λ (us : List Watcher). AllTook (lines_in ts) us (took_by (ts ++ OfWatcher l ∷ []))) (sym after)
          (took-as (lines_in ts) (watchers_after (w.at (watch_node l)) ws l (watch_answer w ws l))
          (λ m. took_by ts m ++ answer_deltas c m (OfWatcher l) (OfWatch (watch_answer w ws l))) (took_by (ts ++ OfWatcher l ∷ []))
          (λ m. took-more ts (OfWatcher l) m
          ∙ ap (λ a. took_by ts m ++ answer_deltas c m (OfWatcher l) a) (watch-answered o c start ts l fit (node_is (watch_circuit l) c q)))
          (watch-line (lines_in ts) fit ws (took_by ts) h l q))
      go (inr q) =
          let w = world_of o c ts in
          let ws = watchers_of o c ts in
          let after : next c w ws l ≡ ws = rw q in
          subst (λ (us : List Watcher). AllTook (lines_in ts) us (took_by (ts ++ OfWatcher l ∷ []))) (sym after)
          (took-as (lines_in ts) ws (took_by ts) (took_by (ts ++ OfWatcher l ∷ []))
          (λ m. took-more ts (OfWatcher l) m
          ∙ (ap (λ (es : List Delta). took_by ts m ++ es) (elsewhere-any m (task_answer o ts (OfWatcher l)) q) ∙ append-nil (took_by ts m))) h)
        where
          elsewhere-any : (m : List ℕ) (a : TaskAnswer) → bytes_eq (watch_circuit l) c ≡ false → answer_deltas c m (OfWatcher l) a ≡ []
          elsewhere-any m (OfWatch a) off = elsewhere m l a off
          elsewhere-any m (OfLine a) off = by-line m l a
            where
              by-line : (m : List ℕ) (l : WatchLine) (a : Answer) → answer_deltas c m (OfWatcher l) (OfLine a) ≡ []
              by-line m (Watch n d name place) a = refl
              by-line m (Pull n d name count) a = refl

  took-all : (before ts : List Task) → lines_fit (lines_in (before ++ ts)) ≡ true → Good before → Good (before ++ ts)
  took-all before [] fit h = subst (λ (zs : List Task). Good zs) (sym (append-nil before)) h
  took-all before (t ∷ ts) fit h =
      let shifted : before ++ t ∷ ts ≡ (before ++ t ∷ []) ++ ts = sym (append_assoc before (t ∷ []) ts) in
      let first : lines_fit (lines_in before) ≡ true =
      fits-left (lines_in before) (lines_in (t ∷ ts)) (subst (λ (rs : List Ran). lines_fit rs ≡ true) (lines-both before (t ∷ ts)) fit) in
      subst (λ (zs : List Task). Good zs) (sym shifted)
      (took-all (before ++ t ∷ []) ts (subst (λ (zs : List Task). lines_fit (lines_in zs) ≡ true) shifted fit) (took-task before t first h))

  none-yet : Good []
  none-yet = record { each = λ m t q. cc; none = λ m q. refl }

  pub takes-list : (ts : List Task) → lines_fit (lines_in ts) ≡ true → (name : List ℕ) (t : Watcher)
      → watcher_named name (circuit_watched o c ts).watchers ≡ Some t → TakesOneList o ts c t (list t.definition (lines_in ts))
  takes-list ts fit name t named =
      let h = took-all [] ts fit none-yet in
      let is : watcher_named name (watchers_of o c ts) ≡ Some t =
      subst (λ (ws : List Watcher). watcher_named name ws ≡ Some t) (watchers-after_all o c start ts fit) named in
      let k = h.each name t is in
      let same : t.name ≡ name = named-is name (watchers_of o c ts) t is in
      let whole = list t.definition (lines_in ts) in
      let taken : taken_by o c t.name ts ≡ deltas whole t.start (t.next - t.start) = ap (λ (m : List ℕ). taken_by o c m ts) same ∙ k.taken in
      let at_next : t.start + (t.next - t.start) ≡ t.next = omega (arith, k.below) in
      record {
        below = k.below;
        there = k.there;
        taken = taken;
        state = ap (λ (ds : List Delta). with_deltas (state_of (take t.start whole)) ds) taken
            ∙ (replays whole t.start (t.next - t.start) (omega (arith, at_next, k.there))
            ∙ ap (λ (i : ℕ). state_of (take i whole)) at_next);
      }

pub watchers-take_one_list : (ns : List NodeId) (ts : List Task) → lines_fit (lines_in ts) ≡ true → WatchersTakeOneList ns ts
watchers-take_one_list ns ts fit c name t named =
    takes-list (blank ns) (is-blank ns) c (λ d rs. batch_list ns d (whole_happened (blank ns) c rs))
    (λ rs more d. list-grows batches_in refl (service d) d ns c rs more)
    (λ rs fit n b e. begins-batches ns (whole_happened (blank ns) c rs) b.definition (plain-whole c (empty_world ns) rs fit) n b
    (subst (λ (x : World). x.at n ≡ Held b) (whole-run c (empty_world ns) rs) e) refl)
    ts fit name t named

pub watchers-take_on : (o : Origin) (left : CircuitId → List Occurrence) (ts : List Task) → IsOrigin o → lines_fit (lines_in ts) ≡ true
    → ((c : CircuitId) → AllPlain (left c)) → ((c : CircuitId) → HasLeft (left c) o c) → WatchersTakeOn o left ts
watchers-take_on o left ts start fit plain has c name t named =
    takes-list o start c (λ d rs. batch_list o.nodes d (gone_on_in o left c rs)) (λ rs more d. batches-grow o left plain has c d rs more)
    (batches-begin o left plain has c) ts fit name t named

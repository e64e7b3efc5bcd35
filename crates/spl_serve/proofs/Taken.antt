-- What a watcher of a process is told is of one list, each delta once and in order.
use Rattle.std.{specs.{Prelude.{Option, Some, None, nat_le, slice_get, if◌then◌else◌}, Option.option_map, Str.bytes_eq}, proofs.Common.{◌≡◌, ℕ, zero, suc}}
use Rattle.std.proofs.Common.{◌+◌, ◌≤◌, ◌<◌, ◌⊎◌, true, false, ◌&&◌, Bool, List, [], ◌∷◌, ◌++◌, length, length-append, refl, sym, ap, subst, ◌∙◌, inl, inr}
use Rattle.std.proofs.{Common.{arith, le_of_lt}, lemmas.{Bool.{leb-false, leb-true}, Option.slice_get_within}}
use Rattle.spl_agree.{specs.{Member.values, World.IsPrefixOf}, proofs.Tests.{bool_cases, if_holds}}
use Rattle.spl_circuit.specs.{Equality.same_definition, Nodes.{NodeId, CircuitId}, Same.{definition_is, node_is, node_same}}
use Rattle.spl_command.specs.declared.batch.Batch.{Batch}
use Rattle.spl_cell_rules.specs.Cells.{Bound, Cell, Empty, Held, Purged, runs}
use Rattle.spl_delta.specs.Watches.{and_deltas, delta_of, deltas, Watcher, is_named, moved_on, pulled_by, watch_told_at, told_by, watch_circuit}
use Rattle.spl_delta.specs.{Watches.{watcher_named, watchers_after}, declared.answer.WatchAnswer.{WatchAnswer, TheVariants.{NotActive, Taken, Watching}}}
use Rattle.spl_delta.specs.declared.{answer.WatchAnswer.TheVariants.WrongCircuit, delta.Delta.Delta, line.WatchLine.{WatchLine, TheVariants.{Pull, Watch}}}
use Rattle.spl_delta.proofs.Replays.{cut, deltas-on, pulled}
use Rattle.spl_serve.specs.{Served.{Served, watch_told, watchers_past, watchers_told}, Taken.{AllBatchesBegin, BatchesBegin, TakesOn, deltas_in, on}}
use Rattle.spl_serve.specs.{Taken.{deed_deltas, all_deed_deltas}, Turns.{Deed, Handles, Tells, Watches, served_after}}

-- ---- watchers by their names

-- one more comes behind those that are there
named_first : (name : List ℕ) (ts : List Watcher) (t x : Watcher) → watcher_named name ts ≡ Some t → watcher_named name (ts ++ x ∷ []) ≡ Some t
named_first name [] t x h = absurd cc
named_first name (w ∷ ts) t x h = go (bool_cases (is_named name w)) (named_first name ts t x)
  where
    go : (is_named name w ≡ true) ⊎ (is_named name w ≡ false) → (watcher_named name ts ≡ Some t → watcher_named name (ts ++ x ∷ []) ≡ Some t)
        → watcher_named name ((w ∷ ts) ++ x ∷ []) ≡ Some t
    go (inl q) rest = let k : Some w ≡ Some t = rw q at h in rw q k
    go (inr q) rest = let k : watcher_named name ts ≡ Some t = rw q at h in rw q (rest k)

moved_own : (name : List ℕ) (k : ℕ) (ts : List Watcher) (t : Watcher) → watcher_named name ts ≡ Some t → watcher_named name (moved_on name k ts) ≡ Some (on t k)
moved_own name k [] t h = absurd cc
moved_own name k (w ∷ ts) t h = go (bool_cases (is_named name w)) (moved_own name k ts t)
  where
    go : (is_named name w ≡ true) ⊎ (is_named name w ≡ false) → (watcher_named name ts ≡ Some t → watcher_named name (moved_on name k ts) ≡ Some (on t k))
        → watcher_named name (moved_on name k (w ∷ ts)) ≡ Some (on t k)
    go (inl q) rest =
        let found : Some w ≡ Some t = rw q at h in
        let same : w ≡ t = cc in
        let first : watcher_named name (on w k ∷ ts) ≡ Some (on w k) = rw q refl in
        rw q (first ∙ ap (λ (x : Watcher). Some (on x k)) same)
    go (inr q) rest =
        let later : watcher_named name ts ≡ Some t = rw q at h in
        let moved : watcher_named name (w ∷ moved_on name k ts) ≡ watcher_named name (moved_on name k ts) = rw q refl in
        rw q (moved ∙ rest later)

-- one that has another name
unnamed_too : (name m : List ℕ) (w : Watcher) → bytes_eq m name ≡ false → is_named m w ≡ true → is_named name w ≡ false
unnamed_too name m w off q = go (bool_cases (is_named name w))
  where
    go : (is_named name w ≡ true) ⊎ (is_named name w ≡ false) → is_named name w ≡ false
    go (inr r) = r
    go (inl r) =
        let same : m ≡ name = sym (node_is w.name m q) ∙ node_is w.name name r in
        let is : bytes_eq m name ≡ true = subst (λ (x : List ℕ). bytes_eq m x ≡ true) same (node_same m) in
        absurd cc

moved_other : (name m : List ℕ) (k : ℕ) (ts : List Watcher) (t : Watcher) → bytes_eq m name ≡ false → watcher_named name ts ≡ Some t
    → watcher_named name (moved_on m k ts) ≡ Some t
moved_other name m k [] t off h = absurd cc
moved_other name m k (w ∷ ts) t off h = go (bool_cases (is_named m w)) (bool_cases (is_named name w)) (moved_other name m k ts t off)
  where
    go : (is_named m w ≡ true) ⊎ (is_named m w ≡ false) → (is_named name w ≡ true) ⊎ (is_named name w ≡ false)
        → (watcher_named name ts ≡ Some t → watcher_named name (moved_on m k ts) ≡ Some t) → watcher_named name (moved_on m k (w ∷ ts)) ≡ Some t
    go (inl q) s rest =
        let r = unnamed_too name m w off q in
        let later : watcher_named name ts ≡ Some t = rw r at h in
        let moved : watcher_named name (on w k ∷ ts) ≡ watcher_named name ts = rw r refl in
        rw q (moved ∙ later)
    go (inr q) (inl r) rest =
        let found : Some w ≡ Some t = rw r at h in
        let first : watcher_named name (w ∷ moved_on m k ts) ≡ Some w = rw r refl in
        rw q (first ∙ found)
    go (inr q) (inr r) rest =
        let later : watcher_named name ts ≡ Some t = rw r at h in
        let moved : watcher_named name (w ∷ moved_on m k ts) ≡ watcher_named name (moved_on m k ts) = rw r refl in
        rw q (moved ∙ rest later)

-- ---- deltas of a first part of the list

none_past : (bs : List Batch) (place count : ℕ) → length bs ≤ place → deltas bs place count ≡ []
none_past bs place zero h = refl
none_past bs place (suc count) h = go (slice_get bs place) refl
  where
    off : place < length bs → ⊥
    off k = omega (arith, h, k)

    go : (o : Option Batch) → slice_get bs place ≡ o → deltas bs place (suc count) ≡ []
    go None e = ap (λ (o : Option Batch). and_deltas (option_map (delta_of bs place) o) (deltas bs (place + 1) count)) e
    go (Some b) e = absurd (off (slice_get_within bs place b e))

within_list : (xs ys : List Batch) (place count : ℕ) → IsPrefixOf xs ys → place ≤ length ys → place + length (deltas xs place count) ≤ length ys
within_list xs ys place count p h = go (bool_cases (nat_le place (length xs)))
  where
    long : length ys ≡ length xs + length p.0
    long = sym (ap length p.1) ∙ length-append xs p.0

    go : (nat_le place (length xs) ≡ true) ⊎ (nat_le place (length xs) ≡ false) → place + length (deltas xs place count) ≤ length ys
    go (inl q) = let k = cut xs place count (leb-true place (length xs) q) in omega (arith, k.within, long)
    go (inr q) =
        let none : length (deltas xs place count) ≡ 0 = ap length (none_past xs place count (le_of_lt (leb-false place (length xs) q))) in
        omega (arith, h, none)

-- ---- one line of a watcher of the circuit

on_none : (t : Watcher) → t ≡ on t 0
on_none t = ap (λ (n : ℕ). record t { next = n }) (let e : t.next ≡ t.next + 0 = omega arith in e)

-- these watchers, and what was told, are of a watcher that takes on
record Steps (name : List ℕ) (t : Watcher) (list : List Batch) (ts : List Watcher) (took : List Delta) : Type 0 where
  count : ℕ
  after : watcher_named name ts ≡ Some (on t count)
  there : t.next + count ≤ length list
  taken : took ≡ deltas list t.next count

-- nothing is taken
stays : (name : List ℕ) (t : Watcher) (list : List Batch) (ts : List Watcher) (took : List Delta) → t.next ≤ length list → watcher_named name ts ≡ Some t
    → took ≡ [] → Steps name t list ts took
stays name t list ts took h named none = record { count = 0; after = named ∙ ap (λ (x : Watcher). Some x) (on_none t); there = omega (arith, h); taken = none }

module _ (name : List ℕ) (t : Watcher) (list : List Batch) (ts : List Watcher) (within : t.next ≤ length list) (found : watcher_named name ts ≡ Some t) where
  watch_steps : (k : Cell) (n d m : List ℕ) (place : ℕ) (a : WatchAnswer) → Steps name t list (watchers_after k ts (Watch n d m place) a) []
  watch_steps (Held h) n d m place (Watching at) = stays name t list _ [] within (named_first name ts t _ found) refl
  watch_steps Empty n d m place (Watching at) = stays name t list ts [] within found refl
  watch_steps (Purged g) n d m place (Watching at) = stays name t list ts [] within found refl
  watch_steps k n d m place a = stays name t list ts [] within found refl

  -- another watcher takes
  other_named : (k : Cell) (n d m : List ℕ) (count : ℕ) (a : WatchAnswer) → bytes_eq m name ≡ false
      → watcher_named name (watchers_after k ts (Pull n d m count) a) ≡ Some t
  other_named k n d m count (Taken ds) off = moved_other name m (length ds) ts t off found
  other_named k n d m count a off = found

  module _ (n d : List ℕ) (count : ℕ) where
    abbrev Own : Cell → WatchAnswer → Type 0
    Own k a = Steps name t list (watchers_after k ts (Pull n d name count) a) (deltas_in a)

    own_taken : (b : Bound) → IsPrefixOf (values b.batches.history) list → Own (Held b) (Taken (deltas (values b.batches.history) t.next count))
    own_taken b p = record {
      count = length (deltas (values b.batches.history) t.next count);
      after = moved_own name (length (deltas (values b.batches.history) t.next count)) ts t found;
      there = within_list (values b.batches.history) list t.next count p within;
      taken = pulled (values b.batches.history) list t.next count p;
    }

    own_still : (k : Cell) (a : WatchAnswer) → watchers_after k ts (Pull n d name count) a ≡ ts → deltas_in a ≡ [] → Own k a
    own_still k a same none = stays name t list _ _ within (ap (watcher_named name) same ∙ found) none

    own_pulled : (b : Bound) → (b.definition ≡ t.definition → IsPrefixOf (values b.batches.history) list) → (o : Option Watcher) → o ≡ Some t
        → Own (Held b) (pulled_by b count o)
    own_pulled b begins None is = absurd cc
    own_pulled b begins (Some u) is = subst (λ (o : Option Watcher). Own (Held b) (pulled_by b count o)) (sym is)
        (if_holds (Own (Held b)) (same_definition b.definition t.definition) (Taken (deltas (values b.batches.history) t.next count)) WrongCircuit
        (λ q. own_taken b (begins (definition_is b.definition t.definition q))) (λ q. own_still (Held b) WrongCircuit refl refl))

    own_steps : (k : Cell) → ((b : Bound) → k ≡ Held b → b.definition ≡ t.definition → IsPrefixOf (values b.batches.history) list)
        → Own k (watch_told_at k ts (Pull n d name count))
    own_steps Empty begins = own_still Empty (watch_told_at Empty ts (Pull n d name count)) refl refl
    own_steps (Purged g) begins = own_still (Purged g) (watch_told_at (Purged g) ts (Pull n d name count)) refl refl
    own_steps (Held b) begins = if_holds (Own (Held b)) (runs b) (told_by b ts (Pull n d name count)) NotActive
        (λ q. own_pulled b (begins b refl) (watcher_named name ts) found) (λ q. own_still (Held b) NotActive refl refl)

-- ---- a line of a watcher at a node

module _ (z : Served) (c : CircuitId) where
  -- a line about another circuit
  pub elsewhere : (l : WatchLine) → bytes_eq (watch_circuit l) c ≡ false → watchers_past z l c ≡ z.watchers c
  elsewhere l off = ap (λ (b : Bool). if b then watchers_told z l else z.watchers c) off

  pub same_circuit : (l : WatchLine) → bytes_eq (watch_circuit l) c ≡ true
      → watchers_past z l c ≡ watchers_after (z.cells c) (z.watchers c) l (watch_told_at (z.cells c) (z.watchers c) l)
  same_circuit l is = ap (λ (b : Bool). if b then watchers_told z l else z.watchers c) is
      ∙ ap (λ (d : CircuitId). watchers_after (z.cells d) (z.watchers d) l (watch_told_at (z.cells d) (z.watchers d) l)) (node_is (watch_circuit l) c is)

  pub told_same : (l : WatchLine) → bytes_eq (watch_circuit l) c ≡ true → watch_told z l ≡ watch_told_at (z.cells c) (z.watchers c) l
  told_same l is = ap (λ (d : CircuitId). watch_told_at (z.cells d) (z.watchers d) l) (node_is (watch_circuit l) c is)

-- what an answer gives, where the line is about the circuit and under the name
abbrev pub took_of : Bool → Bool → WatchAnswer → List Delta
took_of own named a = if own && named then deltas_in a else []

-- ---- one thing that the node does

module _ (here : NodeId) (c : CircuitId) (name : List ℕ) (t : Watcher) (list : List Batch) (z : Served) (within : t.next ≤ length list)
    (found : watcher_named name (z.watchers c) ≡ Some t) (begins : BatchesBegin c t.definition list z) where
  abbrev Step : Deed → Type 0
  Step d = Steps name t list ((served_after here z d).watchers c) (deed_deltas c name z d)

  watch_does : (caller : ℕ) (n d m : List ℕ) (place : ℕ) → Step (Watches caller (Watch n d m place))
  watch_does caller n d m place = go (bool_cases (bytes_eq d c))
    where
      go : (bytes_eq d c ≡ true) ⊎ (bytes_eq d c ≡ false) → Step (Watches caller (Watch n d m place))
      go (inl q) = subst (λ (ts : List Watcher). Steps name t list ts []) (sym (same_circuit z c (Watch n d m place) q))
          (watch_steps name t list (z.watchers c) within found (z.cells c) n d m place (watch_told_at (z.cells c) (z.watchers c) (Watch n d m place)))
      go (inr q) = stays name t list _ [] within (ap (watcher_named name) (elsewhere z c (Watch n d m place) q) ∙ found) refl

  pull_does : (caller : ℕ) (n d m : List ℕ) (count : ℕ) → Step (Watches caller (Pull n d m count))
  pull_does caller n d m count = go (bool_cases (bytes_eq d c)) (bool_cases (bytes_eq m name))
    where
      unnamed : (own : Bool) → took_of own false (watch_told z (Pull n d m count)) ≡ []
      unnamed true = refl
      unnamed false = refl

      own_is : m ≡ name → Steps name t list
          (watchers_after (z.cells c) (z.watchers c) (Pull n d m count) (watch_told_at (z.cells c) (z.watchers c) (Pull n d m count)))
          (deltas_in (watch_told_at (z.cells c) (z.watchers c) (Pull n d m count)))
      own_is same =
          subst (λ (x : List ℕ). Steps name t list
          (watchers_after (z.cells c) (z.watchers c) (Pull n d x count) (watch_told_at (z.cells c) (z.watchers c) (Pull n d x count)))
          (deltas_in (watch_told_at (z.cells c) (z.watchers c) (Pull n d x count)))) (sym same)
          (own_steps name t list (z.watchers c) within found n d count (z.cells c) begins)

      go : (bytes_eq d c ≡ true) ⊎ (bytes_eq d c ≡ false) → (bytes_eq m name ≡ true) ⊎ (bytes_eq m name ≡ false) → Step (Watches caller (Pull n d m count))
      go (inr q) s = stays name t list _ _ within (ap (watcher_named name) (elsewhere z c (Pull n d m count) q) ∙ found)
          (ap (λ (b : Bool). took_of b (bytes_eq m name) (watch_told z (Pull n d m count))) q)
      go (inl q) (inr s) = stays name t list _ _ within
          (ap (watcher_named name) (same_circuit z c (Pull n d m count) q) ∙ other_named name t list (z.watchers c) within found (z.cells c) n d m count _ s)
          (ap (λ (b : Bool). took_of (bytes_eq d c) b (watch_told z (Pull n d m count))) s ∙ unnamed (bytes_eq d c))
      go (inl q) (inl s) =
          subst (λ (ts : List Watcher). Steps name t list ts (deed_deltas c name z (Watches caller (Pull n d m count))))
          (sym (same_circuit z c (Pull n d m count) q))
          (subst (λ (ds : List Delta). Steps name t list
          (watchers_after (z.cells c) (z.watchers c) (Pull n d m count) (watch_told_at (z.cells c) (z.watchers c) (Pull n d m count))) ds)
          (sym (ap (λ (b : Bool). took_of b (bytes_eq m name) (watch_told z (Pull n d m count))) q
          ∙ ap (λ (b : Bool). took_of true b (watch_told z (Pull n d m count))) s
          ∙ ap deltas_in (told_same z c (Pull n d m count) q)))
          (own_is (node_is m name s)))

  does_step : (d : Deed) → Step d
  does_step (Handles caller e) = stays name t list (z.watchers c) [] within found refl
  does_step (Tells caller bytes) = stays name t list (z.watchers c) [] within found refl
  does_step (Watches caller (Watch n d m place)) = watch_does caller n d m place
  does_step (Watches caller (Pull n d m count)) = pull_does caller n d m count

-- ---- all that it does

-- one thing, and what comes after it
more : (here : NodeId) (z : Served) (d : Deed) (ds : List Deed) (c : CircuitId) (name : List ℕ) (t : Watcher) (list : List Batch)
    → (s : Steps name t list ((served_after here z d).watchers c) (deed_deltas c name z d))
    → TakesOn here (served_after here z d) ds c name (on t s.count) list → TakesOn here z (d ∷ ds) c name t list
more here z d ds c name t list s r = record {
  count = s.count + r.count;
  after = r.after ∙ ap (λ (n : ℕ). Some (record t { next = n })) (let e : (t.next + s.count) + r.count ≡ t.next + (s.count + r.count) = omega arith in e);
  there = (let e = r.there in omega (arith, e));
  taken = ap (λ (es : List Delta). es ++ all_deed_deltas here c name (served_after here z d) ds) s.taken
      ∙ ap (λ (es : List Delta). deltas list t.next s.count ++ es) r.taken
      ∙ sym (deltas-on list t.next s.count r.count s.there);
}

pub takes_on : (here : NodeId) (z : Served) (ds : List Deed) (c : CircuitId) (name : List ℕ) (t : Watcher) (list : List Batch)
    → watcher_named name (z.watchers c) ≡ Some t → t.next ≤ length list → AllBatchesBegin here c t.definition list z ds → TakesOn here z ds c name t list
takes_on here z [] c name t list found within all =
    record { count = 0; after = found ∙ ap (λ (x : Watcher). Some x) (on_none t); there = omega (arith, within); taken = refl }
takes_on here z (d ∷ ds) c name t list found within all =
    let s = does_step here c name t list z within found all.0 d in
    more here z d ds c name t list s (takes_on here (served_after here z d) ds c name (on t s.count) list s.after s.there all.1)

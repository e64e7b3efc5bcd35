-- What the processes of a deployment tell the watchers of a circuit is of its one list of batches.
use Rattle.std.{specs.{Prelude.{Option, Some, None, nat_le, nat_lt, if◌then◌else◌}, List.list_any, Str.bytes_eq}, proofs.Common.{◌≡◌, ℕ, ◌+◌, ◌-◌, ◌≤◌, ◌⊎◌}}
use Rattle.std.proofs.Common.{Bool, true, false, List, [], ◌∷◌, ◌++◌, append_assoc, length, length-append, take, refl, sym, ap, subst, ◌∙◌, inl, inr, arith}
use Rattle.spl_agree.{specs.{Member.values, World.IsPrefixOf}, proofs.Tests.{bool_cases, if_holds, length-values, ltb_not}}
use Rattle.spl_circuit.specs.{Nodes.{NodeId, CircuitId}, Same.node_is, declared.definition.Definition.Definition}
use Rattle.spl_command.specs.{Lists.state_of, declared.batch.Batch.Batch}
use Rattle.spl_cell_rules.specs.Cells.{Bound, Cell, Empty, Held, Purged, runs}
use Rattle.spl_circuit_world.specs.Worlds.{Occurrence}
use Rattle.spl_circuit_safety.specs.Agreement.{batch_list}
use Rattle.spl_delta.specs.Watches.{deltas, with_deltas, Watcher, is_named, moved_on, pulled_by, watch_told_at, told_by, watcher_named, watchers_after}
use Rattle.spl_delta.specs.declared.answer.WatchAnswer.{WatchAnswer, TheVariants.{BadPlace, NameTaken, NotActive, Taken, TooManyWatchers, Watching}}
use Rattle.spl_delta.{specs.declared.{delta.Delta.Delta, group.TheConstants.MOST_WATCHERS, line.WatchLine.TheVariants.{Pull, Watch}}, proofs.Replays.replays}
use Rattle.spl_deployment.specs.{Doings.{Doing, cells_done, cells_from}, Deployments.{AllMayBe, History, IsLeftRunning, IsPossible, empty_net, happened}}
use Rattle.spl_deployment.{specs.Deployments.{left_by, own_doings}, proofs.Moments.{Next, begins-list, from-append, next, own-append}}
use Rattle.spl_serve.specs.{Following.{IsToldOf, TakesOf, TellLists}, Processes.{doing_at, doings_of}, Served.{Served, watch_told}, Taken.AllBatchesBegin}
use Rattle.spl_serve.specs.{Taken.{BatchesBegin, deltas_in, on, deed_deltas, all_deed_deltas}, Turns.{Deed, Handles, Tells, Watches, events_in, served_after}}
use Rattle.spl_serve.{specs.Turns.served_past, proofs.{Doing.done_at, Taken.{elsewhere, same_circuit, takes_on, told_same, took_of}}}

-- ---- a name that no watcher has

-- after one more it has none still, or that one
joined_none : (name : List ℕ) (ts : List Watcher) (x : Watcher) → watcher_named name ts ≡ None
    → watcher_named name (ts ++ x ∷ []) ≡ (if is_named name x then Some x else None)
joined_none name [] x none = refl
joined_none name (w ∷ ts) x none = go (bool_cases (is_named name w)) (joined_none name ts x)
  where
    go : (is_named name w ≡ true) ⊎ (is_named name w ≡ false)
        → (watcher_named name ts ≡ None → watcher_named name (ts ++ x ∷ []) ≡ (if is_named name x then Some x else None))
        → watcher_named name ((w ∷ ts) ++ x ∷ []) ≡ (if is_named name x then Some x else None)
    go (inl q) rest = let k : Some w ≡ None = rw q at none in absurd cc
    go (inr q) rest = let k : watcher_named name ts ≡ None = rw q at none in rw q (rest k)

moved_none : (name m : List ℕ) (k : ℕ) (ts : List Watcher) → watcher_named name ts ≡ None → watcher_named name (moved_on m k ts) ≡ None
moved_none name m k [] none = refl
moved_none name m k (w ∷ ts) none = go (bool_cases (is_named m w)) (bool_cases (is_named name w)) (moved_none name m k ts)
  where
    go : (is_named m w ≡ true) ⊎ (is_named m w ≡ false) → (is_named name w ≡ true) ⊎ (is_named name w ≡ false)
        → (watcher_named name ts ≡ None → watcher_named name (moved_on m k ts) ≡ None) → watcher_named name (moved_on m k (w ∷ ts)) ≡ None
    go q (inl r) rest = let found : Some w ≡ None = rw r at none in absurd cc
    go (inl q) (inr r) rest =
        let later : watcher_named name ts ≡ None = rw r at none in
        let same : watcher_named name (on w k ∷ ts) ≡ watcher_named name ts = rw r refl in
        rw q (same ∙ later)
    go (inr q) (inr r) rest =
        let later : watcher_named name ts ≡ None = rw r at none in
        let same : watcher_named name (w ∷ moved_on m k ts) ≡ watcher_named name (moved_on m k ts) = rw r refl in
        rw q (same ∙ rest later)

-- ---- a line of a watcher of the circuit

longer : {A : Type 0} (xs ys : List A) → IsPrefixOf xs ys → length xs ≤ length ys
longer xs ys p = let long : length ys ≡ length xs + length p.0 = sym (ap length p.1) ∙ length-append xs p.0 in omega (arith, long)

module _ (name : List ℕ) (lists : Definition → List Batch) where
  -- a watcher that has just come, within the list of its definition
  abbrev Comes : Option Watcher → Type 0
  Comes None = Unit {0}
  Comes (Some t) = (t.next ≡ t.start) × (t.next ≤ length (lists t.definition))

  module _ (ts : List Watcher) (none : watcher_named name ts ≡ None) where
    stays : (us : List Watcher) → watcher_named name us ≡ None → Comes (watcher_named name us)
    stays us e = subst Comes (sym e) tt

    module _ (n d m : List ℕ) (place : ℕ) where
      abbrev Watched : Cell → WatchAnswer → Type 0
      Watched k a = Comes (watcher_named name (watchers_after k ts (Watch n d m place) a))

      one_comes : (b : Bound) → IsPrefixOf (values b.batches.history) (lists b.definition) → place ≤ length b.batches.history
          → Watched (Held b) (Watching place)
      one_comes b p less = subst Comes (sym (joined_none name ts new none)) (if_holds Comes (is_named name new) (Some new) None (λ q. (refl, within)) (λ q. tt))
        where
          new : Watcher
          new = record { name = m; definition = b.definition; start = place; next = place }

          within : place ≤ length (lists b.definition)
          within = let more = longer (values b.batches.history) (lists b.definition) p in omega (arith, less, more, length-values b.batches.history)

      watch_comes : (k : Cell) → ((b : Bound) → k ≡ Held b → IsPrefixOf (values b.batches.history) (lists b.definition))
          → Watched k (watch_told_at k ts (Watch n d m place))
      watch_comes Empty begins = stays ts none
      watch_comes (Purged g) begins = stays ts none
      watch_comes (Held b) begins = if_holds (Watched (Held b)) (runs b) (told_by b ts (Watch n d m place)) NotActive (λ q.
          if_holds (Watched (Held b)) (list_any (is_named m) ts) NameTaken _ (λ r. stays ts none) (λ r.
          if_holds (Watched (Held b)) (nat_lt (length b.batches.history) place) (BadPlace (length b.batches.history)) _ (λ s. stays ts none) (λ s.
          if_holds (Watched (Held b)) (nat_le MOST_WATCHERS (length ts)) TooManyWatchers (Watching place) (λ u. stays ts none) (λ u.
          one_comes b (begins b refl) (ltb_not (length b.batches.history) place s))))) (λ q. stays ts none)

    pull_none : (k : Cell) (n d m : List ℕ) (count : ℕ) (a : WatchAnswer) → watcher_named name (watchers_after k ts (Pull n d m count) a) ≡ None
    pull_none k n d m count (Taken ds) = moved_none name m (length ds) ts none
    pull_none k n d m count a = none

    pull_nothing : (k : Cell) (n d : List ℕ) (count : ℕ) → deltas_in (watch_told_at k ts (Pull n d name count)) ≡ []
    pull_nothing Empty n d count = refl
    pull_nothing (Purged g) n d count = refl
    pull_nothing (Held b) n d count = if_holds (λ (a : WatchAnswer). deltas_in a ≡ []) (runs b) (told_by b ts (Pull n d name count)) NotActive
        (λ q. subst (λ (o : Option Watcher). deltas_in (pulled_by b count o) ≡ []) (sym none) refl) (λ q. refl)

-- ---- one thing that the node does

module _ (here : NodeId) (c : CircuitId) (name : List ℕ) (lists : Definition → List Batch) (z : Served) (none : watcher_named name (z.watchers c) ≡ None)
    (begins : (d : Definition) → BatchesBegin c d (lists d) z) where
  -- no watcher has the name then, or one that has just come; and nothing is told under it
  record Step (d : Deed) : Type 0 where
    comes : Comes name lists (watcher_named name ((served_after here z d).watchers c))
    taken : deed_deltas c name z d ≡ []

  unmoved : (us : List Watcher) → us ≡ z.watchers c → Comes name lists (watcher_named name us)
  unmoved us same = stays name lists (z.watchers c) none us (ap (watcher_named name) same ∙ none)

  begins_here : (b : Bound) → z.cells c ≡ Held b → IsPrefixOf (values b.batches.history) (lists b.definition)
  begins_here b held = begins b.definition b held refl

  watch_does : (caller : ℕ) (n d m : List ℕ) (place : ℕ) → Step (Watches caller (Watch n d m place))
  watch_does caller n d m place = record { comes = go (bool_cases (bytes_eq d c)); taken = refl }
    where
      go : (bytes_eq d c ≡ true) ⊎ (bytes_eq d c ≡ false)
          → Comes name lists (watcher_named name ((served_after here z (Watches caller (Watch n d m place))).watchers c))
      go (inl q) = subst (λ (us : List Watcher). Comes name lists (watcher_named name us)) (sym (same_circuit z c (Watch n d m place) q))
          (watch_comes name lists (z.watchers c) none n d m place (z.cells c) begins_here)
      go (inr q) = unmoved _ (elsewhere z c (Watch n d m place) q)

  pull_does : (caller : ℕ) (n d m : List ℕ) (count : ℕ) → Step (Watches caller (Pull n d m count))
  pull_does caller n d m count = record { comes = go (bool_cases (bytes_eq d c)); taken = took (bool_cases (bytes_eq d c)) (bool_cases (bytes_eq m name)) }
    where
      told : WatchAnswer
      told = watch_told z (Pull n d m count)

      go : (bytes_eq d c ≡ true) ⊎ (bytes_eq d c ≡ false)
          → Comes name lists (watcher_named name ((served_after here z (Watches caller (Pull n d m count))).watchers c))
      go (inl q) = stays name lists (z.watchers c) none _ (ap (watcher_named name) (same_circuit z c (Pull n d m count) q)
          ∙ pull_none name lists (z.watchers c) none (z.cells c) n d m count (watch_told_at (z.cells c) (z.watchers c) (Pull n d m count)))
      go (inr q) = unmoved _ (elsewhere z c (Pull n d m count) q)

      unnamed : (own : Bool) → took_of own false told ≡ []
      unnamed true = refl
      unnamed false = refl

      nothing : bytes_eq d c ≡ true → m ≡ name → deltas_in told ≡ []
      nothing q same = ap deltas_in (told_same z c (Pull n d m count) q)
          ∙ (ap (λ (x : List ℕ). deltas_in (watch_told_at (z.cells c) (z.watchers c) (Pull n d x count))) same
          ∙ pull_nothing name lists (z.watchers c) none (z.cells c) n d count)

      took : (bytes_eq d c ≡ true) ⊎ (bytes_eq d c ≡ false) → (bytes_eq m name ≡ true) ⊎ (bytes_eq m name ≡ false)
          → deed_deltas c name z (Watches caller (Pull n d m count)) ≡ []
      took (inr q) s = ap (λ (b : Bool). took_of b (bytes_eq m name) told) q
      took (inl q) (inr s) = ap (λ (b : Bool). took_of (bytes_eq d c) b told) s ∙ unnamed (bytes_eq d c)
      took (inl q) (inl s) = ap (λ (b : Bool). took_of b (bytes_eq m name) told) q ∙ (ap (λ (b : Bool). took_of true b told) s ∙ nothing q (node_is m name s))

  does_step : (d : Deed) → Step d
  does_step (Handles caller e) = record { comes = unmoved _ refl; taken = refl }
  does_step (Tells caller bytes) = record { comes = unmoved _ refl; taken = refl }
  does_step (Watches caller (Watch n d m place)) = watch_does caller n d m place
  does_step (Watches caller (Pull n d m count)) = pull_does caller n d m count

-- ---- all that it does

-- what a watcher has been told, by how much that is
takes_of : (here : NodeId) (z : Served) (ds : List Deed) (c : CircuitId) (name : List ℕ) (list : List Batch) (t : Watcher) (count : ℕ)
    → t.next ≡ t.start + count → t.next ≤ length list → all_deed_deltas here c name z ds ≡ deltas list t.start count → TakesOf here z ds c name list t
takes_of here z ds c name list t count is there took = record {
  below = omega (arith, is);
  there = there;
  taken = took ∙ ap (λ (k : ℕ). deltas list t.start k) many;
  state = ap (λ (es : List Delta). with_deltas (state_of (take t.start list)) es) took
      ∙ (replays list t.start count within ∙ ap (λ (k : ℕ). state_of (take k list)) (sym is));
}
  where
    many : count ≡ t.next - t.start
    many = omega (arith, is)

    within : t.start + count ≤ length list
    within = omega (arith, is, there)

module _ (here : NodeId) (c : CircuitId) (name : List ℕ) (lists : Definition → List Batch) where
  -- one thing more, by which nothing was told
  after_nothing : (z : Served) (d : Deed) (ds : List Deed) (o : Option Watcher) → deed_deltas c name z d ≡ []
      → IsToldOf here (served_after here z d) ds c name lists o → IsToldOf here z (d ∷ ds) c name lists o
  after_nothing z d ds None nothing r = ap (λ (es : List Delta). es ++ all_deed_deltas here c name (served_after here z d) ds) nothing ∙ r
  after_nothing z d ds (Some t) nothing r = record {
    below = r.below;
    there = r.there;
    taken = same ∙ r.taken;
    state = ap (λ (es : List Delta). with_deltas (state_of (take t.start (lists t.definition))) es) same ∙ r.state;
  }
    where
      same : all_deed_deltas here c name z (d ∷ ds) ≡ all_deed_deltas here c name (served_after here z d) ds
      same = ap (λ (es : List Delta). es ++ all_deed_deltas here c name (served_after here z d) ds) nothing

  told_of : (z : Served) (ds : List Deed) → watcher_named name (z.watchers c) ≡ None → ((d : Definition) → AllBatchesBegin here c d (lists d) z ds)
      → IsToldOf here z ds c name lists (watcher_named name ((served_past here z ds).watchers c))
  told_of z [] none all = subst (IsToldOf here z [] c name lists) (sym none) refl
  told_of z (d ∷ ds) none all = go (watcher_named name ((served_after here z d).watchers c)) refl step.comes (told_of (served_after here z d) ds)
    where
      step : Step here c name lists z none (λ f. (all f).0) d
      step = does_step here c name lists z none (λ f. (all f).0) d

      go : (o : Option Watcher) → watcher_named name ((served_after here z d).watchers c) ≡ o → Comes name lists o
          → (watcher_named name ((served_after here z d).watchers c) ≡ None → ((f : Definition) → AllBatchesBegin here c f (lists f) (served_after here z d) ds)
          → IsToldOf here (served_after here z d) ds c name lists (watcher_named name ((served_past here (served_after here z d) ds).watchers c)))
          → IsToldOf here z (d ∷ ds) c name lists (watcher_named name ((served_past here z (d ∷ ds)).watchers c))
      go None is came rest = after_nothing z d ds (watcher_named name ((served_past here z (d ∷ ds)).watchers c)) step.taken (rest is (λ f. (all f).1))
      go (Some t) is came rest =
          let r = takes_on here (served_after here z d) ds c name t (lists t.definition) is came.1 ((all t.definition).1) in
          subst (IsToldOf here z (d ∷ ds) c name lists) (sym r.after)
          (takes_of here z (d ∷ ds) c name (lists t.definition) (record t { next = t.next + r.count }) r.count (ap (λ (k : ℕ). k + r.count) came.0) r.there
          (ap (λ (es : List Delta). es ++ all_deed_deltas here c name (served_after here z d) ds) step.taken
          ∙ (r.taken ∙ ap (λ (k : ℕ). deltas (lists t.definition) k r.count) came.0)))

-- ---- among other processes

module _ (ns : List NodeId) (past : CircuitId → List Occurrence) (h : History) (left : IsLeftRunning ns past) (may : AllMayBe ns (left_by ns past) h)
    (c : CircuitId) (here : NodeId) where
  abbrev lists : Definition → List Batch
  lists d = batch_list ns d (past c ++ happened c h)

  abbrev kept_by : History → CircuitId → Cell
  kept_by before = cells_from here ((left_by ns past).cells here) (own_doings here before)

  begins_at : (d : Definition) (z : Served) (before later : History) → h ≡ before ++ later → z.cells ≡ kept_by before → BatchesBegin c d (lists d) z
  begins_at d z before later parts cells b held is =
      subst (λ (k : History). IsPrefixOf (values b.batches.history) (batch_list ns d (past c ++ happened c k))) (sym parts)
      (begins-list ns past before later left (subst (λ (k : History). AllMayBe ns (left_by ns past) k) parts may) c d here b
      (sym (ap (λ (f : CircuitId → Cell). f c) cells) ∙ held) is)

  all_begin : (d : Definition) (z : Served) (ds : List Deed) (before since later : History) → h ≡ before ++ (since ++ later) → z.cells ≡ kept_by before
      → own_doings here since ≡ doings_of (events_in ds) → AllBatchesBegin here c d (lists d) z ds
  all_begin d z [] before since later parts cells does = begins_at d z before (since ++ later) parts cells
  all_begin d z (Tells caller bytes ∷ ds) before since later parts cells does = (
    begins_at d z before (since ++ later) parts cells,
    all_begin d z ds before since later parts cells does,
  )
  all_begin d z (Watches caller l ∷ ds) before since later parts cells does = (
    begins_at d z before (since ++ later) parts cells,
    all_begin d (served_after here z (Watches caller l)) ds before since later parts cells does,
  )
  all_begin d z (Handles caller e ∷ ds) before since later parts cells does = (
    begins_at d z before (since ++ later) parts cells,
    all_begin d (served_after here z (Handles caller e)) ds (before ++ one.first) one.rest later moved kept one.later,
  )
    where
      x : Doing
      x = doing_at e.0 e.1

      one : Next here since x (doings_of (events_in ds))
      one = next here since x (doings_of (events_in ds)) does

      moved : h ≡ (before ++ one.first) ++ (one.rest ++ later)
      moved = parts ∙ (ap (λ (k : History). before ++ (k ++ later)) one.parts
          ∙ (ap (λ (k : History). before ++ k) (append_assoc one.first one.rest later) ∙ sym (append_assoc before one.first (one.rest ++ later))))

      kept : (served_after here z (Handles caller e)).cells ≡ kept_by (before ++ one.first)
      kept = done_at here z.cells e.0 e.1
          ∙ (ap (λ (f : CircuitId → Cell). cells_done here f x) cells
          ∙ (ap (λ (xs : List Doing). cells_from here (kept_by before) xs) (sym one.does)
          ∙ (sym (from-append here ((left_by ns past).cells here) (own_doings here before) (own_doings here one.first))
          ∙ ap (λ (xs : List Doing). cells_from here ((left_by ns past).cells here) xs) (sym (own-append here before one.first)))))

pub tell_lists : (ns : List NodeId) (past : CircuitId → List Occurrence) (h : History) → IsLeftRunning ns past → AllMayBe ns (left_by ns past) h
    → (c : CircuitId)
    → TellLists (left_by ns past) h c (λ d. batch_list ns d (past c ++ happened c h))
tell_lists ns past h left may c here z ds p name =
    told_of here c name (lists ns past h left may c here) z ds (ap (watcher_named name) (p.unwatched c))
    (λ d. all_begin ns past h left may c here d z ds p.before p.since p.later p.parts p.cells p.does)

pub tell_lists_from_blank : (ns : List NodeId) (h : History) → IsPossible ns h → (c : CircuitId) → TellLists empty_net h c (λ d. batch_list ns d (happened c h))
tell_lists_from_blank ns h may c = tell_lists ns (λ d. []) h (record { plain = λ d. tt; up = λ d n. refl }) may c

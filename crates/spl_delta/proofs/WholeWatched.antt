-- The watchers of a circuit in its world after all lines: what they are told is what they are told after its own.
use Rattle.std.{specs.{Prelude.if◌then◌else◌, Str.bytes_eq}, proofs.Common.{◌≡◌, ◌⊎◌, Bool, true, false, List, [], ◌∷◌, ◌++◌, append-nil, refl, sym, ap}}
use Rattle.std.proofs.Common.{subst, ◌∙◌, inl, inr}
use Rattle.spl_agree.proofs.Tests.{bool_cases, and_left, and_right}
use Rattle.spl_circuit.specs.{Nodes.{NodeId, CircuitId, has_node}, Same.node_same}
use Rattle.spl_cell_rules.specs.Cells.{Cell}
use Rattle.spl_circuit_world.specs.{Worlds.{IsOrigin, Origin, World, first_world}, Projection.{Ran, line_fits, lines_fit, own_line, own_among}}
use Rattle.spl_circuit_world.specs.{Answers.{line_world, lines_world}, Same.IsSameFor, Whole.{world_after_line, whole_from, whole_world}}
use Rattle.spl_circuit_world.proofs.{Alike.same-alike, Owns.{IsPair, AllConcern, concern-left, lines-pair, pair-first, ran-pair}, Within.are_within}
use Rattle.spl_delta.specs.Watches.{Watcher, watch_told_at, watch_answer, watch_circuit, watch_node, watchers_after, Task, Line, OfWatcher, OfWatch, Watched}
use Rattle.spl_delta.specs.Watches.{asked_in, circuit_watched, concerned_in, first_watched, lines_in, lines_watched, task_answer, task_done, tasks_done}
use Rattle.spl_delta.specs.{Watches.{watch_done, watched_before}, declared.{answer.WatchAnswer.{WatchAnswer, TheVariants.Down}, line.WatchLine.WatchLine}}
use Rattle.spl_delta.proofs.LinesAnswered.{asked, concerns, done-world, keeps, watched-lines}

pub lines-both : (xs ys : List Task) → lines_in (xs ++ ys) ≡ lines_in xs ++ lines_in ys
lines-both [] ys = refl
lines-both (Line r ∷ xs) ys = ap (λ (rs : List Ran). r ∷ rs) (lines-both xs ys)
lines-both (OfWatcher l ∷ xs) ys = lines-both xs ys

-- a watcher's line is answered by its node alone
abbrev answer-from : (ts : List Watcher) (l : WatchLine) → Bool → Cell → WatchAnswer
answer-from ts l up k = if up then watch_told_at k ts l else Down

answer-same : (ns : List NodeId) (w v : World) (ts : List Watcher) (l : WatchLine) → IsSameFor ns w v → has_node ns (watch_node l) ≡ true
    → watch_answer w ts l ≡ watch_answer v ts l
answer-same ns w v ts l same here =
    ap (λ (up : Bool). answer-from ts l up (w.at (watch_node l))) (same.up (watch_node l) here)
    ∙ ap (λ (at : NodeId → Cell). answer-from ts l (v.up (watch_node l)) (at (watch_node l))) same.at

after-same : (ns : List NodeId) (w v : World) (ts : List Watcher) (l : WatchLine) → IsSameFor ns w v → has_node ns (watch_node l) ≡ true
    → watchers_after (w.at (watch_node l)) ts l (watch_answer w ts l) ≡ watchers_after (v.at (watch_node l)) ts l (watch_answer v ts l)
after-same ns w v ts l same here =
    ap (λ (a : WatchAnswer). watchers_after (w.at (watch_node l)) ts l a) (answer-same ns w v ts l same here)
    ∙ ap (λ (at : NodeId → Cell). watchers_after (at (watch_node l)) ts l (watch_answer v ts l)) same.at

module _ (c : CircuitId) where
  -- the watchers after a line of one of them
  abbrev pub next : World → List Watcher → WatchLine → List Watcher
  next v ts l = if bytes_eq (watch_circuit l) c then watchers_after (v.at (watch_node l)) ts l (watch_answer v ts l) else ts

  -- and after tasks, in a world in which each line counts
  abbrev pub gone : World → List Watcher → List Task → List Watcher
  gone v ws [] = ws
  gone v ws (Line r ∷ ts) = gone (world_after_line c v r) ws ts
  gone v ws (OfWatcher l ∷ ts) = gone v (next v ws l) ts

  pub gone-append : (v : World) (ws : List Watcher) (xs ys : List Task) → gone v ws (xs ++ ys) ≡ gone (whole_from c v (lines_in xs)) (gone v ws xs) ys
  gone-append v ws [] ys = refl
  gone-append v ws (Line r ∷ xs) ys = gone-append (world_after_line c v r) ws xs ys
  gone-append v ws (OfWatcher l ∷ xs) ys = gone-append v (next v ws l) xs ys

  -- ---- these nodes have all at which a watcher of the circuit asks

  module _ (ns : List NodeId) where
    abbrev AllAsked : List Task → Type 0
    AllAsked [] = Unit {0}
    AllAsked (Line r ∷ ts) = AllAsked ts
    AllAsked (OfWatcher l ∷ ts) = (bytes_eq (watch_circuit l) c ≡ true → has_node ns (watch_node l) ≡ true) × AllAsked ts

    asked-left : (xs ys : List Task) → AllAsked (xs ++ ys) → AllAsked xs
    asked-left [] ys h = tt
    asked-left (Line r ∷ xs) ys h = asked-left xs ys h
    asked-left (OfWatcher l ∷ xs) ys h = (h.0, asked-left xs ys h.1)

    asked-right : (xs ys : List Task) → AllAsked (xs ++ ys) → AllAsked ys
    asked-right [] ys h = h
    asked-right (Line r ∷ xs) ys h = asked-right xs ys h
    asked-right (OfWatcher l ∷ xs) ys h = asked-right xs ys h.1

    all-asked : (ts : List Task) → are_within ns (asked_in c ts) ≡ true → AllAsked ts
    all-asked [] h = tt
    all-asked (Line r ∷ ts) h = all-asked ts h
    all-asked (OfWatcher l ∷ ts) h = go (bool_cases (bytes_eq (watch_circuit l) c)) (all-asked ts)
      where
        go : (bytes_eq (watch_circuit l) c ≡ true) ⊎ (bytes_eq (watch_circuit l) c ≡ false) → (are_within ns (asked_in c ts) ≡ true → AllAsked ts)
            → AllAsked (OfWatcher l ∷ ts)
        go (inl q) rest =
            let k : are_within ns (watch_node l ∷ asked_in c ts) ≡ true = rw q at h in (
              λ u. and_left (has_node ns (watch_node l)) (are_within ns (asked_in c ts)) k,
              rest (and_right (has_node ns (watch_node l)) (are_within ns (asked_in c ts)) k),
            )
        go (inr q) rest = let k : are_within ns (asked_in c ts) ≡ true = rw q at h in (λ u. absurd cc, rest k)

    -- ---- the watchers after a circuit's own tasks are those after all

    lines-watchers : (z : Watched) (rs : List Ran) → (lines_watched z rs).watchers ≡ z.watchers
    lines-watchers z [] = refl
    lines-watchers z (r ∷ rs) = lines-watchers (record { world = line_world z.world r.line r.kept; watchers = z.watchers }) rs

    done-watchers : (z : Watched) (v : World) (ts : List Task) → lines_fit (lines_in ts) ≡ true → AllConcern ns c (lines_in ts) → AllAsked ts
        → IsPair ns z.world v → (tasks_done c ns z ts).watchers ≡ gone v z.watchers ts
    done-watchers z v [] f h a p = refl
    done-watchers z v (Line r ∷ ts) f h a p =
        done-watchers (lines_watched z (own_line c ns r)) (world_after_line c v r) ts (and_right (line_fits r) (lines_fit (lines_in ts)) f) h.1 a
        (subst (λ (w : World). IsPair ns w (world_after_line c v r)) (sym (watched-lines z (own_line c ns r)))
        (ran-pair ns c z.world v r (and_left (line_fits r) (lines_fit (lines_in ts)) f) h.0 p))
        ∙ ap (λ (ws : List Watcher). gone (world_after_line c v r) ws ts) (lines-watchers z (own_line c ns r))
    done-watchers z v (OfWatcher l ∷ ts) f h a p = go (bool_cases (bytes_eq (watch_circuit l) c)) (λ y q. done-watchers y v ts f h a.1 q)
      where
        go : (bytes_eq (watch_circuit l) c ≡ true) ⊎ (bytes_eq (watch_circuit l) c ≡ false)
            → ((y : Watched) → IsPair ns y.world v → (tasks_done c ns y ts).watchers ≡ gone v y.watchers ts)
            → (tasks_done c ns (task_done c ns z (OfWatcher l)) ts).watchers ≡ gone v (next v z.watchers l) ts
        go (inl q) rest =
            let was : task_done c ns z (OfWatcher l) ≡ watch_done z l = rw q in
            let is : next v z.watchers l ≡ watchers_after (v.at (watch_node l)) z.watchers l (watch_answer v z.watchers l) = rw q in
            ap (λ (y : Watched). (tasks_done c ns y ts).watchers) was
            ∙ (rest (watch_done z l) p
            ∙ ap (λ (ws : List Watcher). gone v ws ts) (after-same ns z.world v z.watchers l (same-alike ns z.world v p.alike) (a.0 q) ∙ sym is))
        go (inr q) rest =
            let was : task_done c ns z (OfWatcher l) ≡ z = rw q in
            let is : next v z.watchers l ≡ z.watchers = rw q in
            ap (λ (y : Watched). (tasks_done c ns y ts).watchers) was ∙ (rest z p ∙ ap (λ (ws : List Watcher). gone v ws ts) (sym is))

-- ---- from the beginning

module _ (o : Origin) (c : CircuitId) where
  -- the watchers of the circuit after tasks, and its world
  abbrev pub watchers_of : List Task → List Watcher
  watchers_of ts = gone c (first_world o c) [] ts

  abbrev pub world_of : List Task → World
  world_of ts = whole_world o c (lines_in ts)

  -- where more tasks than these are concerned
  module _ (begins : IsOrigin o) (ts more : List Task) (fit : lines_fit (lines_in ts) ≡ true) where
    abbrev all : List NodeId
    all = concerned_in o c (ts ++ more)

    asks : AllAsked c all (ts ++ more)
    asks = all-asked c all (ts ++ more) (asked o c (ts ++ more))

    concern : AllConcern all c (lines_in ts)
    concern = (concern-left all c (lines_in ts) (lines_in more)
        (subst (λ (rs : List Ran). AllConcern all c rs) (lines-both ts more) (concerns o c (ts ++ more)))).0

    first : IsPair all (first_world o c) (first_world o c)
    first = pair-first all o c (keeps o c (ts ++ more) begins)

    watchers-then : (tasks_done c all (first_watched o c) ts).watchers ≡ watchers_of ts
    watchers-then = done-watchers c all (first_watched o c) (first_world o c) ts fit concern (asked-left c all ts more asks) first

    world-then : IsSameFor all (tasks_done c all (first_watched o c) ts).world (world_of ts)
    world-then = subst (λ (w : World). IsSameFor all w (world_of ts)) (sym (done-world c all (first_watched o c) ts))
        (let p = lines-pair all c (first_world o c) (first_world o c) (lines_in ts) fit concern first in
        same-alike all (lines_world (first_world o c) (own_among c all (lines_in ts))) (world_of ts) p.alike)

  -- what a watcher is answered
  module _ (begins : IsOrigin o) (ts : List Task) (l : WatchLine) (fit : lines_fit (lines_in ts) ≡ true) (is : watch_circuit l ≡ c) where
    abbrev those : List NodeId
    those = all begins ts (OfWatcher l ∷ []) fit

    abbrev before : Watched
    before = watched_before o c ts (OfWatcher l)

    here : has_node those (watch_node l) ≡ true
    here = (asked-right c those ts (OfWatcher l ∷ []) (asks begins ts (OfWatcher l ∷ []) fit)).0
        (subst (λ (d : CircuitId). bytes_eq d c ≡ true) (sym is) (node_same c))

    pub watch-answered : task_answer o ts (OfWatcher l) ≡ OfWatch (watch_answer (world_of ts) (watchers_of ts) l)
    watch-answered =
        ap (λ (d : CircuitId). OfWatch (watch_answer (watched_before o d ts (OfWatcher l)).world (watched_before o d ts (OfWatcher l)).watchers l)) is
        ∙ (ap (λ (ws : List Watcher). OfWatch (watch_answer before.world ws l)) (watchers-then begins ts (OfWatcher l ∷ []) fit)
        ∙ ap (λ (a : WatchAnswer). OfWatch a)
        (answer-same those before.world (world_of ts) (watchers_of ts) l (world-then begins ts (OfWatcher l ∷ []) fit) here))

  -- the watchers after all tasks
  pub watchers-after_all : IsOrigin o → (ts : List Task) → lines_fit (lines_in ts) ≡ true → (circuit_watched o c ts).watchers ≡ watchers_of ts
  watchers-after_all begins ts fit =
      subst (λ (zs : List Task). (tasks_done c (concerned_in o c zs) (first_watched o c) ts).watchers ≡ watchers_of ts) (append-nil ts)
      (watchers-then begins ts [] fit)

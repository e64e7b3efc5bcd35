-- A schedule and its trace ask watchers alike: task by task, in the worlds after all lines.
use Rattle.std.proofs.Common.{◌≡◌, true, List, [], ◌∷◌, ◌++◌, append-nil, append_assoc, map, refl, sym, ap, subst, ◌∙◌}
use Rattle.spl_circuit.specs.Nodes.{CircuitId}
use Rattle.spl_circuit_world.specs.{Worlds.{IsOrigin, Origin, World, first_world}, Projection.{Ran, lines_fit}, Whole.{whole_from, whole_world}}
use Rattle.spl_circuit_world.{specs.{Whole.world_after_line, Apart.whole_from-append}, proofs.Owns.fits-left}
use Rattle.spl_trace.{specs.Traced.{flat, flat_after, flat_ran}, proofs.OneRun.{flat-append, whole-flat}}
use Rattle.spl_delta.specs.Watches.{Watcher, watch_answer, watch_circuit, Task, Line, OfWatcher, OfWatch, lines_in, task_answer}
use Rattle.spl_delta.{specs.declared.line.WatchLine.WatchLine, proofs.WholeWatched.{gone, lines-both, next, watch-answered, watchers-after_all, watchers_of}}
use Rattle.spl_delta.proofs.WholeWatched.{world_of}
use Rattle.spl_app.specs.Taken.{AskAlike, flat_tasks, flat_tasks_after}

-- ---- lists

lines-mapped : (rs : List Ran) (ts : List Task) → lines_in (map Line rs ++ ts) ≡ rs ++ lines_in ts
lines-mapped [] ts = refl
lines-mapped (r ∷ rs) ts = ap (λ (xs : List Ran). r ∷ xs) (lines-mapped rs ts)

lines-flat : (o : Origin) (before : List Ran) (ts : List Task) → lines_in (flat_tasks_after o before ts) ≡ flat_after o before (lines_in ts)
lines-flat o before [] = refl
lines-flat o before (Line r ∷ ts) =
    lines-mapped (flat_ran o before r) (flat_tasks_after o (before ++ r ∷ []) ts)
    ∙ ap (λ (xs : List Ran). flat_ran o before r ++ xs) (lines-flat o (before ++ r ∷ []) ts)
lines-flat o before (OfWatcher l ∷ ts) = lines-flat o before ts

flat-next : (o : Origin) (before : List Ran) (r : Ran) → flat o (before ++ r ∷ []) ≡ flat o before ++ flat_ran o before r
flat-next o before r = flat-append o [] before (r ∷ []) ∙ ap (λ (xs : List Ran). flat o before ++ xs) (append-nil (flat_ran o before r))

-- ---- the watchers

-- lines of the nodes change no watcher
gone-lines : (c : CircuitId) (v : World) (ws : List Watcher) (rs : List Ran) (ts : List Task)
    → gone c v ws (map Line rs ++ ts) ≡ gone c (whole_from c v rs) ws ts
gone-lines c v ws [] ts = refl
gone-lines c v ws (r ∷ rs) ts = gone-lines c (world_after_line c v r) ws rs ts

module _ (o : Origin) (begins : IsOrigin o) where
  gone-flat : (c : CircuitId) (before : List Ran) (ws : List Watcher) (ts : List Task) → lines_fit (before ++ lines_in ts) ≡ true
      → gone c (whole_world o c (flat o before)) ws (flat_tasks_after o before ts) ≡ gone c (whole_world o c before) ws ts
  gone-flat c before ws [] f = refl
  gone-flat c before ws (Line r ∷ ts) f =
      gone-lines c (whole_world o c (flat o before)) ws (flat_ran o before r) later
      ∙ (ap (λ (v : World). gone c v ws later) world
      ∙ (gone-flat c (before ++ r ∷ []) ws ts (subst (λ (xs : List Ran). lines_fit xs ≡ true) (sym (append_assoc before (r ∷ []) (lines_in ts))) f)
      ∙ ap (λ (v : World). gone c v ws ts) (whole_from-append c (first_world o c) before (r ∷ []))))
    where
      later : List Task
      later = flat_tasks_after o (before ++ r ∷ []) ts

      world : whole_from c (whole_world o c (flat o before)) (flat_ran o before r) ≡ whole_world o c (flat o (before ++ r ∷ []))
      world = sym (whole_from-append c (first_world o c) (flat o before) (flat_ran o before r))
          ∙ ap (λ (rs : List Ran). whole_world o c rs) (sym (flat-next o before r))
  gone-flat c before ws (OfWatcher l ∷ ts) f =
      ap (λ (v : World). gone c (whole_world o c (flat o before)) (next c v ws l) (flat_tasks_after o before ts))
      (whole-flat o c before begins (fits-left before (lines_in ts) f))
      ∙ gone-flat c before (next c (whole_world o c before) ws l) ts f

  -- ---- these tasks fit, and so does their trace

  module _ (ts : List Task) (fit : lines_fit (lines_in ts) ≡ true) (traced : lines_fit (flat o (lines_in ts)) ≡ true) where
    fit-flat : lines_fit (lines_in (flat_tasks o ts)) ≡ true
    fit-flat = subst (λ (rs : List Ran). lines_fit rs ≡ true) (sym (lines-flat o [] ts)) traced

    watchers-flat : (c : CircuitId) → watchers_of o c (flat_tasks o ts) ≡ watchers_of o c ts
    watchers-flat c = gone-flat c [] [] ts fit

    world-flat : (c : CircuitId) → world_of o c (flat_tasks o ts) ≡ world_of o c ts
    world-flat c = ap (λ (rs : List Ran). whole_world o c rs) (lines-flat o [] ts) ∙ whole-flat o c (lines_in ts) begins fit

    answered : (l : WatchLine) → task_answer o (flat_tasks o ts) (OfWatcher l) ≡ task_answer o ts (OfWatcher l)
    answered l =
        watch-answered o (watch_circuit l) begins (flat_tasks o ts) l fit-flat refl
        ∙ (ap (λ (w : World). OfWatch (watch_answer w (watchers_of o (watch_circuit l) (flat_tasks o ts)) l)) (world-flat (watch_circuit l))
        ∙ (ap (λ (ws : List Watcher). OfWatch (watch_answer (world_of o (watch_circuit l) ts) ws l)) (watchers-flat (watch_circuit l))
        ∙ sym (watch-answered o (watch_circuit l) begins ts l fit refl)))

  pub ask-alike : (ts : List Task) → lines_fit (lines_in ts) ≡ true → lines_fit (flat o (lines_in ts)) ≡ true → AskAlike o ts
  ask-alike ts fit traced = record {
    answers = λ before after l e.
        let lines : lines_in ts ≡ lines_in before ++ lines_in after = ap (λ (xs : List Task). lines_in xs) (sym e) ∙ lines-both before (OfWatcher l ∷ after) in
        answered before
        (fits-left (lines_in before) (lines_in after) (subst (λ (rs : List Ran). lines_fit rs ≡ true) lines fit))
        (fits-left (flat o (lines_in before)) (flat_after o (lines_in before) (lines_in after))
        (subst (λ (rs : List Ran). lines_fit rs ≡ true)
        (ap (λ (rs : List Ran). flat o rs) lines ∙ flat-append o [] (lines_in before) (lines_in after)) traced)) l;
    watchers = λ c.
        watchers-after_all o c begins (flat_tasks o ts) (fit-flat ts fit traced)
        ∙ (watchers-flat ts fit traced c ∙ sym (watchers-after_all o c begins ts fit));
  }

-- The watchers that are kept, after tasks that ran and one more.
use Rattle.std.{specs.Str.bytes_eq, proofs.Common.{◌≡◌, ◌⊎◌, true, false, List, [], ◌∷◌, ◌++◌, Option, ℕ, inl, inr, refl, sym, ◌∙◌, ap, subst}}
use Rattle.std.proofs.lemmas.Bool.{cases_Bool}
use Rattle.spl_circuit.specs.{Nodes.CircuitId, Same.node_is}
use Rattle.spl_delta.specs.{Kept.{Groups, watchers_of}, Watches.{watch_text, Watcher, watch_answer, watch_circuit, watch_node, watchers_after}}
use Rattle.spl_delta.{specs.{Watches.circuit_watched, declared.{answer.WatchAnswer.WatchAnswer, line.WatchLine.WatchLine}}, proofs.WholeWatched.gone}
use Rattle.spl_delta.proofs.WholeWatched.{gone-append, next, watch-answered, watchers-after_all, watchers_of as those_of, world_of}
use Rattle.spl_lines.{specs.Tasks.{Task, answer_text, asked_by, asked_for, ran_by, watched_text}, proofs.Tasks.asked-append}
use Rattle.spl_lines.specs.declared.reading.Said.TheVariants as say
use Rattle.spl_circuit_world.specs.{Projection.lines_fit, Worlds.{IsOrigin, Origin, World, first_world}}
use Rattle.spl_sched.specs.declared.line.Line.{Line}

-- the watchers of each circuit are as these tasks left them
abbrev pub AreAsLeft : Origin → List Task → Groups → Type 0
AreAsLeft o ts ws = (c : CircuitId) → watchers_of ws c ≡ (circuit_watched o c (asked_by ts)).watchers

module _ (o : Origin) (begins : IsOrigin o) (ts : List Task) (fit : lines_fit (ran_by ts) ≡ true) where
  -- those that are kept are those after all tasks
  kept_are : (ws : Groups) → AreAsLeft o ts ws → (c : CircuitId) → watchers_of ws c ≡ those_of o c (asked_by ts)
  kept_are ws kept c = kept c ∙ watchers-after_all o c begins (asked_by ts) fit

  module _ (t : Task) (after : lines_fit (ran_by (ts ++ t ∷ [])) ≡ true) where
    one_more : (c : CircuitId)
        → those_of o c (asked_by (ts ++ t ∷ [])) ≡ gone c (world_of o c (asked_by ts)) (those_of o c (asked_by ts)) (asked_for t.line ∷ [])
    one_more c = ap (those_of o c) (asked-append ts (t ∷ [])) ∙ gone-append c (first_world o c) [] (asked_by ts) (asked_for t.line ∷ [])

    -- they are kept, where each circuit has those
    kept_then : (ws : Groups)
        → ((c : CircuitId) → watchers_of ws c ≡ gone c (world_of o c (asked_by ts)) (those_of o c (asked_by ts)) (asked_for t.line ∷ []))
        → AreAsLeft o (ts ++ t ∷ []) ws
    kept_then ws each = λ c. each c ∙ sym (one_more c) ∙ sym (watchers-after_all o c begins (asked_by (ts ++ t ∷ [])) after)

  -- a line of the nodes changes none
  pub kept_line : (number : Option ℕ) (l : Line) (ws : Groups) → lines_fit (ran_by (ts ++ record { number = number; line = say.Line l } ∷ [])) ≡ true
      → AreAsLeft o ts ws → AreAsLeft o (ts ++ record { number = number; line = say.Line l } ∷ []) ws
  kept_line number l ws after kept = kept_then (record { number = number; line = say.Line l }) after ws (λ c. kept_are ws kept c)

  -- a line of a watcher
  module _ (l : WatchLine) (old : Groups) (kept : AreAsLeft o ts old) (a : WatchAnswer)
      (told : a ≡ watch_answer (world_of o (watch_circuit l) (asked_by ts)) (watchers_of old (watch_circuit l)) l) where
    abbrev here : CircuitId
    here = watch_circuit l

    abbrev was : World
    was = world_of o here (asked_by ts)

    pub answer_is : watch_text a ≡ answer_text o ts (say.Watch l)
    answer_is =
        ap watch_text (told ∙ ap (λ (ts : List Watcher). watch_answer was ts l) (kept_are old kept here))
        ∙ sym (ap watched_text (watch-answered o here begins (asked_by ts) l fit refl))

    pub kept_watch : (number : Option ℕ) (new : Groups) → lines_fit (ran_by (ts ++ record { number = number; line = say.Watch l } ∷ [])) ≡ true
        → watchers_of new here ≡ watchers_after (was.at (watch_node l)) (watchers_of old here) l a
        → ((c : CircuitId) → bytes_eq here c ≡ false → watchers_of new c ≡ watchers_of old c)
        → AreAsLeft o (ts ++ record { number = number; line = say.Watch l } ∷ []) new
    kept_watch number new after own others = kept_then (record { number = number; line = say.Watch l }) after new (λ c. by c (cases_Bool (bytes_eq here c)))
      where
        by : (c : CircuitId) → (bytes_eq here c ≡ true) ⊎ (bytes_eq here c ≡ false)
            → watchers_of new c ≡ next c (world_of o c (asked_by ts)) (those_of o c (asked_by ts)) l
        by c (inl q) =
            subst (λ (d : CircuitId). watchers_of new d ≡ next d (world_of o d (asked_by ts)) (those_of o d (asked_by ts)) l) (node_is here c q) first
          where
            first : watchers_of new here ≡ next here (world_of o here (asked_by ts)) (those_of o here (asked_by ts)) l
            first =
                let same : bytes_eq here here ≡ true = subst (λ (d : CircuitId). bytes_eq here d ≡ true) (sym (node_is here c q)) q in
                own
                ∙ (ap (λ (b : WatchAnswer). watchers_after (was.at (watch_node l)) (watchers_of old here) l b) told
                ∙ (ap (λ (us : List Watcher). watchers_after (was.at (watch_node l)) us l (watch_answer was us l)) (kept_are old kept here)
                ∙ (rw same refl)))
        by c (inr q) = others c q ∙ (kept_are old kept c ∙ (rw q refl))

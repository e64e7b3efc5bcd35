-- How a run ended in the lines of its source, while some of the answers wait.
use Rattle.std.{specs.{Io.KnownBytes.{Consumes, IsAtEnd}, List.AllByRecursion, Prelude.{IfSome, IsErr, IsErrOf}, Result.IsErrAnd}, proofs.Common.{◌≡◌, ◌≢◌}}
use Rattle.std.proofs.Common.{◌≤◌, ◌<◌, ◌+◌, ◌-◌, ◌⊎◌, inl, inr, ℕ, Bool, true, false, Option, Some, None, List, [], ◌∷◌, ◌++◌, Result, Ok, Err, refl, sym}
use Rattle.std.proofs.{Common.{◌∙◌, ap, subst, append-nil, length, take, arith}, KnownBytes.Consumes-nil, lemmas.List.drop_all}
use Rattle.spl_circuit.specs.Nodes.{Node}
use Rattle.spl_edge.{proofs.Results.failed, specs.{Devices.{Rose, SourceView}, Sources.{limit, given}}}
use Rattle.spl_lines.specs.{Feed.{Feeds, count_of, waiting}, Lines.{IsOverlong, IsUnfinished, run_of, IsLong, IsShort, has_feed}, Tasks.{Task, IsLine}}
use Rattle.spl_lines.{specs.{Tasks.line_said, declared.{feed.{Feed.Feed, FeedFault.FeedFault}, reading.Said.Said}}, proofs.Fed.{all_lines, is_long}}
use Rattle.spl_lines.proofs.{Fed.{is_overlong, is_short, rest_given, rest_short, unfinished as is_unfinished}, Schedules.{all-push, all_before, before_it}}
use Rattle.spl_lines.proofs.Schedules.{it_and_more, whole}
use Rattle.spl_lines.specs.declared.feed.FeedFault.TheVariants as feed
use Rattle.spl_world.specs.declared.fault.WorldFault.{WorldFault}
use Rattle.spl_runs.specs.{Faults.feed_end, Moments.MayGoOn, Run.{IsAllowed, Plan, RunMode, after_line, ids, is_said_taken, number_of, tasks, tasks_of}}
use Rattle.spl_runs.specs.{Run.{run_way, with_lines, Devices, Ended, EndsText}, Steps.{LineRuns, LinesRun, Step, TakesLine, task}, Stops.HasRead}
use Rattle.spl_runs.{proofs.Causes.{causes_if, err_again, err_as, err_is}, specs.declared.{fault.{RunEnd.RunEnd, RunFault.RunFault}, run.Run.Run}}
use Rattle.spl_runs.proofs.{Running.leaves, Steps.{step_as, step_last, step_more, step_none, step_still, step_then, stops_after, well}, Tasks.tasks_then}
use Rattle.spl_runs.specs.declared.fault.RunEnd.TheVariants as end
use Rattle.spl_runs.specs.declared.fault.RunFault.TheVariants as fault

-- a fault that says nothing of the text, but where it is a bad line
read_if : (f : RunFault) {w : RunMode} {p : Plan} {t u : SourceView} → ((n : ℕ) → f ≡ fault.BadLine n → HasRead (Err (fault.BadLine n)) w p t u)
    → HasRead (Err f) w p t u
read_if (fault.World e) bad = record { text = tt; allowed = tt }
read_if fault.Write bad = record { text = tt; allowed = tt }
read_if fault.NoMemory bad = record { text = tt; allowed = tt }
read_if (fault.BadLine n) bad = bad n refl

-- ---- a line

module _ {linked : Bool} {number : ℕ} {line : List ℕ} {A : Type 0} where
  pub line_bad : {r : Run} {x : Devices} → MayGoOn r.nodes.items r.world x.disks x.links → (IsAllowed (run_way linked r.unanswered) r.nodes.items line → ⊥)
      → TakesLine linked number line (failed A RunFault (fault.BadLine number)) r r x x
  line_bad go none = inr (record {
    fails = refl;
    bad = λ n is. ((let same : n ≡ number = cc in same), none);
    step = step_none (failed A RunFault (fault.BadLine number)) (λ e is. cc) (λ is. cc) go;
  })

  pub line_unread : {r : Run} {x : Devices} → MayGoOn r.nodes.items r.world x.disks x.links
      → TakesLine linked number line (failed A RunFault fault.NoMemory) r r x x
  line_unread go =
      inr (record {
        fails = refl;
        bad = λ n is. absurd (let no : failed A RunFault fault.NoMemory ≡ Err (fault.BadLine n) = is in cc);
        step = step_none (failed A RunFault fault.NoMemory) (λ e is. cc) (λ is. cc) go;
      })

  pub line_silent : {a : A} {r : Run} {x : Devices} → MayGoOn r.nodes.items r.world x.disks x.links → IsLine r.nodes.items line → line_said line ≡ None
      → TakesLine linked number line (well A a) r r x x
  line_silent {a} {r} go good none = inl (record {
    good = record { good = good; taken = λ on. subst (λ (o : Option Said). IfSome o (λ s. is_said_taken s ≡ true)) (sym none) tt };
    never = λ n is. cc;
    step = step_as (ap (tasks_of (run_way linked r.unanswered) number) (sym none)) (step_still go);
  })

  module _ {r : Run} {l : Said} (good : IsAllowed (run_way linked r.unanswered) r.nodes.items line) (is : line_said line ≡ Some l) where
    pub line_done : {B : Type 0} {b : B} {q : Result A RunFault} {m s : Run} {x y z : Devices} → ((n : ℕ) → IsErrOf q (fault.BadLine n) → ⊥)
        → Step linked (task (number_of (run_way linked r.unanswered) number) l ∷ []) (well B b) r m x y
        → Step linked (after_line (run_way linked m.unanswered) l) q m s y z
        → TakesLine linked number line q r s x z
    line_done never first then =
        inl (record { good = good; never = never; step = step_as (ap (tasks_of (run_way linked r.unanswered) number) (sym is)) (step_then first then) })

    pub line_broken : {f : RunFault} {s : Run} {x y : Devices} (q : Result A RunFault) → IsErr q × IsErrAnd q (λ g. g ≡ f)
        → ((n : ℕ) → IsErrOf (failed A RunFault f) (fault.BadLine n) → ⊥)
        → Step linked (task (number_of (run_way linked r.unanswered) number) l ∷ []) (failed A RunFault f) r s x y
        → TakesLine linked number line q r s x y
    line_broken {f} {s} {x} {y} q fails never first = subst (λ (p : Result A RunFault). TakesLine linked number line p r s x y) (sym (err_is q f fails))
        (inl (record {
          good =
              good;
          never = never;
          step = step_as (ap (tasks_of (run_way linked r.unanswered) number) (sym is))
              (step_more (after_line (run_way linked r.unanswered) l) never first);
        }))

-- ---- a line more

-- all of a line was run where that succeeded
pub line_ran : {linked : Bool} {number : ℕ} {line : List ℕ} {A : Type 0} {a : A} {r s : Run} {x y : Devices}
    → TakesLine linked number line (well A a) r s x y → LineRuns linked number line (well A a) r s x y
line_ran (inl h) = h
line_ran (inr h) = absurd (let no : false ≡ true = h.fails in cc)

-- a call in what is run of the first lines ended the run
lines_stop : {linked : Bool} {r s : Run} {x y : Devices} {t u : SourceView} {B : Type 0} {f : RunFault} {all : List (List ℕ)}
    → Consumes t.left u.left (given t u) → (first rest : List (List ℕ)) → all ≡ first ++ rest
    → AllByRecursion (IsAllowed (run_way linked r.unanswered) r.nodes.items) first
    → ((n : ℕ) → f ≡ fault.BadLine n → take (n - 1) all ≡ first) → Step linked (tasks (run_way linked r.unanswered) first) (failed B RunFault f) r s x y
    → ((p : Plan) → r.nodes.items ≡ ids p → HasRead (Err f) (run_way linked r.unanswered) (with_lines p all) t u)
    → LinesRun linked (Err f) all r s x y t u
lines_stop {linked} {r} {f = f} {all = all} taken first rest place good bad step read = record {
  read = read;
  comes = λ p z same h. record {
    lines = first;
    rest = rest;
    place = place;
    allowed = subst (λ (ns : List Node). AllByRecursion (IsAllowed (run_way linked r.unanswered) ns) first) same good;
    all = tt;
    bad = λ n is. bad n (let same : f ≡ fault.BadLine n = cc in same);
    stops = step.comes (with_lines p all) [] z h;
  };
  taken = taken;
  causes = causes_if (λ q. err_again q) (λ e q. err_again q) step.on.causes;
  write = λ q. step.on.write (err_again q);
  later = step.on.later;
}

-- there was no memory to read them
pub lines_none : {linked : Bool} {r : Run} {x : Devices} {t : SourceView} → MayGoOn r.nodes.items r.world x.disks x.links
    → LinesRun linked (Err fault.NoMemory) (run_of (given t t)) r r x x t t
lines_none {t = t} go =
    let none : given t t ≡ [] = drop_all (length t.gave) t.gave (omega arith) in
    lines_stop (rw none (Consumes-nil t.left)) [] (run_of (given t t)) refl tt (λ n q. cc)
    (step_none (failed RunEnd RunFault fault.NoMemory) (λ e q. cc) (λ q. cc) go) (λ p same. record { text = tt; allowed = tt })

module _ {linked : Bool} {r m : Run} {x y : Devices} {A : Type 0} {a : A} (lines : List (List ℕ))
    (good : AllByRecursion (IsAllowed (run_way linked r.unanswered) r.nodes.items) lines)
    (so_far : Step linked (tasks (run_way linked r.unanswered) lines) (well A a) r m x y) where
  abbrev w : RunMode
  w = run_way linked r.unanswered

  good_in : (p : Plan) → r.nodes.items ≡ ids p → AllByRecursion (IsAllowed w (ids p)) lines
  good_in p same = subst (λ (ns : List Node). AllByRecursion (IsAllowed w ns) lines) same good

  -- what is said of the run after these lines is said of it before
  as_first : (P : ℕ → List Node → Type 0) → P m.unanswered m.nodes.items → P r.unanswered r.nodes.items
  as_first P h = subst (P r.unanswered) so_far.on.nodes (subst (λ (n : ℕ). P n m.nodes.items) so_far.on.unanswered h)

  -- the next line is a bad one
  read_bad : {line : List ℕ} {number : ℕ} {t u : SourceView} (p : Plan) (all rest : List (List ℕ)) → all ≡ (lines ++ line ∷ []) ++ rest
      → number ≡ length lines + 1 → r.nodes.items ≡ ids p → (n : ℕ) → (n ≡ number) × (IsAllowed w (ids p) line → ⊥)
      → HasRead (Err (fault.BadLine n)) w (with_lines p all) t u
  read_bad {line} p all rest is counted same n bad = record {
    text = inl (record {
      line =
          line;
      more = rest;
      counted = omega (arith, bad.0, counted);
      place = it_and_more lines line rest all is n (bad.0 ∙ counted);
      bad = bad.1;
    });
    allowed = subst (AllByRecursion (IsAllowed w (ids p))) (sym (before_it lines line rest all is n (bad.0 ∙ counted))) (good_in p same);
  }

  module _ {s : Run} {z : Devices} {number : ℕ} {line : List ℕ} (counted : number ≡ length lines + 1) where
    allowed_first : {B : Type 0} {q : Result B RunFault} → LineRuns linked number line q m s y z → IsAllowed w r.nodes.items line
    allowed_first h = as_first (λ n ns. IsAllowed (run_way linked n) ns line) h.good

    pub next_good : {B : Type 0} {q : Result B RunFault} → LineRuns linked number line q m s y z
        → AllByRecursion (IsAllowed w r.nodes.items) (lines ++ line ∷ [])
    next_good h = all-push (IsAllowed w r.nodes.items) lines line good (allowed_first h)

    pub next_step : {B : Type 0} {q : Result B RunFault} → LineRuns linked number line q m s y z → Step linked (tasks w (lines ++ line ∷ [])) q r s x z
    next_step {B} {q} h =
        subst (λ (ts : List Task). Step linked ts q r s x z) (sym (tasks_then w lines line number counted))
        (subst (λ (n : ℕ). Step linked (tasks w lines ++ tasks_of (run_way linked n) number (line_said line)) q r s x z) so_far.on.unanswered
        (step_then so_far h.step))

    -- the run ends with it
    module _ {B : Type 0} {f : RunFault} {t u : SourceView} (taken : Consumes t.left u.left (given t u)) (all rest : List (List ℕ))
        (is : all ≡ (lines ++ line ∷ []) ++ rest) where
      pub lines_fail : TakesLine linked number line (failed B RunFault f) m s y z → LinesRun linked (Err f) all r s x z t u
      lines_fail (inl h) = lines_stop taken (lines ++ line ∷ []) rest is (next_good h) (λ n q. absurd (h.never n (err_as f (fault.BadLine n) q))) (next_step h)
          (λ p same. read_if f (λ n q. absurd (h.never n (err_as f (fault.BadLine n) q))))
      lines_fail (inr h) =
          lines_stop taken lines (line ∷ rest) (whole lines line rest all is) good (λ n q. before_it lines line rest all is n ((bad n q).0 ∙ counted))
          (step_last so_far h.step)
          (λ p same. read_if f (λ n q. read_bad p all rest is counted same n
          (subst (λ (ns : List Node). (n ≡ number) × (IsAllowed w ns line → ⊥)) same (bad n q))))
        where
          bad : (n : ℕ) → f ≡ fault.BadLine n → (n ≡ number) × (IsAllowed w r.nodes.items line → ⊥)
          bad n q = as_first (λ u ns. (n ≡ number) × (IsAllowed (run_way linked u) ns line → ⊥)) (h.bad n (err_as f (fault.BadLine n) q))

  -- ---- no line came

  module _ {t u : SourceView} (f : Feed) (feeds : Feeds t.gave t.left lines u.gave u.left f) (none : has_feed (waiting f) ≡ false) where
    of_given : {e : Ended} → LinesRun linked e lines r m x y t u → LinesRun linked e (run_of (given t u)) r m x y t u
    of_given {e} h = subst (λ (ls : List (List ℕ)). LinesRun linked e ls r m x y t u) (sym (all_lines t.gave t.left lines u.gave u.left f feeds none)) h

    lines_ok : (e : RunEnd) → ((p : Plan) → EndsText (Ok e) w (with_lines p lines) t u) → LinesRun linked (Ok e) (run_of (given t u)) r m x y t u
    lines_ok e text = of_given (record {
      read = λ p same. record { text = text p; allowed = good_in p same };
      comes = λ p z same h. (let done = so_far.comes (with_lines p lines) [] z h in record {
        lines = lines;
        rest = [];
        place = sym (append-nil lines);
        allowed = good_in p same;
        all = refl;
        bad = λ n q. cc;
        stops = stops_after (Ok e) (leaves done.ran r.unanswered) (refl, refl) done.due;
      });
      taken = feeds.consumed;
      causes = causes_if (λ q. cc) (λ d q. cc) so_far.on.causes;
      write = λ q. cc;
      later = so_far.on.later;
    })

    pub lines_whole : IsAtEnd u.left × (count_of f ≤ limit) × (waiting f ≡ []) → LinesRun linked (Ok end.Whole) (run_of (given t u)) r m x y t u
    lines_whole (ended, few, empty) =
        lines_ok end.Whole (λ p. record {
          ended = ended;
          short = is_short t.gave t.left lines u.gave u.left f feeds none few;
          whole = rest_given t.gave t.left lines u.gave u.left f feeds none few ∙ empty;
        })

    lines_err : (g : RunFault) → ((n : ℕ) → g ≡ fault.BadLine n → n ≡ length lines + 1) → ((e : WorldFault) → g ≡ fault.World e → ⊥)
        → (g ≡ fault.Write → ⊥) → ((p : Plan) → r.nodes.items ≡ ids p → HasRead (Err g) w (with_lines p lines) t u)
        → LinesRun linked (Err g) (run_of (given t u)) r m x y t u
    lines_err g last only written read =
        of_given (lines_stop feeds.consumed lines [] (sym (append-nil lines)) good (λ n q. all_before lines lines n refl (last n q))
        (step_last so_far (step_none (failed RunEnd RunFault g) (λ e q. (let same : g ≡ fault.World e = cc in only e same))
        (λ q. (let same : g ≡ fault.Write = cc in written same)) so_far.on.go)) read)

    lines_bad : (n : ℕ) → n ≡ length lines + 1 → IsUnfinished (given t u) u.left ⊎ IsOverlong (given t u)
        → LinesRun linked (Err (fault.BadLine n)) (run_of (given t u)) r m x y t u
    lines_bad n last bad = lines_err (fault.BadLine n) (λ k q. (let same : n ≡ k = cc in sym same ∙ last)) (λ e q. cc) (λ q. cc)
        (λ p same. record {
          text = inr (record { last = last; bad = bad });
          allowed = subst (AllByRecursion (IsAllowed w (ids p))) (sym (all_before lines lines n refl last)) (good_in p same);
        })

    pub lines_end : (number : ℕ) → number ≡ length lines + 1 → (before : ℕ) → t.faults ≤ before → (e : FeedFault)
        → (IsErrOf (failed Bool FeedFault e) feed.Unfinished → IsAtEnd u.left × (count_of f ≤ limit) × (waiting f ≢ []))
        → (IsErrOf (failed Bool FeedFault e) feed.Overlong → IsLong (waiting f))
        → (IsErrOf (failed Bool FeedFault e) feed.TooLong → (limit < count_of f) × IsShort (waiting f))
        → (IsErrOf (failed Bool FeedFault e) feed.Read → Rose before u.faults × (count_of f ≤ limit) × IsShort (waiting f))
        → LinesRun linked (feed_end e number) (run_of (given t u)) r m x y t u
    lines_end number counted before later feed.Unfinished unfinished over long read =
        (let h = unfinished refl in lines_bad number counted (inl (is_unfinished t.gave t.left lines u.gave u.left f feeds none h.1 h.0 h.2)))
    lines_end number counted before later feed.Overlong unfinished over long read =
        lines_bad number counted (inr (is_overlong t.gave t.left lines u.gave u.left f feeds none (over refl)))
    lines_end number counted before later feed.TooLong unfinished over long read =
        lines_ok end.TooLong (λ p. is_long t.gave t.left lines u.gave u.left f feeds none (long refl))
    lines_end number counted before later feed.Read unfinished over long read =
        let h = read refl in
        let few = is_short t.gave t.left lines u.gave u.left f feeds none h.1 in
        lines_ok end.Read (λ p. (omega (arith, later, h.0), few, rest_short t.gave t.left lines u.gave u.left f feeds none h.1 h.2))
    lines_end number counted before later feed.NoMemory unfinished over long read =
        lines_err fault.NoMemory (λ n q. cc) (λ e q. cc) (λ q. cc) (λ p same. record { text = tt; allowed = tt })

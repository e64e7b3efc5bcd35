-- A calm in a run, step by step.
use Rattle.std.{specs.{Prelude.{IfErr, IsErr, IsErrOf}, Result.{IsErrAnd, MatchResult}}, proofs.Common.{◌≡◌, inl, inr, ◌<◌, ◌≤◌, ◌+◌, ◌*◌, ℕ, Bool, true}}
use Rattle.std.proofs.Common.{false, not, true≢false, List, [], ◌∷◌, ◌++◌, length, map, append_assoc, append-nil, Some, Result, Ok, Err, OnOk, OnErr, refl}
use Rattle.std.proofs.Common.{sym, ap, subst, ◌∙◌, arith}
use Rattle.spl_circuit.specs.Nodes.{CircuitId, Node}
use Rattle.spl_circuit_world.specs.{Calm.{Calming, calming}, Answers.events_of, Projection.{Ran, plainly}, Worlds.{Halts, Occurrence, Starts, Steps, Stops}}
use Rattle.spl_circuit_world.specs.{Worlds.{World as CircuitWorld, occur, step_world}, Whole.whole_world, declared.TheConstants.MOST_EVENTS}
use Rattle.spl_circuit_world.proofs.LinesAsOccurrences.{run-append}
use Rattle.spl_pump.specs.Wires.{Carried}
use Rattle.spl_base.specs.Booleans.{bytes_same}
use Rattle.spl_sched.specs.{Grammar.{is_line, spelling, step_circuit, is_calm}, declared.line.{Line.Line, Step.Step}}
use Rattle.spl_sched.specs.declared.line.Line.TheVariants as line
use Rattle.spl_sched.specs.declared.line.Step.TheVariants as step
use Rattle.spl_trace.{specs.{Traced.{lines_text, steps_in}, Heard.heard_of, Tracers.{HasHeard, Tracing}}, proofs.CalmLines.{AllOf, calm-of}}
use Rattle.spl_wire.specs.declared.event.Event.TheVariants as event
use Rattle.spl_world.specs.{Calls.Around, Counts.Counts, Cursor.{CalmFollows, IsLast, IsStep, IsCalmStill, IsTurn, LeadsOn, cursor_of, calm_ended}}
use Rattle.spl_world.specs.{Cursor.is_idle_turn, Held.LineEnds, Links.{Carries, CarriesPart, DeliversMessages, LinkView, AreLinksReady, carried_at}}
use Rattle.spl_world.specs.{Links.carried_in, Views.{HoldsWorld, Sits, StandsAfterLines, world_node_ids, is_world_halted, nodes_over, places_of}}
use Rattle.spl_world.specs.declared.{calm.{Calm.Calm, Turn.Turn}, fault.WorldFault.{WorldFault, TheVariants.{NotAJournal, TooMany}}, world.World.World}
use Rattle.spl_world.proofs.{Calls.{IsPlain, call_done, call_failed, call_then, left_early, left_nodes, unlinked}, EndingLines.ended_still}
use Rattle.spl_world.proofs.{Leaving.{counted_no_disk, no_journal}, Linking.{HasPrefixes, IsIdle, carries_nothing, carries_then, delivers_nothing}}
use Rattle.spl_world.proofs.{Linking.{delivers_still, fails_early, off_limit, part_after, part_more}, Standing.{events_after, over_line}}
use Rattle.spl_world.specs.declared.calm.Turn.TheVariants as turn
use Rattle.spl_node.specs.Benches.{Images}
use Rattle.spl_runs.specs.Calms.{CalmAfter, FailedAfter, HasCome, IsIdleLine, IsThrough, IsUnderWay, NodesGoOn, Past, RanAfter, calm_line, first_of}
use Rattle.spl_runs.{specs.Calms.{messages_of, past_worlds, whole_calm, past_with_line}, proofs.CalmRest.{IsLeft, adds_ended, carried_append, ends_with}}
use Rattle.spl_runs.proofs.{CalmSteps.{ended_calm, ended_so_far, of_first, over_calm, stands_calm, stands_idle, steps_own}, Causes.{done, err_again, err_is}}
use Rattle.spl_edge.proofs.Results.{on_ok, failed}

-- ---- calls of the nodes, one after another

pub nodes_then : {A B : Type 0} {a : A} {q : Result B WorldFault} {u v w : World} {x y z : Around} → NodesGoOn (done A a) u v x y → NodesGoOn q v w y z
    → NodesGoOn q u w x z
nodes_then f g = record { leaves = call_then f.leaves g.leaves; running = g.running; sound = g.sound }

-- one that fails as the call in it does
pub nodes_failed : {A B : Type 0} {f : WorldFault} {v w : World} {x y : Around} (r : Result B WorldFault) → IsErr r × IsErrAnd r (λ d. d ≡ f)
    → NodesGoOn (failed A WorldFault f) v w x y → NodesGoOn r v w x y
nodes_failed {A} {B} {f} {v} {w} {x} {y} r same h = subst (λ (q : Result B WorldFault). NodesGoOn q v w x y) (sym (err_is r f same)) (record {
  leaves = call_failed (failed B WorldFault f) (refl, refl) h.leaves;
  running = tt;
  sound = λ k at e. h.sound k at (err_again e);
})

-- nothing changed before it
pub nodes_still : {B : Type 0} {f : WorldFault} {v w : World} {x : Around} (r : Result B WorldFault) → IsErr r × IsErrAnd r (λ d. d ≡ f) → IsPlain f
    → w.slots ≡ v.slots → NodesGoOn r v w x x
nodes_still {B} {f} {v} {w} {x} r same p slots = subst (λ (q : Result B WorldFault). NodesGoOn q v w x x) (sym (err_is r f same)) (record {
  leaves = left_early (failed B WorldFault f) (refl, refl) p slots;
  running = tt;
  sound = no_journal (failed B WorldFault f) p.journal;
})

-- so many events were counted, and nothing else changed
counted_no_journal : {A : Type 0} (q : Result A WorldFault) → OnErr q (IsErrOf q (TooMany 1)) → (k at : ℕ) → IsErrOf q (NotAJournal k at) → ⊥
counted_no_journal (Ok a) only k at e = cc
counted_no_journal (Err f) only k at e = cc

pub nodes_counted : {A : Type 0} (q : Result A WorldFault) (v w : World) (x : Around) → w.slots ≡ v.slots → OnOk q (is_world_halted w ≡ false)
    → OnErr q (IsErrOf q (TooMany 1)) → Sits (nodes_over v x.disks.held) → AreLinksReady (places_of v) x.links → NodesGoOn q v w x x
nodes_counted q v w x slots running only sits ready = record {
  leaves = unlinked x.links ready (off_limit q 1 only) (left_nodes q v w slots x.disks (counted_no_disk q 1 only) (on_ok q sits));
  running = running;
  sound = counted_no_journal q only;
}

-- nothing is asked of the nodes yet
pub nodes_itself : (v : World) (x : Around) → is_world_halted v ≡ false → Sits (nodes_over v x.disks.held) → AreLinksReady (places_of v) x.links
    → NodesGoOn (done ℕ 0) v v x x
nodes_itself v x running sits ready = nodes_counted (done ℕ 0) v v x refl running tt sits ready

-- ---- an idle tick

pub idle_comes : (q : Result (Unit {0}) WorldFault) (t : Past) (l : Line) (v w : World) (is : List Images) (x : LinkView) → IsIdleLine v l
    → is_line l ≡ true → IsIdle x → w.slots ≡ v.slots → w.stops ≡ v.stops → Counts q v.events w.events 0 1 → OnErr q (IsErrOf q (TooMany 1))
    → StandsAfterLines t.o t.others t.before v is
    → MatchResult q (λ u. RanAfter t l w is x x) (λ e. FailedAfter t l e (world_node_ids v) (places_of v) is x x)
idle_comes (Ok u) t l v w is x (c, n, l_is, due) fits idle slots stops counts only stands =
    subst (λ (k : Line). RanAfter t k w is x x) (sym l_is) (record {
      stands =
          let more : w.events ≡ v.events + 1 = (let ok = counts.ok in omega (arith, ok)) in
          stands_idle t.o t.others t.before c n v w is (subst (λ (k : Line). is_line k ≡ true) l_is fits)
          (λ m h. due is m stands.sits h) slots stops more stands;
      links = carries_nothing x idle;
    })
idle_comes (Err e) t l v w is x (c, n, l_is, due) fits idle slots stops counts only stands = record {
  held = ended_still t.before v is stands e (λ k at. absurd cc) l is refl;
  links = subst (λ (k : Line). CarriesPart e (messages_of t k) x x) (sym l_is)
      (delivers_nothing (failed (Unit {0}) WorldFault e) x idle (off_limit (failed (Unit {0}) WorldFault e) 1 only));
  many = λ which at. subst (λ (k : Line). (which ≡ 1) × (MOST_EVENTS < events_of t.o (past_with_line t k) + t.others)) (sym l_is)
      (over_line (failed (Unit {0}) WorldFault e) w.events which v is t.before (line.Step (step.At n c event.Tick)) 1 stands
      (subst (λ (k : Line). is_line k ≡ true) l_is fits) refl counts (ap (failed (Unit {0}) WorldFault) at));
}

-- ---- what a tracer has heard

lines_more : (xs : List Line) (l : Line) → lines_text (xs ++ l ∷ []) ≡ lines_text xs ++ (spelling l ++ 10 ∷ [])
lines_more [] l = refl
lines_more (x ∷ xs) l =
    ap (λ (t : List ℕ). spelling x ++ (10 ∷ t)) (lines_more xs l) ∙ sym (append_assoc (spelling x) (10 ∷ lines_text xs) (spelling l ++ 10 ∷ []))

pub heard_more : (t u : Tracing) (es : List Line) (l : Line) → u.on ≡ t.on → u.text ≡ t.text ++ (spelling l ++ 10 ∷ []) → HasHeard t es
    → HasHeard u (es ++ l ∷ [])
heard_more t u es l on text h = λ is. text ∙ ap (λ (k : List ℕ). k ++ (spelling l ++ 10 ∷ [])) (h (sym on ∙ is)) ∙ sym (lines_more es l)

pub heard_off : (t u : Tracing) (es fs : List Line) → u.on ≡ t.on → t.on ≡ false → HasHeard u fs
heard_off t u es fs on off = λ is. absurd (true≢false (sym is ∙ on ∙ off))

-- ---- a step more

steps_more : (es : List Occurrence) (s : Step) → steps_in (es ++ Steps s ∷ []) ≡ steps_in es ++ line.Step s ∷ []
steps_more es s = steps_append es (Steps s ∷ [])
  where
    steps_append : (xs ys : List Occurrence) → steps_in (xs ++ ys) ≡ steps_in xs ++ steps_in ys
    steps_append [] ys = refl
    steps_append (Steps s ∷ xs) ys = ap (λ (ls : List Line). line.Step s ∷ ls) (steps_append xs ys)
    steps_append (Stops n ∷ xs) ys = steps_append xs ys
    steps_append (Starts n ∷ xs) ys = steps_append xs ys
    steps_append (Halts kept s ∷ xs) ys = steps_append xs ys

ran_more : (xs : List Line) (l : Line) → map plainly (xs ++ l ∷ []) ≡ map plainly xs ++ plainly l ∷ []
ran_more [] l = refl
ran_more (x ∷ xs) l = ap (λ (rs : List Ran). plainly x ∷ rs) (ran_more xs l)

-- the lines so far, and the steps that ran
abbrev pub so_far : Past → List Occurrence → Past
so_far t es = record { o = t.o; others = t.others; before = t.before ++ map plainly (steps_in es); place = t.place }

lines_on : (t : Past) (es : List Occurrence) (s : Step) → t.before ++ map plainly (steps_in (es ++ Steps s ∷ [])) ≡ past_with_line (so_far t es) (line.Step s)
lines_on t es s =
    ap (λ (ls : List Line). t.before ++ map plainly ls) (steps_more es s)
    ∙ ap (λ (rs : List Ran). t.before ++ rs) (ran_more (steps_in es) (line.Step s))
    ∙ sym (append_assoc t.before (map plainly (steps_in es)) (plainly (line.Step s) ∷ []))

-- the step that a turn is
pub one_step : (ids : List Node) (c : CircuitId) (t : Turn) (r s : Step) → IsStep ids c t r → IsStep ids c t s → r ≡ s
one_step ids c (turn.Tick i due) r s (m, at, r_is) (n, to, s_is) =
    let same : m ≡ n = (let e : Some m ≡ Some n = sym at ∙ to in cc) in r_is ∙ ap (λ (k : Node). step.At k c event.Tick) same ∙ sym s_is
one_step ids c (turn.Deliver i j k) r s (a, b, at, to, r_is) (d, e, there, other, s_is) =
    let first : a ≡ d = (let q : Some a ≡ Some d = sym at ∙ there in cc) in
    let second : b ≡ e = (let q : Some b ≡ Some e = sym to ∙ other in cc) in
    r_is ∙ ap (λ (n : Node). step.Deliver n b c (k + 1)) first ∙ ap (λ (n : Node). step.Deliver d n c (k + 1)) second ∙ sym s_is

pub about : (ids : List Node) (c : CircuitId) (t : Turn) (s : Step) → IsStep ids c t s → step_circuit s ≡ c
about ids c (turn.Tick i due) s (n, at, is) = ap step_circuit is
about ids c (turn.Deliver i j k) s (a, b, at, to, is) = ap step_circuit is

module _ (d : CalmAfter) {k : Calm} {z : Calming} {w : World} {is : List Images} {x y : LinkView} {t : Tracing} (h : HasCome d k z w is x y t) where
  abbrev es : List Occurrence
  es = z.happened

  -- what is left of it
  left_over : (ys : List Occurrence) × (es ++ ys ≡ (whole_calm d).happened)
  left_over = let a = adds_ended (cursor_of (world_node_ids w) k) z in (a.rest, sym a.happened ∙ ap (λ (v : Calming). v.happened) h.left)

  all_of : AllOf d.circuit es
  all_of = let l = left_over in (of_first d.circuit es l.0 (subst (AllOf d.circuit) (sym l.1) (calm-of d.circuit (first_of d) d.passes))).0

  -- its world is that of the lines so far
  pub world_is : whole_world d.past.o d.circuit (d.past.before ++ map plainly (steps_in es)) ≡ z.world
  world_is = steps_own d.past.o d.past.before d.circuit d.circuit es (bytes_same d.circuit) all_of ∙ sym h.world

  pub holds : HoldsWorld d.circuit z.world (nodes_over w is)
  holds = subst (λ (m : CircuitWorld). HoldsWorld d.circuit m (nodes_over w is)) world_is (h.stands.each d.circuit)

  -- it ends with an error between two steps, which names nothing
  pub fails_between : (e : WorldFault) → IsPlain e → HasPrefixes x
      → ((which : ℕ) → e ≡ TooMany which → (which ≡ 1) × (MOST_EVENTS < events_of d.past.o (past_with_line d.past (calm_line d)) + d.past.others))
      → FailedAfter d.past (calm_line d) e (world_node_ids w) (places_of w) is x y
  fails_between e p prefixes many =
      let l = left_over in
      record {
        held = ended_so_far d.past.o d.past.others d.past.before d.circuit d.passes w is es l.0 e l.1 p.disk h.stands;
        links = subst (λ (cs : List Carried). CarriesPart e cs x y)
            (sym (carried_append d.past.place (first_of d) es l.0) ∙ ap (carried_in d.past.place (first_of d)) l.1)
            (part_more e (carried_in d.past.place (first_of d) es) (carried_in d.past.place (occur (first_of d) es) l.0) x y prefixes
            (delivers_still (failed ℕ WorldFault e) (carried_in d.past.place (first_of d) es) x y p.links h.links));
        many = many;
      }

  module _ (s : Step) (next : Calming) (j : Calm) (of : step_circuit s ≡ d.circuit) (moved : next.world ≡ step_world z.world s)
      (more : next.happened ≡ es ++ Steps s ∷ [])
      (same : calm_ended (cursor_of (world_node_ids w) j) next ≡ calm_ended (cursor_of (world_node_ids w) k) z) where
    carried_is : messages_of (so_far d.past es) (line.Step s) ≡ carried_at d.past.place (occur (first_of d) es) (Steps s)
    carried_is =
        ap (λ (c : CircuitId). carried_at d.past.place (whole_world d.past.o c (d.past.before ++ map plainly (steps_in es))) (Steps s)) of
        ∙ ap (λ (m : CircuitWorld). carried_at d.past.place m (Steps s)) (world_is ∙ h.world)

    -- it ran
    pub comes_on : (v : World) (js : List Images) (y2 : LinkView) (u : Tracing) → world_node_ids v ≡ world_node_ids w
        → RanAfter (so_far d.past es) (line.Step s) v js y y2 → HasHeard u (steps_in es ++ line.Step s ∷ []) → HasCome d j next v js x y2 u
    comes_on v js y2 u ids r heard = record {
      stands = subst (λ (rs : List Ran). StandsAfterLines d.past.o d.past.others rs v js)
          (sym (ap (λ (fs : List Occurrence). d.past.before ++ map plainly (steps_in fs)) more ∙ lines_on d.past es s)) r.stands;
      world = moved ∙ ap (λ (m : CircuitWorld). step_world m s) h.world ∙ sym (run-append (first_of d) es (Steps s ∷ [])) ∙ sym (ap (occur (first_of d)) more);
      left = ap (λ (ns : List Node). calm_ended (cursor_of ns j) next) ids ∙ same ∙ h.left;
      links = subst (λ (cs : List Carried). Carries cs x y2)
          (ap (λ (cs : List Carried). carried_in d.past.place (first_of d) es ++ cs)
          (carried_is ∙ sym (append-nil (carried_at d.past.place (occur (first_of d) es) (Steps s))))
          ∙ sym (carried_append d.past.place (first_of d) es (Steps s ∷ [])) ∙ ap (carried_in d.past.place (first_of d)) (sym more))
          (carries_then (carried_in d.past.place (first_of d) es) (messages_of (so_far d.past es) (line.Step s)) x y y2 h.links r.links);
      heard = subst (HasHeard u) (sym (ap steps_in more ∙ steps_more es s)) heard;
    }

    -- it ended with an error
    pub fails_on : (e : WorldFault) (js : List Images) (y2 : LinkView) → is_line (calm_line d) ≡ true → is_line (line.Step s) ≡ true → HasPrefixes x
        → FailedAfter (so_far d.past es) (line.Step s) e (world_node_ids w) (places_of w) js y y2
        → FailedAfter d.past (calm_line d) e (world_node_ids w) (places_of w) js x y2
    fails_on e js y2 fits step_fits prefixes f =
        let a = adds_ended (cursor_of (world_node_ids w) j) next in
        let all : es ++ (Steps s ∷ a.rest) ≡ (whole_calm d).happened =
        sym (append_assoc es (Steps s ∷ []) a.rest) ∙ ap (λ (fs : List Occurrence). fs ++ a.rest) (sym more) ∙ sym a.happened
        ∙ ap (λ (v : Calming). v.happened) (same ∙ h.left) in
        let m : CircuitWorld = first_of d in
        let xs : List Carried = carried_in d.past.place m es in
        let at : List Carried = carried_at d.past.place (occur m es) (Steps s) in
        let later : List Carried = carried_in d.past.place (occur m (es ++ Steps s ∷ [])) a.rest in
        let split : (xs ++ messages_of (so_far d.past es) (line.Step s)) ++ later ≡ messages_of d.past (calm_line d) =
        ap (λ (cs : List Carried). (xs ++ cs) ++ later) (carried_is ∙ sym (append-nil at))
        ∙ ap (λ (cs : List Carried). cs ++ later) (sym (carried_append d.past.place m es (Steps s ∷ [])))
        ∙ sym (carried_append d.past.place m (es ++ Steps s ∷ []) a.rest) ∙ ap (carried_in d.past.place m) (append_assoc es (Steps s ∷ []) a.rest ∙ all) in
        record {
          held = ended_calm d.past.o d.past.before d.circuit d.passes es a.rest s e (world_node_ids w) (places_of w) js all f.held;
          links = subst (λ (cs : List Carried). CarriesPart e cs x y2) split
              (part_more e (xs ++ messages_of (so_far d.past es) (line.Step s)) later x y2 prefixes
              (part_after e xs (messages_of (so_far d.past es) (line.Step s)) x y y2 h.links f.links));
          many = λ which q.
              let nodes_over = f.many which q in
              let one : events_of d.past.o (past_with_line (so_far d.past es) (line.Step s)) + d.past.others ≡ w.events + 1 =
              events_after w is (d.past.before ++ map plainly (steps_in es)) (line.Step s) 1 h.stands step_fits refl in
              let least : 1 ≤ length (Steps s ∷ a.rest) = omega arith in
              let most : MOST_EVENTS < w.events + 1 = (let o = nodes_over.1 in omega (arith, o, one)) in
              (nodes_over.0, over_calm d.past.o d.past.others d.past.before d.circuit d.passes w is es (Steps s ∷ a.rest) 1 fits all least most h.stands);
        }

-- ---- its beginning

pub calm_begins : (d : CalmAfter) (k : Calm) (w : World) (is : List Images) (x : LinkView) (t : Tracing)
    → StandsAfterLines d.past.o d.past.others d.past.before w is → CalmFollows (world_node_ids w) k (calming (first_of d))
    → calm_ended (cursor_of (world_node_ids w) k) (calming (first_of d)) ≡ whole_calm d → IsIdle x → HasHeard t [] → IsUnderWay d k w is x x t
calm_begins d k w is x t stands follows left idle heard = record {
  state = calming (first_of d);
  come = record {
    stands = subst (λ (rs : List Ran). StandsAfterLines d.past.o d.past.others rs w is) (sym (append-nil d.past.before)) stands;
    world = refl;
    left = left;
    links = carries_nothing x idle;
    heard = heard;
  };
  follows = follows;
}

-- ---- its end

module _ (d : CalmAfter) {k : Calm} {w : World} {is : List Images} {x y : LinkView} {t : Tracing} (h : IsThrough d k w is x y t) where
  abbrev z : Calming
  z = h.state

  rest_of : IsLeft z (whole_calm d) (k.ticks * k.later)
  rest_of = subst (λ (v : Calming). IsLeft z v (k.ticks * k.later)) h.come.left (ends_with (world_node_ids w) k z h.over h.last h.done)

  -- what is left is counted
  pub calm_ends : (v : World) (n : ℕ) → is_line (calm_line d) ≡ true → v.slots ≡ w.slots → v.stops ≡ w.stops → v.events ≡ w.events + n
      → n ≡ k.ticks * k.later → RanAfter d.past (calm_line d) v is x y
  calm_ends v n fits slots stops events exact = record {
    stands =
        let counted = rest_of.counted in
        let all : v.events ≡ w.events + length rest_of.rest = omega (arith, events, exact, counted) in
        stands_calm d.past.o d.past.others d.past.before d.circuit d.passes w v is z.happened rest_of.rest fits (sym rest_of.happened)
        (rest_of.world ∙ h.come.world) slots stops all h.come.stands;
    links = subst (λ (cs : List Carried). Carries cs x y)
        (sym (ap (carried_in d.past.place (first_of d)) rest_of.happened ∙ carried_append d.past.place (first_of d) z.happened rest_of.rest
        ∙ ap (λ (cs : List Carried). carried_in d.past.place (first_of d) z.happened ++ cs) (rest_of.none d.past.place (occur (first_of d) z.happened))
        ∙ append-nil (carried_in d.past.place (first_of d) z.happened)))
        h.come.links;
  }

  -- a whole calm is heard to its end
  pub all_heard : k.whole ≡ t.on → HasHeard t (steps_in (whole_calm d).happened)
  all_heard whole = λ on. heard_last h.last on
    where
      no_rest : (fs : List Occurrence) → length fs ≡ 0 → fs ≡ []
      no_rest [] e = refl
      no_rest (f ∷ fs) e = absurd cc

      heard_last : IsLast k → t.on ≡ true → t.text ≡ lines_text (steps_in (whole_calm d).happened)
      heard_last (inl none) on =
          let nothing : length rest_of.rest ≡ 0 = rest_of.counted ∙ ap (λ (n : ℕ). k.ticks * n) none ∙ zero_times k.ticks in
          h.come.heard on ∙ sym (ap (λ (fs : List Occurrence). lines_text (steps_in fs))
          (rest_of.happened ∙ ap (λ (fs : List Occurrence). z.happened ++ fs) (no_rest rest_of.rest nothing) ∙ append-nil z.happened))
        where
          zero_times : (n : ℕ) → n * 0 ≡ 0
          zero_times n = omega arith
      heard_last (inr quiet) on = absurd (true≢false (sym on ∙ sym whole ∙ quiet.1))

  -- or those are too many
  pub calm_over : (e : WorldFault) (n : ℕ) → is_line (calm_line d) ≡ true → HasPrefixes x → IsPlain e
      → ((which : ℕ) → e ≡ TooMany which → (which ≡ 1) × (MOST_EVENTS < w.events + n)) → n ≤ k.ticks * k.later
      → FailedAfter d.past (calm_line d) e (world_node_ids w) (places_of w) is x y
  calm_over e n fits prefixes p many most = fails_between d h.come e p prefixes
      (λ which q. (let nodes_over = many which q in let counted = rest_of.counted in let few : n ≤ length rest_of.rest = omega (arith, most, counted) in (
        nodes_over.0,
        over_calm d.past.o d.past.others d.past.before d.circuit d.passes w is z.happened rest_of.rest n fits
            (sym rest_of.happened) few nodes_over.1 h.come.stands,
      )))

-- ---- what a call of the loop gives

-- whatever a call gives that succeeded
pub nodes_ok : {A B : Type 0} {a : A} (b : B) {v w : World} {x y : Around} → NodesGoOn (done A a) v w x y → NodesGoOn (done B b) v w x y
nodes_ok b h = record { leaves = call_done b h.leaves; running = h.running; sound = λ k at e. cc }

-- a tick that has nothing to do
pub idle_line : (w : World) (c : CircuitId) (t : Turn) (s : Step) → IsStep (world_node_ids w) c t s → IsTurn w c t → is_idle_turn t ≡ true
    → IsIdleLine w (line.Step s)
idle_line w c (turn.Tick i due) s (n, at, is) (below, looked) idle =
    (c, n, ap line.Step is, λ js m sits h. looked js m n sits h at ∙ ap Some (not_true due idle))
  where
    not_true : (b : Bool) → not b ≡ true → b ≡ false
    not_true true h = cc
    not_true false h = refl
idle_line w c (turn.Deliver i j k) s is there idle = absurd (true≢false (sym idle))

-- nothing happened since
pub come_still : (d : CalmAfter) {k j : Calm} {z y : Calming} {w : World} {is : List Images} {a b : LinkView} {t : Tracing} → IsCalmStill z y
    → calm_ended (cursor_of (world_node_ids w) j) y ≡ calm_ended (cursor_of (world_node_ids w) k) z → HasCome d k z w is a b t → HasCome d j y w is a b t
come_still d {w = w} {is = is} {a = a} {b = b} {t = t} still same h = record {
  stands = subst (λ (es : List Occurrence). StandsAfterLines d.past.o d.past.others (d.past.before ++ map plainly (steps_in es)) w is)
      (sym still.happened) h.stands;
  world = still.world ∙ h.world ∙ sym (ap (occur (first_of d)) still.happened);
  left = same ∙ h.left;
  links = subst (λ (es : List Occurrence). Carries (carried_in d.past.place (first_of d) es) a b) (sym still.happened) h.links;
  heard = subst (λ (es : List Occurrence). HasHeard t (steps_in es)) (sym still.happened) h.heard;
}

pub failed_at : {t : Past} {l : Line} {e : WorldFault} {ids js : List Node} {ks ls : List ℕ} {is : List Images} {x y : LinkView} → ids ≡ js → ks ≡ ls
    → FailedAfter t l e ids ks is x y → FailedAfter t l e js ls is x y
failed_at {t} {l} {e} {ids} {js} {ks} {ls} {is} {x} {y} same put h =
    subst (λ (ns : List ℕ). FailedAfter t l e js ns is x y) put (subst (λ (ns : List Node). FailedAfter t l e ns ks is x y) same h)

-- a line ended with an error before anything of it happened
pub fails_first : (t : Past) (l : Line) (w : World) (is : List Images) (x : LinkView) (e : WorldFault) → IsPlain e → ((which : ℕ) → e ≡ TooMany which → ⊥)
    → StandsAfterLines t.o t.others t.before w is → FailedAfter t l e (world_node_ids w) (places_of w) is x x
fails_first t l w is x e p few stands = record {
  held = ended_still t.before w is stands e (λ k q. absurd (p.disk k q)) l is refl;
  links = fails_early (failed ℕ WorldFault e) e (refl, refl) p.links (messages_of t l) x;
  many = λ which q. absurd (few which q);
}

pub match_failed : {B : Type 0} (P : B → Type 0) (Q : WorldFault → Type 0) (r : Result B WorldFault) (f : WorldFault) → IsErr r × IsErrAnd r (λ d. d ≡ f)
    → Q f → MatchResult r P Q
match_failed {B} P Q r f same h = subst (λ (q : Result B WorldFault). MatchResult q P Q) (sym (err_is r f same)) h

-- what a line left, where it ran and where it failed
module _ {A : Type 0} (t : Past) (l : Line) (w : World) (ids : List Node) (places : List ℕ) (is : List Images) (x y : LinkView) where
  pub ran_stands : (q : Result A WorldFault) → MatchResult q (λ a. RanAfter t l w is x y) (λ e. FailedAfter t l e ids places is x y)
      → OnOk q (StandsAfterLines t.o t.others (past_with_line t l) w is)
  ran_stands (Ok a) h = h.stands
  ran_stands (Err e) h = tt

  pub ran_delivers : (q : Result A WorldFault) → MatchResult q (λ a. RanAfter t l w is x y) (λ e. FailedAfter t l e ids places is x y)
      → DeliversMessages q (messages_of t l) x y
  ran_delivers (Ok a) h = h.links
  ran_delivers (Err e) h = h.links

  pub ran_ended : (q : Result A WorldFault) → MatchResult q (λ a. RanAfter t l w is x y) (λ e. FailedAfter t l e ids places is x y)
      → IfErr q (λ e. LineEnds (past_worlds t) l e ids places is)
  ran_ended (Ok a) h = tt
  ran_ended (Err e) h = h.held

  pub ran_many : (q : Result A WorldFault) → MatchResult q (λ a. RanAfter t l w is x y) (λ e. FailedAfter t l e ids places is x y) → (which : ℕ)
      → IsErrOf q (TooMany which) → (which ≡ 1) × (MOST_EVENTS < events_of t.o (past_with_line t l) + t.others)
  ran_many (Ok a) h which at = absurd cc
  ran_many (Err e) h which at = h.many which (cc)

-- ---- the step that a turn is, in a calm under way

module _ (d : CalmAfter) {j k : Calm} {w : World} {is : List Images} {x y : LinkView} {t : Tracing} (u : IsUnderWay d k w is x y t) (one : Turn) (s : Step)
    (is_step : IsStep (world_node_ids w) d.circuit one s) (lead : LeadsOn (world_node_ids w) k j u.state one) (same : k.circuit ≡ d.circuit) where
  step_same : lead.step ≡ s
  step_same =
      one_step (world_node_ids w) d.circuit one lead.step s (subst (λ (c : CircuitId). IsStep (world_node_ids w) c one lead.step) same lead.is_step) is_step

  moved : lead.next.world ≡ step_world u.state.world s
  moved = lead.world ∙ ap (step_world u.state.world) step_same

  more : lead.next.happened ≡ u.state.happened ++ Steps s ∷ []
  more = lead.happened ∙ ap (λ (r : Step). u.state.happened ++ Steps r ∷ []) step_same

  -- it ran
  pub way_on : (v : World) (js : List Images) (y2 : LinkView) (t2 : Tracing) → world_node_ids v ≡ world_node_ids w
      → RanAfter (so_far d.past u.state.happened) (line.Step s) v js y y2 → HasHeard t2 (steps_in u.state.happened ++ line.Step s ∷ [])
      → IsUnderWay d j v js x y2 t2
  way_on v js y2 t2 ids r heard = record {
    state = lead.next;
    come = comes_on d u.come s lead.next j (about (world_node_ids w) d.circuit one s is_step) moved more lead.same v js y2 t2 ids r heard;
    follows = subst (λ (ns : List Node). CalmFollows ns j lead.next) (sym ids) lead.follows;
  }

  -- it ended with an error
  pub way_fails : (e : WorldFault) (js : List Images) (y2 : LinkView) → is_line (calm_line d) ≡ true → is_line (line.Step s) ≡ true → HasPrefixes x
      → FailedAfter (so_far d.past u.state.happened) (line.Step s) e (world_node_ids w) (places_of w) js y y2
      → FailedAfter d.past (calm_line d) e (world_node_ids w) (places_of w) js x y2
  way_fails e js y2 fits step_fits prefixes f =
      fails_on d u.come s lead.next j (about (world_node_ids w) d.circuit one s is_step) moved more lead.same e js y2 fits step_fits prefixes f

-- ---- a line that is no calm

pub not_calm : (l : Line) → ((c : CircuitId) (k : ℕ) → l ≡ line.Calm c k → ⊥) → is_calm l ≡ false
not_calm (line.Calm c k) other = absurd (other c k refl)
not_calm (line.Step s) other = refl
not_calm (line.Stop n) other = refl
not_calm (line.Start n) other = refl
not_calm (line.Roll n) other = refl
not_calm (line.Check x) other = refl
not_calm (line.Cut calls fill s) other = refl
not_calm (line.Fail call s) other = refl

pub heard_else : (worlds : CircuitId → CircuitWorld) (l : Line) → is_calm l ≡ false → heard_of worlds l ≡ []
heard_else worlds (line.Calm c k) h = absurd (true≢false h)
heard_else worlds (line.Step s) h = refl
heard_else worlds (line.Stop n) h = refl
heard_else worlds (line.Start n) h = refl
heard_else worlds (line.Roll n) h = refl
heard_else worlds (line.Check x) h = refl
heard_else worlds (line.Cut calls fill s) h = refl
heard_else worlds (line.Fail call s) h = refl

-- Where a run stopped, and calls of a run, one after another.
use Rattle.std.{specs.{Global.Vec, Prelude.{IsErrOf, IfOk, IsErr}, Result.IsErrAnd}, proofs.Common.{◌≡◌, ℕ, Bool, List, [], ◌∷◌, ◌++◌, Option, None, Err}}
use Rattle.std.proofs.{Common.{refl, sym, ◌∙◌, ap, subst, append_assoc, append-nil, ◌≤◌, false, Ok, arith, Result, IfErr, OnOk}, lemmas.Result.IfOk-from_err}
use Rattle.std.proofs.lemmas.Result.{MatchResult-from_both}
use Rattle.spl_edge.specs.{Devices.{Rose, SinkView}, declared.fault.DeviceError.{DeviceError, TheVariants.{Failed, NoMemory as NoRoom}}}
use Rattle.spl_lines.{specs.{Due.{IsOutputDue, IsDuePart}, Tasks.{Task, text_for, shown_line}, declared.reading.Said.Said}, proofs.Dues.{due_whole, due_same}}
use Rattle.spl_lines.proofs.{Tasks.{due_more, due_one, part_one, texts_none}, Watched.kept_line}
use Rattle.spl_lines.specs.declared.reading.Said.TheVariants as say
use Rattle.spl_world.specs.{Links.AreLinksReady, Views.{IsPlace, Sits, world_node_ids, is_world_halted, nodes_over, places_of}}
use Rattle.spl_world.specs.declared.{fault.WorldFault.WorldFault, world.World.World}
use Rattle.spl_runs.specs.{Faults.{FailsAs, HaveCauses, run_fault, world_fault}, Moments.{AreDone, MayGoOn}, Run.{Plan, RunMode, number_of, origin, texts}}
use Rattle.spl_runs.specs.{Run.{run_way, After, Devices, Ended, In, Stop, under_way, devices, held_on}, Steps.{GoesOn, HasRun, RunsSaid, Step, task}}
use Rattle.spl_runs.specs.{Steps.DoneOrStops, Stops.{Due, IsStopOf, RunLeaves, StopsWith, RunsOn, StopsInTask}, declared.fault.RunFault.RunFault}
use Rattle.spl_runs.{proofs.Causes.{world_each, done, err_as, sink_world, sink_write, causes_if, causes_then, fails_in}, specs.declared.run.Run.Run}
use Rattle.spl_runs.proofs.{Causes.{fails_out, still_causes, causes_as, err_is}, Running.{as_written, goes_world, leaves, run_with}}
use Rattle.spl_runs.specs.declared.fault.RunFault.TheVariants as fault
use Rattle.spl_answer.specs.Texts.{answer_spelling}
use Rattle.spl_sched.specs.declared.line.Line.{Line}
use Rattle.spl_trace.specs.Tracers.{Tracing}
use Rattle.spl_wire.specs.declared.answer.Answer.{Answer}
use Rattle.spl_edge.proofs.Results.{on_ok, ok_three, err_same, failed}

stop_more : (f : RunFault) (stop : Stop) (us vs : List Task) → ((n : ℕ) → f ≡ fault.BadLine n → ⊥) → IsStopOf (Err f) stop us → IsStopOf (Err f) stop (us ++ vs)
stop_more (fault.World e) stop us vs good h = h
stop_more fault.Write stop us vs good h = h
stop_more fault.NoMemory stop us vs good h = h
stop_more (fault.BadLine n) stop us vs good h = absurd (good n refl)

stop_world : (e : WorldFault) (t : Task) → IsStopOf (Err (world_fault e)) (In t e) []
stop_world e t = world_each (λ d g. IsStopOf (Err g) (In t d) []) tt (λ d other. (t, refl)) e

due_world : (e : WorldFault) (a b : Option (List ℕ)) (waiting all : List ℕ) → IsOutputDue a b waiting all → Due (Err (world_fault e)) a b waiting all
due_world e a b waiting all due = world_each (λ d g. Due (Err g) a b waiting all) (due_whole a b waiting all due) (λ d other. due) e

module _ {w : RunMode} {p : Plan} {ts : List Task} {waiting : List ℕ} {x y : Devices} where
  -- of more tasks than were reached
  pub stops_more : (f : RunFault) (more : List Task) → ((n : ℕ) → f ≡ fault.BadLine n → ⊥) → StopsWith (Err f) w p ts waiting x y
      → StopsWith (Err f) w p (ts ++ more) waiting x y
  stops_more f more good h = record {
    before = h.before;
    stop = h.stop;
    more = h.more ++ more;
    all = ap (λ (l : List Task). l ++ more) h.all ∙ append_assoc h.before (under_way h.stop ++ h.more) more
        ∙ ap (λ (l : List Task). h.before ++ l) (append_assoc (under_way h.stop) h.more more);
    leaves = h.leaves;
    is_stop = stop_more f h.stop h.more more good h.is_stop;
    due = h.due;
  }

  -- in the task after those that ran
  pub stops_world : (t : Task) (e : WorldFault) → IsOutputDue x.sink.written y.sink.written waiting (texts p ts) → RunLeaves w p ts (In t e) x y
      → StopsWith (Err (world_fault e)) w p (ts ++ t ∷ []) waiting x y
  stops_world t e due h = record {
    before = ts;
    stop = In t e;
    more = [];
    all = refl;
    leaves = h;
    is_stop = stop_world e t;
    due = due_world e x.sink.written y.sink.written waiting (texts p ts) due;
  }

  -- after tasks that ran
  pub stops_after : (e : Ended) → RunLeaves w p ts After x y → IsStopOf e After [] → Due e x.sink.written y.sink.written waiting (texts p ts)
      → StopsWith e w p ts waiting x y
  stops_after e h stop due = record { before = ts; stop = After; more = []; all = sym (append-nil ts); leaves = h; is_stop = stop; due = due }

  pub stops_memory : RunLeaves w p ts After x y → IsDuePart x.sink.written y.sink.written waiting (texts p ts)
      → StopsWith (Err fault.NoMemory) w p ts waiting x y
  stops_memory h part = stops_after (Err fault.NoMemory) h tt part

  pub stops_sink : (d : DeviceError) → RunLeaves w p ts After x y → IsDuePart x.sink.written y.sink.written waiting (texts p ts)
      → StopsWith (Err (run_fault d)) w p ts waiting x y
  stops_sink Failed h part = stops_after (Err fault.Write) h (λ t q. cc) part
  stops_sink NoRoom h part = stops_memory h part

-- a call that succeeded
abbrev pub well : (A : Type 0) → A → Result A RunFault
well A a = Ok a

-- ---- how a call goes on

-- what holds of one call holds of another that ends so, where something was told or written besides
pub goes_told : {linked : Bool} {A B E F : Type 0} {q : Result A E} {P Q : RunFault → Type 0} {r s : Run} {x y : Devices} (o : Result B F)
    → OnOk o (MayGoOn s.nodes.items s.world y.disks y.links) → (P fault.NoMemory → Q fault.NoMemory)
    → ((e : WorldFault) → Q (fault.World e) → P (fault.World e))
    → (text : Vec ℕ) (output : List ℕ) (new : SinkView) → (Q fault.Write → Rose x.sink.faults new.faults) → x.sink.faults ≤ new.faults
    → GoesOn linked q P r s x y → GoesOn linked o Q r (run_with s s.world s.watchers s.tracer text output) x (devices new y.disks y.links)
goes_told o go short keeps text output new write later h = record {
  nodes = h.nodes;
  unanswered = h.unanswered;
  traced = h.traced;
  places = h.places;
  go = go;
  causes = causes_if short keeps h.causes;
  write = write;
  later = later;
}

-- or nothing
pub goes_as : {linked : Bool} {A B E F : Type 0} {q : Result A E} {P Q : RunFault → Type 0} {r s : Run} {x y : Devices} (o : Result B F)
    → OnOk o (MayGoOn s.nodes.items s.world y.disks y.links) → (P fault.NoMemory → Q fault.NoMemory)
    → ((e : WorldFault) → Q (fault.World e) → P (fault.World e))
    → (Q fault.Write → Rose x.sink.faults y.sink.faults) → GoesOn linked q P r s x y → GoesOn linked o Q r s x y
goes_as {s = s} {y = y} o go short keeps write h = goes_told o go short keeps s.text s.output y.sink write h.later h

-- ---- nothing ran

none_ran : {linked : Bool} {A : Type 0} {p : Plan} {ts : List Task} {r : Run} {z x : Devices} (q : Result A RunFault)
    → ((e : WorldFault) → IsErrOf q (fault.World e) → ⊥) → (IsErrOf q fault.Write → ⊥) → AreDone linked p ts r z x
    → DoneOrStops linked r.unanswered p ts q r z x
none_ran (Ok a) only written h = h
none_ran (Err (fault.World e)) only written h = absurd (only e refl)
none_ran (Err fault.Write) only written h = absurd (written refl)
none_ran {p = p} {ts = ts} {r = r} {z = z} {x = x} (Err fault.NoMemory) only written h =
    stops_memory (leaves h.ran r.unanswered) (due_whole z.sink.written x.sink.written r.output (texts p ts) h.due)
none_ran {r = r} (Err (fault.BadLine n)) only written h = stops_after (Err (fault.BadLine n)) (leaves h.ran r.unanswered) (refl, refl) h.due

pub step_none : {linked : Bool} {A : Type 0} {r : Run} {x : Devices} (q : Result A RunFault) → ((e : WorldFault) → IsErrOf q (fault.World e) → ⊥)
    → (IsErrOf q fault.Write → ⊥) → MayGoOn r.nodes.items r.world x.disks x.links → Step linked [] q r r x x
step_none {linked} {A} {r} {x} q only written go = record {
  on = record {
    nodes = refl;
    unanswered = refl;
    traced = refl;
    places = refl;
    go = on_ok q go;
    causes = still_causes only;
    write = λ is. absurd (written is);
    later = omega arith;
  };
  comes = λ p ts z h. subst (λ (us : List Task). DoneOrStops linked r.unanswered p us q r z x) (sym (append-nil ts)) (none_ran q only written h);
}

pub step_still : {linked : Bool} {A : Type 0} {a : A} {r : Run} {x : Devices} → MayGoOn r.nodes.items r.world x.disks x.links
    → Step linked [] (well A a) r r x x
step_still {a = a} go = step_none (well _ a) (λ e is. cc) (λ is. cc) go

-- ---- one call after another

pub step_then : {linked : Bool} {us vs : List Task} {A B : Type 0} {a : A} {q : Result B RunFault} {r m s : Run} {x y z : Devices}
    → Step linked us (well A a) r m x y → Step linked vs q m s y z → Step linked (us ++ vs) q r s x z
step_then {linked} {us} {vs} {A} {B} {a} {q} {r} {m} {s} {x} {y} {z} f g = record {
  on = record {
    nodes = g.on.nodes ∙ f.on.nodes;
    unanswered = g.on.unanswered ∙ f.on.unanswered;
    traced = g.on.traced ∙ f.on.traced;
    places = g.on.places ∙ f.on.places;
    go = g.on.go;
    causes = causes_then (λ is. cc) f.on.causes (causes_as (λ is. is) (λ e is. is) (λ k at. subst (λ (ks : List ℕ). IsPlace ks k) f.on.places at) g.on.causes);
    write = λ is. (let rose = g.on.write is in omega (arith, f.on.later, rose));
    later = omega (arith, f.on.later, g.on.later);
  };
  comes = λ p ts w h.
      subst (λ (n : ℕ). DoneOrStops linked n p (ts ++ (us ++ vs)) q s w z) f.on.unanswered
      (subst (λ (us : List Task). DoneOrStops linked m.unanswered p us q s w z) (append_assoc ts us vs) (g.comes p (ts ++ us) w (f.comes p ts w h)));
}

-- whatever a call gives that succeeded
pub step_ok : {linked : Bool} {us : List Task} {A B : Type 0} {a : A} (b : B) {r s : Run} {x y : Devices} → Step linked us (well A a) r s x y
    → Step linked us (well B b) r s x y
step_ok b h = record { on = goes_as (well _ b) h.on.go (λ is. cc) (λ e is. cc) (λ is. cc) h.on; comes = h.comes }

-- of equal tasks
pub step_as : {linked : Bool} {us vs : List Task} {A : Type 0} {q : Result A RunFault} {r s : Run} {x y : Devices} → us ≡ vs → Step linked us q r s x y
    → Step linked vs q r s x y
step_as {linked} {q = q} {r = r} {s = s} {x = x} {y = y} same h = subst (λ (ts : List Task). Step linked ts q r s x y) same h

-- of which nothing ran
pub step_last : {linked : Bool} {us : List Task} {A B : Type 0} {a : A} {q : Result B RunFault} {r m s : Run} {x y z : Devices}
    → Step linked us (well A a) r m x y → Step linked [] q m s y z → Step linked us q r s x z
step_last {us = us} f g = step_as (append-nil us) (step_then f g)

-- more was to run after a call that failed
pub step_more : {linked : Bool} {us : List Task} {A : Type 0} {f : RunFault} {r s : Run} {x y : Devices} (vs : List Task)
    → ((n : ℕ) → IsErrOf (failed A RunFault f) (fault.BadLine n) → ⊥) → Step linked us (failed A RunFault f) r s x y
    → Step linked (us ++ vs) (failed A RunFault f) r s x y
step_more {linked} {us} {A} {f} {r} {s} {x} {y} vs good h = record {
  on = h.on;
  comes = λ p ts z d. subst (λ (us : List Task). StopsWith (Err f) (run_way linked r.unanswered) p us s.output z y) (append_assoc ts us vs)
      (stops_more f vs (λ n same. good n (err_as f (fault.BadLine n) same)) (h.comes p ts z d));
}

-- ---- what a line says was run

module _ {linked : Bool} {l : Said} {A : Type 0} {text : A → List ℕ} {r s : Run} {x y : Devices} where
  due_still : {q : Result A WorldFault} {p : Plan} {ts : List Task} {z : Devices} → RunsSaid linked l text q r s x y → AreDone linked p ts r z x
      → IsOutputDue z.sink.written y.sink.written s.output (texts p ts)
  due_still {q} {p} {ts} {z} h d =
      due_same z.sink.written x.sink.written y.sink.written r.output s.output (texts p ts) (ap (λ (k : SinkView). k.written) h.sink) h.output d.due

  -- it ended with an error
  pub step_failed : {B : Type 0} {e : WorldFault} (number : Option ℕ) (q : Result B RunFault) → IsErr q × IsErrAnd q (λ f. f ≡ world_fault e)
      → RunsSaid linked l text (failed A WorldFault e) r s x y → Step linked (task number l ∷ []) q r s x y
  step_failed {B} {e} number q is h = record {
    on = goes_as q (IfOk-from_err q _ is.0) (fails_out q e is fault.NoMemory) (λ d at. fails_in q e is (fault.World d) at)
        (λ at. h.on.write (fails_in q e is fault.Write at)) h.on;
    comes = λ p ts z d. subst (λ (o : Result B RunFault). DoneOrStops linked r.unanswered p (ts ++ task number l ∷ []) o s z y)
        (sym (err_is q (world_fault e) is)) (stops_world (task number l) e (due_still h d) (h.comes p ts number z d r.unanswered));
  }

  module _ {a : A} (h : RunsSaid linked l text (done A a) r s x y) where
    -- nothing is told of it
    pub step_silent : {B : Type 0} (b : B) → Step linked (task None l ∷ []) (well B b) r s x y
    step_silent {B} b = record {
      on = goes_as (well B b) h.on.go (λ (e, same, is). cc) (λ e is. cc) (λ is. cc) h.on;
      comes = λ p ts z d. (let ran = h.comes p ts None z d in record {
        ran = ran.ran.1;
        kept = ran.kept;
        traced = d.traced ∙ sym h.on.traced;
        due = subst (λ (all : List ℕ). IsOutputDue z.sink.written y.sink.written s.output all) (sym (texts_none p.traced (origin p) ts l)) (due_still h d);
      });
    }

    -- there was no memory to tell it
    pub step_short : {B : Type 0} (number : Option ℕ) (q : Result B RunFault) (b : Vec ℕ) → IsErr q × IsErrAnd q (λ f. f ≡ fault.NoMemory)
        → Step linked (task number l ∷ []) q r (run_with s s.world s.watchers s.tracer b s.output) x (devices y.sink y.disks y.links)
    step_short {B} number q b is = record {
      on = goes_told q (IfOk-from_err q _ is.0) (λ (e, same, at). cc)
          (λ e at. (let same = err_same q fault.NoMemory (fault.World e) is at in cc)) b s.output y.sink
          (λ at. (let same = err_same q fault.NoMemory fault.Write is at in cc)) h.on.later h.on;
      comes = λ p ts z d. subst
          (λ (o : Result B RunFault). DoneOrStops linked r.unanswered p (ts ++ task number l ∷ []) o (run_with s s.world s.watchers s.tracer b s.output) z
          (devices y.sink y.disks y.links)) (sym (err_is q fault.NoMemory is))
          (stops_memory (leaves (as_written y.sink (h.comes p ts number z d).ran.1) r.unanswered)
          (due_more p.traced (origin p) ts (task number l ∷ []) z.sink.written y.sink.written s.output (due_still h d)));
    }

    module _ (n : ℕ) {traced : Bool} {bytes : List ℕ} (b : Vec ℕ) (o : List ℕ) (new : SinkView) (on : traced ≡ s.tracer.on) (whole : bytes ≡ b.items)
        (told : (p : Plan) (ts : List Task) (z : Devices) → p.traced ≡ s.tracer.on → AreDone linked p ts r z x
        → HasRun linked p ts (task (number_of (run_way linked r.unanswered) n) l) s z y (text a) → b.items ≡ text_for p.traced (origin p) ts l) where
      abbrev t : Task
      t = task (number_of (run_way linked r.unanswered) n) l

      all_is : (p : Plan) (ts : List Task) (z : Devices) → AreDone linked p ts r z x
          → s.output ++ shown_line traced s.unanswered n bytes ≡ r.output ++ shown_line p.traced r.unanswered n b.items
      all_is p ts z d =
          ap (λ (l : List ℕ). l ++ shown_line traced s.unanswered n bytes) h.output ∙ ap (λ (u : ℕ). r.output ++ shown_line traced u n bytes) h.on.unanswered
          ∙ ap (λ (t : Bool). r.output ++ shown_line t r.unanswered n bytes) (on ∙ h.on.traced ∙ sym d.traced)
          ∙ ap (λ (c : List ℕ). r.output ++ shown_line p.traced r.unanswered n c) whole

      -- and it waits, or is written
      pub step_written : {B : Type 0} (c : B) → IsOutputDue x.sink.written new.written o (s.output ++ shown_line traced s.unanswered n bytes)
          → x.sink.faults ≤ new.faults → Step linked (t ∷ []) (well B c) r (run_with s s.world s.watchers s.tracer b o) x (devices new y.disks y.links)
      step_written {B} c due later = record {
        on = goes_told (well B c) h.on.go (λ (e, same, at). cc) (λ e is. cc) b o new (λ is. cc) later h.on;
        comes = λ p ts z d. (let ran = h.comes p ts (number_of (run_way linked r.unanswered) n) z d in record {
          ran = as_written new ran.ran.1;
          kept = ran.kept;
          traced = d.traced ∙ sym h.on.traced;
          due = due_one p.traced (origin p) ts r.unanswered n l b.items
              (told p ts z (d.traced ∙ sym h.on.traced) d ran) z.sink.written x.sink.written r.output d.due o new.written
              (subst (λ (all : List ℕ). IsOutputDue x.sink.written new.written o all) (all_is p ts z d) due);
        });
      }

      -- or it can't be
      pub step_unwritten : {B : Type 0} {d : DeviceError} (q : Result B RunFault) → IsErr q × IsErrAnd q (λ f. f ≡ run_fault d)
          → IsDuePart x.sink.written new.written o (s.output ++ shown_line traced s.unanswered n bytes) → x.sink.faults ≤ new.faults
          → (d ≡ Failed → Rose x.sink.faults new.faults)
          → Step linked (t ∷ []) q r (run_with s s.world s.watchers s.tracer b o) x (devices new y.disks y.links)
      step_unwritten {B} {d} q is part later rose = record {
        on = goes_told q (IfOk-from_err q _ is.0) (λ (e, same, at). cc)
            (λ e at. absurd (sink_world d e (err_same q (run_fault d) (fault.World e) is at))) b o new
            (λ at. rose (sink_write d (err_same q (run_fault d) fault.Write is at))) later h.on;
        comes = λ p ts z k. (let ran = h.comes p ts (number_of (run_way linked r.unanswered) n) z k in
            subst (λ (e : Result B RunFault). DoneOrStops linked r.unanswered p (ts ++ t ∷ []) e (run_with s s.world s.watchers s.tracer b o) z
            (devices new y.disks y.links)) (sym (err_is q (run_fault d) is))
            (stops_sink d (leaves (as_written new ran.ran.1) r.unanswered)
            (part_one p.traced (origin p) ts r.unanswered n l b.items
            (told p ts z (k.traced ∙ sym h.on.traced) k ran) z.sink.written x.sink.written r.output k.due o new.written
            (subst (λ (all : List ℕ). IsDuePart x.sink.written new.written o all) (all_is p ts z k) part))));
      }

-- ---- a line of the nodes is run

pub line_runs : {linked : Bool} {q : Result Answer WorldFault} {r : Run} {x y : Devices} (l : Line) (v : World) (tracing : Tracing)
    → MayGoOn r.nodes.items r.world x.disks x.links → y.sink ≡ x.sink → tracing.on ≡ r.tracer.on → world_node_ids v ≡ world_node_ids r.world
    → places_of v ≡ places_of r.world
    → OnOk q (is_world_halted v ≡ false) → OnOk q (Sits (nodes_over v (held_on y.disks))) → OnOk q (AreLinksReady (places_of v) y.links)
    → ((p : Plan) (ts : List Task) (number : Option ℕ) (z : Devices) → AreDone linked p ts r z x
    → IfOk q (λ a. RunsOn linked p ts (task number (say.Line l)) v z y (answer_spelling a)))
    → ((p : Plan) (ts : List Task) (number : Option ℕ) (z : Devices) → AreDone linked p ts r z x
    → IfErr q (StopsInTask linked p ts (task number (say.Line l)) z y))
    → HaveCauses linked (FailsAs q) (IsPlace (places_of r.world)) x.disks y.disks x.links y.links
    → RunsSaid linked (say.Line l) answer_spelling q r (run_with r v r.watchers tracing r.text r.output) x y
line_runs {linked} {q} {r} {x} {y} l v tracing go sink on ids places running sits ready ran ended causes = record {
  on = goes_world sink on places (ok_three q (λ a b c. record { nodes = ids ∙ go.nodes; running = a; sits = b; ready = c }) running sits ready) causes;
  output = refl;
  sink = sink;
  comes = λ p ts number z h. MatchResult-from_both q _ _ (has_run number q h (ran p ts number z h)) (ended p ts number z h);
}
  where
    has_run : {p : Plan} {ts : List Task} {z : Devices} (number : Option ℕ) (q : Result Answer WorldFault) → AreDone linked p ts r z x
        → IfOk q (λ a. RunsOn linked p ts (task number (say.Line l)) v z y (answer_spelling a))
        → IfOk q (λ a. HasRun linked p ts (task number (say.Line l)) (run_with r v r.watchers tracing r.text r.output) z y (answer_spelling a))
    has_run number (Err e) h k = tt
    has_run {p} {ts} number (Ok a) h k =
        record { ran = k; kept = kept_line (origin p) h.ran.stands.begins ts h.ran.stands.fit number l r.watchers k.1.stands.fit h.kept }

-- A whole run, once what waited was handed over.
use Rattle.std.{specs.{Io.KnownBytes.Appends, Prelude.{IsErr, IsErrOf}, Result.IsErrAnd}, proofs.Common.{◌≡◌, ◌<◌, ◌≤◌, inl, inr, ℕ, Bool, true, false, List}}
use Rattle.std.proofs.{Common.{[], ◌++◌, ◌-◌, take, Option, OnOk, Ok, Err, length, refl, sym, ◌∙◌, ap, subst, arith, append-nil}, KnownBytes.Appends-nil}
use Rattle.spl_edge.specs.{Devices.{AppendsPart, Rose, DiskView, PairView, SinkView, SourceView, bench}, declared.bench.Pair.Pair}
use Rattle.spl_edge.proofs.Results.{failed}
use Rattle.spl_edge.specs.declared.fault.DeviceError.{DeviceError, TheVariants.{Failed, NoMemory as NoRoom}}
use Rattle.spl_lines.{specs.{Due.IsDuePart, Tasks.Task}, proofs.Dues.{due_flushed, due_whole, part_flushed}}
use Rattle.spl_node.specs.Benches.{AllGoOn, AllTell, Images, RoseAt, images, AllUnpicked}
use Rattle.spl_world.specs.{Held.{AllReadable, AreOpenedBut, IsFirstUnread}, Links.{LinkView, is_of_links}, declared.fault.WorldFault.WorldFault}
use Rattle.spl_world.proofs.{Holding.pair_unpicked, Onward.{images_told, unpicked_unarmed}}
use Rattle.spl_world.specs.declared.fault.WorldFault.TheVariants as error
use Rattle.spl_runs.specs.{Faults.{FailsAs, HaveCauses, PairsGoOn, run_fault, world_fault}, Run.{Plan, RunMode, origin, run_plan, tasks, texts, run_way}}
use Rattle.spl_runs.specs.Run.{After, AreUnmade, Devices, DisksGoOn, Ended, RunEnds, EndsText, ErrorHasCause, HasFailed, In, PickedAtStops, PlanOutcome}
use Rattle.spl_runs.specs.{Run.{Reached, PlanRun, Spared, Stop, Why, Written, devices, held_on, under_way}, Steps.{RunBegins, LinesRun}, Stops.AllAllowed}
use Rattle.spl_runs.specs.{Stops.{ReachesEnd, Due, HasRead, IsStopOf, StopsWith}, declared.{fault.{RunEnd.RunEnd, RunFault.RunFault}, mode.Mode.Mode}}
use Rattle.spl_runs.{specs.declared.run.Run.Run as State, proofs.Causes.{causes_as, causes_if, causes_then, fails_in, fails_out, on_if, done, err_as, err_is}}
use Rattle.spl_runs.proofs.Causes.{world_each, world_same, world_write}
use Rattle.spl_runs.specs.declared.fault.RunFault.TheVariants as fault
use Rattle.spl_registry.specs.Nodes.{Entry}

-- ---- what waited is handed over

due_prefix : (e : Ended) (a b : Option (List ℕ)) (waiting all : List ℕ) → Due e a b waiting all → IsDuePart a b waiting all
due_prefix (Ok e) a b waiting all due = due_whole a b waiting all due
due_prefix (Err (fault.BadLine n)) a b waiting all due = due_whole a b waiting all due
due_prefix (Err (fault.World e)) a b waiting all due = due_whole a b waiting all due
due_prefix (Err fault.Write) a b waiting all due = due
due_prefix (Err fault.NoMemory) a b waiting all due = due

all_of_it : (b c : Option (List ℕ)) (waiting : List ℕ) → Appends b c waiting → AppendsPart b c waiting
all_of_it b c waiting wrote = (waiting, [], sym (append-nil waiting), wrote)

written_all : (e : Ended) (a b c : Option (List ℕ)) (waiting all : List ℕ) → Due e a b waiting all → Appends b c waiting → Written e a c all
written_all (Ok e) a b c waiting all due wrote = due_flushed a b c waiting all due wrote
written_all (Err (fault.BadLine n)) a b c waiting all due wrote = due_flushed a b c waiting all due wrote
written_all (Err (fault.World e)) a b c waiting all due wrote = due_flushed a b c waiting all due wrote
written_all (Err fault.Write) a b c waiting all due wrote = part_flushed a b c waiting all due (all_of_it b c waiting wrote)
written_all (Err fault.NoMemory) a b c waiting all due wrote = part_flushed a b c waiting all due (all_of_it b c waiting wrote)

-- no write is to be one task more
stop_write : (e : Ended) {w : RunMode} {p : Plan} {x y : Devices} (r : Reached w p x y) → (IsErrOf e fault.NoMemory → ⊥)
    → (IsErrOf e (fault.World error.NoMemory) → ⊥) → RunEnds e r → (t : Task) → r.stop ≡ In t error.NoMemory → ⊥
stop_write (Ok e) r room world h = λ t q. (let same : After ≡ In t error.NoMemory = sym h.stop ∙ q in cc)
stop_write (Err (fault.BadLine n)) r room world h = λ t q. (let same : After ≡ In t error.NoMemory = sym h.stop ∙ q in cc)
stop_write (Err (fault.World e)) r room world h = λ t q.
    let same : In h.0 e ≡ In t error.NoMemory = sym h.1 ∙ q in
    let is : e ≡ error.NoMemory = cc in
    world (ap (λ (d : WorldFault). failed _ RunFault (fault.World d)) is)
stop_write (Err fault.Write) r room world h = h
stop_write (Err fault.NoMemory) r room world h = absurd (room refl)

-- all that was reached where it ended after all
all_reached : (all before : List Task) (stop : Stop) (more : List Task) → all ≡ before ++ (under_way stop ++ more) → stop ≡ After → more ≡ [] → before ≡ all
all_reached all before stop more is after none =
    let rest : under_way stop ++ more ≡ [] = ap (λ (s : Stop). under_way s ++ more) after ∙ none in
    sym (is ∙ ap (λ (l : List Task). before ++ l) rest ∙ append-nil before)

module _ {w : RunMode} {p : Plan} {wait : List ℕ} {x y : Devices} (new : SinkView) where
  module _ {e : Ended} (h : ReachesEnd e w p wait x y) (readable : AllReadable p.nodes (held_on x.disks)) (spared : Spared p x.disks y.disks) where
    abbrev s : StopsWith e w p (tasks w h.lines) wait x y
    s = h.stops

    abbrev reached : Reached w p x (devices new y.disks y.links)
    reached = record {
      lines =
          h.lines;
      rest = h.rest;
      place = h.place;
      allowed = h.allowed;
      before = s.before;
      stop = s.stop;
      more = s.more;
      all = s.all;
      within = s.leaves.within;
      cause = s.leaves.cause new;
    }

    ended : (f : Ended) → OnOk f (p.lines ≡ h.lines) → ((n : ℕ) → IsErrOf f (fault.BadLine n) → take (n - 1) p.lines ≡ h.lines) → IsStopOf f s.stop s.more
        → RunEnds f reached
    ended (Ok e) all bad is = record { before = all_reached (tasks w h.lines) s.before s.stop s.more s.all is.0 is.1 ∙ ap (tasks w) (sym all); stop = is.0 }
    ended (Err (fault.BadLine n)) all bad is =
        record { before = all_reached (tasks w h.lines) s.before s.stop s.more s.all is.0 is.1 ∙ ap (tasks w) (sym (bad n refl)); stop = is.0 }
    ended (Err (fault.World e)) all bad is = is
    ended (Err fault.Write) all bad is = is
    ended (Err fault.NoMemory) all bad is = tt

    ends : RunEnds e reached
    ends = ended e h.all h.bad s.is_stop

    -- so it ends, with what is written
    ends_as : (f : Ended) → RunEnds f reached → Written f x.sink.written new.written (texts p s.before) → PlanRun f w p x (devices new y.disks y.links)
    ends_as f ends written =
        record {
          readable = readable;
          reached = reached;
          ends = ends;
          written = written;
          held = s.leaves.held;
          picked = s.leaves.picked;
          spared = spared;
          sent = s.leaves.sent;
          heard = s.leaves.heard;
        }

    pub run_flushed : Appends y.sink.written new.written wait → PlanRun e w p x (devices new y.disks y.links)
    run_flushed wrote = ends_as e ends (written_all e x.sink.written y.sink.written new.written wait (texts p s.before) s.due wrote)

    module _ (wrote : AppendsPart y.sink.written new.written wait) where
      abbrev part : AppendsPart x.sink.written new.written (texts p s.before)
      part = part_flushed x.sink.written y.sink.written new.written wait (texts p s.before)
          (due_prefix e x.sink.written y.sink.written wait (texts p s.before) s.due) wrote

      pub run_short : PlanRun (Err fault.NoMemory) w p x (devices new y.disks y.links)
      run_short = ends_as (Err fault.NoMemory) tt part

      pub run_unwritten : (IsErrOf e fault.NoMemory → ⊥) → (IsErrOf e (fault.World error.NoMemory) → ⊥)
          → PlanRun (Err fault.Write) w p x (devices new y.disks y.links)
      run_unwritten room world = ends_as (Err fault.Write) (stop_write e reached room world ends) part

-- ---- why it ended

failed_so : (linked : Bool) (k : ℕ) (start now : List PairView) → RoseAt k start now → (linked ≡ false → HasFailed linked k start now)
    → HasFailed linked k start now
failed_so true k start now rose since = rose
failed_so false k start now rose since = since refl

-- a disk failed in the task that ended the run
comes_failed : {w : RunMode} {p : Plan} {wait : List ℕ} {x y : Devices} (e : Ended) (k : ℕ) → IsErrOf e (fault.World (error.Disk k))
    → ReachesEnd e w p wait x y → HasFailed w.linked k x.disks y.disks
comes_failed {w} {p} {wait} {x} {y} e k is h =
    let s = h.stops in
    let ended : IsStopOf (Err (fault.World (error.Disk k))) s.stop s.more = subst (λ (f : Ended). IsStopOf f s.stop s.more) is s.is_stop in
    let cause : ErrorHasCause w p s.before (In ended.0 (error.Disk k)) x (devices y.sink y.disks y.links) =
    subst (λ (stop : Stop). ErrorHasCause w p s.before stop x (devices y.sink y.disks y.links)) ended.1 (s.leaves.cause y.sink) in
    cause.0

pub why : (linked : Bool) (unanswered : ℕ) (p : Plan) (x y : Devices) (e : Ended) → AllAllowed e (run_way linked unanswered) p
    → HaveCauses linked (λ f. IsErrOf e f) (λ k. k < length p.nodes) x.disks y.disks x.links y.links
    → ((k : ℕ) → linked ≡ false → IsErrOf e (fault.World (error.Disk k)) → HasFailed linked k x.disks y.disks)
    → (IsErrOf e fault.Write → Rose x.sink.faults y.sink.faults) → Why e (run_way linked unanswered) p x y
why linked unanswered p x y (Ok e) allowed causes since write = allowed
why linked unanswered p x y (Err (fault.BadLine n)) allowed causes since write = allowed
why linked unanswered p x y (Err (fault.World (error.Disk k))) allowed causes since write =
    (let d = causes.disk k refl in (d.0, failed_so linked k x.disks y.disks d.1 (λ off. since k off refl)))
why linked unanswered p x y (Err (fault.World (error.NotAJournal k at))) allowed causes since write = causes.journal k at refl
why linked unanswered p x y (Err (fault.World error.Link)) allowed causes since write = causes.link refl
why linked unanswered p x y (Err (fault.World (error.Lied from to sent got))) allowed causes since write = causes.lied from to sent got refl
why linked unanswered p x y (Err (fault.World (error.TooMany which))) allowed causes since write = tt
why linked unanswered p x y (Err (fault.World error.NoMemory)) allowed causes since write = causes.room refl
why linked unanswered p x y (Err fault.Write) allowed causes since write = write refl
why linked unanswered p x y (Err fault.NoMemory) allowed causes since write = tt

-- ---- what doesn't end in the text

text_world : (f : WorldFault) (w : RunMode) (p : Plan) (s t : SourceView) → EndsText (Err (world_fault f)) w p s t
text_world f w p s t = world_each (λ d g. EndsText (Err g) w p s t) tt (λ d other. tt) f

pub allowed_world : (f : WorldFault) (w : RunMode) (p : Plan) → AllAllowed (Err (world_fault f)) w p
allowed_world f w p = world_each (λ d g. AllAllowed (Err g) w p) tt (λ d other. tt) f

text_sink : (d : DeviceError) (w : RunMode) (p : Plan) (s t : SourceView) → EndsText (Err (run_fault d)) w p s t
text_sink Failed w p s t = tt
text_sink NoRoom w p s t = tt

-- ---- not all nodes were made

pub unmade : (e : WorldFault) (p : Plan) (start now : List Images) → ((which : ℕ) → e ≡ error.TooMany which → ⊥)
    → ((k at : ℕ) → e ≡ error.NotAJournal k at → IsFirstUnread k at p.nodes start) → is_of_links e ≡ false → AreOpenedBut p.nodes e start now
    → AreUnmade (Err (world_fault e)) p start now
unmade (error.TooMany which) p start now few unread off h = absurd (few which refl)
unmade (error.Disk k) p start now few unread off h = h
unmade (error.NotAJournal k at) p start now few unread off h = (unread k at refl, h)
unmade error.Link p start now few unread off h = absurd cc
unmade (error.Lied from to sent got) p start now few unread off h = absurd cc
unmade error.NoMemory p start now few unread off h = h

-- in the words of what the pairs hold
pub opened_told : {D : Type 0} (view : D → DiskView) (es : List Entry) (e : WorldFault) (ps qs : List (Pair D))
    → AreOpenedBut es e (images view ps) (images view qs) → AreOpenedBut es e (held_on (bench view ps)) (held_on (bench view qs))
opened_told view es e ps qs h =
    subst (λ (is : List Images). AreOpenedBut es e is (held_on (bench view qs))) (sym (images_told view ps))
    (subst (λ (is : List Images). AreOpenedBut es e (images view ps) is) (sym (images_told view qs)) h)

-- nothing was picked
pub unpicked : (linked : Bool) (p : Plan) (start now : List PairView) → (linked ≡ false → AllUnpicked start) → AllGoOn start now
    → PickedAtStops linked p [] After start now
unpicked true p start now none on = on
unpicked false p start now none on = λ k n s q at was there. inl (pair_unpicked (origin p) n s q (none refl k s was) (on.each k s q was there))

-- ---- the disks

pub disks_on : (linked : Bool) (e : Ended) (start now : List PairView) → (linked ≡ false → AllUnpicked start)
    → PairsGoOn linked (IsErrOf e fault.NoMemory) start now → DisksGoOn e linked start now
disks_on true e start now unpicked on = on
disks_on false e start now unpicked on = (on.0, λ room. on.1 (unpicked_unarmed start (unpicked refl)) room)

pub spare : (p : Plan) {linked : Bool} {P : RunFault → Type 0} {start now : List PairView} {x y : LinkView}
    → HaveCauses linked P (λ k. k < length p.nodes) start now x y → Spared p start now
spare p h = λ k past. h.spared k (λ less. omega (arith, less, past))

-- ---- all of it

no_write : (f : WorldFault) → IsErrOf (failed RunEnd RunFault (world_fault f)) fault.Write → ⊥
no_write f is = world_write f (let same : world_fault f ≡ fault.Write = cc in same)

-- not all nodes were made
module _ (f : WorldFault) (e : Ended) (ended : IsErr e × IsErrAnd e (λ g. g ≡ world_fault f)) where
  pub unmade_text : (w : RunMode) (p : Plan) (s t : SourceView) → EndsText e w p s t
  unmade_text w p s t = subst (λ (g : Ended). EndsText g w p s t) (sym (err_is e (world_fault f) ended)) (text_world f w p s t)

  module _ {A : Type 0} {linked : Bool} {es : ℕ} {start now : List PairView} {links : LinkView}
      (causes : HaveCauses linked (FailsAs (failed A WorldFault f)) (λ k. k < es) start now links links) where
    pub unmade_onward : (linked ≡ false → AllUnpicked start) → DisksGoOn e linked start now
    unmade_onward unpicked =
        disks_on linked e start now unpicked
        (on_if linked (FailsAs (failed A WorldFault f) fault.NoMemory) (IsErrOf e fault.NoMemory) start now
        (λ q. fails_out e f ended fault.NoMemory q) causes.onward)

  pub unmade_ran : {A : Type 0} {linked : Bool} {start now : List PairView} {links : LinkView} (unanswered : ℕ) (p : Plan) (source : SourceView)
      (sink : SinkView) → HaveCauses linked (FailsAs (failed A WorldFault f)) (λ k. k < length p.nodes) start now links links
      → ((k : ℕ) → IsErrOf (failed A WorldFault f) (error.Disk k) → HasFailed linked k start now)
      → (AllTell (length p.nodes) (held_on start) → AreUnmade (Err (world_fault f)) p (held_on start) (held_on now))
      → PickedAtStops linked p [] After start now
      → PlanOutcome e (run_way linked unanswered) p source source (devices sink start links) (devices sink now links)
  unmade_ran {A} {linked} {start} {now} {links} unanswered p source sink causes since unmade none =
      subst (λ (g : Ended). PlanOutcome g (run_way linked unanswered) p source source (devices sink start links) (devices sink now links))
      (sym (err_is e (world_fault f) ended)) (record {
        why = why linked unanswered p (devices sink start links) (devices sink now links) (failed RunEnd RunFault (world_fault f))
            (allowed_world f (run_way linked unanswered) p)
            (causes_if (λ q. fails_out (failed RunEnd RunFault (world_fault f)) f (refl, refl) fault.NoMemory q)
            (λ d q. fails_in (failed RunEnd RunFault (world_fault f)) f (refl, refl) (fault.World d) q) causes)
            (λ k off is. since k (err_as f (error.Disk k) (world_same f (error.Disk k) (let same : world_fault f ≡ fault.World (error.Disk k) = cc in same))))
            (λ is. absurd (no_write f is));
        done = λ tell. inl (record {
          unread = refl;
          disks = unmade tell;
          picked = none;
          spared = spare p causes;
          written = Appends-nil sink.written;
          links = refl;
        });
      })

-- the nodes were made, and then came the lines
module _ {A : Type 0} {a : A} {linked : Bool} {m : Mode} {es : List Entry} {is : List Images} {lines : List
    (List ℕ)} {sink : SinkView} {start b : List PairView} {links : LinkView} {r s : State} {e : Ended} {y : Devices} {t u : SourceView}
    (begins : RunBegins linked m es is start b r) (made : HaveCauses linked (FailsAs (done A a)) (λ k. k < length es) start b links links)
    (idle : (i j : ℕ) → links.wire [] i j ≡ []) (ran : LinesRun linked e lines r s (devices sink b links) y t u) where
  abbrev w : RunMode
  w = run_way linked m.unanswered

  abbrev p : Plan
  p = run_plan m es is lines

  abbrev x : Devices
  x = devices sink start links

  causes : HaveCauses linked (λ f. IsErrOf e f) (λ k. k < length es) start y.disks links y.links
  causes = causes_then (λ (d, same, is). cc) made (causes_as (λ q. q) (λ d q. q) begins.places ran.causes)

  comes : AllTell (length es) (held_on start) → ReachesEnd e w p s.output x y
  comes tell =
      subst (λ (n : ℕ). ReachesEnd e (run_way linked n) p s.output x y) begins.unanswered
      (ran.comes p x begins.nodes (begins.done lines sink links idle tell))

  read : HasRead e w p t u
  read = subst (λ (n : ℕ). HasRead e (run_way linked n) p t u) begins.unanswered (ran.read p begins.nodes)

  -- all that waited was written
  pub whole_text : EndsText e w p t u
  whole_text = read.text

  pub whole_ran : (new : SinkView) → (linked ≡ false → AllTell (length es) (held_on start)) → y.sink.faults ≤ new.faults
      → Appends y.sink.written new.written s.output → PlanOutcome e w p t u x (devices new y.disks y.links)
  whole_ran new tells later wrote = record {
    why = why linked m.unanswered p x (devices new y.disks y.links) e read.allowed causes (λ k off is. comes_failed e k is (comes (tells off)))
        (λ is. (let rose = ran.write is in omega (arith, rose, later)));
    done = λ tell. inr (run_flushed new (comes tell) (begins.readable tell) (spare p causes) wrote);
  }

  pub whole_onward : (linked ≡ false → AllUnpicked start) → DisksGoOn e linked start y.disks
  whole_onward unpicked = disks_on linked e start y.disks unpicked causes.onward

  -- memory ran out
  pub short_ran : (new : SinkView) → AppendsPart y.sink.written new.written s.output → PlanOutcome (Err fault.NoMemory) w p t u x (devices new y.disks y.links)
  short_ran new wrote = record { why = tt; done = λ tell. inr (run_short new (comes tell) (begins.readable tell) (spare p causes) wrote) }

  pub short_onward : (linked ≡ false → AllUnpicked start) → DisksGoOn (Err fault.NoMemory) linked start y.disks
  short_onward unpicked =
      disks_on linked (Err fault.NoMemory) start y.disks unpicked (on_if linked (IsErrOf e fault.NoMemory) _ start y.disks (λ is. refl) causes.onward)

  -- the sink failed at the end
  module _ (d : DeviceError) (f : Ended) (ended : IsErr f × IsErrAnd f (λ g. g ≡ run_fault d)) where
    pub unwritten_text : EndsText f w p t u
    unwritten_text = subst (λ (g : Ended). EndsText g w p t u) (sym (err_is f (run_fault d) ended)) (text_sink d w p t u)

    module _ (room : IsErrOf e fault.NoMemory → ⊥) where
      pub unwritten_ran : (new : SinkView) → (d ≡ Failed → Rose y.sink.faults new.faults) → AppendsPart y.sink.written new.written s.output
          → PlanOutcome f w p t u x (devices new y.disks y.links)
      unwritten_ran new rose wrote =
          subst (λ (g : Ended). PlanOutcome g w p t u x (devices new y.disks y.links)) (sym (err_is f (run_fault d) ended)) (go d rose)
        where
          go : (d : DeviceError) → (d ≡ Failed → Rose y.sink.faults new.faults) → PlanOutcome (Err (run_fault d)) w p t u x (devices new y.disks y.links)
          go Failed rose = record {
            why = (let rise = rose refl in omega (arith, rise, ran.later));
            done = λ tell. inr (run_unwritten new (comes tell) (begins.readable tell) (spare p causes) wrote room causes.room);
          }
          go NoRoom rose = short_ran new wrote

      pub unwritten_onward : (linked ≡ false → AllUnpicked start) → DisksGoOn f linked start y.disks
      unwritten_onward unpicked =
          disks_on linked f start y.disks unpicked (on_if linked (IsErrOf e fault.NoMemory) _ start y.disks (λ is. absurd (room is)) causes.onward)

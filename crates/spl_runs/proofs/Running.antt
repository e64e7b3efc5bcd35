-- Tasks that ran, and one more.
use Rattle.std.{specs.{Global.Vec, Io.KnownBytes.append_known, Prelude.{IfOk, IsErrOf, IsErr}, Result.IsErrAnd, Str.bytes_eq}, proofs.Common.{◌≡◌, ◌≤◌}}
use Rattle.std.proofs.Common.{⊎_elim, ℕ, false, List, [], ◌∷◌, ◌++◌, length, slice_get, refl, sym, ◌∙◌, ap, arith, ◌+◌, Bool, true, Option, Result, Ok, Err}
use Rattle.std.proofs.{Common.{IfErr, OnOk, subst, append-nil, Some, inl, inr, ◌<◌}, lemmas.{Bool.cases_Bool, Result.{IfOk-from_err, MatchResult-from_both}}}
use Rattle.spl_circuit.specs.Nodes.{Node, CircuitId}
use Rattle.spl_lines.{specs.Tasks.{AreTasksWithin, Task, ran_by, watches_in}, proofs.{Tasks.{ran-append, watches-append}, Watched.{answer_is, kept_watch}}}
use Rattle.spl_lines.specs.declared.reading.Said.TheVariants as say
use Rattle.spl_circuit_world.specs.{Answers.{answer_to, events_of, stops_of}, Projection.{by_rule, Ran, lines_fit}, Worlds.{Origin, World as CircuitWorld}}
use Rattle.spl_circuit_world.{specs.{Whole.whole_world, declared.TheConstants.{MOST_STOPS, MOST_EVENTS}}, proofs.Counts.events-none}
use Rattle.spl_registry.specs.Nodes.{Entry}
use Rattle.spl_sched.specs.declared.line.Line.{Line}
use Rattle.spl_world.specs.{Held.{IsOverLimit, LineEnds, HasPicked, FailedSince, stops_at, stops, EachSeat}, Counts.is_of_limit, Disks.is_of_journal}
use Rattle.spl_world.specs.{Picks.{AllHeld, EachPair, IsNodeHeld}, Links.{Places, Carries, HasLinkCause, line_carried, seat_of, DeliversMessages}}
use Rattle.spl_world.specs.{Links.{is_of_links, AreLinksReady}, Views.{IsPlace, world_node_ids, places_of, PicksOnceAt, StandsAfterLines, slot_id}}
use Rattle.spl_world.specs.{Views.{HoldsWorld, Nodes, Sits, is_world_halted, nodes_over}, declared.{fault.WorldFault.WorldFault, slot.Slot.Slot}}
use Rattle.spl_world.{specs.declared.world.World.World, proofs.{Carried.{carries_idle, carries_part, hears_part}, Holding.{all_picked_still, old_there}}}
use Rattle.spl_world.proofs.{Holding.each_as, HoldingSeats.seats_placed, Linking.{IsOff, carries_then, cause_since, none_came}}
use Rattle.spl_world.proofs.Seats.{all_picked, each_seat, placed_as, places_seated, seat_spared, seats_hold}
use Rattle.spl_world.specs.declared.fault.WorldFault.TheVariants as error
use Rattle.spl_node.{specs.Benches.{AllGoOn, Images, RoseAt}, proofs.Benches.{all_itself, all_then, rose_after}}
use Rattle.spl_runs.specs.{Faults.{FailsAs, HaveCauses}, Moments.{AreRun, MayGoOn, WorldPicked}, Run.{Plan, carried, ids, origin, task_carried, run_way}}
use Rattle.spl_runs.specs.{Run.{After, Devices, ErrorHasCause, HasFailed, In, PickedAtStops, PutsBetween, Stop, devices, held_on}, Steps.{GoesOn, KeepsRest}}
use Rattle.spl_runs.{specs.{Steps.{task, RunsSaid}, Stops.{RunLeaves, RunsOn, StopsInTask}, declared.run.Run.Run}, proofs.Halting.delivers_stop}
use Rattle.spl_runs.proofs.{Causes.{world_write, limit_causes, still_causes, done, limit_of}, Tasks.carried_one}
use Rattle.spl_edge.{proofs.Results.{on_ok, err_from, err_same, failed}, specs.Devices.{PairView, SinkView, Streams}}
use Rattle.spl_answer.specs.Texts.{answer_spelling}
use Rattle.spl_pump.{specs.Wires.{Carried, Puts, TakesBetween}, proofs.Taking.{takes_between, takes_same}}
use Rattle.spl_wire.specs.declared.answer.Answer.{Answer}
use Rattle.spl_trace.specs.Tracers.{Tracing}
use Rattle.spl_delta.specs.{Kept.{Groups, watchers_of}, Watches.{watch_text, watch_answer, watch_circuit, watch_node, watchers_after}}
use Rattle.spl_delta.specs.declared.{answer.WatchAnswer.WatchAnswer, line.WatchLine.WatchLine}

-- where no line ran the lines are within their limits
pub none_within : (o : Origin) → AreTasksWithin o []
none_within o =
    let none : events_of o [] ≡ 0 = events-none o in
    (omega (arith, none), omega arith)

-- a run with these parts
abbrev pub run_with : Run → World → Groups → Tracing → Vec ℕ → List ℕ → Run
run_with r w ws t text output = record { nodes = r.nodes; world = w; watchers = ws; tracer = t; text = text; output = output; unanswered = r.unanswered }

-- ---- calls that change nothing of a run but its nodes and its tracer

pub rest_still : (r : Run) → KeepsRest r r
rest_still r = record { nodes = refl; watchers = refl; traced = refl; text = refl; output = refl; unanswered = refl }

pub rest_then : {r s : Run} → KeepsRest r s → (w : World) (t : Tracing) → t.on ≡ s.tracer.on → KeepsRest r (run_with s w s.watchers t s.text s.output)
rest_then k w t on = record {
  nodes = k.nodes;
  watchers = k.watchers;
  traced = on ∙ k.traced;
  text = k.text;
  output = k.output;
  unanswered = k.unanswered;
}

pub rest_is : {r s : Run} → KeepsRest r s → run_with r s.world r.watchers s.tracer r.text r.output ≡ s
rest_is {r} {s} k =
    let made : Vec Node → Groups → Vec ℕ → List ℕ → ℕ → Run = λ ns ws text output unanswered. record {
      nodes = ns;
      world = s.world;
      watchers = ws;
      tracer = s.tracer;
      text = text;
      output = output;
      unanswered = unanswered;
    } in
    ap (λ (ns : Vec Node). made ns r.watchers r.text r.output r.unanswered) (sym k.nodes)
    ∙ ap (λ (ws : Groups). made s.nodes ws r.text r.output r.unanswered) (sym k.watchers)
    ∙ ap (λ (text : Vec ℕ). made s.nodes s.watchers text r.output r.unanswered) (sym k.text)
    ∙ ap (λ (output : List ℕ). made s.nodes s.watchers s.text output r.unanswered) (sym k.output)
    ∙ ap (λ (unanswered : ℕ). made s.nodes s.watchers s.text s.output unanswered) (sym k.unanswered)

-- a call of the world lets it go on
pub goes_world : {linked : Bool} {A : Type 0} {q : Result A WorldFault} {r : Run} {v : World} {ws : Groups} {t : Tracing} {x y : Devices} → y.sink ≡ x.sink
    → t.on ≡ r.tracer.on → places_of v ≡ places_of r.world → OnOk q (MayGoOn r.nodes.items v y.disks y.links)
    → HaveCauses linked (FailsAs q) (IsPlace (places_of r.world)) x.disks y.disks x.links y.links
    → GoesOn linked q (FailsAs q) r (run_with r v ws t r.text r.output) x y
goes_world sink on places go causes = record {
  nodes = refl;
  unanswered = refl;
  traced = on;
  places = places;
  go = go;
  causes = causes;
  write = λ (e, same, is). absurd (world_write e same);
  later = (let same = ap (λ (k : SinkView). k.faults) sink in omega (arith, same));
}

module _ {linked : Bool} {p : Plan} {ts : List Task} {w : World} {x y : Devices} (r : AreRun linked p ts w x y) where
  abbrev es : List Entry
  es = p.nodes

  -- the place of each node is its position
  pub seated : Places (seat_of es) (world_node_ids w) (places_of w)
  seated = seats_placed es w r.apart r.nodes r.placed

  -- ---- what the disks have

  pub picked_seat : (start now : List PairView) → EachPair (HasPicked (origin p) (ran_by ts)) (world_node_ids w) (places_of w) start now
      → EachSeat (λ k n s q. HasPicked (origin p) (ran_by ts) n s q) es start now
  picked_seat start now h = each_seat es w r.apart r.nodes r.placed (HasPicked (origin p) (ran_by ts)) start now h

  -- they go on, and pick nothing
  pub picked_on : (now : List PairView) (stop : Stop) → AllGoOn y.disks now → PickedAtStops linked p ts stop x.disks now
  picked_on now stop on = go linked r.picked
    where
      go : (b : Bool) → WorldPicked b (origin p) (ran_by ts) w x.disks y.disks → PickedAtStops b p ts stop x.disks now
      go true h = all_then x.disks y.disks now h on
      go false h = λ k n s q at was there. inl (picked_seat x.disks now
          (all_picked_still (origin p) (world_node_ids w) (places_of w) (ran_by ts) x.disks y.disks now on
          (all_picked (origin p) w x.disks (ran_by ts) y.disks h)) k n s q at was there)

  -- ---- what the links have

  pub no_more : (us : List Task) → carried p us ≡ carried p ts → (old new : Streams) → Puts (x.links.wire (carried p ts)) old new
      → PutsBetween (x.links.wire (carried p ts)) (x.links.wire (carried p us)) old new
  no_more us same old new all = λ a b i j.
      let least = x.links.wire (carried p ts) a b in (
        [],
        [],
        ap (λ (cs : List Carried). x.links.wire cs a b) same ∙ sym (append-nil (least ++ []) ∙ append-nil least),
        all a b i j ∙ ap (λ (l : List ℕ). append_known (old a b) l) (sym (append-nil least)),
      )

  pub sent_no_more : (us : List Task) → carried p us ≡ carried p ts
      → PutsBetween (x.links.wire (carried p ts)) (x.links.wire (carried p us)) x.links.put y.links.put
  sent_no_more us same = no_more us same x.links.put y.links.put r.sent.put

  abbrev pub heard_no_more : {Due : ℕ → ℕ → List ℕ → Type 0} (us : List Task) → carried p us ≡ carried p ts
      → TakesBetween Due (x.links.wire (carried p ts)) (x.links.wire (carried p us)) x.links.taken y.links.taken
  heard_no_more us same =
      takes_between (x.links.wire (carried p ts)) (x.links.wire (carried p us)) x.links.taken y.links.taken
      (no_more us same x.links.taken y.links.taken r.sent.heard)

  -- ---- after these tasks

  pub leaves : (unanswered : ℕ) → RunLeaves (run_way linked unanswered) p ts After x y
  leaves unanswered = record {
    within = r.within;
    cause = λ sink. tt;
    held = seats_hold es w r.apart r.nodes r.placed (ran_by ts) (held_on y.disks) r.stands;
    picked = picked_on y.disks After (all_itself y.disks);
    sent = sent_no_more (ts ++ []) (ap (carried p) (append-nil ts));
    heard = record { taken = heard_no_more (ts ++ []) (ap (carried p) (append-nil ts)); others = refl };
  }

  -- these ran, and one more, of which these lines, so many lines of watchers and these messages came
  pub ran_more : (t : Task) (rs : List Ran) (n : ℕ) (cs : List Carried) (v : World) (z : Devices) → ran_by (ts ++ t ∷ []) ≡ rs
      → watches_in (ts ++ t ∷ []) ≡ n → carried p (ts ++ t ∷ []) ≡ cs → world_node_ids v ≡ world_node_ids w → places_of v ≡ places_of w
      → StandsAfterLines (origin p) n rs v (held_on z.disks) → events_of (origin p) rs + n ≤ MOST_EVENTS → stops_of rs ≤ MOST_STOPS
      → WorldPicked linked (origin p) rs v x.disks z.disks → Carries cs x.links z.links → AreRun linked p (ts ++ t ∷ []) v x z
  ran_more t rs n cs v z ran watches sends same put stood few fewer picks carries = record {
    nodes = same ∙ r.nodes;
    apart = r.apart;
    placed = placed_as es w v same put r.placed;
    stands = rw (ran, watches) stood;
    within = rw (ran, watches) (few, fewer);
    picked = rw ran picks;
    sent = rw sends carries;
  }

  -- ---- one more

  module _ (l : Line) (number : Option ℕ) where
    abbrev pub one : Task
    one = task number (say.Line l)

    -- its messages
    abbrev pub own : List Carried
    own = line_carried (seat_of es) (λ c. whole_world (origin p) c (ran_by ts)) l

    abbrev pub after : List Ran
    after = ran_by ts ++ by_rule l ∷ []

    pub carried_is : carried p (ts ++ one ∷ []) ≡ carried p ts ++ own
    carried_is = carried_one p ts one

    ran_is : ran_by (ts ++ one ∷ []) ≡ after
    ran_is = ran-append ts (one ∷ [])

    -- and no line of a watcher
    watches_is : watches_in (ts ++ one ∷ []) ≡ watches_in ts
    watches_is = let all = watches-append ts (one ∷ []) in omega (arith, all)

    -- it ran
    pub runs : (q : Result Answer WorldFault) (v : World) (z : Devices) {is : List Images} → held_on z.disks ≡ is → world_node_ids v ≡ world_node_ids w
        → places_of v ≡ places_of w → IfOk q (λ a. a ≡ answer_to (origin p) (ran_by ts) (by_rule l))
        → OnOk q (StandsAfterLines (origin p) (watches_in ts) after v is)
        → OnOk q (events_of (origin p) after + watches_in ts ≤ MOST_EVENTS) → OnOk q (stops_of after ≤ MOST_STOPS)
        → OnOk q (WorldPicked linked (origin p) after v x.disks z.disks) → DeliversMessages q own y.links z.links
        → IfOk q (λ a. RunsOn linked p ts one v x z (answer_spelling a))
    runs (Err e) v z told same put answer stood few fewer picks d = tt
    runs (Ok a) v z told same put answer stood few fewer picks d = (
      ap answer_spelling answer,
      ran_more one after (watches_in ts) (carried p ts ++ own) v z ran_is watches_is carried_is same put
          (subst (StandsAfterLines (origin p) (watches_in ts) after v) (sym told) stood) few fewer picks
          (carries_then (carried p ts) own x.links y.links z.links r.sent d),
    )

    -- nothing is delivered where it stops a node
    pub halted : stops l ≡ true → (q : Result Answer WorldFault) → IsOff q → DeliversMessages q own y.links y.links
    halted stop q off = delivers_stop q (seat_of es) (λ c. whole_world (origin p) c (ran_by ts)) l y.links stop (carries_idle r.sent) off

    cause_of : (unanswered : ℕ) (e : WorldFault) (z : Devices) → HasLinkCause e (task_carried p ts one.line) x.links z.links
        → ((which : ℕ) → e ≡ error.TooMany which → IsOverLimit (origin p) (watches_in (ts ++ one ∷ [])) (ran_by (ts ++ one ∷ [])) which)
        → ((k at : ℕ) → e ≡ error.NotAJournal k at → ⊥) → ((k : ℕ) → e ≡ error.Disk k → HasFailed linked k x.disks z.disks × (stops l ≡ false))
        → ErrorHasCause (run_way linked unanswered) p ts (In one e) x z
    cause_of unanswered (error.TooMany which) z links nodes_over sound disk = nodes_over which refl
    cause_of unanswered (error.Disk k) z links nodes_over sound disk = disk k refl
    cause_of unanswered (error.NotAJournal k at) z links nodes_over sound disk = sound k at refl
    cause_of unanswered error.Link z links nodes_over sound disk = links
    cause_of unanswered (error.Lied from to sent got) z links nodes_over sound disk = links
    cause_of unanswered error.NoMemory z links nodes_over sound disk = tt

    -- it ended with an error
    pub fails : (q : Result Answer WorldFault) (z : Devices) {is : List Images} → held_on z.disks ≡ is
        → IfErr q (λ e. LineEnds (λ c. whole_world (origin p) c (ran_by ts)) l e (world_node_ids w) (places_of w) is) → DeliversMessages q own y.links z.links
        → ((which : ℕ) → IsErrOf q (error.TooMany which) → IsOverLimit (origin p) (watches_in ts) after which)
        → ((k at : ℕ) → IsErrOf q (error.NotAJournal k at) → ⊥)
        → ((k : ℕ) → IsErrOf q (error.Disk k) → HasFailed linked k x.disks z.disks × (stops l ≡ false))
        → IfErr q (λ e. PickedAtStops linked p ts (In one e) x.disks z.disks) → IfErr q (StopsInTask linked p ts one x z)
    fails (Ok a) z told ends d nodes_over sound disk picked = tt
    fails (Err e) z told ends d nodes_over sound disk picked = λ unanswered. record {
      within = r.within;
      cause = λ sink. cause_of unanswered e (devices sink z.disks z.links) (cause_since e own x.links y.links z.links r.sent.no_less r.sent.hello d.cause)
          (λ which q. subst (λ (rs : List Ran). IsOverLimit (origin p) (watches_in (ts ++ one ∷ [])) rs which) (sym ran_is)
          (subst (λ (n : ℕ). IsOverLimit (origin p) n after which) (sym watches_is)
          (nodes_over which (ap (failed Answer WorldFault) q))))
          (λ k at q. sound k at (ap (failed Answer WorldFault) q)) (λ k q. disk k (ap (failed Answer WorldFault) q));
      held = subst (λ (ks : List ℕ). LineEnds (λ c. whole_world (origin p) c (ran_by ts)) l e (ids p) ks (held_on z.disks))
          (places_seated es w r.apart r.nodes r.placed)
          (subst (λ (ns : List Node). LineEnds (λ c. whole_world (origin p) c (ran_by ts)) l e ns (places_of w) (held_on z.disks)) r.nodes
          (subst (λ (is : List Images). LineEnds (λ c. whole_world (origin p) c (ran_by ts)) l e (world_node_ids w) (places_of w) is) (sym told) ends));
      picked = picked;
      sent = λ a b i j. rw carried_is (carries_part r.sent own z.links d.put a b i j);
      heard = record {
        taken = takes_same (x.links.wire (carried p ts)) (x.links.wire (carried p ts ++ own))
            (x.links.wire (carried p (ts ++ one ∷ []))) x.links.taken z.links.taken
            (λ a b. ap (λ (cs : List Carried). x.links.wire cs a b) (sym carried_is)) (hears_part r.sent own z.links d.heard);
        others = d.others;
      };
    }

-- whatever was written since
pub as_written : {linked : Bool} {p : Plan} {ts : List Task} {w : World} {x y : Devices} (new : SinkView) → AreRun linked p ts w x y
    → AreRun linked p ts w x (devices new y.disks y.links)
as_written new r = record { nodes = r.nodes; apart = r.apart; placed = r.placed; stands = r.stands; within = r.within; picked = r.picked; sent = r.sent }

pub stands : {linked : Bool} {p : Plan} {ts : List Task} {w : World} {x y : Devices} {is : List Images} → AreRun linked p ts w x y → held_on y.disks ≡ is
    → StandsAfterLines (origin p) (watches_in ts) (ran_by ts) w is
stands {p = p} {ts = ts} {w = w} r told = subst (λ (is : List Images). StandsAfterLines (origin p) (watches_in ts) (ran_by ts) w is) told r.stands

-- ---- disks that go on, at a line that stops no node

module _ {linked : Bool} {p : Plan} {ts : List Task} {w : World} {x y : Devices} (r : AreRun linked p ts w x y) (now : List PairView)
    (on : AllGoOn y.disks now) where
  pub picked_then : (l : Line) (v : World) (q : Result Answer WorldFault)
      → ((start : List PairView) → AllHeld (origin p) start (ran_by ts) w y.disks → OnOk q (AllHeld (origin p) start (ran_by ts ++ by_rule l ∷ []) v now))
      → OnOk q (WorldPicked linked (origin p) (ran_by ts ++ by_rule l ∷ []) v x.disks now)
  picked_then l v q keeps = go linked r.picked
    where
      go : (b : Bool) → WorldPicked b (origin p) (ran_by ts) w x.disks y.disks → OnOk q (WorldPicked b (origin p) (ran_by ts ++ by_rule l ∷ []) v x.disks now)
      go true h = on_ok q (all_then x.disks y.disks now h on)
      go false h = keeps x.disks h

  pub failed_then : (k : ℕ) → RoseAt k y.disks now → ((start : List PairView) → AllHeld (origin p) start (ran_by ts) w y.disks → FailedSince k start now)
      → HasFailed linked k x.disks now
  failed_then k rose failed = go linked r.picked
    where
      go : (b : Bool) → WorldPicked b (origin p) (ran_by ts) w x.disks y.disks → HasFailed b k x.disks now
      go true h = rose_after k x.disks y.disks now h rose
      go false h = failed x.disks h

  pub picked_still : (t : Task) {A : Type 0} (q : Result A WorldFault) → IfErr q (λ e. PickedAtStops linked p ts (In t e) x.disks now)
  picked_still t (Ok a) = tt
  picked_still t (Err e) = picked_on r now (In t e) on

-- ---- disks that are picked from

-- the disks of a node that the line doesn't stop stay as they were
module _ {p : Plan} {ts : List Task} {w : World} {x y : Devices} (r : AreRun false p ts w x y) (l : Line) (number : Option ℕ) (disks : List PairView)
    (others : (i : ℕ) (s : Slot) → slice_get w.slots.items i ≡ Some s → stops_at (slot_id s) l ≡ false
    → slice_get disks s.position ≡ slice_get y.disks s.position) where
  picked_before : EachSeat (λ k n s q. HasPicked (origin p) (ran_by ts) n s q) p.nodes x.disks y.disks
  picked_before = picked_seat r x.disks y.disks (all_picked (origin p) w x.disks (ran_by ts) y.disks r.picked)

  -- where it ends with an error
  pub halt_picked : length disks ≡ length y.disks → ((k : ℕ) → PicksOnceAt k y.disks disks) → (f : Result Answer WorldFault)
      → IfErr f (λ e. is_of_links e ≡ false) → IfErr f (λ e. is_of_journal e ≡ false) → ((k : ℕ) → IsErrOf f (error.Disk k) → ⊥)
      → ((which : ℕ) → IsErrOf f (error.TooMany which) → disks ≡ y.disks)
      → IfErr f (λ e. PickedAtStops false p ts (In (task number (say.Line l)) e) x.disks disks)
  halt_picked many once (Ok a) off sound disk kept = tt
  halt_picked many once (Err (error.TooMany which)) off sound disk kept =
      λ k n s q at was there. inl (picked_before k n s q at was (subst (λ (ds : List PairView). slice_get ds k ≡ Some q) (kept which refl) there))
  halt_picked many once (Err error.NoMemory) off sound disk kept = λ k n s q at was there.
      let old = old_there y.disks disks k q many there in
      ⊎_elim (λ h. inr (h, _, picked_before k n s _ at was old, once k _ q old there))
      (λ h. inl (picked_before k n s q at was (sym (seat_spared p.nodes w r.apart r.nodes r.placed l y.disks disks others k n at h) ∙ there)))
      (cases_Bool (stops_at n l))
  halt_picked many once (Err (error.Disk k)) off sound disk kept = absurd (disk k refl)
  halt_picked many once (Err (error.NotAJournal k at)) off sound disk kept = absurd cc
  halt_picked many once (Err error.Link) off sound disk kept = absurd cc
  halt_picked many once (Err (error.Lied from to sent got)) off sound disk kept = absurd cc

-- ---- watching more line of a watcher

picked_same : (b : Bool) (o : Origin) (rs : List Ran) (w v : World) (start now : List PairView) → world_node_ids v ≡ world_node_ids w
    → places_of v ≡ places_of w → WorldPicked b o rs w start now → WorldPicked b o rs v start now
picked_same true o rs w v start now ids places h = h
picked_same false o rs w v start now ids places h =
    each_as (IsNodeHeld o rs) (IsNodeHeld o rs) (world_node_ids w) (world_node_ids v) (places_of w) (places_of v) start now ids places (λ n s q held. held) h

module _ {linked : Bool} {p : Plan} {ts : List Task} {w : World} {x y : Devices} (r : AreRun linked p ts w x y) (l : WatchLine) (number : Option ℕ) where
  abbrev watching : Task
  watching = task number (say.Watch l)

  ran_same : ran_by (ts ++ watching ∷ []) ≡ ran_by ts
  ran_same = ran-append ts (watching ∷ []) ∙ append-nil (ran_by ts)

  watches_more : watches_in (ts ++ watching ∷ []) ≡ watches_in ts + 1
  watches_more = let all = watches-append ts (watching ∷ []) in omega (arith, all)

  carried_same : carried p (ts ++ watching ∷ []) ≡ carried p ts
  carried_same = carried_one p ts watching ∙ append-nil (carried p ts)

  pub fits_too : lines_fit (ran_by (ts ++ watching ∷ [])) ≡ true
  fits_too = ap lines_fit ran_same ∙ r.stands.fit

  -- it was counted, and nothing else happened
  pub counted : (v : World) → world_node_ids v ≡ world_node_ids w → places_of v ≡ places_of w
      → StandsAfterLines (origin p) (watches_in ts + 1) (ran_by ts) v (held_on y.disks)
      → events_of (origin p) (ran_by ts) + (watches_in ts + 1) ≤ MOST_EVENTS → AreRun linked p (ts ++ watching ∷ []) v x y
  counted v nodes places stood few =
      ran_more r watching (ran_by ts) (watches_in ts + 1) (carried p ts) v y ran_same watches_more carried_same nodes places stood few r.within.1
      (picked_same linked (origin p) (ran_by ts) w v x.disks y.disks nodes places r.picked) r.sent

  -- it ended with an error
  pub stops_in : (e : WorldFault)
      → ((which : ℕ) → e ≡ error.TooMany which → (which ≡ 1) × (MOST_EVENTS < events_of (origin p) (ran_by ts) + (watches_in ts + 1)))
      → ((e ≡ error.NoMemory → ⊥) → is_of_limit e ≡ true) → StopsInTask linked p ts watching x y e
  stops_in e nodes_over only = λ unanswered.
      let so_far = leaves r unanswered in
      record {
        within = r.within;
        cause = λ sink. cause unanswered sink e nodes_over only;
        held = so_far.held;
        picked = picked_on r y.disks (In watching e) (all_itself y.disks);
        sent = sent_no_more r (ts ++ watching ∷ []) carried_same;
        heard = record { taken = heard_no_more r (ts ++ watching ∷ []) carried_same; others = none_came e };
      }
    where
      cause : (unanswered : ℕ) (sink : SinkView) (e : WorldFault)
          → ((which : ℕ) → e ≡ error.TooMany which → (which ≡ 1) × (MOST_EVENTS < events_of (origin p) (ran_by ts) + (watches_in ts + 1)))
          → ((e ≡ error.NoMemory → ⊥) → is_of_limit e ≡ true)
          → ErrorHasCause (run_way linked unanswered) p ts (In watching e) x (devices sink y.disks y.links)
      cause unanswered sink (error.TooMany which) nodes_over only = (let h = nodes_over which refl in inl (h.0, rw (ran_same, watches_more) h.1))
      cause unanswered sink (error.Disk k) nodes_over only = absurd (let h = only (λ q. cc) in cc)
      cause unanswered sink (error.NotAJournal k at) nodes_over only = absurd (let h = only (λ q. cc) in cc)
      cause unanswered sink error.Link nodes_over only = absurd (let h = only (λ q. cc) in cc)
      cause unanswered sink (error.Lied from to sent got) nodes_over only = absurd (let h = only (λ q. cc) in cc)
      cause unanswered sink error.NoMemory nodes_over only = tt

-- ---- a line of a watcher is run

module _ {linked : Bool} {r : Run} {x : Devices} (go : MayGoOn r.nodes.items r.world x.disks x.links) (l : WatchLine) (v : World) (new : Groups)
    (ids : world_node_ids v ≡ world_node_ids r.world) (places : places_of v ≡ places_of r.world) where
  -- it ended with an error
  pub watch_fails : {e : WorldFault} (q : Result WatchAnswer WorldFault) → IsErr q × IsErrAnd q (λ d. d ≡ e)
      → ((o : Origin) (others which : ℕ) (before : List Ran) → StandsAfterLines o others before r.world (held_on x.disks) → e ≡ error.TooMany which
      → (which ≡ 1) × (MOST_EVENTS < events_of o before + (others + 1)))
      → ((e ≡ error.NoMemory → ⊥) → is_of_limit e ≡ true) → RunsSaid linked (say.Watch l) watch_text q r (run_with r v new r.tracer r.text r.output) x x
  watch_fails {e} q failed nodes_over only = record {
    on = goes_world refl refl places (IfOk-from_err q _ failed.0)
        (limit_causes (λ d (f, same, is). limit_of f d same
        (λ room. subst (λ (g : WorldFault). is_of_limit g ≡ true) (err_same q e f failed is)
        (only (λ none. room (sym (err_same q e f failed is) ∙ none))))));
    output = refl;
    sink = refl;
    comes = λ p ts number z h. MatchResult-from_both q _ _ (IfOk-from_err q _ failed.0)
        (err_from q e _ failed (stops_in h.ran l number e (λ which same. nodes_over (origin p) (watches_in ts) which (ran_by ts) h.ran.stands same) only));
  }

  -- it was answered, and the watchers are as the answer says
  pub watch_runs : {a : WatchAnswer} → nodes_over v (held_on x.disks) ≡ nodes_over r.world (held_on x.disks) → is_world_halted v ≡ false
      → ((o : Origin) (others : ℕ) (before : List Ran) → StandsAfterLines o others before r.world (held_on x.disks)
      → StandsAfterLines o (others + 1) before v (held_on x.disks))
      → ((o : Origin) (others : ℕ) (before : List Ran) → StandsAfterLines o others before r.world (held_on x.disks)
      → events_of o before + (others + 1) ≤ MOST_EVENTS)
      → ((m : CircuitWorld) → HoldsWorld (watch_circuit l) m (nodes_over v (held_on x.disks)) → a ≡ watch_answer m (watchers_of r.watchers (watch_circuit l)) l)
      → ((m : CircuitWorld) → HoldsWorld (watch_circuit l) m (nodes_over v (held_on x.disks))
      → watchers_of new (watch_circuit l) ≡ watchers_after (m.at (watch_node l)) (watchers_of r.watchers (watch_circuit l)) l a)
      → ((c : CircuitId) → bytes_eq (watch_circuit l) c ≡ false → watchers_of new c ≡ watchers_of r.watchers c)
      → RunsSaid linked (say.Watch l) watch_text (done WatchAnswer a) r (run_with r v new r.tracer r.text r.output) x x
  watch_runs {a} same running stands few answer after others = record {
    on = goes_world refl refl places (record {
      nodes = ids ∙ go.nodes;
      running = running;
      sits = subst (λ (xs : Nodes). Sits xs) (sym same) go.sits;
      ready = subst (λ (ks : List ℕ). AreLinksReady ks x.links) (sym places) go.ready;
    }) (still_causes (λ e (d, q, is). cc));
    output = refl;
    sink = refl;
    comes = λ p ts number z h.
        let was = whole_world (origin p) (watch_circuit l) (ran_by ts) in
        let st = h.ran.stands in
        let holds : HoldsWorld (watch_circuit l) was (nodes_over v (held_on x.disks)) =
        subst (λ (xs : Nodes). HoldsWorld (watch_circuit l) was xs) (sym same) (st.each (watch_circuit l)) in
        record {
          ran = (
            answer_is (origin p) st.begins ts st.fit l r.watchers h.kept a (answer was holds),
            counted h.ran l number v ids places (stands (origin p) (watches_in ts) (ran_by ts) st) (few (origin p) (watches_in ts) (ran_by ts) st),
          );
          kept = kept_watch (origin p) st.begins ts st.fit l r.watchers h.kept a (answer was holds) number new (fits_too h.ran l number)
              (after was holds) others;
        };
  }

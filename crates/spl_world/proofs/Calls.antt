-- Calls of a world, one after the other.
use Rattle.spl_circuit_world.specs.{Answers.{answer_to, halt_answer, line_answer}, Whole.world_after_line}
use Rattle.spl_wire.specs.declared.answer.Bit.{Bit}
use Rattle.spl_wire.specs.declared.answer.Answer.TheVariants as answer
use Rattle.spl_world.specs.Calls.{Around, CarriesStep, ChangesOne, DisksView, FailsInEvent, FailsInHalt, HaltsLine, HaltsNode, HaltsStep, Leaves}
use Rattle.spl_world.specs.Calls.{LeavesHalted, LeavesNodes, LineHalts, RunsOrFails, RunsLine, RunsStep, StartsFrom, Stepping, StepsLine, StopsAlone}
use Rattle.spl_world.specs.{Calls.{StopsInStep, with_line}, Counts.Counts, Disks.is_of_journal, Ended.EventEnds, Halts.{bit_in, bit_answer}, Held.IsOverLimit}
use Rattle.spl_world.specs.{Held.{LineEnds, stopping_of, stops_at}, Links.{Carries, DeliversMessages, AreLinksReady, LeavesLinks, LinkView, is_of_links}}
use Rattle.spl_world.specs.{Links.line_carried, Picks.{FailsBy, FailsIn, OnlyBy, PickUnarmed, StopsSlot}, Views.{HoldsWorld, IsPlace, Nodes, Sits}}
use Rattle.spl_world.specs.Views.{StandsAfterLines, ids_in, world_node_ids, nodes_over, places_of, seen, slot_ids, slot_places, slot_up, ups_of, slot_id}
use Rattle.spl_world.specs.declared.{fault.WorldFault.{WorldFault, TheVariants.{Disk, NoMemory, TooMany}}, slot.Slot.Slot, world.World.World}
use Rattle.spl_world.proofs.Common.{◌≡◌, ◌+◌, ◌<◌, ℕ, Bool, false, true, true≢false, List, [], slice_get, Option, Some, None, Result, Ok, Err, OnOk}
use Rattle.spl_world.proofs.Common.{if◌then◌else◌, refl, sym, ap, subst, ◌∙◌, arith, Vec, IfErr, IsErr, IsErrOf, IsErrAnd, bytes_eq, CircuitId, NodeId}
use Rattle.spl_world.proofs.Common.{DiskView, PairView, bench, Pair, Fill, events_of, line_events, by_rule, keeps_record, Ran, Halts, Origin, Stops}
use Rattle.spl_world.proofs.Common.{CircuitWorld, circuit_happens, step_plan, MOST_EVENTS, keeps, Stopping, whole_world, Carried, is_line, step_circuit}
use Rattle.spl_world.proofs.{Common.{step_node, Line, Step, Answer, Plan}, Cutting.{bit_down, down_not_filled, fail_from_one, halted_each, keeps_cut}}
use Rattle.spl_world.proofs.{Cutting.{keeps_fail, only_of, said_so, slot_down}, Ending.still_ended, EndingLines.{ended_by, ended_cut, ended_fail}}
use Rattle.spl_world.proofs.{EndingLines.{ended_still, ended_stop}, Leaving.{leaves_failed, leaves_ok, leaves_then, no_journal}, Linking.faults_failed}
use Rattle.spl_world.proofs.{Linking.{faults_off, faults_ok, faults_then, links_itself, IsOff, fails_early}, Moving.{halt_none, stop_none}}
use Rattle.spl_world.proofs.{Picking.{forgets_none, stops_none}, Reading.step_down, Results.failed}
use Rattle.spl_world.proofs.{Slots.same_at, Sparing.{by_once, by_others, by_spare, once_all, only_same}, Standing.{counted_line, over_line, stands_after}}
use Rattle.spl_world.proofs.Standing.{stands_still, step_result}
use Rattle.spl_sched.specs.Grammar.{is_calm}
use Rattle.spl_sched.specs.declared.line.Line.TheVariants as line
use Rattle.spl_node.{specs.Benches.Images, proofs.{Benches.all_itself, Positions.mapped_there}}
use Rattle.spl_node.specs.declared.stopping.Stopping.TheVariants as stopping
use Rattle.spl_edge.proofs.Results.{at_ok, on_ok, ok_both, on_err, off_ok, off_if, err_same}

-- ---- errors

abbrev pub done : (A : Type 0) → A → Result A WorldFault
done A a = Ok a

abbrev pub succeeded : (A E : Type 0) → A → Result A E
succeeded A E a = Ok a

abbrev pub short : (A E : Type 0) → E → Result A E
short A E e = Err e

-- a call that fails so is this failure
pub fails_is : {A : Type 0} (r : Result A WorldFault) (f : WorldFault) → IsErr r × IsErrAnd r (λ y. y ≡ f) → r ≡ failed A f
fails_is (Ok a) f h = absurd h.1
fails_is {A} (Err e) f h = (let same : e ≡ f = h.1 in ap (failed A) same)

-- a failure of one call is one of another
pub fails_too : {A B : Type 0} {f e : WorldFault} → IsErrOf (failed A f) e → IsErrOf (failed B f) e
fails_too {A} {B} {f} {e} is = (let same : f ≡ e = cc in ap (failed B) same)

-- an error that names no disk, no journal and no link
pub record IsPlain (e : WorldFault) : Type 0 where
  pub disk : (k : ℕ) → e ≡ Disk k → ⊥
  pub journal : is_of_journal e ≡ false
  pub links : is_of_links e ≡ false

pub is_memory : IsPlain NoMemory
is_memory = record { disk = λ k q. cc; journal = refl; links = refl }

pub is_limit : (e : WorldFault) (n : ℕ) → e ≡ TooMany n → IsPlain e
is_limit e n is = subst IsPlain (sym is) (record { disk = λ k q. cc; journal = refl; links = refl })

-- ---- what they leave

module _ {A : Type 0} (r : Result A WorldFault) (w v : World) (same : v.slots ≡ w.slots) where
  -- no node changed, and no disk
  pub left_nodes : (x : DisksView) → ((k : ℕ) → IsErrOf r (Disk k) → ⊥) → OnOk r (Sits (nodes_over w x.held)) → LeavesNodes r w v x x
  left_nodes x none sits = record {
    ids = ap (λ (ss : Vec Slot). slot_ids ss.items) same;
    places = ap (λ (ss : Vec Slot). slot_places ss.items) same;
    sits = subst (λ (ss : Vec Slot). OnOk r (Sits (record { slots = ss.items; disks = x.held }))) (sym same) sits;
    disks = record { onward = all_itself x.pairs; failed = λ k q. absurd (none k q) };
    spare = λ k off. refl;
    place = λ k q. absurd (none k q);
  }

pub nodes_same : {A : Type 0} (a : A) (w v : World) → v.slots ≡ w.slots → (x : DisksView) → Sits (nodes_over w x.held) → LeavesNodes (done A a) w v x x
nodes_same {A} a w v same x sits = left_nodes (done A a) w v same x (λ k q. cc) sits

-- no disk was called, and nothing happened on the links but this
pub nodes_left : {A : Type 0} {r : Result A WorldFault} {w v : World} {p q : DisksView} (x y : LinkView) → OnOk r (AreLinksReady (places_of w) y) → LeavesLinks r x y → LeavesNodes r w v p q → Leaves r w v (record { disks = p; links = x }) (record { disks = q; links = y })
nodes_left {r = r} x y ready links h = record { nodes = h; ready = subst (λ (ks : List ℕ). OnOk r (AreLinksReady ks y)) (sym h.places) ready; links = links }

-- nothing happened on the links
pub unlinked : {A : Type 0} {r : Result A WorldFault} {w v : World} {p q : DisksView} (x : LinkView) → AreLinksReady (places_of w) x → IsOff r → LeavesNodes r w v p q → Leaves r w v (record { disks = p; links = x }) (record { disks = q; links = x })
unlinked {r = r} x ready off h = nodes_left x x (on_ok r ready) (faults_off r x x off (links_itself x)) h

pub still_linked : {A : Type 0} {a : A} {w v : World} {p q : DisksView} (x : LinkView) → AreLinksReady (places_of w) x → LeavesNodes (done A a) w v p q → Leaves (done A a) w v (record { disks = p; links = x }) (record { disks = q; links = x })
still_linked {A} {a} x ready h = unlinked {r = done A a} x ready tt h

-- it failed on the links
pub links_failed : {A : Type 0} {f : WorldFault} {w v : World} {p q : DisksView} (x y : LinkView) → LeavesLinks (failed A f) x y → LeavesNodes (failed A f) w v p q → Leaves (failed A f) w v (record { disks = p; links = x }) (record { disks = q; links = y })
links_failed x y links h = record { nodes = h; ready = tt; links = links }

-- an event was counted before it
pub nodes_counted : {A : Type 0} {r : Result A WorldFault} {v : World} {p q : DisksView} (w : World) (n : ℕ) → LeavesNodes r (record w { events = n }) v p q → LeavesNodes r w v p q
nodes_counted w n h = record { ids = h.ids; places = h.places; sits = h.sits; disks = h.disks; spare = h.spare; place = h.place }

pub call_counted : {A : Type 0} {r : Result A WorldFault} {v : World} {x y : Around} (w : World) (n : ℕ) → Leaves r (record w { events = n }) v x y → Leaves r w v x y
call_counted w n h = record { nodes = nodes_counted w n h.nodes; ready = h.ready; links = h.links }

-- whether the world is halted says nothing of its nodes
pub call_still : {A : Type 0} {r : Result A WorldFault} {w v : World} {x y : Around} (b : Bool) → Leaves r w v x y → Leaves r w (record v { halted = b }) x y
call_still b h = record {
  nodes = record { ids = h.nodes.ids; places = h.nodes.places; sits = h.nodes.sits; disks = h.nodes.disks; spare = h.nodes.spare; place = h.nodes.place };
  ready = h.ready;
  links = h.links;
}

-- a call that succeeds as the one in it does
pub nodes_done : {A B : Type 0} {a : A} {w v : World} {p q : DisksView} (b : B) → LeavesNodes (done A a) w v p q → LeavesNodes (done B b) w v p q
nodes_done b h = record {
  ids = h.ids;
  places = h.places;
  sits = h.sits;
  disks = leaves_ok b _ _ h.disks.onward;
  spare = h.spare;
  place = λ k q. absurd cc;
}

-- a call that fails as the one in it does
pub nodes_failed : {A B : Type 0} {f : WorldFault} {w v : World} {p q : DisksView} (r : Result B WorldFault) → IsErr r × IsErrAnd r (λ y. y ≡ f)
    → LeavesNodes (failed A f) w v p q → LeavesNodes r w v p q
nodes_failed {A} {B} {f} {w} {v} {p} {q} r is h = record {
  ids = h.ids;
  places = h.places;
  sits = off_ok _ r is.0;
  disks = leaves_failed r f is p.pairs q.pairs h.disks;
  spare = h.spare;
  place = λ k e. h.place k (ap (failed A) (err_same r f (Disk k) is e));
}

pub call_failed : {A B : Type 0} {f : WorldFault} {w v : World} {x y : Around} (r : Result B WorldFault) → IsErr r × IsErrAnd r (λ e. e ≡ f) → Leaves (failed A f) w v x y → Leaves r w v x y
call_failed {A} {B} {f} {w} {v} {x} {y} r is h = record { nodes = nodes_failed r is h.nodes; ready = off_ok _ r is.0; links = faults_failed r f is x.links y.links h.links }

pub call_done : {A B : Type 0} {a : A} {w v : World} {x y : Around} (b : B) → Leaves (done A a) w v x y → Leaves (done B b) w v x y
call_done b h = record { nodes = nodes_done b h.nodes; ready = h.ready; links = faults_ok b _ _ h.links.onward }

-- one after another
pub call_then : {A B : Type 0} {a : A} {q : Result B WorldFault} {u v w : World} {x y z : Around} → Leaves (done A a) u v x y → Leaves q v w y z → Leaves q u w x z
call_then {q = q} {x = x} {y = y} {z = z} f g = record {
  nodes = record {
    ids = g.nodes.ids ∙ f.nodes.ids;
    places = g.nodes.places ∙ f.nodes.places;
    sits = g.nodes.sits;
    disks = leaves_then q x.disks.pairs y.disks.pairs z.disks.pairs f.nodes.disks.onward g.nodes.disks;
    spare = λ k off. g.nodes.spare k (λ is. off (subst (λ (ks : List ℕ). IsPlace ks k) f.nodes.places is)) ∙ f.nodes.spare k off;
    place = λ k e. subst (λ (ks : List ℕ). IsPlace ks k) f.nodes.places (g.nodes.place k e);
  };
  ready = g.ready;
  links = faults_then q x.links y.links z.links f.links.onward g.links;
}

-- one that fails before anything happens
pub left_early : {B : Type 0} {f : WorldFault} {w v : World} {x : Around} (r : Result B WorldFault) → IsErr r × IsErrAnd r (λ e. e ≡ f) → IsPlain f → v.slots ≡ w.slots → Leaves r w v x x
left_early {B} {f} {w} {v} {x} r is plain same = subst (λ (z : Result B WorldFault). Leaves z w v x x) (sym (fails_is r f is)) (record {
  nodes = left_nodes (failed B f) w v same x.disks (λ k q. plain.disk k (cc)) tt;
  ready = tt;
  links = faults_off (failed B f) x.links x.links plain.links (links_itself x.links);
})

-- ---- calls that stop a node

-- nothing changed
pub halted_early : {A E : Type 0} (r : Result A E) (w v : World) → v.slots ≡ w.slots → (x : DisksView) → Sits (nodes_over w x.held) → LeavesHalted r w v x x
halted_early r w v same x sits = record {
  ids = ap (λ (ss : Vec Slot). slot_ids ss.items) same;
  places = ap (λ (ss : Vec Slot). slot_places ss.items) same;
  sits = on_ok r (subst (λ (ss : Vec Slot). Sits (record { slots = ss.items; disks = x.held })) (sym same) sits);
  onward = forgets_none x.pairs;
}

-- a call that ends so leaves them as the call in it
pub halted_so : {A B E F : Type 0} {z : Result A E} {w v : World} {x y : DisksView} (r : Result B F) → OnOk r (Sits (nodes_over v y.held)) → LeavesHalted z w v x y → LeavesHalted r w v x y
halted_so r sits h = record { ids = h.ids; places = h.places; sits = sits; onward = h.onward }

pub halted_ok : {A B E F : Type 0} {z : Result A E} {w v : World} {x y : DisksView} (b : B) → Sits (nodes_over v y.held) → LeavesHalted z w v x y → LeavesHalted (succeeded B F b) w v x y
halted_ok b sits h = record { ids = h.ids; places = h.places; sits = sits; onward = h.onward }

-- an event and a stop were counted before it
pub halted_counted : {A E : Type 0} {r : Result A E} {v : World} {x y : DisksView} (w : World) (n k : ℕ) → LeavesHalted r (record w { events = n; stops = k }) v x y → LeavesHalted r w v x y
halted_counted w n k h = record { ids = h.ids; places = h.places; sits = h.sits; onward = h.onward }

pub halted_still : {A E : Type 0} {r : Result A E} {w v : World} {x y : DisksView} (b : Bool) → LeavesHalted r w v x y → LeavesHalted r w (record v { halted = b }) x y
halted_still b h = record { ids = h.ids; places = h.places; sits = h.sits; onward = h.onward }

pub halt_faults : {B : Type 0} {f : WorldFault} (r : Result B WorldFault) → IsErr r × IsErrAnd r (λ e. e ≡ f) → IsPlain f → FailsInHalt r
halt_faults {B} {f} r is plain = subst FailsInHalt (sym (fails_is r f is)) (record { disk = λ k q. plain.disk k (cc); sound = plain.journal; unlinked = plain.links })

pub changes_none : (l : Line) (w : World) (ps : List PairView) → ChangesOne l w ps ps
changes_none l w ps = record { others = λ i s at off. refl; once = once_all ps; spare = λ k off. refl }

pub changes_one : {D : Type 0} (view : D → DiskView) (l : Line) (w : World) (ps : List (Pair D)) (new : List PairView) → Sits (seen view w ps)
    → OnlyBy l (seen view w ps) (bench view ps) new → ChangesOne l w (bench view ps) new
changes_one view l w ps new sits only =
    let xs = seen view w ps in
    let old = bench view ps in
    record { others = by_others l xs old new only sits; once = by_once l xs old new only; spare = by_spare l xs old new only }

-- it stopped in no step, since memory ran out before
pub not_stopped : {E : Type 0} (i : ℕ) (c : CircuitId) (m : CircuitWorld) (h : Stopping) (s : Step) (r : Result Bool E) → IsErr r
    → (xs : Nodes) (ps : List PairView) → StopsInStep i c m h s r xs xs ps ps
not_stopped i c m h s (Ok b) is xs ps = absurd (true≢false (sym is))
not_stopped i c m h s (Err e) is xs ps = record { tells = tt; own = tt; risen = λ t there. tt; ended = still_ended c (circuit_happens m (Halts true s)) NoMemory xs }

pub alone_early : {A E : Type 0} (i : ℕ) (how : Option Stopping) (r : Result A E) → IsErr r → (w : World) (x : DisksView) → Sits (nodes_over w x.held) → StopsAlone i how r w w x x
alone_early i how r is w x sits = record { leaves = halted_early r w w refl x sits; only = λ s at. only_same x.pairs s.position; picks = λ s at. off_ok _ r is }

-- ---- a step in which its node goes down

module _ (s : Step) (h : Stopping) (w : World) (x : DisksView) (i : ℕ) (at : slice_get (world_node_ids w) i ≡ Some (step_node s)) where
  abbrev xs : Nodes
  xs = nodes_over w x.held

  abbrev here : Slot
  here = (mapped_there slot_id w.slots.items i (step_node s) at).0

  there : slice_get w.slots.items i ≡ Some here
  there = (mapped_there slot_id w.slots.items i (step_node s) at).1

  -- it was down
  pub halts_down : {E : Type 0} → Sits xs → ((c : CircuitId) (m : CircuitWorld) → HoldsWorld c m xs → m.up (step_node s) ≡ false) → slice_get (ups_of w) i ≡ Some false
      → HaltsStep s h (succeeded (Option Bit) E None) w w x x
  halts_down {E} sits worlds down =
      let off = slot_down w.slots.items i here there down in
      let c = step_circuit s in
      record {
        leaves = halted_early (succeeded (Option Bit) E None) w w refl x sits;
        bit = λ m held. sym (bit_down m s (keeps h) (worlds c m held));
        own = λ m held. halt_none c m xs s (keeps h) held (worlds c m held);
        others = λ d m other held. stop_none d m xs (step_node s) held (worlds d m held);
        only = only_of xs i (step_node s) x.pairs x.pairs at (λ z e. only_same x.pairs z.position);
        slot = record {
          index = i;
          slot = here;
          there = there;
          id_is = same_at w.slots.items i here (step_node s) there at;
          stop = stops_none (PickUnarmed (Some h)) (slot_up here) here.position x.pairs off;
          risen = λ each held. record {
            torn = λ torn. absurd (torn.1 (ap (λ (p : Plan). p.changes) (step_down (each c) s (worlds c (each c) (held c)))));
            checkpoint = λ full. absurd (down_not_filled here.host c (step_plan (each c) s).changes off full.1);
          };
        };
        ended = λ m held. tt;
      }

  module _ (v : World) (y : DisksView) where
    -- it was up
    pub halts_up : {E : Type 0} {b : Bool} (k : Bit) → StopsAlone i (Some h) (succeeded Bool E b) w v x y
        → ((m : CircuitWorld) → HoldsWorld (step_circuit s) m xs → StopsInStep i (step_circuit s) m h s (succeeded Bool E b) xs (nodes_over v y.held) x.pairs y.pairs)
        → ((d : CircuitId) (m : CircuitWorld) → bytes_eq (step_circuit s) d ≡ false → HoldsWorld d m xs → HoldsWorld d (circuit_happens m (Stops (step_node s))) (nodes_over v y.held))
        → ((m : CircuitWorld) → HoldsWorld (step_circuit s) m xs → Some k ≡ bit_in m s (keeps h)) → HaltsStep s h (succeeded (Option Bit) E (Some k)) w v x y
    halts_up k alone stopped others told = record {
      leaves = halted_ok (Some k) alone.leaves.sits alone.leaves;
      bit = told;
      own = λ m held. (stopped m held).own;
      others = others;
      only = only_of xs i (step_node s) x.pairs y.pairs at alone.only;
      slot = record {
        index = i;
        slot = here;
        there = there;
        id_is = same_at w.slots.items i here (step_node s) there at;
        stop = alone.picks here there;
        risen = λ each held. (stopped (each (step_circuit s)) (held (step_circuit s))).risen here there;
      };
      ended = λ m held. tt;
    }

    -- and no memory is left in it
    pub halts_short : {E : Type 0} {e : E} (q : Result (Option Bit) E) → IsErr q → StopsAlone i (Some h) (short Bool E e) w v x y
        → ((m : CircuitWorld) → HoldsWorld (step_circuit s) m xs → StopsInStep i (step_circuit s) m h s (short Bool E e) xs (nodes_over v y.held) x.pairs y.pairs) → HaltsStep s h q w v x y
    halts_short q is alone stopped = record {
      leaves = halted_so q (off_ok _ q is) alone.leaves;
      bit = λ m held. off_if _ q is;
      own = λ m held. off_ok _ q is;
      others = λ d m other held. off_ok _ q is;
      only = only_of xs i (step_node s) x.pairs y.pairs at alone.only;
      slot = off_ok _ q is;
      ended = λ m held. on_err q (stopped m held).ended;
    }

-- ---- a line that stops a node

-- it is such a step
pub record IsStepOf (l : Line) (s : Step) (h : Stopping) (say : Bit → Answer) : Type 0 where
  pub named : (n : NodeId) → stops_at n l ≡ bytes_eq n (step_node s)
  pub kept : keeps h ≡ keeps_record l
  pub answer : (worlds : CircuitId → CircuitWorld) (roll : NodeId → Answer) → line_answer worlds roll l (keeps_record l) ≡ halt_answer say (worlds (step_circuit s)) s (keeps_record l)
  pub world : (c : CircuitId) (m : CircuitWorld)
      → world_after_line c m (by_rule l) ≡ (if bytes_eq (step_circuit s) c then circuit_happens m (Halts (keeps_record l) s) else circuit_happens m (Stops (step_node s)))
  pub slot : (xs : Nodes) (old new : List PairView) → StopsSlot (step_node s) (Some h) (λ worlds. FailsBy (worlds (step_circuit s)) h s) xs old new
      → StopsSlot (step_node s) (stopping_of l) (λ worlds. FailsIn worlds l) xs old new
  pub ended : (worlds : CircuitId → CircuitWorld) (xs : Nodes) → Sits xs → ((c : CircuitId) → HoldsWorld c (worlds c) xs) → (is : List Images)
      → EventEnds (step_circuit s) (circuit_happens (worlds (step_circuit s)) (Halts true s)) NoMemory xs is → LineEnds worlds l NoMemory (ids_in xs) (slot_places xs.slots) is

pub cut_is : (calls : ℕ) (f : Fill) (s : Step) → IsStepOf (line.Cut calls f s) s (stopping.Cut calls f) answer.Cut
cut_is calls f s = record {
  named = λ n. refl;
  kept = keeps_cut calls f s;
  answer = λ worlds roll. refl;
  world = λ c m. refl;
  slot = λ xs old new stop. stop;
  ended = λ worlds xs sits holds is ends. ended_cut worlds xs sits holds is calls f s ends;
}

pub fail_is : (call : ℕ) (s : Step) → is_line (line.Fail call s) ≡ true → IsStepOf (line.Fail call s) s (stopping.Fail call) answer.Fault
fail_is call s fits = record {
  named = λ n. refl;
  kept = keeps_fail call s (fail_from_one call s fits);
  answer = λ worlds roll. refl;
  world = λ c m. refl;
  slot = λ xs old new stop. stop;
  ended = λ worlds xs sits holds is ends. ended_fail worlds xs sits holds is call s ends;
}

module _ {E : Type 0} (w v : World) (x y : DisksView) where
  module _ {l : Line} {s : Step} {h : Stopping} {say : Bit → Answer} (one : IsStepOf l s h say) where
    pub step_halts : {b : Option Bit} (a : Answer) → a ≡ bit_answer say b → HaltsStep s h (succeeded (Option Bit) E b) w v x y → HaltsNode l (succeeded Answer E a) w v x y
    step_halts a told step = record {
      leaves = halted_ok a step.leaves.sits step.leaves;
      answer = λ worlds roll held.
          let m = worlds (step_circuit s) in
          told ∙ ap (bit_answer say) (step.bit m (held (step_circuit s))) ∙ said_so say m s (keeps h) ∙ ap (halt_answer say m s) one.kept ∙ sym (one.answer worlds roll);
      holds = λ c m held. subst (λ (u : CircuitWorld). HoldsWorld c u (nodes_over v y.held)) (sym (one.world c m))
          (halted_each c m s (keeps_record l) (nodes_over w x.held) (nodes_over v y.held) held
          (λ u old. subst (λ (b : Bool). HoldsWorld (step_circuit s) (circuit_happens u (Halts b s)) (nodes_over v y.held)) one.kept (step.own u old)) step.others);
      only = record { here = step_node s; named = one.named; node = step.only };
      slot = record { here = step_node s; named = one.named; slot = one.slot (nodes_over w x.held) x.pairs y.pairs step.slot };
      ended = λ worlds held. tt;
    }

    pub step_short : {e : E} (q : Result Answer E) → IsErr q → Sits (nodes_over w x.held) → HaltsStep s h (short (Option Bit) E e) w v x y → HaltsNode l q w v x y
    step_short q is sits step = record {
      leaves = halted_so q (off_ok _ q is) step.leaves;
      answer = λ worlds roll held. off_if _ q is;
      holds = λ c m held. off_ok _ q is;
      only = record { here = step_node s; named = one.named; node = step.only };
      slot = off_ok _ q is;
      ended = λ worlds held. on_err q (one.ended worlds (nodes_over w x.held) sits held y.held (step.ended (worlds (step_circuit s)) (held (step_circuit s))));
    }

  -- or a stop between events
  module _ (i : ℕ) (n : NodeId) (at : slice_get (world_node_ids w) i ≡ Some n) where
    pub stop_halts : {A : Type 0} {u : A} → StopsAlone i None (succeeded A E u) w v x y
        → ((c : CircuitId) (m : CircuitWorld) → HoldsWorld c m (nodes_over w x.held) → HoldsWorld c (circuit_happens m (Stops n)) (nodes_over v y.held))
        → HaltsNode (line.Stop n) (succeeded Answer E (answer.Power false)) w v x y
    stop_halts alone holds =
        let z = mapped_there slot_id w.slots.items i n at in
        record {
          leaves = halted_ok (answer.Power false) alone.leaves.sits alone.leaves;
          answer = λ worlds roll held. refl;
          holds = holds;
          only = record { here = n; named = λ k. refl; node = only_of (nodes_over w x.held) i n x.pairs y.pairs at alone.only };
          slot = record {
            here = n;
            named = λ k. refl;
            slot = record { index = i; slot = z.0; there = z.1; id_is = z.2; stop = alone.picks z.0 z.1; risen = λ worlds held. tt };
          };
          ended = λ worlds held. tt;
        }

    pub stop_short : {A : Type 0} {e : E} (q : Result Answer E) → IsErr q → Sits (nodes_over w x.held) → StopsAlone i None (short A E e) w v x y
        → ((c : CircuitId) (m : CircuitWorld) → HoldsWorld c m (nodes_over w x.held) → EventEnds c m NoMemory (nodes_over w x.held) y.held) → HaltsNode (line.Stop n) q w v x y
    stop_short q is sits alone ends = record {
      leaves = halted_so q (off_ok _ q is) alone.leaves;
      answer = λ worlds roll held. off_if _ q is;
      holds = λ c m held. off_ok _ q is;
      only = record { here = n; named = λ k. refl; node = only_of (nodes_over w x.held) i n x.pairs y.pairs at alone.only };
      slot = off_ok _ q is;
      ended = λ worlds held. on_err q (ended_stop worlds (nodes_over w x.held) sits held y.held (line.Stop n) n (ends n (worlds n) (held n)));
    }

-- ---- lines

-- no node that starts has a journal that isn't one
pub starts_off : {A : Type 0} (l : Line) (r : Result A WorldFault) (w : World) → IfErr r (λ e. is_of_journal e ≡ false) → StartsFrom l r w
starts_off l r w off = record { place = λ k at q. absurd (no_journal r off k at q); own = λ n k at same q. absurd (no_journal r off k at q) }

-- a line that isn't a calm is one event
pub one_of : (worlds : CircuitId → CircuitWorld) (l : Line) → is_calm l ≡ false → line_events worlds l ≡ 1
one_of worlds (line.Calm c k) h = absurd cc
one_of worlds _ h = refl

module _ (o : Origin) (others : ℕ) (before : List Ran) (l : Line) where
  -- whether the world is halted says nothing of a line that ran
  pub ran_still : {r : Result Answer WorldFault} {w v : World} {is : List Images} (b : Bool) → RunsLine o others before l r w v is
      → RunsLine o others before l r w (record v { halted = b }) is
  ran_still {r} {w} {v} {is} b h = record { answer = h.answer; stands = at_ok r (stands_still (with_line before l) v is b) h.stands; ended = h.ended }

  pub steps_still : {r : Result Answer WorldFault} {w v : World} {x y : Around} (b : Bool) → StepsLine o others before l r w v x y
      → StepsLine o others before l r w (record v { halted = b }) x y
  steps_still b h = record { ran = ran_still b h.ran; many = h.many; sound = h.sound; links = h.links }

  -- it ended with an error before anything happened
  module _ (w : World) (is : List Images) (stands : StandsAfterLines o others before w is) where
    pub ran_early : {f : WorldFault} (v : World) → IsPlain f → RunsLine o others before l (failed Answer f) w v is
    ran_early {f} v plain = record { answer = tt; stands = tt; ended = ended_still before w is stands f (λ k q. absurd (plain.disk k q)) l is refl }

    pub halts_early : {f : WorldFault} (v : World) (r : Result Answer WorldFault) → IsErr r × IsErrAnd r (λ y. y ≡ f) → IsPlain f
        → ((which : ℕ) → f ≡ TooMany which → IsOverLimit o others (with_line before l) which) → HaltsLine o others before l r w v is
    halts_early {f} v r same plain many = subst (λ (z : Result Answer WorldFault). HaltsLine o others before l z w v is) (sym (fails_is r f same)) (record { ran = ran_early v plain; many = λ which q. many which (cc) })

  module _ (w : World) (x : Around) (stands : StandsAfterLines o others before w x.disks.held) where
    pub steps_early : {f : WorldFault} (v : World) (r : Result Answer WorldFault) → IsErr r × IsErrAnd r (λ y. y ≡ f) → IsPlain f
        → ((which : ℕ) → f ≡ TooMany which → (which ≡ 1) × (MOST_EVENTS < events_of o (with_line before l) + others)) → StepsLine o others before l r w v x x
    steps_early {f} v r is plain many = subst (λ (z : Result Answer WorldFault). StepsLine o others before l z w v x x) (sym (fails_is r f is)) (record {
      ran = ran_early w x.disks.held stands v plain;
      many = λ which q. many which (cc);
      sound = no_journal (failed Answer f) plain.journal;
      links = λ place placed. fails_early (failed Answer f) f (refl, refl) plain.links (line_carried place (λ c. whole_world o c before) l) x.links;
    })

    -- so where there are too many events
    pub steps_over : {f : WorldFault} (v : World) (n : ℕ) (r : Result Answer WorldFault) → IsErr r × IsErrAnd r (λ y. y ≡ f) → is_line l ≡ true
        → is_calm l ≡ false → Counts (failed (Unit {0}) f) w.events n 0 1 → IsErrOf (failed (Unit {0}) f) (TooMany 1) → StepsLine o others before l r w v x x
    steps_over {f} v n r is fits single counts only = steps_early v r is (is_limit f 1 (cc))
        (λ which q. over_line (failed (Unit {0}) f) n which w x.disks.held before l 1 stands fits (one_of (λ c. whole_world o c before) l single) counts (ap (failed (Unit {0})) q))

    -- it is answered, and nothing was carried
    pub steps_done : (v : World) (y : Around) (a : Answer) → a ≡ answer_to o before (by_rule l) → StandsAfterLines o others (with_line before l) v y.disks.held → ((place : NodeId → ℕ) → line_carried place (λ c. whole_world o c before) l ≡ []) → Carries [] x.links y.links
        → StepsLine o others before l (done Answer a) w v x y
    steps_done v y a told after none idle = record {
      ran = record { answer = told; stands = after; ended = tt };
      many = λ which q. absurd cc;
      sound = λ k at q. cc;
      links = λ place placed. subst (λ (cs : List Carried). Carries cs x.links y.links) (sym (none place)) idle;
    }

    -- a step of it ran, and was counted
    pub step_ran : (v : World) (y : Around) (s : Step) (r : Result Answer WorldFault) → l ≡ line.Step s → is_line l ≡ true → v.events ≡ w.events + 1 → v.stops ≡ w.stops → world_node_ids v ≡ world_node_ids w → OnOk r (Sits (nodes_over v y.disks.held)) → ((k : ℕ) → IsErrOf r (Disk k) → IsPlace (places_of w) k) → FailsInEvent r
        → RunsStep s r (nodes_over w x.disks.held) (nodes_over v y.disks.held) → CarriesStep s r w x y → StepsLine o others before l r w v x y
    step_ran v y s r l_is fits counted stops ids sits place faults event links = record {
      ran = record {
        answer = step_result r o stands.begins before l s l_is stands.fit fits (event.answer (whole_world o (step_circuit s) before) (stands.each (step_circuit s)));
        stands = subst (λ (k : Line). OnOk r (StandsAfterLines o others (with_line before k) v y.disks.held)) (sym l_is) (
            let own = subst (λ (k : Line). is_line k ≡ true) l_is fits in
            let all = counted_line v.events w x.disks.held before (line.Step s) 1 stands own refl (omega (arith, counted)) in
            ok_both r (λ moves sat. stands_after before (line.Step s) (step_circuit s) w v x.disks.held y.disks.held refl own
            (λ m. refl) refl stops ids stands all moves sat) event.moves sits
            );
        ended = ended_by before w x.disks.held stands r l s y.disks.held l_is place (event.ended (whole_world o (step_circuit s) before) (stands.each (step_circuit s)));
      };
      many = λ which q. absurd (faults.few which q);
      sound = no_journal r faults.sound;
      links = λ seat placed. subst (λ (k : Line). DeliversMessages r (line_carried seat (λ c. whole_world o c before) k) x.links y.links) (sym l_is)
          (links seat (whole_world o (step_circuit s) before) placed (stands.each (step_circuit s)));
    }

-- it was counted, and nothing happened
pub halts_before : {l : Line} {w v : World} {x : DisksView} {f : WorldFault} (r : Result Answer WorldFault) → IsErr r × IsErrAnd r (λ y. y ≡ f) → IsPlain f
    → v.slots ≡ w.slots → Sits (nodes_over w x.held)
    → ((o : Origin) (others : ℕ) (before : List Ran) → StandsAfterLines o others before w x.held → (which : ℕ) → f ≡ TooMany which
    → IsOverLimit o others (with_line before l) which) → LineHalts l r w v x x
halts_before {l} {w} {v} {x} r is plain same sits many = record {
  leaves = halted_early r w v same x sits;
  runs = λ o others before stands. halts_early o others before l w x.held stands v r is plain (many o others before stands);
  one = changes_none l w x.pairs;
  slot = off_ok _ r is.0;
  faults = halt_faults r is plain;
}

-- ---- all of a line

module _ {l : Line} {w v : World} {x : Around} where
  -- it failed before anything happened, which changes nothing
  runs_early : {f : WorldFault} (r : Result Answer WorldFault) → v.slots ≡ w.slots → IsErr r × IsErrAnd r (λ y. y ≡ f) → IsPlain f → Stepping l r w v x x → RunsOrFails l r w v x x
  runs_early {f} r same is plain steps = record {
    leaves = left_early r is plain same;
    steps = steps;
    refused = λ why. off_if _ r is.0;
    journal = subst (λ (z : Result Answer WorldFault). StartsFrom l z w) (sym (fails_is r f is)) (starts_off l (failed Answer f) w plain.journal);
  }

  -- so where there are too many events
  pub runs_over : {f : WorldFault} {n : ℕ} (r : Result Answer WorldFault) → v.slots ≡ w.slots → IsErr r × IsErrAnd r (λ y. y ≡ f) → is_line l ≡ true
      → is_calm l ≡ false → Counts (failed (Unit {0}) f) w.events n 0 1 → IsErrOf (failed (Unit {0}) f) (TooMany 1) → RunsOrFails l r w v x x
  runs_over {f} {n} r same is fits single counts only =
      runs_early r same is (is_limit f 1 (cc)) (λ o others before stands. steps_over o others before l w x stands v n r is fits single counts only)

  -- and where memory ran out
  pub runs_short : (r : Result Answer WorldFault) → v.slots ≡ w.slots → IsErr r × IsErrAnd r (λ y. y ≡ NoMemory) → RunsOrFails l r w v x x
  runs_short r same is = runs_early r same is is_memory (λ o others before stands. steps_early o others before l w x stands v r is is_memory (λ which q. absurd cc))

-- whether the world is halted says nothing of a line that ran
pub runs_still : {l : Line} {r : Result Answer WorldFault} {w v : World} {x y : Around} (b : Bool) → RunsOrFails l r w v x y → RunsOrFails l r w (record v { halted = b }) x y
runs_still {l} b h = record {
  leaves = call_still b h.leaves;
  steps = λ o others before stands. steps_still o others before l b (h.steps o others before stands);
  refused = h.refused;
  journal = h.journal;
}

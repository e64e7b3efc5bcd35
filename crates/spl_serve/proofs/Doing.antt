-- What a node does in its turns, as what a process does among others.
use Rattle.std.{specs.{Prelude.{ℕ, not, nat_le, length, if◌then◌else◌}, List.list_all, Str.bytes_eq}, proofs.Common.{◌≡◌, Bool, true, false, ◌&&◌, IsTrue}}
use Rattle.std.proofs.Common.{List, [], ◌∷◌, ◌++◌, Option, Some, None, refl, sym, ◌∙◌, ap, subst}
use Rattle.spl_base.specs.{Booleans.bytes_same, FormLaws.both_true, Ids.{is_node_id, is_circuit_id}, declared.limit.TheConstants.LONGEST_LINE}
use Rattle.spl_circuit.specs.Nodes.{NodeId, CircuitId, has_node}
use Rattle.spl_lines.specs.Lines.{is_silent}
use Rattle.spl_wire.specs.{Messages.circuit_of, declared.event.Event.Event}
use Rattle.spl_wire.specs.declared.event.Event.TheVariants as event
use Rattle.spl_sched.specs.{Grammar.{is_event, is_line, is_step, line_of, line_nodes, spelling}, declared.line.Line.Line}
use Rattle.spl_sched.specs.declared.line.Line.TheVariants as line
use Rattle.spl_sched.specs.declared.line.Step.TheVariants as step
use Rattle.spl_cell_rules.specs.Cells.{Cell}
use Rattle.spl_circuit_world.specs.Projection.{IsPlainEvent}
use Rattle.spl_node.specs.{Kept.cells_after, Turns.{At, cells_through}}
use Rattle.spl_deployment.specs.Doings.{cells_done, cells_from}
use Rattle.spl_serve.specs.{Asking.{asked_among, asked_besides, asked_by_line, asked_of, asked_watch, is_tick, with_node_name, waits_in}, Hearing.is_heard}
use Rattle.spl_serve.specs.{Processes.{AllMayDo, MayDo, doing_at, doings_of}, Served.Served, Turns.{AllBring, Brings, BringsAsked, Deed, Handles, cells_past}}
use Rattle.spl_serve.{specs.{Turns.{events_in, served_past}, declared.{line.Asked.Asked, outside.Arrival.Arrival}}, proofs.Deeds.{events_append, past_cells}}
use Rattle.spl_serve.specs.declared.line.Asked.TheVariants as asked
use Rattle.spl_serve.specs.declared.outside.Arrival.TheVariants as arrival
use Rattle.spl_delta.specs.{Watches.{watch_line_of, watch_node}, declared.line.WatchLine.WatchLine}

-- ---- the cells

pub done_at : (here : NodeId) (cells : CircuitId → Cell) (c : CircuitId) (e : Event) → cells_after here cells c e ≡ cells_done here cells (doing_at c e)
done_at here cells c (event.Deliver from m) = refl
done_at here cells c _ = refl

through_from : (here : NodeId) (cells : CircuitId → Cell) (es : List At) → cells_through here cells es ≡ cells_from here cells (doings_of es)
through_from here cells [] = refl
through_from here cells (e ∷ es) =
    through_from here (cells_after here cells e.0 e.1) es ∙ ap (λ (f : CircuitId → Cell). cells_from here f (doings_of es)) (done_at here cells e.0 e.1)

past_from : (here : NodeId) (cells : CircuitId → Cell) (ds : List Deed) → cells_past here cells ds ≡ cells_from here cells (doings_of (events_in ds))
past_from here cells ds = through_from here cells (events_in ds)

pub served_from : (here : NodeId) (z : Served) (ds : List Deed) → (served_past here z ds).cells ≡ cells_from here z.cells (doings_of (events_in ds))
served_from here z ds = past_cells here z ds ∙ past_from here z.cells ds

-- ---- what may be done

may_append : (here : NodeId) (es fs : List At) → AllMayDo here (doings_of es) → AllMayDo here (doings_of fs) → AllMayDo here (doings_of (es ++ fs))
may_append here [] fs h k = k
may_append here (e ∷ es) fs h k = (h.0, may_append here es fs h.1 k)

may_run : (here : NodeId) (c : CircuitId) (e : Event) → IsPlainEvent e → MayDo here (doing_at c e)
may_run here c (event.Deliver from m) h = absurd h
may_run here c _ h = tt

plain_by : (c : CircuitId) (e : Event) → is_event c e ≡ true → IsPlainEvent e
plain_by c (event.Deliver from x) h = absurd cc
plain_by c _ h = tt

abbrev AsksPlain : Option Asked → Type 0
AsksPlain (Some (asked.At c e)) = IsPlainEvent e
AsksPlain _ = Unit {0}

plain_at : (n : NodeId) (c : CircuitId) (e : Event) (own tick : Bool) → is_step (step.At n c e) ≡ true
    → AsksPlain (if own then (if tick then None else Some (asked.At c e)) else None)
plain_at n c e true false h = plain_by c e (both_true (is_node_id n && is_circuit_id c) (is_event c e) h).1
plain_at n c e true true h = tt
plain_at n c e false tick h = tt

plain_roll : (own : Bool) → AsksPlain (if own then Some asked.Roll else None)
plain_roll true = tt
plain_roll false = tt

plain_of : (here : NodeId) (l : Line) → is_line l ≡ true → AsksPlain (asked_of here l)
plain_of here (line.Step (step.At n c e)) h = plain_at n c e (bytes_eq n here) (is_tick e) h
plain_of here (line.Step (step.Deliver from to c k)) h = tt
plain_of here (line.Roll n) h = plain_roll (bytes_eq n here)
plain_of here l h = tt

plain_if : (b : Bool) (o : Option Asked) → AsksPlain o → AsksPlain (if b then o else None)
plain_if true o h = h
plain_if false o h = tt

plain_unless : (b : Bool) (o : Option Asked) → AsksPlain o → AsksPlain (if b then None else o)
plain_unless true o h = tt
plain_unless false o h = h

module _ (law : (bytes : List ℕ) (l : Line) → line_of bytes ≡ Some l → (bytes ≡ spelling l) × IsTrue (is_line l)) where
  plain_watch : (here : NodeId) (w : Option WatchLine) → AsksPlain (asked_watch here w)
  plain_watch here None = tt
  plain_watch here (Some l) = plain_if (bytes_eq (watch_node l) here) (Some (asked.OfWatcher l)) tt

  plain_besides : (here : NodeId) (b : Option CircuitId) (w : Option WatchLine) → AsksPlain (asked_besides here b w)
  plain_besides here None w = plain_watch here w
  plain_besides here (Some c) w = tt

  plain_among : (here : NodeId) (ns : List NodeId) (bytes : List ℕ) (b : Option Asked) (o : Option Line) → AsksPlain b → line_of bytes ≡ o
      → AsksPlain (asked_among here ns b o)
  plain_among here ns bytes b None h is = h
  plain_among here ns bytes b (Some l) h is = plain_if (list_all (has_node ns) (line_nodes l)) (asked_of here l) (plain_of here l (law bytes l is).1)

  plain_asked : (here : NodeId) (ns : List NodeId) (bytes : List ℕ) → AsksPlain (asked_by_line here ns bytes)
  plain_asked here ns bytes = plain_unless (is_silent bytes) _
      (plain_if (nat_le (length bytes) LONGEST_LINE) _
      (plain_among here ns (with_node_name here bytes) (asked_besides here (waits_in bytes) (watch_line_of (with_node_name here bytes)))
      (line_of (with_node_name here bytes))
      (plain_besides here (waits_in bytes) (watch_line_of (with_node_name here bytes))) refl))

  may_asked : (here : NodeId) (z : Served) (caller : ℕ) (o : Option Asked) (ds : List Deed) → AsksPlain o → BringsAsked here z caller o ds
      → AllMayDo here (doings_of (events_in ds))
  may_asked here z caller None ds h k = subst (λ (es : List Deed). AllMayDo here (doings_of (events_in es))) (sym k) tt
  may_asked here z caller (Some (asked.At c e)) ds h k = subst (λ (es : List Deed). AllMayDo here (doings_of (events_in es))) (sym k) (may_run here c e h, tt)
  may_asked here z caller (Some (asked.Waits c)) ds h k = subst (λ (es : List Deed). AllMayDo here (doings_of (events_in es))) (sym k) tt
  may_asked here z caller (Some (asked.OfWatcher l)) ds h k = subst (λ (es : List Deed). AllMayDo here (doings_of (events_in es))) (sym k) tt
  may_asked here z caller (Some asked.Roll) ds h k = subst (λ (es : List Deed). AllMayDo here (doings_of (events_in es))) (sym k.2) tt

  apart : (b may : Bool) → (not b && may) ≡ true → b ≡ false
  apart true may h = cc
  apart false may h = refl

  may_hear : (here from : NodeId) (m : _) (b : Bool) → is_heard here from m ≡ b
      → AllMayDo here (doings_of (events_in (if b then Handles None (circuit_of m, event.Deliver from m) ∷ [] else [])))
  may_hear here from m true h = ((apart (bytes_eq from here) _ h, bytes_same (circuit_of m)), tt)
  may_hear here from m false h = tt

  may_one : (here : NodeId) (ns : List NodeId) (z : Served) (a : Arrival) (ds : List Deed) → Brings here ns z a ds → AllMayDo here (doings_of (events_in ds))
  may_one here ns z (arrival.Line caller bytes) ds h = may_asked here z caller (asked_by_line here ns bytes) ds (plain_asked here ns bytes) h
  may_one here ns z (arrival.Message from m) ds h =
      subst (λ (es : List Deed). AllMayDo here (doings_of (events_in es))) (sym h) (may_hear here from m (is_heard here from m) refl)
  may_one here ns z (arrival.Stop caller) ds h = subst (λ (es : List Deed). AllMayDo here (doings_of (events_in es))) (sym h) tt
  may_one here ns z (arrival.Tick c) ds h = subst (λ (es : List Deed). AllMayDo here (doings_of (events_in es))) (sym h) (tt, tt)

  pub may_all : (here : NodeId) (ns : List NodeId) (z : Served) (came : List Arrival) (ds : List Deed) → AllBring here ns z came ds
      → AllMayDo here (doings_of (events_in ds))
  may_all here ns z [] ds h = subst (λ (es : List Deed). AllMayDo here (doings_of (events_in es))) (sym h) tt
  may_all here ns z (a ∷ came) ds h = subst (λ (es : List Deed). AllMayDo here (doings_of (events_in es))) (sym h.2)
      (subst (λ (es : List At). AllMayDo here (doings_of es)) (sym (events_append h.0 h.1))
      (may_append here (events_in h.0) (events_in h.1) (may_one here ns z a h.0 h.3) (may_all here ns (served_past here z h.0) came h.1 h.4)))

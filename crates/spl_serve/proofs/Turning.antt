-- What a turn holds after what came.
use Rattle.std.{specs.Prelude.ℕ, proofs.Common.{◌≡◌, Bool, false, ◌||◌, List, [], ◌∷◌, ◌++◌, Option, refl, sym, ◌∙◌, ap, subst, append_assoc}}
use Rattle.std.proofs.lemmas.List.{append-nil}
use Rattle.spl_circuit.specs.Nodes.{NodeId, CircuitId}
use Rattle.spl_journal.specs.Records.{AreGood}
use Rattle.spl_wire.specs.declared.event.Event.{Event}
use Rattle.spl_cell_rules.specs.Cells.{Cell, site_at}
use Rattle.spl_node.specs.{Records.is_record, Stands.{here_of, is_node_halted}, Turns.{At, Handled}, declared.turn.Turn.Turn}
use Rattle.spl_delta.specs.{Kept.watchers_of, Watches.Watcher, declared.line.WatchLine.WatchLine}
use Rattle.spl_serve.specs.{Outside.{PortsView, asks_to_stop, grown_by, arrivals_stop}, Processes.TakesAll, Served.{Served, watchers_past}}
use Rattle.spl_serve.specs.{Servers.{TurnGoesOn, Serves, TakesArrivals, TakesOne, deed_slot, slots_of, turn_cells, turn_here, turn_served}, Turns.AllBring}
use Rattle.spl_serve.specs.{Turns.{Deed, Handles, IsRoll, Tells, Watches, ended, events_in, served_past, watch_ended}, Waits.waits_at}
use Rattle.spl_serve.{specs.declared.{outside.Arrival.Arrival, turn.{ServerTurn.ServerTurn, Slot.Slot}}, proofs.Deeds.{brings_append, brings_one}}
use Rattle.spl_serve.proofs.{Deeds.{events_append, past_append, past_cells, slots_append}, Coming.{grown_none, grown_twice, stops_append, stops_one}}
use Rattle.spl_serve.specs.declared.turn.Slot.TheVariants as slot

-- ---- what is served

-- cells and watchers that are those of what is served make it
pub served_is : (cells : CircuitId → Cell) (watchers : CircuitId → List Watcher) (z : Served) → cells ≡ z.cells → watchers ≡ z.watchers
    → record { cells = cells; watchers = watchers } ≡ z
served_is cells watchers z h k = λ i. record { cells = h i; watchers = k i }

-- what a turn serves
pub serves_is : (here : NodeId) (before : Served) (ds : List Deed) (t : ServerTurn) → Serves here before ds t → turn_served t ≡ served_past here before ds
serves_is here before ds t was = served_is (turn_cells t) (watchers_of t.watchers) (served_past here before ds)
    ((λ i c. was.turn.cells c i) ∙ sym (past_cells here before ds)) (λ i c. was.watchers c i)

-- ---- one thing more

slots_more : (here : NodeId) (before : Served) (ds : List Deed) (d : Deed) (old new : List Slot) → old ≡ slots_of here before ds
    → new ≡ old ++ deed_slot (served_past here before ds) d ∷ [] → new ≡ slots_of here before (ds ++ d ∷ [])
slots_more here before ds d old new was more =
    more ∙ ap (λ (ss : List Slot). ss ++ deed_slot (served_past here before ds) d ∷ []) was ∙ sym (slots_append here before ds (d ∷ []))

-- watchers that stay, by something that leaves them
watchers_still : (here : NodeId) (before : Served) (ds : List Deed) (d : Deed) (old new : CircuitId → List Watcher) → new ≡ old
    → ((c : CircuitId) → old c ≡ (served_past here before ds).watchers c)
    → (served_past here (served_past here before ds) (d ∷ [])).watchers ≡ (served_past here before ds).watchers
    → (c : CircuitId) → new c ≡ (served_past here before (ds ++ d ∷ [])).watchers c
watchers_still here before ds d old new same was leaves c =
    ap (λ (f : CircuitId → List Watcher). f c) same ∙ was c ∙ ap (λ (f : CircuitId → List Watcher). f c) (sym leaves)
    ∙ ap (λ (z : Served). z.watchers c) (sym (past_append here before ds (d ∷ [])))

-- a turn that handled one event more
pub serves_event : (here : NodeId) (before : Served) (ds : List Deed) (caller : Option ℕ) (e : At) (t u : ServerTurn) (m : Turn) → Serves here before ds t
    → m ≡ t.turn
    → (Handled here before.cells (events_in ds) m → Handled here before.cells (events_in ds ++ e ∷ []) u.turn)
    → u.slots.items ≡ t.slots.items ++ slot.Event caller ∷ []
    → u.watchers ≡ t.watchers
    → Serves here before (ds ++ Handles caller e ∷ []) u
serves_event here before ds caller e t u m was same handled slots watchers = record {
  turn = subst (λ (es : List At). Handled here before.cells es u.turn) (sym (events_append ds (Handles caller e ∷ [])))
      (handled (subst (Handled here before.cells (events_in ds)) (sym same) was.turn));
  slots = slots_more here before ds (Handles caller e) t.slots.items u.slots.items was.slots slots;
  watchers = watchers_still here before ds (Handles caller e) (watchers_of t.watchers) (watchers_of u.watchers) (ap watchers_of watchers) was.watchers refl;
}

-- and one that tells one text more
pub serves_text : (here : NodeId) (before : Served) (ds : List Deed) (caller : ℕ) (bytes : List ℕ) (t u : ServerTurn) → Serves here before ds t
    → u.turn ≡ t.turn → u.slots.items ≡ t.slots.items ++ slot.Text caller bytes ∷ [] → u.watchers ≡ t.watchers
    → Serves here before (ds ++ Tells caller bytes ∷ []) u
serves_text here before ds caller bytes t u was same slots watchers = record {
  turn = subst (λ (es : List At). Handled here before.cells es u.turn) (sym (events_append ds (Tells caller bytes ∷ []) ∙ append-nil (events_in ds)))
      (subst (Handled here before.cells (events_in ds)) (sym same) was.turn);
  slots = slots_more here before ds (Tells caller bytes) t.slots.items u.slots.items was.slots slots;
  watchers = watchers_still here before ds (Tells caller bytes) (watchers_of t.watchers) (watchers_of u.watchers) (ap watchers_of watchers) was.watchers refl;
}

-- and one that answered one line of a watcher more
pub serves_watch : (here : NodeId) (before : Served) (ds : List Deed) (caller : ℕ) (l : WatchLine) (bytes : List ℕ) (t u : ServerTurn) → Serves here before ds t
    → u.turn ≡ t.turn → u.slots.items ≡ t.slots.items ++ slot.Text caller bytes ∷ []
    → bytes ≡ watch_ended (turn_served t) l
    → ((c : CircuitId) → watchers_of u.watchers c ≡ watchers_past (turn_served t) l c)
    → Serves here before (ds ++ Watches caller l ∷ []) u
serves_watch here before ds caller l bytes t u was same slots told watchers = record {
  turn = subst (λ (es : List At). Handled here before.cells es u.turn) (sym (events_append ds (Watches caller l ∷ []) ∙ append-nil (events_in ds)))
      (subst (Handled here before.cells (events_in ds)) (sym same) was.turn);
  slots = slots_more here before ds (Watches caller l) t.slots.items u.slots.items was.slots
      (slots ∙ ap (λ (bs : List ℕ). t.slots.items ++ slot.Text caller bs ∷ []) (told ∙ ap (λ (z : Served). watch_ended z l) (serves_is here before ds t was)));
  watchers = λ c. watchers c ∙ ap (λ (z : Served). watchers_past z l c) (serves_is here before ds t was)
      ∙ ap (λ (z : Served). z.watchers c) (sym (past_append here before ds (Watches caller l ∷ [])));
}

-- a turn to which nothing happened
pub serves_still : (here : NodeId) (before : Served) (ds : List Deed) (t : ServerTurn) → Serves here before ds t → Serves here before (ds ++ []) t
serves_still here before ds t was = subst (λ (es : List Deed). Serves here before es t) (sym (append-nil ds)) was

-- a turn goes on by what one that is the same does
pub goes_by : (t u : ServerTurn) (m : Turn) → m ≡ t.turn → here_of u.turn.node ≡ here_of m.node → u.turn.node.pairing ≡ m.node.pairing
    → is_node_halted u.turn.node ≡ false
    → (AreGood is_record m.records → AreGood is_record u.turn.records) → TurnGoesOn t u
goes_by t u m same here pairing running good = record {
  here_is = here ∙ ap (λ (x : Turn). here_of x.node) same;
  pairing_is = pairing ∙ ap (λ (x : Turn). x.node.pairing) same;
  running = running;
  good = λ h. good (subst (λ (x : Turn). AreGood is_record x.records) (sym same) h);
}

pub goes_none : (t : ServerTurn) → is_node_halted t.turn.node ≡ false → TurnGoesOn t t
goes_none t running = record { here_is = refl; pairing_is = refl; running = running; good = λ h. h }

pub goes_twice : (t u w : ServerTurn) → TurnGoesOn t u → TurnGoesOn u w → TurnGoesOn t w
goes_twice t u w a b = record { here_is = b.here_is ∙ a.here_is; pairing_is = b.pairing_is ∙ a.pairing_is; running = b.running; good = λ h. b.good (a.good h) }

-- the roll of the cells that a turn has
pub roll_past : (here : NodeId) (before : Served) (ds : List Deed) (t : ServerTurn) (ids : List CircuitId) → Serves here before ds t
    → IsRoll (turn_cells t) ids → IsRoll (served_past here before ds).cells ids
roll_past here before ds t ids was roll = subst (λ (z : Served). IsRoll z.cells ids) (serves_is here before ds t was) roll

-- what waits at the cells that a turn has
pub waits_past : (here : NodeId) (before : Served) (ds : List Deed) (t : ServerTurn) (c : CircuitId) → Serves here before ds t
    → ended (waits_at (site_at (turn_here t) c) (turn_cells t c)) ≡ ended (waits_at (site_at here c) ((served_past here before ds).cells c))
waits_past here before ds t c was =
    ap (λ (n : NodeId). ended (waits_at (site_at n c) (turn_cells t c))) was.turn.here_is
    ∙ ap (λ (z : Served). ended (waits_at (site_at here c) (z.cells c))) (serves_is here before ds t was)

-- ---- what comes one after another

pub takes_none : (here : NodeId) (ns : List NodeId) (before : Served) (ds : List Deed) (t : ServerTurn) → Serves here before ds t
    → TakesArrivals here ns before ds [] t
takes_none here ns before ds t was = record { more = []; brings = refl; serves = serves_still here before ds t was }

pub takes_one : (here : NodeId) (ns : List NodeId) (before : Served) (ds : List Deed) (a : Arrival) (at : Option CircuitId) (t : ServerTurn)
    → TakesOne here ns before ds a at t → TakesArrivals here ns before ds (a ∷ []) t
takes_one here ns before ds a at t h = record { more = h.more; brings = brings_one here ns (served_past here before ds) a h.more h.brings; serves = h.serves }

takes_twice : (here : NodeId) (ns : List NodeId) (before : Served) (ds : List Deed) (xs ys : List Arrival) (t u : ServerTurn)
    → (h : TakesArrivals here ns before ds xs t) → TakesArrivals here ns before (ds ++ h.more) ys u → TakesArrivals here ns before ds (xs ++ ys) u
takes_twice here ns before ds xs ys t u h k = record {
  more = h.more ++ k.more;
  brings = brings_append here ns (served_past here before ds) xs ys h.more k.more h.brings
      (subst (λ (f : Served). AllBring here ns f ys k.more) (past_append here before ds h.more) k.brings);
  serves = subst (λ (es : List Deed). Serves here before es u) (append_assoc ds h.more k.more) k.serves;
}

pub all_none : (ns : List NodeId) (v : Option PortsView) (t : ServerTurn) → is_node_halted t.turn.node ≡ false → TakesAll ns false v v t t
all_none ns v t running = record {
  came = [];
  stops_is = refl;
  ports = grown_none v;
  goes = goes_none t running;
  takes = λ here before ds was. takes_none here ns before ds t was;
}

pub all_twice : {p q : Bool} (ns : List NodeId) (v w x : Option PortsView) (t u y : ServerTurn) → TakesAll ns p v w t u → TakesAll ns q w x u y
    → TakesAll ns (q || p) v x t y
all_twice {p} {q} ns v w x t u y a b = record {
  came = a.came ++ b.came;
  stops_is = ap (λ (k : Bool). k || p) b.stops_is ∙ ap (λ (k : Bool). arrivals_stop b.came || k) a.stops_is ∙ sym (stops_append a.came b.came);
  ports = b.ports ∙ ap (grown_by b.came []) a.ports ∙ grown_twice a.came b.came [] [] v;
  goes = goes_twice t u y a.goes b.goes;
  takes = λ here before ds was. let h = a.takes here before ds was in
      takes_twice here ns before ds a.came b.came u y h (b.takes here before (ds ++ h.more) h.serves);
}

pub all_one : (ns : List NodeId) (p : Bool) (v w : Option PortsView) (a : Arrival) (at : Option CircuitId) (t u : ServerTurn) → p ≡ asks_to_stop a
    → w ≡ grown_by (a ∷ []) [] v → TurnGoesOn t u
    → ((here : NodeId) (before : Served) (ds : List Deed) → Serves here before ds t → TakesOne here ns before ds a at u)
    → TakesAll ns p v w t u
all_one ns p v w a at t u stops ports goes takes = record {
  came = a ∷ [];
  stops_is = stops ∙ sym (stops_one a);
  ports = ports;
  goes = goes;
  takes = λ here before ds was. takes_one here ns before ds a at u (takes here before ds was);
}

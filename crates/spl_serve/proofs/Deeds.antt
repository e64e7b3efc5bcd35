-- What a node does, one thing after another.
use Rattle.std.proofs.{Common.{◌≡◌, List, [], ◌∷◌, ◌++◌, refl, sym, ◌∙◌, ap, subst, append_assoc}, lemmas.List.append-nil}
use Rattle.spl_circuit.specs.Nodes.{NodeId}
use Rattle.spl_node.specs.Turns.{At, given_at, given_by_events}
use Rattle.spl_serve.specs.{Served.Served, Turns.{AllBring, Brings, Deed, Handles, Tells, Watches, cells_past, departures_by, departures_of, events_in}}
use Rattle.spl_serve.specs.{Turns.{given_out, served_after, served_past, watch_ended}, Servers.{handed, deed_slot, slots_of}}
use Rattle.spl_serve.specs.declared.{outside.{Arrival.Arrival, Departure.Departure}, turn.Slot.Slot}
use Rattle.spl_serve.specs.declared.outside.Departure.TheVariants as departure

pub events_append : (ds es : List Deed) → events_in (ds ++ es) ≡ events_in ds ++ events_in es
events_append [] es = refl
events_append (Handles caller e ∷ ds) es = ap (λ (xs : List At). e ∷ xs) (events_append ds es)
events_append (Tells caller bytes ∷ ds) es = events_append ds es
events_append (Watches caller l ∷ ds) es = events_append ds es

pub past_append : (here : NodeId) (z : Served) (ds es : List Deed) → served_past here z (ds ++ es) ≡ served_past here (served_past here z ds) es
past_append here z [] es = refl
past_append here z (d ∷ ds) es = past_append here (served_after here z d) ds es

-- the cells of what is served are those after the events
pub past_cells : (here : NodeId) (z : Served) (ds : List Deed) → (served_past here z ds).cells ≡ cells_past here z.cells ds
past_cells here z [] = refl
past_cells here z (Handles caller e ∷ ds) = past_cells here (served_after here z (Handles caller e)) ds
past_cells here z (Tells caller bytes ∷ ds) = past_cells here z ds
past_cells here z (Watches caller l ∷ ds) = past_cells here (served_after here z (Watches caller l)) ds

pub departures_append : (here : NodeId) (z : Served) (ds es : List Deed)
    → departures_of here z (ds ++ es) ≡ departures_of here z ds ++ departures_of here (served_past here z ds) es
departures_append here z [] es = refl
departures_append here z (d ∷ ds) es =
    ap (λ (xs : List Departure). departures_by here z d ++ xs) (departures_append here (served_after here z d) ds es)
    ∙ sym (append_assoc (departures_by here z d) (departures_of here (served_after here z d) ds) _)

pub slots_append : (here : NodeId) (z : Served) (ds es : List Deed)
    → slots_of here z (ds ++ es) ≡ slots_of here z ds ++ slots_of here (served_past here z ds) es
slots_append here z [] es = refl
slots_append here z (d ∷ ds) es = ap (λ (ss : List Slot). deed_slot z d ∷ ss) (slots_append here (served_after here z d) ds es)

-- what is handed out by the slots of deeds, with what their events gave
pub handed_is : (here : NodeId) (z : Served) (ds : List Deed)
    → handed (slots_of here z ds) (given_by_events here z.cells (events_in ds)) ≡ departures_of here z ds
handed_is here z [] = refl
handed_is here z (Tells caller bytes ∷ ds) = ap (λ (xs : List Departure). departure.Answer caller bytes ∷ xs) (handed_is here z ds)
handed_is here z (Watches caller l ∷ ds) =
    ap (λ (xs : List Departure). departure.Answer caller (watch_ended z l) ∷ xs) (handed_is here (served_after here z (Watches caller l)) ds)
handed_is here z (Handles caller e ∷ ds) =
    ap (λ (xs : List Departure). given_out caller (given_at here z.cells e) ++ xs) (handed_is here (served_after here z (Handles caller e)) ds)

-- ---- what comes brings

pub brings_one : (here : NodeId) (ns : List NodeId) (z : Served) (a : Arrival) (ds : List Deed) → Brings here ns z a ds → AllBring here ns z (a ∷ []) ds
brings_one here ns z a ds h = (ds, [], sym (append-nil ds), h, refl)

pub brings_append : (here : NodeId) (ns : List NodeId) (z : Served) (xs ys : List Arrival) (ds es : List Deed)
    → AllBring here ns z xs ds → AllBring here ns (served_past here z ds) ys es → AllBring here ns z (xs ++ ys) (ds ++ es)
brings_append here ns z [] ys ds es h k =
    subst (λ (zs : List Deed). AllBring here ns (served_past here z zs) ys es → AllBring here ns z ys (zs ++ es)) (sym h)
    (λ (g : AllBring here ns z ys es). g) k
brings_append here ns z (x ∷ xs) ys ds es h k = (
  h.0,
  h.1 ++ es,
  ap (λ (zs : List Deed). zs ++ es) h.2 ∙ append_assoc h.0 h.1 es,
  h.3,
  brings_append here ns (served_past here z h.0) xs ys h.1 es h.4
      (subst (λ (f : Served). AllBring here ns f ys es) (ap (served_past here z) h.2 ∙ past_append here z h.0 h.1) k),
)

-- What a turn that is kept hands out, and where it leaves the server.
use Rattle.std.{specs.Prelude.{◌^◌, map}, proofs.Common.{◌≡◌, false, List, [], ◌∷◌, Option, Some, None, ℕ, suc, ◌+◌, ◌<◌, length, refl, sym, ◌∙◌, ap, subst}}
use Rattle.std.proofs.lemmas.List.{length-map}
use Rattle.spl_circuit.specs.Nodes.{NodeId, CircuitId}
use Rattle.spl_edge.specs.Devices.{Image, PairView, image_now}
use Rattle.spl_snapshot.specs.Counting.{IfBoth}
use Rattle.spl_cell_rules.specs.Cells.{Cell}
use Rattle.spl_node.specs.{Stands.{NodeStands, StandFor, is_node_halted}, Turns.{At, Given, given_by_events, given_in}, Kept.cells_after}
use Rattle.spl_node.specs.declared.node.Outcome.{Outcome}
use Rattle.spl_serve.specs.{Served.Served, Servers.{ServerStands, handed, slots_of}, Turns.{Deed, departures_of, events_in}}
use Rattle.spl_serve.{specs.declared.{outside.Departure.Departure, server.Server.Server, turn.Slot.Slot}, proofs.Deeds.handed_is}

pub departs : (here : NodeId) (before : Served) (ds : List Deed) (out : List Departure) (ss : List Slot) (gs : List Given)
    → out ≡ handed ss gs → ss ≡ slots_of here before ds → gs ≡ given_by_events here before.cells (events_in ds) → out ≡ departures_of here before ds
departs here before ds out ss gs handed_by slots given =
    handed_by ∙ ap (λ (xs : List Slot). handed xs gs) slots ∙ ap (handed (slots_of here before ds)) given ∙ handed_is here before ds

pub server_stands : (r : Server) (q : PairView) (here : NodeId) (before : CircuitId → Cell) (o p : Option Image) → is_node_halted r.node ≡ false
    → IfBoth o p (λ i j. StandFor here before i.bytes j.bytes → NodeStands r.node (image_now q.first) (image_now q.second))
    → IfBoth o p (λ i j. StandFor here before i.bytes j.bytes → ServerStands r q)
server_stands r q here before None p running h = tt
server_stands r q here before (Some i) None running h = tt
server_stands r q here before (Some i) (Some j) running h = λ stands. record { running = running; stands = h stands }

given_count : (here : NodeId) (cells : CircuitId → Cell) (es : List At) → length (given_by_events here cells es) ≡ length es
given_count here cells [] = refl
given_count here cells (e ∷ es) = ap suc (given_count here (cells_after here cells e.0 e.1) es)

-- as many events were handled as gave something
pub events_given : (here : NodeId) (cells : CircuitId → Cell) (es : List At) (os : List Outcome) (old new : ℕ) → map given_in os ≡ given_by_events here cells es
    → (old + length os < 2 ^ 64 → new ≡ old + length os)
    → old + length es < 2 ^ 64 → new ≡ old + length es
events_given here cells es os old new given counted = subst (λ (n : ℕ). old + n < 2 ^ 64 → new ≡ old + n) same counted
  where
    same : length os ≡ length es
    same = sym (length-map os given_in) ∙ ap (λ (gs : List Given). length gs) given ∙ given_count here cells es

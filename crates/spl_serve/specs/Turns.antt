-- What a turn of a node process does with what came, and what leaves by it (docs/RULES.md, Node processes).
use Rattle.std.specs.{Prelude.{◌≡◌, ℕ, codes, List, [], ◌∷◌, ◌++◌, map, Option, Some, None, if◌then◌else◌}, List.{list_any, Sorted.IsStrictlySortedBy}}
use Rattle.std.specs.{Ordering.nat_cmp, Cmp.Lexicographic.slice_cmp, Str.bytes_eq}
use Rattle.spl_answer.specs.Texts.{answer_spelling}
use Rattle.spl_circuit.specs.Nodes.{NodeId, CircuitId}
use Rattle.spl_talk.specs.Connections.{message_frames}
use Rattle.spl_wire.specs.{Messages.circuit_of, declared.{answer.Answer.Answer, message.Message.Message, plan.Outgoing.Outgoing}}
use Rattle.spl_wire.specs.declared.answer.Answer.TheVariants as answer
use Rattle.spl_wire.specs.declared.event.Event.TheVariants as event
use Rattle.spl_cell_rules.specs.Cells.{Cell, is_bound, site_at}
use Rattle.spl_delta.specs.{Watches.watch_text, declared.line.WatchLine.WatchLine}
use Rattle.spl_node.specs.{Kept.cells_after, Turns.{At, Given, cells_through, given_at}}
use Rattle.spl_serve.specs.{Asking.asked_by_line, Hearing.is_heard, Served.{Served, watch_told, watchers_past}, Waits.waits_at, declared.line.Asked.Asked}
use Rattle.spl_serve.specs.declared.outside.{Arrival.Arrival, Departure.Departure}
use Rattle.spl_serve.specs.declared.line.Asked.TheVariants as asked
use Rattle.spl_serve.specs.declared.outside.Arrival.TheVariants as arrival
use Rattle.spl_serve.specs.declared.outside.Departure.TheVariants as departure

-- what a node does with something that came: it handles an event, for whose answer somebody may wait; it tells a caller a text; or
-- it answers a caller's line of a watcher
pub data Deed : Type 0 where
  Handles : Option ℕ → At → Deed
  Tells : ℕ → List ℕ → Deed
  Watches : ℕ → WatchLine → Deed

-- the events among them
abbrev pub events_in : List Deed → List At
events_in [] = []
events_in (Handles caller e ∷ ds) = e ∷ events_in ds
events_in (Tells caller bytes ∷ ds) = events_in ds
events_in (Watches caller l ∷ ds) = events_in ds

-- the cells after what a node did
abbrev pub cells_past : NodeId → (CircuitId → Cell) → List Deed → CircuitId → Cell
cells_past here cells ds = cells_through here cells (events_in ds)

-- what it serves after it did one thing: an event changes a cell, and a line of a watcher the watchers of its circuit
abbrev pub served_after : NodeId → Served → Deed → Served
served_after here z (Handles caller e) = record { cells = cells_after here z.cells e.0 e.1; watchers = z.watchers }
served_after here z (Tells caller bytes) = z
served_after here z (Watches caller l) = record { cells = z.cells; watchers = watchers_past z l }

-- and after several
abbrev pub served_past : NodeId → Served → List Deed → Served
served_past here z [] = z
served_past here z (d ∷ ds) = served_past here (served_after here z d) ds

-- a text goes out with a line feed
abbrev pub ended : List ℕ → List ℕ
ended bytes = bytes ++ 10 ∷ []

-- the ids of the circuits that are bound, in order
pub record IsRoll (cells : CircuitId → Cell) (ids : List CircuitId) : Type 0 where
  pub sorted : IsStrictlySortedBy (slice_cmp nat_cmp) ids
  pub bound : (c : CircuitId) → list_any (bytes_eq c) ids ≡ is_bound (cells c)

-- what a line brings to a node that serves this, by what it asks
abbrev pub BringsAsked : NodeId → Served → ℕ → Option Asked → List Deed → Type 0
BringsAsked here z caller None ds = ds ≡ Tells caller (codes "bad line\n") ∷ []
BringsAsked here z caller (Some (asked.At c e)) ds = ds ≡ Handles (Some caller) (c, e) ∷ []
BringsAsked here z caller (Some asked.Roll) ds =
    (ids : List CircuitId) × IsRoll z.cells ids × (ds ≡ Tells caller (ended (answer_spelling (answer.Roll ids))) ∷ [])
BringsAsked here z caller (Some (asked.Waits c)) ds = ds ≡ Tells caller (ended (waits_at (site_at here c) (z.cells c))) ∷ []
BringsAsked here z caller (Some (asked.OfWatcher l)) ds = ds ≡ Watches caller l ∷ []

-- what something that came brings to a node that serves this: a message that no cell may hear, nothing
abbrev pub Brings : NodeId → List NodeId → Served → Arrival → List Deed → Type 0
Brings here ns z (arrival.Line caller bytes) ds = BringsAsked here z caller (asked_by_line here ns bytes) ds
Brings here ns z (arrival.Message from m) ds =
    ds ≡ (if is_heard here from m then Handles None (circuit_of m, event.Deliver from m) ∷ [] else [])
Brings here ns z (arrival.Stop caller) ds = ds ≡ Tells caller (codes "ok stopping\n") ∷ []
Brings here ns z (arrival.Tick c) ds = ds ≡ Handles None (c, event.Tick) ∷ []

-- and what several bring, one after another
abbrev pub AllBring : NodeId → List NodeId → Served → List Arrival → List Deed → Type 0
AllBring here ns z [] ds = ds ≡ []
AllBring here ns z (a ∷ came) ds =
    (first : List Deed) × (rest : List Deed) × (ds ≡ first ++ rest) × Brings here ns z a first
    × AllBring here ns (served_past here z first) came rest

-- ---- what leaves

-- a message leaves as its frames
abbrev pub sends_in : Outgoing → Departure
sends_in s = departure.Frames s.to (message_frames s.message)

abbrev pub answer_departures : Option ℕ → Answer → List Departure
answer_departures None a = []
answer_departures (Some caller) a = departure.Answer caller (ended (answer_spelling a)) ∷ []

-- by an event: its answer, where somebody waits for it, and then its messages
abbrev pub given_out : Option ℕ → Given → List Departure
given_out caller g = answer_departures caller g.answer ++ map sends_in g.sends

-- what a line of a watcher is told
abbrev pub watch_ended : Served → WatchLine → List ℕ
watch_ended z l = ended (watch_text (watch_told z l))

-- by one thing that a node does
abbrev pub departures_by : NodeId → Served → Deed → List Departure
departures_by here z (Handles caller e) = given_out caller (given_at here z.cells e)
departures_by here z (Tells caller bytes) = departure.Answer caller bytes ∷ []
departures_by here z (Watches caller l) = departure.Answer caller (watch_ended z l) ∷ []

-- by what a node does, each at what the earlier ones led to
abbrev pub departures_of : NodeId → Served → List Deed → List Departure
departures_of here z [] = []
departures_of here z (d ∷ ds) = departures_by here z d ++ departures_of here (served_after here z d) ds

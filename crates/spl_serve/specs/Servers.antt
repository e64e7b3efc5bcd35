-- A node that serves, between two turns and in one (docs/RULES.md, Node processes).
use Rattle.std.specs.Prelude.{◌≡◌, Bool, false, unwrap_or, List, [], ◌∷◌, ◌++◌, Option, Some, None}
use Rattle.spl_circuit.specs.Nodes.{NodeId, CircuitId}
use Rattle.spl_edge.specs.Devices.{PairView, image_now}
use Rattle.spl_journal.specs.Records.{AreGood}
use Rattle.spl_cell_rules.specs.Cells.{Cell, site_at}
use Rattle.spl_cell.specs.Due.{due}
use Rattle.spl_node.specs.{Records.is_record, Stands.{NodeStands, circuit_cell, here_of, is_node_halted}, Turns.{Given, Handled}, declared.node.Node.Node}
use Rattle.spl_delta.specs.Kept.{Groups, watchers_of}
use Rattle.spl_serve.specs.{Served.Served, Turns.{AllBring, Brings, Deed, Handles, Tells, Watches, events_in, given_out, served_after, served_past}}
use Rattle.spl_serve.specs.{Turns.watch_ended, declared.{outside.{Arrival.Arrival, Departure.Departure}, server.Server.Server, turn.ServerTurn.ServerTurn}}
use Rattle.spl_serve.specs.declared.turn.Slot.{Slot}
use Rattle.spl_serve.specs.declared.outside.Departure.TheVariants as departure
use Rattle.spl_serve.specs.declared.turn.Slot.TheVariants as slot

abbrev pub server_here : Server → NodeId
server_here s = here_of s.node

abbrev pub server_cells : Server → CircuitId → Cell
server_cells s = circuit_cell s.node

-- a node with these watchers
abbrev pub served_by : Node → Groups → Served
served_by n ws = record { cells = circuit_cell n; watchers = watchers_of ws }

abbrev pub server_served : Server → Served
server_served s = served_by s.node s.watchers

-- it goes on, and the disks, where they report, stand for its cells
pub record ServerStands (s : Server) (p : PairView) : Type 0 where
  pub running : is_node_halted s.node ≡ false
  pub stands : NodeStands s.node (image_now p.first) (image_now p.second)

-- whether a tick has anything to do at the cell of a circuit
abbrev pub is_tick_due : NodeId → (CircuitId → Cell) → CircuitId → Bool
is_tick_due here cells c = unwrap_or (due (site_at here c) (cells c)) false

-- ---- a turn

abbrev pub turn_here : ServerTurn → NodeId
turn_here t = here_of t.turn.node

abbrev pub turn_cells : ServerTurn → CircuitId → Cell
turn_cells t = circuit_cell t.turn.node

abbrev pub turn_served : ServerTurn → Served
turn_served t = served_by t.turn.node t.watchers

-- what a turn holds back of one thing that the node did
abbrev pub deed_slot : Served → Deed → Slot
deed_slot z (Handles caller e) = slot.Event caller
deed_slot z (Tells caller bytes) = slot.Text caller bytes
deed_slot z (Watches caller l) = slot.Text caller (watch_ended z l)

-- and of all of it, each at what the earlier ones led to
abbrev pub slots_of : NodeId → Served → List Deed → List Slot
slots_of here z [] = []
slots_of here z (d ∷ ds) = deed_slot z d ∷ slots_of here (served_after here z d) ds

-- a turn that began at these cells and watchers, and in which the node did this
pub record Serves (here : NodeId) (before : Served) (ds : List Deed) (t : ServerTurn) : Type 0 where
  pub turn : Handled here before.cells (events_in ds) t.turn
  pub slots : t.slots.items ≡ slots_of here before ds
  pub watchers : (c : CircuitId) → watchers_of t.watchers c ≡ (served_past here before ds).watchers c

-- it began at some cells and watchers, and the node did something in it
pub record TurnBegan (t : ServerTurn) : Type 0 where
  pub here : NodeId
  pub before : Served
  pub deeds : List Deed
  pub serves : Serves here before deeds t

-- a turn goes on: it is of the same node over the same disks
pub record TurnGoesOn (t u : ServerTurn) : Type 0 where
  pub here_is : turn_here u ≡ turn_here t
  pub pairing_is : u.turn.node.pairing ≡ t.turn.node.pairing
  pub running : is_node_halted u.turn.node ≡ false
  pub good : AreGood is_record t.turn.records → AreGood is_record u.turn.records

-- the circuit of the first event in what a node does
abbrev pub first_circuit : List Deed → Option CircuitId
first_circuit [] = None
first_circuit (Handles caller e ∷ ds) = Some e.0
first_circuit (Tells caller bytes ∷ ds) = first_circuit ds
first_circuit (Watches caller l ∷ ds) = first_circuit ds

-- a turn that began at these cells and watchers, and in which the node had done this, took what came since: the node does what
-- that brings
pub record TakesArrivals (here : NodeId) (ns : List NodeId) (before : Served) (ds : List Deed) (came : List Arrival) (t : ServerTurn) : Type 0 where
  pub more : List Deed
  pub brings : AllBring here ns (served_past here before ds) came more
  pub serves : Serves here before (ds ++ more) t

-- it took one thing that came, an event at this circuit if at any
pub record TakesOne (here : NodeId) (ns : List NodeId) (before : Served) (ds : List Deed)
    (a : Arrival) (at : Option CircuitId) (t : ServerTurn) : Type 0 where
  pub more : List Deed
  pub brings : Brings here ns (served_past here before ds) a more
  pub circuit_is : at ≡ first_circuit more
  pub serves : Serves here before (ds ++ more) t

-- what leaves by what a turn held back, with what its events gave
abbrev pub handed : List Slot → List Given → List Departure
handed [] gs = []
handed (slot.Text caller bytes ∷ ss) gs = departure.Answer caller bytes ∷ handed ss gs
handed (slot.Event caller ∷ ss) [] = handed ss []
handed (slot.Event caller ∷ ss) (g ∷ gs) = given_out caller g ++ handed ss gs

-- What a process that serves a node does, turn after turn (docs/RULES.md, Node processes).
use Rattle.std.specs.{Prelude.{◌≡◌, ◌<◌, ◌⊎◌, ℕ, length, Bool, true, false, List, [], ◌∷◌, ◌++◌, Option}, Str.bytes_eq}
use Rattle.spl_circuit.specs.Nodes.{NodeId, CircuitId}
use Rattle.spl_edge.specs.Devices.{PairView, image_now}
use Rattle.spl_snapshot.specs.Counting.{IfBoth, PairLeavesInTurn, PairOnward}
use Rattle.spl_circuit_world.specs.Projection.{IsPlainEvent}
use Rattle.spl_wire.specs.{Messages.circuit_of, declared.event.Event.Event}
use Rattle.spl_wire.specs.declared.event.Event.TheVariants as event
use Rattle.spl_cell_rules.specs.Cells.{Cell}
use Rattle.spl_node.specs.{Stands.StandFor, Turns.At}
use Rattle.spl_deployment.specs.Doings.{Doing, Runs, Hears, Begins}
use Rattle.spl_serve.specs.{Outside.{PortsView, grown_by, arrivals_stop}, Served.Served, Servers.{TurnGoesOn, ServerStands, Serves, TakesArrivals}}
use Rattle.spl_serve.specs.{Servers.{server_here, server_served}, Turns.{AllBring, Deed, cells_past, departures_of, served_past}}
use Rattle.spl_serve.specs.declared.{finish.Finish.Finish, outside.{Arrival.Arrival, Departure.Departure}, server.Server.Server, turn.ServerTurn.ServerTurn}
use Rattle.spl_serve.specs.declared.finish.Finish.TheVariants as finish

-- a turn whose records were kept: what came in it, ticks among it, what the node did, and the disks after it
pub record KeptTurn : Type 0 where
  pub came : List Arrival
  pub deeds : List Deed
  pub disks : PairView

abbrev pub came_in : List KeptTurn → List Arrival
came_in [] = []
came_in (t ∷ ts) = t.came ++ came_in ts

abbrev pub deeds_in : List KeptTurn → List Deed
deeds_in [] = []
deeds_in (t ∷ ts) = t.deeds ++ deeds_in ts

-- a stop at any moment while the disks went from p to q left disks that stand for the cells before or for those after
abbrev pub LeavesEither : NodeId → (CircuitId → Cell) → (CircuitId → Cell) → PairView → PairView → Type 0
LeavesEither here before after p q =
    (second : Bool) × IfBoth (image_now p.first) (image_now p.second)
    (λ i j. PairLeavesInTurn second p q (λ c d. StandFor here before c d ⊎ StandFor here after c d))

-- a turn at these cells, watchers and disks: the node does what came brings
pub record IsServedTurn (here : NodeId) (ns : List NodeId) (z : Served) (p : PairView) (t : KeptTurn) : Type 0 where
  pub brings : AllBring here ns z t.came t.deeds
  pub leaves : LeavesEither here z.cells (cells_past here z.cells t.deeds) p t.disks
  pub onward : PairOnward p t.disks

-- turn after turn, from these cells, watchers and disks to those disks
abbrev pub AreTurns : NodeId → List NodeId → Served → PairView → List KeptTurn → PairView → Type 0
AreTurns here ns z p [] q = q ≡ p
AreTurns here ns z p (t ∷ ts) q = IsServedTurn here ns z p t × AreTurns here ns (served_past here z t.deeds) t.disks ts q

-- ---- what comes and leaves in a turn

-- a turn goes on from t to u and takes what comes, which asks the process to stop or doesn't, while its ports went from v to w
pub record TakesAll (ns : List NodeId) (stops : Bool) (v w : Option PortsView) (t u : ServerTurn) : Type 0 where
  pub came : List Arrival
  pub stops_is : stops ≡ arrivals_stop came
  pub ports : w ≡ grown_by came [] v
  pub goes : TurnGoesOn t u
  pub takes :
      (here : NodeId) (before : Served) (ds : List Deed) → Serves here before ds t → TakesArrivals here ns before ds came u

-- something may have come, and nothing has left
pub record Comes (v w : Option PortsView) : Type 0 where
  pub came : List Arrival
  pub ports : w ≡ grown_by came [] v

-- a first part of these has left
pub record LeavesPart (ds : List Departure) (v w : Option PortsView) : Type 0 where
  pub left : List Departure
  pub unsaid : List Departure
  pub parts : ds ≡ left ++ unsaid
  pub ports : w ≡ grown_by [] left v

-- ---- a process over its disks and ports

-- where a process is: what its disks and ports report
pub record Place : Type 0 where
  pub disks : PairView
  pub ports : Option PortsView

abbrev pub process_view : PairView → Option PortsView → Place
process_view p v = record { disks = p; ports = v }

-- it went whole turns, all that leaves by them left, and the server goes on with the cells and watchers after them
pub record Goes (here : NodeId) (ns : List NodeId) (z : Served) (x : Place) (ts : List KeptTurn) (y : Place) (s : Server) : Type 0 where
  pub turns : AreTurns here ns z x.disks ts y.disks
  pub ports : y.ports ≡ grown_by (came_in ts) (departures_of here z (deeds_in ts)) x.ports
  pub here_is : server_here s ≡ here
  pub served_is : server_served s ≡ served_past here z (deeds_in ts)
  pub stands : ServerStands s y.disks

-- so many of them, in which nothing asked it to stop
pub record ServesFor (turns : ℕ) (here : NodeId) (ns : List NodeId) (z : Served) (x y : Place) : Type 0 where
  pub kept : List KeptTurn
  pub count : length kept ≡ turns
  pub unasked : arrivals_stop (came_in kept) ≡ false
  pub server : Server
  pub goes : Goes here ns z x kept y server

-- fewer or as many: the last one is the first in which something asked it to stop
pub record StopsWithin (turns : ℕ) (here : NodeId) (ns : List NodeId) (z : Served) (x y : Place) : Type 0 where
  pub before : List KeptTurn
  pub last : KeptTurn
  pub few : length before < turns
  pub unasked : arrivals_stop (came_in before) ≡ false
  pub asked : arrivals_stop last.came ≡ true
  pub server : Server
  pub goes : Goes here ns z x (before ++ last ∷ []) y server

-- how it finished where nothing failed
abbrev pub FinishesAs : Finish → ℕ → NodeId → List NodeId → Served → Place → Place → Type 0
FinishesAs finish.Turns turns here ns z x y = ServesFor turns here ns z x y
FinishesAs finish.Stopped turns here ns z x y = StopsWithin turns here ns z x y

-- those that others came behind
abbrev pub before_last : List KeptTurn → List KeptTurn
before_last [] = []
before_last (t ∷ []) = []
before_last (t ∷ u ∷ ts) = t ∷ before_last (u ∷ ts)

-- it ended in a turn: a first part of what leaves by the turns that were kept has left, and nothing of the last one, if it wasn't kept
pub record ServingEnds (here : NodeId) (ns : List NodeId) (z : Served) (x y : Place) : Type 0 where
  -- the turns that were kept, and the disks after them
  pub kept : List KeptTurn
  pub disks : PairView
  pub turns : AreTurns here ns z x.disks kept disks
  -- it went on behind none that asked it to stop
  pub unasked : arrivals_stop (came_in (before_last kept)) ≡ false
  -- what came in the turn that wasn't kept, what the node did by it, and what came and was lost with it
  pub came : List Arrival
  pub deeds : List Deed
  pub lost : List Arrival
  pub brings : AllBring here ns (served_past here z (deeds_in kept)) came deeds
  pub leaves :
      (y.disks ≡ disks) ⊎ LeavesEither here (served_past here z (deeds_in kept)).cells
      (cells_past here (served_past here z (deeds_in kept)).cells deeds) disks y.disks
  -- what left, and what didn't
  pub left : List Departure
  pub unsaid : List Departure
  pub departures : departures_of here z (deeds_in kept) ≡ left ++ unsaid
  pub ports : y.ports ≡ grown_by (came_in kept ++ (came ++ lost)) left x.ports

-- ---- what it does among other processes

-- an event as what a process does: a message is heard, anything else runs
abbrev pub doing_at : CircuitId → Event → Doing
doing_at c (event.Deliver from m) = Hears from c m
doing_at c e = Runs c e

-- what the events of deeds are
abbrev pub doings_of : List At → List Doing
doings_of [] = []
doings_of (e ∷ es) = doing_at e.0 e.1 ∷ doings_of es

-- an event that an operator or a clock brings is no delivery, and a message that is heard came from another node
abbrev pub MayDo : NodeId → Doing → Type 0
MayDo here (Runs c e) = IsPlainEvent e
MayDo here (Hears from c m) = (bytes_eq from here ≡ false) × (bytes_eq (circuit_of m) c ≡ true)
MayDo here Begins = Unit {0}

abbrev pub AllMayDo : NodeId → List Doing → Type 0
AllMayDo here [] = Unit {0}
AllMayDo here (x ∷ xs) = MayDo here x × AllMayDo here xs

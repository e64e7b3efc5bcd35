-- Which messages a line carries from node to node, and how a call leaves the links (docs/RULES.md, Links).
use Rattle.std.specs.Prelude.{◌≡◌, ◌≢◌, ◌-◌, ◌<◌, ◌≤◌, ℕ, Bool, true, false, List, [], ◌∷◌, ◌++◌, if◌then◌else◌, slice_get, Option, Some, None, Result, Ok}
use Rattle.std.specs.{Prelude.{Err, IsErrOf, ⊤}, Option.option_map_or}
use Rattle.spl_circuit.specs.Nodes.{NodeId, CircuitId}
use Rattle.spl_edge.specs.Devices.{Rose, Streams, FabricView}
use Rattle.spl_circuit_world.specs.{Calm.calm, Worlds.{World as CircuitWorld, Occurrence, Steps, circuit_happens, messages}}
use Rattle.spl_pump.specs.Wires.{AllBytesTaken, CarryView, Carried, WireGoesOn, IsMessageDue, LiesOf, Puts, PutsPart, TakesPart, Wire, only}
use Rattle.spl_pump.specs.declared.fault.PumpFault.{PumpFault}
use Rattle.spl_pump.specs.declared.fault.PumpFault.TheVariants as pump
use Rattle.spl_registry.specs.Nodes.{Entry, slot_of}
use Rattle.spl_sched.specs.{Grammar.step_circuit, declared.line.Line.Line}
use Rattle.spl_sched.specs.declared.line.Line.TheVariants as line
use Rattle.spl_sched.specs.declared.line.Step.TheVariants as step
use Rattle.spl_wire.specs.declared.message.Message.{Message}
use Rattle.spl_world.specs.{Views.IsPlace, declared.fault.WorldFault.{WorldFault, TheVariants.{Link, Lied, NoMemory}}}

-- ---- what is carried

abbrev pub carried_of : ℕ → ℕ → Option Message → List Carried
carried_of from to None = []
carried_of from to (Some m) = only from to m

-- where each node has this place: the message of a delivery is carried, where its recipient is up and there is such a message,
-- and nothing in any other occurrence
abbrev pub carried_at : (NodeId → ℕ) → CircuitWorld → Occurrence → List Carried
carried_at place w (Steps (step.Deliver from to c k)) = if w.up to then carried_of (place from) (place to) (slice_get (messages w from to) (k - 1)) else []
carried_at place w _ = []

-- one occurrence after the other, each in the world that the earlier ones led to
abbrev pub carried_in : (NodeId → ℕ) → CircuitWorld → List Occurrence → List Carried
carried_in place w [] = []
carried_in place w (e ∷ es) = carried_at place w e ++ carried_in place (circuit_happens w e) es

-- a line, before which each circuit had this world
abbrev pub line_carried : (NodeId → ℕ) → (CircuitId → CircuitWorld) → Line → List Carried
line_carried place own (line.Step s) = carried_at place (own (step_circuit s)) (Steps s)
line_carried place own (line.Calm c k) = carried_in place (own c) (calm c (own c) k).happened
line_carried place own _ = []

-- the place of each node is this
abbrev pub Places : (NodeId → ℕ) → List NodeId → List ℕ → Type 0
Places place ids places = (i : ℕ) (n : NodeId) (k : ℕ) → slice_get ids i ≡ Some n → slice_get places i ≡ Some k → place n ≡ k

-- the position of a node in a registry
abbrev pub seat_of : List Entry → NodeId → ℕ
seat_of es n = option_map_or (λ k. k) (slot_of es n) 0

-- ---- a carrier and its fabric

-- what they report of themselves
pub record LinkView : Type 0 where
  pub slots : ℕ
  pub failed : Bool
  pub wire : Wire
  pub hello : ℕ → ℕ → List ℕ
  pub put : Streams
  pub taken : Streams
  pub faults : ℕ

abbrev pub link_view : CarryView → FabricView → LinkView
link_view c f = record { slots = c.slots; failed = c.failed; wire = c.wire; hello = c.hello; put = f.put; taken = f.taken; faults = f.faults }

-- there is a slot for each of these places, no fault was answered, and all bytes put were taken
pub record AreLinksReady (places : List ℕ) (x : LinkView) : Type 0 where
  pub below : (k : ℕ) → IsPlace places k → k < x.slots
  pub going : x.failed ≡ false
  pub taken : AllBytesTaken x.put x.taken

-- what a fault of the carrier is to the world, where it was asked on this pair of places
abbrev pub carry_fault : ℕ → ℕ → PumpFault → WorldFault
carry_fault from to pump.Link = Link
carry_fault from to (pump.Lied sent got) = Lied from to sent got
carry_fault from to pump.NoMemory = NoMemory

-- ---- how a call leaves them

-- these messages were carried: what was taken is what was put
pub record Carries (sent : List Carried) (x y : LinkView) : Type 0 where
  pub onward : WireGoesOn sent x.wire y.wire
  pub put : Puts (x.wire sent) x.put y.put
  pub heard : Puts (x.wire sent) x.taken y.taken
  pub no_less : x.faults ≤ y.faults
  pub hello : y.hello ≡ x.hello

-- these bytes were due on the pair from a to b, where one of these messages was to go from one place to another
pub record WasDue (hello : ℕ → ℕ → List ℕ) (from to : ℕ) (sent : List Carried) (a b : ℕ) (bytes : List ℕ) : Type 0 where
  pub before : List Carried
  pub message : Message
  pub later : List Carried
  pub there : sent ≡ before ++ (only from to message ++ later)
  pub due : IsMessageDue hello from to message a b bytes

-- wherever that message was to go
abbrev pub IsDueIn : (ℕ → ℕ → List ℕ) → List Carried → ℕ → ℕ → List ℕ → Type 0
IsDueIn hello sent a b bytes = (from : ℕ) × (to : ℕ) × WasDue hello from to sent a b bytes

-- where the links are at fault there was a message to carry, and the fabric failed more often; or other bytes were taken than
-- were put where one of these messages was to go from the one place to the other
abbrev pub HasLinkCause : WorldFault → List Carried → LinkView → LinkView → Type 0
HasLinkCause Link sent x y = (sent ≢ []) × Rose x.faults y.faults
HasLinkCause (Lied from to put got) sent x y = LiesOf (WasDue x.hello from to sent) (pump.Lied put got) y.put y.taken
HasLinkCause _ sent x y = ⊤

-- the other bytes that came last: there are none where neither the links are at fault nor memory ran out
abbrev pub MayComeLast : WorldFault → List ℕ → Type 0
MayComeLast Link last = ⊤
MayComeLast (Lied from to put got) last = ⊤
MayComeLast NoMemory last = ⊤
MayComeLast _ last = last ≡ []

-- a prefix of what these messages put was put on each pair, and one was taken, and on one pair then others that came in place of the next
pub record CarriesPart (e : WorldFault) (sent : List Carried) (x y : LinkView) : Type 0 where
  pub put : PutsPart (x.wire sent) x.put y.put
  pub heard : TakesPart (IsDueIn x.hello sent) (x.wire sent) x.taken y.taken
  pub others : MayComeLast e heard.last
  pub no_less : x.faults ≤ y.faults
  pub cause : HasLinkCause e sent x y

-- a call carried these messages, or ended with an error before or after one of them
abbrev pub DeliversMessages : {A : Type 0} → Result A WorldFault → List Carried → LinkView → LinkView → Type 0
DeliversMessages (Ok a) sent x y = Carries sent x y
DeliversMessages (Err e) sent x y = CarriesPart e sent x y

-- links between as many nodes, that name themselves as before, of which no fault is forgotten
pub record LinksGoOn (x y : LinkView) : Type 0 where
  pub no_less : x.faults ≤ y.faults
  pub slots : y.slots ≡ x.slots
  pub hello : y.hello ≡ x.hello

-- these bytes are due on the pair from a to b, where some message goes from one place to another
abbrev pub MayBeDue : (ℕ → ℕ → List ℕ) → ℕ → ℕ → ℕ → ℕ → List ℕ → Type 0
MayBeDue hello from to a b bytes = (m : Message) × IsMessageDue hello from to m a b bytes

-- a call lets the links go on, and an error with which it ends has its cause where it blames them, and names nodes of the carrier
pub record LeavesLinks {A : Type 0} (r : Result A WorldFault) (x y : LinkView) : Type 0 where
  pub onward : LinksGoOn x y
  pub link : IsErrOf r Link → Rose x.faults y.faults
  pub lied : (from to : ℕ) (sent got : List ℕ) → IsErrOf r (Lied from to sent got)
      → (from < x.slots) × (to < x.slots) × LiesOf (MayBeDue x.hello from to) (pump.Lied sent got) y.put y.taken

-- the links are at fault
abbrev pub is_of_links : WorldFault → Bool
is_of_links Link = true
is_of_links (Lied from to put got) = true
is_of_links _ = false

-- What comes to a node process and leaves it (docs/RULES.md, Node processes).
use Rattle.std.specs.Prelude.{Bool, true, false, ◌||◌, IsTrue, ⊤, List, [], ◌∷◌, ◌++◌, Option, Some, None}
use Rattle.spl_wire.specs.Forms.{message_form}
use Rattle.spl_serve.specs.declared.outside.{Arrival.Arrival, Departure.Departure}
use Rattle.spl_serve.specs.declared.outside.Arrival.TheVariants as arrival

-- what came so far, and what left, each in its order
pub record PortsView : Type 0 where
  pub came : List Arrival
  pub left : List Departure

-- what comes from outside or from the clock: a message is one that can be written
abbrev pub MayArrive : Arrival → Type 0
MayArrive (arrival.Line k line) = ⊤
MayArrive (arrival.Message from m) = IsTrue (message_form.fits m)
MayArrive (arrival.Stop k) = ⊤
MayArrive (arrival.Tick c) = ⊤

-- what comes from outside is no tick
abbrev pub IsReadable : Option Arrival → Type 0
IsReadable None = ⊤
IsReadable (Some (arrival.Line k line)) = ⊤
IsReadable (Some (arrival.Message from m)) = IsTrue (message_form.fits m)
IsReadable (Some (arrival.Stop k)) = ⊤
IsReadable (Some (arrival.Tick c)) = ⊥

abbrev pub after_arrival : Option Arrival → Option PortsView → Option PortsView
after_arrival _ None = None
after_arrival None (Some v) = Some v
after_arrival (Some a) (Some v) = Some (record { came = v.came ++ a ∷ []; left = v.left })

abbrev pub after_departure : Departure → Option PortsView → Option PortsView
after_departure d None = None
after_departure d (Some v) = Some (record { came = v.came; left = v.left ++ d ∷ [] })

-- whether something asks the process to stop
abbrev pub asks_to_stop : Arrival → Bool
asks_to_stop (arrival.Stop k) = true
asks_to_stop a = false

-- or anything among what came
abbrev pub arrivals_stop : List Arrival → Bool
arrivals_stop [] = false
arrivals_stop (a ∷ came) = asks_to_stop a || arrivals_stop came

-- ticks come from the node's own clock
abbrev pub outer : List Arrival → List Arrival
outer [] = []
outer (arrival.Tick c ∷ came) = outer came
outer (a ∷ came) = a ∷ outer came

-- what came and left so far, after these came and those left
abbrev pub grown_by : List Arrival → List Departure → Option PortsView → Option PortsView
grown_by came gone None = None
grown_by came gone (Some v) = Some (record { came = v.came ++ outer came; left = v.left ++ gone })

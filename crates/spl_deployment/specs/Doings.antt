-- What one node process does, and what it keeps and sends by it (docs/RULES.md, Node processes).
use Rattle.std.specs.{Prelude.{Bool, true, List, [], ◌∷◌, if◌then◌else◌}, Str.bytes_eq}
use Rattle.spl_circuit.specs.Nodes.{NodeId, CircuitId}
use Rattle.spl_wire.specs.declared.{event.Event.Event, message.Message.Message, plan.Outgoing.Outgoing}
use Rattle.spl_wire.specs.declared.event.Event.TheVariants as event
use Rattle.spl_cell_rules.specs.{Cells.{Cell, Empty, site_at}, Changes.stopped_cell, Plans.plan_of}
use Rattle.spl_node.specs.Kept.{cells_after}

-- what a node process does
pub data Doing : Type 0 where
  -- an event at one of its circuits: a command of its operator, or a tick
  Runs : CircuitId → Event → Doing
  -- a message about one of its circuits that came from a peer
  Hears : NodeId → CircuitId → Message → Doing
  -- it ended, at whatever moment, and began again with what its disks hold
  Begins : Doing

-- its cells after what it did: the plan of each event is carried out, and a beginning knows no open round
abbrev pub cells_done : NodeId → (CircuitId → Cell) → Doing → CircuitId → Cell
cells_done here cells (Runs c e) = cells_after here cells c e
cells_done here cells (Hears from c m) = cells_after here cells c (event.Deliver from m)
cells_done here cells Begins = λ c. stopped_cell (cells c)

abbrev pub cells_from : NodeId → (CircuitId → Cell) → List Doing → CircuitId → Cell
cells_from here cells [] = cells
cells_from here cells (x ∷ xs) = cells_from here (cells_done here cells x) xs

-- those of a node that had blank disks at first
abbrev pub cells_of : NodeId → List Doing → CircuitId → Cell
cells_of here xs = cells_from here (λ c. Empty) xs

-- what an event at the cell of a circuit sends about another
abbrev pub sends_at : NodeId → (CircuitId → Cell) → CircuitId → Event → CircuitId → List Outgoing
sends_at here cells c e id = if bytes_eq c id then (plan_of (site_at here c) (cells c) e).sends else []

-- what it sends about a circuit
abbrev pub sends_done : NodeId → (CircuitId → Cell) → Doing → CircuitId → List Outgoing
sends_done here cells (Runs c e) id = sends_at here cells c e id
sends_done here cells (Hears from c m) id = sends_at here cells c (event.Deliver from m) id
sends_done here cells Begins id = []

-- ---- what is about a circuit

abbrev pub is_about : CircuitId → Doing → Bool
is_about c (Runs d e) = bytes_eq d c
is_about c (Hears from d m) = bytes_eq d c
is_about c Begins = true

-- the doings about a circuit, and the beginnings
abbrev pub about : CircuitId → List Doing → List Doing
about c [] = []
about c (x ∷ xs) = if is_about c x then x ∷ about c xs else about c xs

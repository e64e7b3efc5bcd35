-- What a node keeps about the circuits, as its callers see it (docs/RULES.md, Circuits as worlds).
use Rattle.std.specs.{Prelude.{◌≡◌, ◌≤◌, ℕ, Bool, true, ◌&&◌, List, [], ◌∷◌, ◌++◌, length, if◌then◌else◌, Option, Some, None}, List.{list_all, sum_by}}
use Rattle.std.specs.{Ordering.nat_cmp, Cmp.Lexicographic.slice_cmp, BTreeMap.is_at, Map.lookup, Str.bytes_eq}
use Rattle.spl_circuit.specs.{Nodes.{NodeId, CircuitId}, Rules.ascends}
use Rattle.spl_wire.specs.{Messages.circuit_of, declared.{message.Message.Message, plan.{Outgoing.Outgoing, Plan.Plan}}}
use Rattle.spl_cell_rules.specs.{Cells.{site_at, Cell, Site}, Changes.after_plan, Valid.is_legal}

-- what was ever sent about a circuit, by recipient
abbrev pub SentLists : Type 0
SentLists = List (NodeId × List Message)

-- and about each circuit
abbrev pub Posted : Type 0
Posted = List (CircuitId × SentLists)

-- one circuit at one node: the cell, and what the node ever sent about it
pub record PlaceView : Type 0 where
  pub site : Site
  pub state : Cell
  pub sent : SentLists

-- a node: whether it is up, its cell of each circuit, in memory or on its disks, and what it ever sent about each
pub record NodeView : Type 0 where
  pub id : NodeId
  pub up : Bool
  pub cells : CircuitId → Cell
  pub sent : CircuitId → SentLists

abbrev pub list_or_none : Option (List Message) → List Message
list_or_none None = []
list_or_none (Some ms) = ms

-- what was ever sent to a node
abbrev pub sent_to : SentLists → NodeId → List Message
sent_to es b = list_or_none (lookup (is_at (slice_cmp nat_cmp b)) es)

-- so many is what any different nodes were sent together, or more
abbrev pub IsTotal : ℕ → SentLists → Type 0
IsTotal n ls = (bs : List NodeId) → ascends bs ≡ true → sum_by (λ b. length (sent_to ls b)) bs ≤ n

abbrev pub lists_or_none : Option SentLists → SentLists
lists_or_none None = []
lists_or_none (Some ls) = ls

-- what was ever sent about a circuit
abbrev pub lists_about : Posted → CircuitId → SentLists
lists_about ps c = lists_or_none (lookup (is_at (slice_cmp nat_cmp c)) ps)

-- the place of a circuit at a node
abbrev pub circuit_place : NodeView → CircuitId → PlaceView
circuit_place x c = record { site = site_at x.id c; state = x.cells c; sent = x.sent c }

-- the messages of a plan that go to a node
abbrev pub sends_to : NodeId → List Outgoing → List Message
sends_to b [] = []
sends_to b (o ∷ os) = if bytes_eq o.to b then o.message ∷ sends_to b os else sends_to b os

-- a message is about a circuit, and is one that a cell may hear
abbrev pub belongs : CircuitId → Message → Bool
belongs c m = bytes_eq (circuit_of m) c && is_legal m

abbrev pub AllBelong : CircuitId → List Message → Type 0
AllBelong c ms = list_all (belongs c) ms ≡ true

abbrev pub send_belongs : CircuitId → Outgoing → Bool
send_belongs c o = belongs c o.message

abbrev pub SendsBelong : CircuitId → List Outgoing → Type 0
SendsBelong c os = list_all (send_belongs c) os ≡ true

-- what was ever sent about each circuit belongs to it
abbrev pub BelongEach : Posted → Type 0
BelongEach ps = (c : CircuitId) (b : NodeId) → AllBelong c (sent_to (lists_about ps c) b)

-- a plan was carried out at a place of this node: its changes and its moves are made, and its messages sent
pub record IsDone (here : NodeId) (p : Plan) (old new : PlaceView) : Type 0 where
  pub state : new.state ≡ after_plan here old.state p
  pub sent : (b : NodeId) → sent_to new.sent b ≡ sent_to old.sent b ++ sends_to b p.sends

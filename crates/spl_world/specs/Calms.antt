-- What the nodes do in a calm, and how many messages of each pair need no delivery any more (docs/RULES.md, Calm).
use Rattle.std.specs.{Prelude.{◌≡◌, ◌≤◌, ℕ, Bool, List, [], ◌∷◌, length, Option, Some, None, slice_get, if◌then◌else◌}, Global.Vec}
use Rattle.spl_circuit.specs.Nodes.{NodeId, CircuitId}
use Rattle.spl_cell.specs.Due.{due}
use Rattle.spl_circuit_world.specs.{Worlds.{World as CircuitWorld, messages}, Calm.Calming}
use Rattle.spl_cell_rules.specs.Cells.{site_at}

-- whether a tick has anything to do; none where the node is down, or the cell isn't bound and open
abbrev pub due_at : CircuitId → CircuitWorld → NodeId → Option Bool
due_at c m n = if m.up n then due (site_at n c) (m.at n) else None

-- what a count has for one sender, by recipient
abbrev pub sender_counts : (NodeId → NodeId → ℕ) → NodeId → List NodeId → List ℕ
sender_counts f a [] = []
sender_counts f a (b ∷ bs) = f a b ∷ sender_counts f a bs

-- how many messages each pair has
abbrev pub sent_count : CircuitWorld → NodeId → NodeId → ℕ
sent_count m a b = length (messages m a b)

-- a row for each node, with a number for each node
pub record IsSquare (n : ℕ) (rows : List (Vec ℕ)) : Type 0 where
  pub tall : length rows ≡ n
  pub wide : (i : ℕ) (r : Vec ℕ) → slice_get rows i ≡ Some r → length r.items ≡ n

-- the rows have what a count has
abbrev pub AreRows : (NodeId → NodeId → ℕ) → List NodeId → List (Vec ℕ) → Type 0
AreRows f ids rows = (i : ℕ) (a : NodeId) (r : Vec ℕ) → slice_get ids i ≡ Some a → slice_get rows i ≡ Some r → r.items ≡ sender_counts f a ids

-- no more messages of a pair are taken than were sent
abbrev pub IsTakenWithin : Calming → Type 0
IsTakenWithin z = (a b : NodeId) → z.taken a b ≤ sent_count z.world a b

-- the rows have what is taken, and that is no more than what was sent
pub record Tracks (z : Calming) (ids : List NodeId) (rows : List (Vec ℕ)) : Type 0 where
  pub taken : AreRows z.taken ids rows
  pub within : IsTakenWithin z

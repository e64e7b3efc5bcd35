-- Where a calm stands between two of its turns, and what is left of it (docs/RULES.md, Calm).
use Rattle.std.specs.Prelude.{◌≡◌, ◌+◌, ◌<◌, ◌≤◌, ◌⊎◌, length, false, ℕ, Bool, true, not, List, [], ◌∷◌, ◌++◌, Option, Some, None, slice_get, drop, ⊤}
use Rattle.std.specs.{List.{AllByRecursion, sum}, Str.bytes_eq}
use Rattle.spl_circuit.specs.Nodes.{NodeId, CircuitId}
use Rattle.spl_wire.specs.declared.event.Event.TheVariants as event
use Rattle.spl_sched.specs.declared.line.Step.{Step}
use Rattle.spl_sched.specs.declared.line.Step.TheVariants as step
use Rattle.spl_circuit_world.specs.{Worlds.{Steps, World as CircuitWorld, step_world}, Calm.{Calming, open_nodes, ticks, to_all, from_all, passes}}
use Rattle.spl_circuit_world.specs.Quiet.{IsIdleAt, IsQuiet}
use Rattle.spl_world.specs.{Calms.{Tracks, due_at, sender_counts, sent_count}, Views.{HoldsWorld, IsNodeAt, Sits, nodes_over}, declared.calm.Calm.Calm}
use Rattle.spl_world.specs.declared.{calm.Turn.Turn, world.World.World}
use Rattle.spl_world.specs.declared.calm.Turn.TheVariants as turn
use Rattle.spl_node.specs.Benches.{Images}

-- ---- what is left of a calm

-- the turns of pairs: of the first of these senders those with these recipients, and then of each other sender those with all
abbrev pub turns_from : CircuitId → Calming → List NodeId → List NodeId → List NodeId → Calming
turns_from c z all [] bs = z
turns_from c z all (a ∷ rest) bs = from_all c (to_all c z a bs) all rest

-- where a calm stands in a pass: the nodes that may have a tick yet, the senders whose turns come yet, the recipients that the
-- first of them has yet, and how many passes come later
pub record Cursor : Type 0 where
  pub circuit : CircuitId
  pub nodes : List NodeId
  pub ticking : List NodeId
  pub senders : List NodeId
  pub recipients : List NodeId
  pub later : ℕ

-- the calm at its end, where it stands so
abbrev pub calm_ended : Cursor → Calming → Calming
calm_ended k z = passes k.circuit k.nodes k.later (turns_from k.circuit (ticks k.circuit z (open_nodes z.world k.ticking)) k.nodes k.senders k.recipients)

-- a calm over these nodes stands so
abbrev pub cursor_of : List NodeId → Calm → Cursor
cursor_of ids k = record {
  circuit = k.circuit;
  nodes = ids;
  ticking = drop k.slot ids;
  senders = drop k.from ids;
  recipients = drop k.to ids;
  later = k.later;
}

-- nothing happened between two states of a calm, and as much is taken
pub record IsCalmStill (z y : Calming) : Type 0 where
  pub world : y.world ≡ z.world
  pub happened : y.happened ≡ z.happened
  pub taken : (a b : NodeId) → y.taken a b ≡ z.taken a b

-- ---- a turn

-- the step that a turn is
abbrev pub IsStep : List NodeId → CircuitId → Turn → Step → Type 0
IsStep ids c (turn.Tick i due) s = (n : NodeId) × (slice_get ids i ≡ Some n) × (s ≡ step.At n c event.Tick)
IsStep ids c (turn.Deliver i j k) s = (a : NodeId) × (b : NodeId) × (slice_get ids i ≡ Some a) × (slice_get ids j ≡ Some b) × (s ≡ step.Deliver a b c (k + 1))

-- nothing was left to do in a pass so far: it began so, these nodes had an idle tick, and no pair had its turn
pub record IsIdleSoFar (ids : List NodeId) (k : Calm) (z : Calming) : Type 0 where
  pub start : Calming
  pub ticked : List NodeId
  pub opened : open_nodes start.world ids ≡ ticked ++ open_nodes start.world (drop k.slot ids)
  pub idle : AllByRecursion (IsIdleAt k.circuit start.world) ticked
  pub now : z ≡ ticks k.circuit start ticked
  pub count : k.ticks ≡ length ticked
  pub from : k.from ≡ 0
  pub to : k.to ≡ 0

-- no more than so many messages of a sender aren't taken
abbrev pub HasMessagesLeft : ℕ → List NodeId → Calming → NodeId → Type 0
HasMessagesLeft left ids z a = sum (sender_counts (sent_count z.world) a ids) ≤ left + sum (sender_counts z.taken a ids)

-- what is kept of a calm says what is taken, that nothing was left to do where it says so, and how much the sender under way
-- has left where it says that
pub record CalmFollows (ids : List NodeId) (k : Calm) (z : Calming) : Type 0 where
  pub tracks : Tracks z ids k.rows.items
  pub idle : k.moved ≡ false → IsIdleSoFar ids k z
  pub left : (a : NodeId) (left : ℕ) → slice_get ids k.from ≡ Some a → k.left ≡ Some left → HasMessagesLeft left ids z a

-- nothing is left to do: a pass more has idle ticks alone, as many as the last one
pub record IsDone (ids : List NodeId) (k : Calm) (z : Calming) : Type 0 where
  pub quiet : IsQuiet k.circuit ids z
  pub count : k.ticks ≡ length (open_nodes z.world ids)

-- a calm goes on with this turn: what is left of it is this step, and what is left after it
pub record LeadsOn (ids : List NodeId) (old new : Calm) (z : Calming) (t : Turn) : Type 0 where
  pub step : Step
  pub is_step : IsStep ids old.circuit t step
  pub next : Calming
  pub world : next.world ≡ step_world z.world step
  pub happened : next.happened ≡ z.happened ++ Steps step ∷ []
  pub same : calm_ended (cursor_of ids new) next ≡ calm_ended (cursor_of ids old) z
  pub follows : CalmFollows ids new next

-- nothing happens in it any more before it stands so; and where nothing was left to do in this pass, nothing is left
pub record CalmRests (ids : List NodeId) (old new : Calm) (z : Calming) : Type 0 where
  pub last : Calming
  pub still : IsCalmStill z last
  pub same : calm_ended (cursor_of ids new) last ≡ calm_ended (cursor_of ids old) z
  pub tracks : Tracks last ids new.rows.items
  pub done : new.moved ≡ false → IsDone ids new last

-- it goes on with a turn, or has none
abbrev pub CalmGoesOn : Option Turn → List NodeId → Calm → Calm → Calming → Type 0
CalmGoesOn (Some t) ids old new z = LeadsOn ids old new z t
CalmGoesOn None ids old new z = CalmRests ids old new z

-- it goes on with a tick, or stands after all of this pass
abbrev pub TicksOn : Option Turn → List NodeId → Calm → Calm → Calming → Type 0
TicksOn (Some t) ids old new z = LeadsOn ids old new z t
TicksOn None ids old new z = (calm_ended (cursor_of ids new) z ≡ calm_ended (cursor_of ids old) z) × CalmFollows ids new z

-- all ticks and turns of this pass are over
pub record IsOver (n : ℕ) (k : Calm) : Type 0 where
  pub slot : n ≤ k.slot
  pub from : n ≤ k.from

-- no pass comes later, or there was nothing to do in this one and none comes then
abbrev pub IsLast : Calm → Type 0
IsLast k = (k.later ≡ 0) ⊎ ((k.moved ≡ false) × (k.whole ≡ false))

-- the node of this index has a tick, and it has anything to do or not
abbrev pub IsTickDue : World → CircuitId → ℕ → Bool → Type 0
IsTickDue w c i due =
    (is : List Images) (m : CircuitWorld) (n : NodeId) → Sits (nodes_over w is) → HoldsWorld c m (nodes_over w is) → IsNodeAt w i n → due_at c m n ≡ Some due

-- the nodes of these indexes are two
abbrev pub AreApart : World → ℕ → ℕ → Type 0
AreApart w i j = (a b : NodeId) → IsNodeAt w i a → IsNodeAt w j b → bytes_eq a b ≡ false

-- what a turn names is there, and so it is
abbrev pub IsTurn : World → CircuitId → Turn → Type 0
IsTurn w c (turn.Tick i due) = (i < length w.slots.items) × IsTickDue w c i due
IsTurn w c (turn.Deliver i j k) = (i < length w.slots.items) × (j < length w.slots.items) × AreApart w i j

-- a tick that has nothing to do
abbrev pub is_idle_turn : Turn → Bool
is_idle_turn (turn.Tick i due) = not due
is_idle_turn (turn.Deliver i j k) = false

-- ---- the search for one

-- the first node from this index on that has a tick, and whether that has anything to do
abbrev pub Opens : Option (ℕ × Bool) → CircuitId → List NodeId → ℕ → Calming → Type 0
Opens (Some r) c ids first z = (n : NodeId) × (slice_get ids r.0 ≡ Some n)
    × (open_nodes z.world (drop first ids) ≡ n ∷ open_nodes z.world (drop (r.0 + 1) ids)) × (due_at c z.world n ≡ Some r.1)
Opens None c ids first z = open_nodes z.world (drop first ids) ≡ []

abbrev pub nodes_from : Option ℕ → List NodeId → List NodeId
nodes_from None ids = []
nodes_from (Some i) ids = drop i ids

-- nothing happens in the turns of a sender before that of this recipient
pub record SkipsTo (r : Option ℕ) (c : CircuitId) (ids : List NodeId) (z : Calming) (a : NodeId) (first : ℕ) : Type 0 where
  pub there : Calming
  pub still : IsCalmStill z there
  pub same : to_all c there a (nodes_from r ids) ≡ to_all c z a (drop first ids)

-- a message waits on a pair whose recipient is up; and its number has room
pub record IsMessageWaiting (z : Calming) (a b : NodeId) : Type 0 where
  pub up : z.world.up b ≡ true
  pub less : z.taken a b < sent_count z.world a b
  pub room : z.taken a b + 1 < 18446744073709551616

-- so it does where there is such a recipient
abbrev pub Waits : Option ℕ → List NodeId → Calming → NodeId → Type 0
Waits None ids z a = ⊤
Waits (Some j) ids z a = (b : NodeId) → slice_get ids j ≡ Some b → IsMessageWaiting z a b

-- a pair that was found: its sender, its recipient, and how many messages of its sender aren't taken
abbrev pub Found : Type 0
Found = Option (ℕ × ℕ × ℕ)

abbrev pub senders_of : Found → List NodeId → List NodeId
senders_of None ids = []
senders_of (Some p) ids = drop p.0 ids

abbrev pub recipients_of : Found → List NodeId → List NodeId
recipients_of None ids = ids
recipients_of (Some p) ids = drop p.1 ids

abbrev pub PairWaits : Found → List NodeId → Calming → Type 0
PairWaits None ids z = ⊤
PairWaits (Some p) ids z = (a b : NodeId) → slice_get ids p.0 ≡ Some a → slice_get ids p.1 ≡ Some b → IsMessageWaiting z a b

abbrev pub FoundPairLeaves : Found → List NodeId → Calming → Type 0
FoundPairLeaves None ids z = ⊤
FoundPairLeaves (Some p) ids z = (a : NodeId) → slice_get ids p.0 ≡ Some a → HasMessagesLeft p.2 ids z a

-- nothing happens in the turns of these senders before that of this pair
pub record SkipsPairs (r : Found) (c : CircuitId) (ids : List NodeId) (z : Calming) (from first : ℕ) : Type 0 where
  pub there : Calming
  pub still : IsCalmStill z there
  pub same : turns_from c there ids (senders_of r ids) (recipients_of r ids) ≡ turns_from c z ids (drop from ids) (drop first ids)

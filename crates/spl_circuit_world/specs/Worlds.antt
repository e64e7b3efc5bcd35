-- The world of one circuit (docs/RULES.md, Circuits as worlds).
use Rattle.std.specs.{Prelude.{◌≡◌, ◌-◌, Bool, true, false, ◌&&◌, List, [], ◌∷◌, ◌++◌, if◌then◌else◌, slice_get, Option, Some, None}, Str.bytes_eq}
use Rattle.spl_cell_rules.specs.{Cells.{site_at, Cell, Empty, Site}, Plans.{tells_only, plan_of}, Changes.{changes_made, after_plan, stopped_cell}}
use Rattle.spl_circuit.specs.Nodes.{NodeId, CircuitId, has_node}
use Rattle.spl_wire.specs.declared.{message.Message.Message, plan.{Outgoing.Outgoing, Plan.Plan}}
use Rattle.spl_wire.specs.declared.event.Event.TheVariants as event
use Rattle.spl_wire.specs.declared.answer.Refusal.TheVariants as refusal
use Rattle.spl_wire.specs.declared.answer.Answer.TheVariants as answer
use Rattle.spl_sched.specs.{Grammar.step_node, declared.line.Step.Step}
use Rattle.spl_sched.specs.declared.line.Step.TheVariants as step

-- a message that was sent
pub record SentMessage : Type 0 where
  pub from : NodeId
  pub to : NodeId
  pub message : Message

-- the registered nodes, which of them are up, what each keeps about the circuit, and all messages about it that were ever
-- sent, in their order
pub record World : Type 0 where
  pub nodes : List NodeId
  pub up : NodeId → Bool
  pub at : NodeId → Cell
  pub sent : List SentMessage

-- where a run begins: the registered nodes, what each of them keeps of each circuit, and the circuits of which one keeps
-- something
pub record Origin : Type 0 where
  pub nodes : List NodeId
  pub kept : CircuitId → NodeId → Cell
  pub circuits : List CircuitId

-- no other node keeps anything, and nothing is kept of any other circuit
pub record IsOrigin (o : Origin) : Type 0 where
  pub only : (c : CircuitId) (n : NodeId) → has_node o.nodes n ≡ false → o.kept c n ≡ Empty
  pub listed : (c : CircuitId) (n : NodeId) → has_node o.circuits c ≡ false → o.kept c n ≡ Empty

-- nothing is kept
abbrev pub blank : List NodeId → Origin
blank ns = record { nodes = ns; kept = λ c n. Empty; circuits = [] }

-- at first all nodes are up, and nothing was sent
abbrev pub first_world : Origin → CircuitId → World
first_world o c = record { nodes = o.nodes; up = λ n. true; at = o.kept c; sent = [] }

-- where nothing is kept, the world of each circuit is this one at first
abbrev pub empty_world : List NodeId → World
empty_world ns = record { nodes = ns; up = λ n. true; at = λ n. Empty; sent = [] }

-- another thing at one node
unfoldable pub put_at : {A : Type 0} → (NodeId → A) → NodeId → A → NodeId → A
put_at f here x n = if bytes_eq n here then x else f n

-- what was ever sent on a pair of nodes, in order
abbrev pub on_pair : NodeId → NodeId → List SentMessage → List Message
on_pair from to [] = []
on_pair from to (s ∷ ss) = if bytes_eq s.from from && bytes_eq s.to to then s.message ∷ on_pair from to ss else on_pair from to ss

-- no node sends to itself
abbrev pub messages : World → NodeId → NodeId → List Message
messages w from to = if bytes_eq from to then [] else on_pair from to w.sent

-- a message to a node that isn't registered is dropped
abbrev pub posted_outgoing : List NodeId → NodeId → List Outgoing → List SentMessage
posted_outgoing ns here [] = []
posted_outgoing ns here (o ∷ os) =
    if has_node ns o.to then record { from = here; to = o.to; message = o.message } ∷ posted_outgoing ns here os else posted_outgoing ns here os

-- a message is handed over, and stays where it is
abbrev pub delivery_plan : CircuitId → World → NodeId → NodeId → Option Message → Plan
delivery_plan c w from to None = tells_only (answer.Refused refusal.NoMessage)
delivery_plan c w from to (Some m) = plan_of (site_at to c) (w.at to) (event.Deliver from m)

-- what a step gives at a node that is up; messages of a pair are numbered from 1
abbrev pub plan_up : World → Step → Plan
plan_up w (step.At n c e) = plan_of (site_at n c) (w.at n) e
plan_up w (step.Deliver from to c k) = delivery_plan c w from to (slice_get (messages w from to) (k - 1))

-- what a step gives in the world of its circuit
abbrev pub step_plan : World → Step → Plan
step_plan w s = if w.up (step_node s) then plan_up w s else tells_only (answer.Refused refusal.Down)

-- the changes and the moves of a plan are made at a node, and its messages are sent
abbrev pub circuit_carried_out : World → NodeId → Plan → World
circuit_carried_out w n p =
    record { nodes = w.nodes; up = w.up; at = put_at w.at n (after_plan n (w.at n) p); sent = w.sent ++ posted_outgoing w.nodes n p.sends }

abbrev pub step_world : World → Step → World
step_world w s = circuit_carried_out w (step_node s) (step_plan w s)

-- a node stops: its open rounds are forgotten
abbrev pub node_stopped : World → NodeId → World
node_stopped w n = record { nodes = w.nodes; up = put_at w.up n false; at = put_at w.at n (stopped_cell (w.at n)); sent = w.sent }

abbrev pub started : World → NodeId → World
started w n = record { nodes = w.nodes; up = put_at w.up n true; at = w.at; sent = w.sent }

-- a node stops in a step: its changes are made where their record is kept, and nothing is sent
abbrev pub halted : World → NodeId → Bool → Plan → World
halted w n kept p = record w {
  up = put_at w.up n false;
  at = put_at w.at n (stopped_cell (if kept then changes_made n (w.at n) p.changes else w.at n));
}

-- what may happen in the world of a circuit
pub data Occurrence : Type 0 where
  Steps : Step → Occurrence
  Stops : NodeId → Occurrence
  Starts : NodeId → Occurrence
  -- the node of the step stops in it, and its record is kept or not
  Halts : (kept : Bool) → Step → Occurrence

abbrev pub circuit_happens : World → Occurrence → World
circuit_happens w (Steps s) = step_world w s
circuit_happens w (Stops n) = if w.up n then node_stopped w n else w
circuit_happens w (Starts n) = if w.up n then w else started w n
circuit_happens w (Halts kept s) = if w.up (step_node s) then halted w (step_node s) kept (step_plan w s) else w

abbrev pub occur : World → List Occurrence → World
occur w [] = w
occur w (e ∷ es) = occur (circuit_happens w e) es

-- the world after what happened, where nothing was kept at first
abbrev pub world_after : List NodeId → List Occurrence → World
world_after ns es = occur (empty_world ns) es

-- the world of a circuit stays as it was
pub record IsUnmoved (old new : World) : Type 0 where
  pub nodes : new.nodes ≡ old.nodes
  pub up : (n : NodeId) → new.up n ≡ old.up n
  pub at : (n : NodeId) → new.at n ≡ old.at n
  pub sent : new.sent ≡ old.sent

-- the node at which something happens
abbrev pub node_of : Occurrence → NodeId
node_of (Steps s) = step_node s
node_of (Stops n) = n
node_of (Starts n) = n
node_of (Halts kept s) = step_node s

-- How a run goes through a calm: its steps, one after the other (docs/RULES.md, Calm).
use Rattle.std.specs.Prelude.{◌≡◌, ◌+◌, ◌<◌, ◌++◌, ◌∷◌, ℕ, false, List, [], length, map, Some, Result, OnOk, IsErrOf}
use Rattle.spl_circuit.specs.Nodes.{CircuitId, Node}
use Rattle.spl_pump.specs.Wires.{Carried}
use Rattle.spl_circuit_world.specs.{Calm.{Calming, calm}, Answers.events_of, Projection.{by_rule, Ran, plainly}, Worlds.{Origin, World as CircuitWorld}}
use Rattle.spl_circuit_world.specs.{Worlds.occur, Whole.whole_world, declared.TheConstants.MOST_EVENTS}
use Rattle.spl_sched.specs.declared.line.Line.{Line}
use Rattle.spl_sched.specs.declared.line.Line.TheVariants as line
use Rattle.spl_sched.specs.declared.line.Step.TheVariants as step
use Rattle.spl_trace.specs.{Traced.steps_in, Tracers.{HasHeard, Tracing}}
use Rattle.spl_wire.specs.declared.event.Event.TheVariants as event
use Rattle.spl_world.specs.{Calls.{Around, Leaves}, Calms.due_at, Cursor.{CalmFollows, IsDone, IsLast, IsOver, cursor_of, calm_ended}, Held.LineEnds}
use Rattle.spl_world.specs.{Links.{Carries, CarriesPart, LinkView, carried_in, line_carried}, Views.{HoldsWorld, Sits, StandsAfterLines, world_node_ids}}
use Rattle.spl_world.specs.{Views.{is_world_halted, nodes_over}, declared.{calm.Calm.Calm, fault.WorldFault.{WorldFault, TheVariants.{NotAJournal, TooMany}}}}
use Rattle.spl_world.specs.declared.world.World.{World}
use Rattle.spl_node.specs.Benches.{Images}

-- ---- a line of the nodes

-- how a call that starts no node leaves the nodes and all around them, whatever comes of it
pub record NodesGoOn {A : Type 0} (q : Result A WorldFault) (w v : World) (x y : Around) : Type 0 where
  pub leaves : Leaves q w v x y
  pub running : OnOk q (is_world_halted v ≡ false)
  pub sound : (k at : ℕ) → IsErrOf q (NotAJournal k at) → ⊥

-- lines that ran, with so many events beside them, between nodes that have these places
pub record Past : Type 0 where
  pub o : Origin
  pub others : ℕ
  pub before : List Ran
  pub place : Node → ℕ

abbrev pub past_worlds : Past → CircuitId → CircuitWorld
past_worlds t c = whole_world t.o c t.before

abbrev pub past_with_line : Past → Line → List Ran
past_with_line t l = t.before ++ by_rule l ∷ []

abbrev pub messages_of : Past → Line → List Carried
messages_of t l = line_carried t.place (past_worlds t) l

-- a line ran after those, and its messages were carried
pub record RanAfter (t : Past) (l : Line) (w : World) (is : List Images) (x y : LinkView) : Type 0 where
  pub stands : StandsAfterLines t.o t.others (past_with_line t l) w is
  pub links : Carries (messages_of t l) x y

-- it ended with this error
pub record FailedAfter (t : Past) (l : Line) (e : WorldFault) (ids : List Node) (places : List ℕ) (is : List Images) (x y : LinkView) : Type 0 where
  pub held : LineEnds (past_worlds t) l e ids places is
  pub links : CarriesPart e (messages_of t l) x y
  pub many : (which : ℕ) → e ≡ TooMany which → (which ≡ 1) × (MOST_EVENTS < events_of t.o (past_with_line t l) + t.others)

-- ---- a calm

-- a tick that has nothing to do
abbrev pub IsIdleLine : World → Line → Type 0
IsIdleLine w l = (c : CircuitId) × (n : Node) × (l ≡ line.Step (step.At n c event.Tick))
    × ((is : List Images) (m : CircuitWorld) → Sits (nodes_over w is) → HoldsWorld c m (nodes_over w is) → due_at c m n ≡ Some false)

-- a calm of a circuit that comes after those lines
pub record CalmAfter : Type 0 where
  pub past : Past
  pub circuit : CircuitId
  pub passes : ℕ

abbrev pub calm_line : CalmAfter → Line
calm_line d = line.Calm d.circuit d.passes

abbrev pub first_of : CalmAfter → CircuitWorld
first_of d = past_worlds d.past d.circuit

abbrev pub whole_calm : CalmAfter → Calming
whole_calm d = calm d.circuit (first_of d) d.passes

-- the first of its steps ran, and these are such that this is what is left
pub record HasCome (d : CalmAfter) (k : Calm) (z : Calming) (w : World) (is : List Images) (x y : LinkView) (t : Tracing) : Type 0 where
  pub stands : StandsAfterLines d.past.o d.past.others (d.past.before ++ map plainly (steps_in z.happened)) w is
  pub world : z.world ≡ occur (first_of d) z.happened
  pub left : calm_ended (cursor_of (world_node_ids w) k) z ≡ whole_calm d
  pub links : Carries (carried_in d.past.place (first_of d) z.happened) x y
  pub heard : HasHeard t (steps_in z.happened)

-- it goes on from there
pub record IsUnderWay (d : CalmAfter) (k : Calm) (w : World) (is : List Images) (x y : LinkView) (t : Tracing) : Type 0 where
  pub state : Calming
  pub come : HasCome d k state w is x y t
  pub follows : CalmFollows (world_node_ids w) k state

-- or none of its turns comes any more
pub record IsThrough (d : CalmAfter) (k : Calm) (w : World) (is : List Images) (x y : LinkView) (t : Tracing) : Type 0 where
  pub state : Calming
  pub come : HasCome d k state w is x y t
  pub over : IsOver (length (world_node_ids w)) k
  pub last : IsLast k
  pub done : k.moved ≡ false → IsDone (world_node_ids w) k state

-- A turn of a calm as the step that it is (docs/RULES.md, Calm).
use Rattle.std.specs.Prelude.{◌≡◌, ◌-◌, ◌<◌, ℕ, List, Bool, true, length, nat_lt, ◌^◌}
use Rattle.spl_circuit.specs.Nodes.{CircuitId}
use Rattle.spl_circuit_world.specs.{Projection.Ran, Worlds.Origin}
use Rattle.spl_sched.specs.{Grammar.is_step, declared.line.Step.Step}
use Rattle.spl_world.specs.{Cursor.{AreApart, IsStep}, Views.{StandsAfterLines, world_node_ids}, declared.{calm.Turn.Turn, world.World.World}}
use Rattle.spl_world.specs.declared.calm.Turn.TheVariants as turn
use Rattle.spl_node.specs.Benches.{Images}

-- the nodes that a turn names are there, and those of a delivery are two
abbrev pub IsThere : World → Turn → Type 0
IsThere w (turn.Tick i due) = i < length w.slots.items
IsThere w (turn.Deliver i j k) = (i < length w.slots.items) × (j < length w.slots.items) × AreApart w i j

-- a line can name its message: the number, one above the index, is below 2 ^ 32
abbrev pub is_numbered : Turn → Bool
is_numbered (turn.Tick i due) = true
is_numbered (turn.Deliver i j k) = nat_lt k (2 ^ 32 - 1)

-- a turn comes after lines that ran, with so many events beside them, and this is the step that it is
pub record TurnAfter (w : World) (c : CircuitId) (t : Turn) (is : List Images) : Type 0 where
  pub step : Step
  pub is_turn : IsStep (world_node_ids w) c t step
  pub fits : is_step step ≡ true
  pub o : Origin
  pub others : ℕ
  pub before : List Ran
  pub stands : StandsAfterLines o others before w is

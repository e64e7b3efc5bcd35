-- A calm in which nothing is left to do (docs/RULES.md, Calm).
use Rattle.std.specs.{Prelude.{◌≡◌, ◌≤◌, true, List, length, map}, List.AllByRecursion}
use Rattle.spl_circuit.specs.Nodes.{NodeId, CircuitId}
use Rattle.spl_wire.specs.declared.event.Event.TheVariants as event
use Rattle.spl_sched.specs.declared.line.Step.TheVariants as step
use Rattle.spl_cell_rules.specs.Idle.{is_idle}
use Rattle.spl_circuit_world.specs.{Worlds.{World, Occurrence, Steps, messages, step_plan}, Calm.{Calming, open_nodes}}

-- the tick of this node is idle
abbrev pub IsIdleAt : CircuitId → World → NodeId → Type 0
IsIdleAt c w n = is_idle (step_plan w (step.At n c event.Tick)).answer ≡ true

-- nothing waits on a pair whose recipient is up
abbrev pub IsTaken : Calming → NodeId → NodeId → Type 0
IsTaken z from to = z.world.up to ≡ true → length (messages z.world from to) ≤ z.taken from to

abbrev pub AllTaken : List NodeId → Calming → Type 0
AllTaken ns z = AllByRecursion (λ from. AllByRecursion (IsTaken z from) ns) ns

-- the ticks of the next pass are idle, and it has no delivery
pub record IsQuiet (c : CircuitId) (ns : List NodeId) (z : Calming) : Type 0 where
  pub idle : AllByRecursion (IsIdleAt c z.world) (open_nodes z.world ns)
  pub taken : AllTaken ns z

-- a tick at each of these nodes
abbrev pub ticks_at : CircuitId → List NodeId → List Occurrence
ticks_at c ns = map (λ n. Steps (step.At n c event.Tick)) ns

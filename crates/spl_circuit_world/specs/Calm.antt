-- A calm: passes of ticks and deliveries until nothing is left to do (docs/RULES.md, Calm).
use Rattle.std.specs.{Prelude.{ℕ, zero, suc, ◌+◌, ◌-◌, ◌&&◌, List, [], ◌∷◌, ◌++◌, length, if◌then◌else◌}, List.filter, Str.bytes_eq}
use Rattle.spl_circuit.specs.Nodes.{NodeId, CircuitId, sorted}
use Rattle.spl_wire.specs.declared.event.Event.TheVariants as event
use Rattle.spl_sched.specs.declared.line.Step.{Step}
use Rattle.spl_sched.specs.declared.line.Step.TheVariants as step
use Rattle.spl_cell_rules.specs.Cells.{is_open_cell}
use Rattle.spl_circuit_world.specs.Worlds.{World, Occurrence, Steps, step_world, messages}

-- the world so far, how many messages of each pair need no delivery any more, and what happened
pub record Calming : Type 0 where
  pub world : World
  pub taken : NodeId → NodeId → ℕ
  pub happened : List Occurrence

abbrev pub calming_step : Calming → Step → Calming
calming_step z s = record { world = step_world z.world s; taken = z.taken; happened = z.happened ++ Steps s ∷ [] }

-- the nodes that are up and have a bound and open cell
abbrev pub open_nodes : World → List NodeId → List NodeId
open_nodes w ns = filter (λ n. w.up n && is_open_cell (w.at n)) ns

abbrev pub ticks : CircuitId → Calming → List NodeId → Calming
ticks c z [] = z
ticks c z (n ∷ ns) = ticks c (calming_step z (step.At n c event.Tick)) ns

-- so many deliveries on a pair, from this number on
abbrev pub delivers : CircuitId → Calming → NodeId → NodeId → ℕ → ℕ → Calming
delivers c z from to number zero = z
delivers c z from to number (suc k) = delivers c (calming_step z (step.Deliver from to c number)) from to (number + 1) k

-- the first so many messages of a pair need no delivery any more
abbrev pub takes : Calming → NodeId → NodeId → ℕ → Calming
takes z from to n = record { world = z.world; taken = λ a b. if bytes_eq a from && bytes_eq b to then n else z.taken a b; happened = z.happened }

-- what was sent on a pair in this calm and isn't delivered yet is delivered, where the recipient is up
abbrev pub pair_turn : CircuitId → Calming → NodeId → NodeId → Calming
pair_turn c z from to =
    let all : ℕ = length (messages z.world from to) in
    if z.world.up to then takes (delivers c z from to (z.taken from to + 1) (all - z.taken from to)) from to all else z

abbrev pub to_all : CircuitId → Calming → NodeId → List NodeId → Calming
to_all c z from [] = z
to_all c z from (n ∷ ns) = to_all c (pair_turn c z from n) from ns

abbrev pub from_all : CircuitId → Calming → List NodeId → List NodeId → Calming
from_all c z all [] = z
from_all c z all (n ∷ ns) = from_all c (to_all c z n all) all ns

-- a tick at each node with a bound and open cell, and then each pair in turn, by sender and then recipient
abbrev pub pass : CircuitId → List NodeId → Calming → Calming
pass c ns z = from_all c (ticks c z (open_nodes z.world ns)) ns ns

abbrev pub passes : CircuitId → List NodeId → ℕ → Calming → Calming
passes c ns zero z = z
passes c ns (suc k) z = passes c ns k (pass c ns z)

-- at first nothing of the calm was sent
abbrev pub calming : World → Calming
calming w = record { world = w; taken = λ a b. length (messages w a b); happened = [] }

-- so many passes, the nodes in the order of their ids
abbrev pub calm : CircuitId → World → ℕ → Calming
calm c w k = passes c (sorted w.nodes) k (calming w)

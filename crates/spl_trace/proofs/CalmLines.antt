-- All that happens in a calm is steps of its circuit; so its lines are the calm.
use Rattle.std.{specs.Str.bytes_eq, proofs.Common.{◌≡◌, ℕ, zero, suc, ◌+◌, ◌-◌, true, false, List, [], ◌∷◌, ◌++◌, length, map, refl, sym, ap, subst, ◌∙◌}}
use Rattle.spl_agree.proofs.Tests.{if_holds}
use Rattle.spl_circuit.specs.{Nodes.{NodeId, CircuitId, sorted}, Same.node_same}
use Rattle.spl_wire.specs.declared.event.Event.TheVariants as event
use Rattle.spl_sched.specs.{Grammar.step_circuit, declared.line.Step.Step}
use Rattle.spl_sched.specs.declared.line.Step.TheVariants as step
use Rattle.spl_sched.specs.declared.line.Line.TheVariants as line
use Rattle.spl_circuit_world.specs.{Worlds.{World, Occurrence, Steps, Stops, Starts, Halts, messages, step_world, occur}, Calm.{Calming, calming_step}}
use Rattle.spl_circuit_world.specs.{Calm.{calming, open_nodes, ticks, delivers, pair_turn, to_all, from_all, pass, passes, calm}, Projection.plainly}
use Rattle.spl_circuit_world.specs.Whole.{world_after_line, whole_from}
use Rattle.spl_trace.specs.Traced.{steps_in}

-- a step of this circuit
abbrev pub IsStepOf : CircuitId → Occurrence → Type 0
IsStepOf c (Steps s) = step_circuit s ≡ c
IsStepOf c _ = ⊥

abbrev pub AllOf : CircuitId → List Occurrence → Type 0
AllOf c [] = Unit {0}
AllOf c (e ∷ es) = IsStepOf c e × AllOf c es

of-append : (c : CircuitId) (xs ys : List Occurrence) → AllOf c xs → AllOf c ys → AllOf c (xs ++ ys)
of-append c [] ys h k = k
of-append c (x ∷ xs) ys h k = (h.0, of-append c xs ys h.1 k)

-- ---- a calm

abbrev AllStepsOf : CircuitId → Calming → Type 0
AllStepsOf c z = AllOf c z.happened

of-step : (c : CircuitId) (z : Calming) (s : Step) → step_circuit s ≡ c → AllStepsOf c z → AllStepsOf c (calming_step z s)
of-step c z s e h = of-append c z.happened (Steps s ∷ []) h (e, tt)

of-ticks : (c : CircuitId) (z : Calming) (ns : List NodeId) → AllStepsOf c z → AllStepsOf c (ticks c z ns)
of-ticks c z [] h = h
of-ticks c z (n ∷ ns) h = of-ticks c (calming_step z (step.At n c event.Tick)) ns (of-step c z (step.At n c event.Tick) refl h)

of-delivers : (c : CircuitId) (z : Calming) (from to : NodeId) (number k : ℕ) → AllStepsOf c z → AllStepsOf c (delivers c z from to number k)
of-delivers c z from to number zero h = h
of-delivers c z from to number (suc k) h =
    of-delivers c (calming_step z (step.Deliver from to c number)) from to (number + 1) k (of-step c z (step.Deliver from to c number) refl h)

of-pair : (c : CircuitId) (z : Calming) (from to : NodeId) → AllStepsOf c z → AllStepsOf c (pair_turn c z from to)
of-pair c z from to h =
    if_holds (AllStepsOf c) (z.world.up to) _ _
    (λ q. of-delivers c z from to (z.taken from to + 1) (length (messages z.world from to) - z.taken from to) h) (λ q. h)

of-to_all : (c : CircuitId) (z : Calming) (from : NodeId) (ns : List NodeId) → AllStepsOf c z → AllStepsOf c (to_all c z from ns)
of-to_all c z from [] h = h
of-to_all c z from (n ∷ ns) h = of-to_all c (pair_turn c z from n) from ns (of-pair c z from n h)

of-from_all : (c : CircuitId) (z : Calming) (all ns : List NodeId) → AllStepsOf c z → AllStepsOf c (from_all c z all ns)
of-from_all c z all [] h = h
of-from_all c z all (n ∷ ns) h = of-from_all c (to_all c z n all) all ns (of-to_all c z n all h)

of-passes : (c : CircuitId) (ns : List NodeId) (k : ℕ) (z : Calming) → AllStepsOf c z → AllStepsOf c (passes c ns k z)
of-passes c ns zero z h = h
of-passes c ns (suc k) z h = of-passes c ns k (pass c ns z) (of-from_all c (ticks c z (open_nodes z.world ns)) ns ns (of-ticks c z (open_nodes z.world ns) h))

pub calm-of : (c : CircuitId) (w : World) (k : ℕ) → AllOf c (calm c w k).happened
calm-of c w k = of-passes c (sorted w.nodes) k (calming w) tt

-- ---- its lines

-- in the world of its circuit they are what happens
pub lines-own : (c : CircuitId) (w : World) (es : List Occurrence) → AllOf c es → whole_from c w (map plainly (steps_in es)) ≡ occur w es
lines-own c w [] h = refl
lines-own c w (Steps s ∷ es) h = ap (λ (v : World). whole_from c v (map plainly (steps_in es))) one ∙ lines-own c (step_world w s) es h.1
  where
    named : bytes_eq (step_circuit s) c ≡ true
    named = subst (λ (i : CircuitId). bytes_eq i c ≡ true) (sym h.0) (node_same c)

    one : world_after_line c w (plainly (line.Step s)) ≡ step_world w s
    one = rw named refl
lines-own c w (Stops n ∷ es) h = absurd h.0
lines-own c w (Starts n ∷ es) h = absurd h.0
lines-own c w (Halts kept s ∷ es) h = absurd h.0

-- in that of another they move nothing
pub lines-other : (i c : CircuitId) (w : World) (es : List Occurrence) → bytes_eq i c ≡ false → AllOf i es → whole_from c w (map plainly (steps_in es)) ≡ w
lines-other i c w [] n h = refl
lines-other i c w (Steps s ∷ es) n h = ap (λ (v : World). whole_from c v (map plainly (steps_in es))) one ∙ lines-other i c w es n h.1
  where
    other : bytes_eq (step_circuit s) c ≡ false
    other = subst (λ (j : CircuitId). bytes_eq j c ≡ false) (sym h.0) n

    one : world_after_line c w (plainly (line.Step s)) ≡ w
    one = rw other refl
lines-other i c w (Stops m ∷ es) n h = absurd h.0
lines-other i c w (Starts m ∷ es) n h = absurd h.0
lines-other i c w (Halts kept s ∷ es) n h = absurd h.0

-- What happens in lines.
use Rattle.std.{specs.Prelude.{nat_le, nat_lt}, proofs.Common.{◌≡◌, ℕ, zero, suc, ◌+◌, ◌-◌, ◌^◌, Bool, true, ◌&&◌, List, [], ◌∷◌, ◌++◌, length, refl, sym}}
use Rattle.std.proofs.Common.{ap, ◌∙◌}
use Rattle.spl_agree.proofs.Tests.{if_holds, and_left, and_right}
use Rattle.spl_circuit.specs.Nodes.{NodeId, CircuitId, sorted}
use Rattle.spl_wire.specs.declared.event.Event.{Event}
use Rattle.spl_wire.specs.declared.event.Event.TheVariants as event
use Rattle.spl_sched.specs.{Grammar.{is_event, is_inner_step, is_step, is_line, is_fill}, declared.line.{Line.Line, Step.Step}}
use Rattle.spl_sched.specs.declared.line.Step.TheVariants as step
use Rattle.spl_sched.specs.declared.line.Line.TheVariants as line
use Rattle.spl_base.specs.Ids.{is_node_id, is_circuit_id}
use Rattle.spl_circuit_world.specs.{Worlds.{World, Occurrence, Steps, step_world, circuit_happens, occur, messages}, Projection.{Ran, line_fits, lines_fit}}
use Rattle.spl_circuit_world.specs.{Projection.{AllPlain, IsPlainEvent, IsPlainStep}, Calm.{Calming, calming_step, calming, open_nodes, ticks, delivers}}
use Rattle.spl_circuit_world.specs.{Calm.{takes, pair_turn, to_all, from_all, pass, passes, calm}, Answers.{line_world, occurrences_in}}

-- runs one after the other
pub run-append : (w : World) (xs ys : List Occurrence) → occur w (xs ++ ys) ≡ occur (occur w xs) ys
run-append w [] ys = refl
run-append w (x ∷ xs) ys = run-append (circuit_happens w x) xs ys

-- plain occurrences one after the other
pub plain-append : (xs ys : List Occurrence) → AllPlain xs → AllPlain ys → AllPlain (xs ++ ys)
plain-append [] ys h k = k
plain-append (x ∷ xs) ys h k = (h.0, plain-append xs ys h.1 k)

-- a calm so far is a run
pub record IsRun (w : World) (z : Calming) : Type 0 where
  pub same : z.world ≡ occur w z.happened
  pub plain : AllPlain z.happened

-- a step of a calm
pub run-step : (w : World) (z : Calming) (s : Step) → IsPlainStep s → IsRun w z → IsRun w (calming_step z s)
run-step w z s h r = record {
  same = ap (λ (x : World). step_world x s) r.same ∙ sym (run-append w z.happened (Steps s ∷ []));
  plain = plain-append z.happened (Steps s ∷ []) r.plain (h, tt);
}

-- its ticks
pub run-ticks : (c : CircuitId) (w : World) (z : Calming) (ns : List NodeId) → IsRun w z → IsRun w (ticks c z ns)
run-ticks c w z [] r = r
run-ticks c w z (n ∷ ns) r = run-ticks c w (calming_step z (step.At n c event.Tick)) ns (run-step w z (step.At n c event.Tick) tt r)

-- its deliveries on a pair
pub run-delivers : (c : CircuitId) (w : World) (z : Calming) (from to : NodeId) (number k : ℕ) → IsRun w z → IsRun w (delivers c z from to number k)
run-delivers c w z from to number zero r = r
run-delivers c w z from to number (suc k) r =
    run-delivers c w (calming_step z (step.Deliver from to c number)) from to (number + 1) k (run-step w z (step.Deliver from to c number) tt r)

-- what needs no delivery any more changes nothing
pub run-takes : (w : World) (z : Calming) (from to : NodeId) (n : ℕ) → IsRun w z → IsRun w (takes z from to n)
run-takes w z from to n r = record { same = r.same; plain = r.plain }

-- a pair's turn
pub run-pair : (c : CircuitId) (w : World) (z : Calming) (from to : NodeId) → IsRun w z → IsRun w (pair_turn c z from to)
run-pair c w z from to r = if_holds (IsRun w) (z.world.up to) _ _
    (λ q. run-takes w (delivers c z from to (z.taken from to + 1) (length (messages z.world from to) - z.taken from to)) from to
    (length (messages z.world from to)) (run-delivers c w z from to (z.taken from to + 1) (length (messages z.world from to) - z.taken from to) r))
    (λ q. r)

-- the turns of a sender
pub run-to_all : (c : CircuitId) (w : World) (z : Calming) (from : NodeId) (ns : List NodeId) → IsRun w z → IsRun w (to_all c z from ns)
run-to_all c w z from [] r = r
run-to_all c w z from (n ∷ ns) r = run-to_all c w (pair_turn c z from n) from ns (run-pair c w z from n r)

-- the turns of all senders
pub run-from_all : (c : CircuitId) (w : World) (z : Calming) (all ns : List NodeId) → IsRun w z → IsRun w (from_all c z all ns)
run-from_all c w z all [] r = r
run-from_all c w z all (n ∷ ns) r = run-from_all c w (to_all c z n all) all ns (run-to_all c w z n all r)

-- its passes
pub run-passes : (c : CircuitId) (w : World) (ns : List NodeId) (k : ℕ) (z : Calming) → IsRun w z → IsRun w (passes c ns k z)
run-passes c w ns zero z r = r
run-passes c w ns (suc k) z r =
    run-passes c w ns k (pass c ns z) (run-from_all c w (ticks c z (open_nodes z.world ns)) ns ns (run-ticks c w z (open_nodes z.world ns) r))

-- a whole calm
pub run-calm : (c : CircuitId) (w : World) (k : ℕ) → IsRun w (calm c w k)
run-calm c w k = run-passes c w (sorted w.nodes) k (calming w) (record { same = refl; plain = tt })

-- ---- what happens in lines

-- a line is a run of what happens in it
pub line-run : (w : World) (l : Line) (kept : Bool) → line_world w l kept ≡ occur w (occurrences_in w l kept)
line-run w (line.Calm c k) kept = (run-calm c w k).same
line-run w _ kept = refl

-- ---- a line within its bounds has no delivery of its own making

-- the event of a line
pub plain-event : (c : CircuitId) (e : Event) → is_event c e ≡ true → IsPlainEvent e
plain-event c (event.Deliver from m) h = cc
plain-event c _ h = tt

-- a step of a line
pub plain-step : (s : Step) → is_step s ≡ true → IsPlainStep s
plain-step (step.At n c e) h = plain-event c e (and_right (is_node_id n && is_circuit_id c) (is_event c e) h)
plain-step (step.Deliver from to c k) h = tt

-- a line
pub plain-line : (w : World) (l : Line) (kept : Bool) → is_line l ≡ true → AllPlain (occurrences_in w l kept)
plain-line w (line.Step s) kept h = (plain-step s h, tt)
plain-line w (line.Calm c k) kept h = (run-calm c w k).plain
plain-line w (line.Roll n) kept h = tt
plain-line w (line.Check k) kept h = tt
plain-line w (line.Cut calls f s) kept h = (plain-step s (and_right (nat_lt calls (2 ^ 8) && is_fill f && is_inner_step s) (is_step s) h), tt)
plain-line w (line.Fail call s) kept h = (plain-step s (and_right ((nat_le 1 call && nat_lt call (2 ^ 8)) && is_inner_step s) (is_step s) h), tt)
plain-line w _ kept h = (tt, tt)

-- lines within their bounds, one list after the other
pub fit-append : (xs ys : List Ran) → lines_fit xs ≡ true → lines_fit ys ≡ true → lines_fit (xs ++ ys) ≡ true
fit-append [] ys h k = k
fit-append (x ∷ xs) ys h k = rw (and_left (line_fits x) (lines_fit xs) h) (fit-append xs ys (and_right (line_fits x) (lines_fit xs) h) k)

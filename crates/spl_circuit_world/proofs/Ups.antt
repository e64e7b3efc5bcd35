-- Which nodes are up after all lines.
use Rattle.std.{specs.{Prelude.if◌then◌else◌, Str.bytes_eq}, proofs.Common.{◌≡◌, ℕ, zero, suc, ◌+◌, ◌-◌, Bool, true, false, List, [], ◌∷◌, length, refl, ap}}
use Rattle.std.proofs.Common.{◌∙◌}
use Rattle.spl_agree.proofs.Tests.{if_holds}
use Rattle.spl_circuit.specs.{Nodes.{NodeId, CircuitId, sorted}, Same.node_is}
use Rattle.spl_wire.specs.declared.event.Event.TheVariants as event
use Rattle.spl_sched.specs.{Grammar.step_node, declared.line.{Line.Line, Step.Step}}
use Rattle.spl_sched.specs.declared.line.Step.TheVariants as step
use Rattle.spl_sched.specs.declared.line.Line.TheVariants as line
use Rattle.spl_circuit_world.specs.Worlds.{Origin, World, first_world, put_at, messages, step_plan, node_stopped, started, halted, Stops, Starts, Halts}
use Rattle.spl_circuit_world.specs.{Worlds.circuit_happens, Calm.{Calming, calming_step, calming, open_nodes, ticks, delivers, pair_turn, to_all, from_all}}
use Rattle.spl_circuit_world.specs.{Calm.{pass, passes, calm}, Projection.{Ran, names}, Answers.{line_world, up_after, up_from, is_up}, Whole.world_beside}
use Rattle.spl_circuit_world.specs.Whole.{world_after_line, whole_from, whole_world}

-- ---- a calm leaves the nodes up and down

-- as it was
abbrev pub IsAsUp : Calming → Calming → Type 0
IsAsUp z z2 = z2.world.up ≡ z.world.up

pub ticks-up : (c : CircuitId) (z : Calming) (xs : List NodeId) → IsAsUp z (ticks c z xs)
ticks-up c z [] = refl
ticks-up c z (x ∷ xs) = ticks-up c (calming_step z (step.At x c event.Tick)) xs

delivers-up : (c : CircuitId) (z : Calming) (from to : NodeId) (number k : ℕ) → IsAsUp z (delivers c z from to number k)
delivers-up c z from to number zero = refl
delivers-up c z from to number (suc k) = delivers-up c (calming_step z (step.Deliver from to c number)) from to (number + 1) k

pair-up : (c : CircuitId) (z : Calming) (from to : NodeId) → IsAsUp z (pair_turn c z from to)
pair-up c z from to =
    if_holds (IsAsUp z) (z.world.up to) _ _ (λ q. delivers-up c z from to (z.taken from to + 1) (length (messages z.world from to) - z.taken from to))
    (λ q. refl)

to_all-up : (c : CircuitId) (z : Calming) (from : NodeId) (xs : List NodeId) → IsAsUp z (to_all c z from xs)
to_all-up c z from [] = refl
to_all-up c z from (x ∷ xs) = to_all-up c (pair_turn c z from x) from xs ∙ pair-up c z from x

from_all-up : (c : CircuitId) (z : Calming) (all xs : List NodeId) → IsAsUp z (from_all c z all xs)
from_all-up c z all [] = refl
from_all-up c z all (x ∷ xs) = from_all-up c (to_all c z x all) all xs ∙ to_all-up c z x all

passes-up : (c : CircuitId) (xs : List NodeId) (k : ℕ) (z : Calming) → IsAsUp z (passes c xs k z)
passes-up c xs zero z = refl
passes-up c xs (suc k) z = passes-up c xs k (pass c xs z) ∙ (from_all-up c (ticks c z (open_nodes z.world xs)) xs xs ∙ ticks-up c z (open_nodes z.world xs))

calm-up : (c : CircuitId) (w : World) (k : ℕ) → (calm c w k).world.up ≡ w.up
calm-up c w k = passes-up c (sorted w.nodes) k (calming w)

-- ---- a line

-- a node that is as it is put
put-up : (f : NodeId → Bool) (m n : NodeId) (b : Bool) → put_at f m b n ≡ (if bytes_eq n m then b else f n)
unfolding put_at
put-up f m n b = refl

-- where it was so already
still-up : (f : NodeId → Bool) (m n : NodeId) (b : Bool) → f m ≡ b → f n ≡ (if bytes_eq n m then b else f n)
still-up f m n b h = if_holds (λ (x : Bool). f n ≡ x) (bytes_eq n m) b (f n) (λ q. ap f (node_is n m q) ∙ h) (λ q. refl)

stops-up : (w : World) (m n : NodeId) → (circuit_happens w (Stops m)).up n ≡ (if bytes_eq n m then false else w.up n)
stops-up w m n =
    if_holds (λ (x : World). x.up n ≡ (if bytes_eq n m then false else w.up n)) (w.up m) (node_stopped w m) w (λ q. put-up w.up m n false)
    (λ q. still-up w.up m n false q)

starts-up : (w : World) (m n : NodeId) → (circuit_happens w (Starts m)).up n ≡ (if bytes_eq n m then true else w.up n)
starts-up w m n =
    if_holds (λ (x : World). x.up n ≡ (if bytes_eq n m then true else w.up n)) (w.up m) w (started w m) (λ q. still-up w.up m n true q)
    (λ q. put-up w.up m n true)

halts-up : (w : World) (kept : Bool) (s : Step) (n : NodeId) → (circuit_happens w (Halts kept s)).up n ≡ (if bytes_eq n (step_node s) then false else w.up n)
halts-up w kept s n =
    if_holds (λ (x : World). x.up n ≡ (if bytes_eq n (step_node s) then false else w.up n)) (w.up (step_node s))
    (halted w (step_node s) kept (step_plan w s)) w (λ q. put-up w.up (step_node s) n false) (λ q. still-up w.up (step_node s) n false q)

line-up : (w : World) (l : Line) (kept : Bool) (n : NodeId) → (line_world w l kept).up n ≡ up_after n (w.up n) l
line-up w (line.Calm c k) kept n = ap (λ (f : NodeId → Bool). f n) (calm-up c w k)
line-up w (line.Stop m) kept n = stops-up w m n
line-up w (line.Start m) kept n = starts-up w m n
line-up w (line.Cut calls f s) kept n = halts-up w kept s n
line-up w (line.Fail call s) kept n = halts-up w kept s n
line-up w _ kept n = refl

beside-up : (w : World) (l : Line) (n : NodeId) → (world_beside w l).up n ≡ up_after n (w.up n) l
beside-up w (line.Stop m) n = stops-up w m n
beside-up w (line.Start m) n = starts-up w m n
beside-up w (line.Cut calls f s) n = stops-up w (step_node s) n
beside-up w (line.Fail call s) n = stops-up w (step_node s) n
beside-up w _ n = refl

after-up : (c : CircuitId) (w : World) (r : Ran) (n : NodeId) → (world_after_line c w r).up n ≡ up_after n (w.up n) r.line
after-up c w r n =
    if_holds (λ (x : World). x.up n ≡ up_after n (w.up n) r.line) (names c r.line) (line_world w r.line r.kept) (world_beside w r.line)
    (λ q. line-up w r.line r.kept n) (λ q. beside-up w r.line n)

whole_from-up : (c : CircuitId) (w : World) (rs : List Ran) (n : NodeId) → (whole_from c w rs).up n ≡ up_from n (w.up n) rs
whole_from-up c w [] n = refl
whole_from-up c w (r ∷ rs) n = whole_from-up c (world_after_line c w r) rs n ∙ ap (λ (b : Bool). up_from n b rs) (after-up c w r n)

-- a node is up in each world, or in none
pub whole-up : (o : Origin) (c : CircuitId) (rs : List Ran) (n : NodeId) → (whole_world o c rs).up n ≡ is_up n rs
whole-up o c rs n = whole_from-up c (first_world o c) rs n

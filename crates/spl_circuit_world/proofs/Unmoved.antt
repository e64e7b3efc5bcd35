-- A step that is refused moves nothing.
use Rattle.std.{specs.Prelude.{Option, Some, None, slice_get, if◌then◌else◌}, proofs.Common.{◌≡◌, ◌≢◌, ◌-◌, ◌⊎◌, Bool, true, append-nil, refl, sym, ap}}
use Rattle.std.proofs.Common.{subst, ◌∙◌, inl, inr}
use Rattle.spl_agree.{specs.declared.event.Note.Note, proofs.Tests.if_holds}
use Rattle.spl_agree.specs.declared.event.OpenMove.TheVariants as move
use Rattle.spl_circuit.specs.{Nodes.{NodeId, CircuitId}, Same.node_is}
use Rattle.spl_wire.specs.declared.{answer.{Answer.Answer, Bit.Bit, Refusal.Refusal}, message.Message.Message, plan.Plan.Plan}
use Rattle.spl_wire.specs.declared.event.Event.TheVariants as event
use Rattle.spl_wire.specs.declared.answer.Answer.TheVariants as answer
use Rattle.spl_wire.specs.declared.answer.Refusal.TheVariants as refusal
use Rattle.spl_sched.specs.{Grammar.{step_node, step_circuit}, declared.line.{Line.Line, Step.Step}}
use Rattle.spl_sched.specs.declared.line.Step.TheVariants as step
use Rattle.spl_sched.specs.declared.line.Line.TheVariants as line
use Rattle.spl_cell_rules.specs.Cells.{Cell, Empty, Site, Say, Submitted, Delivered, Alone, said, Deed, Refuses, Tells, Binds, Acts, Serves, site_at}
use Rattle.spl_cell_rules.specs.{Events.does, Plans.{tells_only, planned}, Changes.moved_cell}
use Rattle.spl_circuit_world.specs.Worlds.{World, IsUnmoved, put_at, messages, delivery_plan, plan_up, step_plan, step_world, circuit_carried_out, Halts}
use Rattle.spl_circuit_world.specs.{Worlds.circuit_happens, Projection.names, Answers.{bit_of, halt_answer, line_answer, line_world}}
use Rattle.spl_circuit_world.proofs.{Nodes.node_cases, Puts.{put_at-same, put_at-other}}

-- ---- a refusal is the answer alone

-- where a plan is answered with a refusal, it is that answer alone
record IsAlone (p : Plan) : Type 0 where
  alone : (why : Refusal) → p.answer ≡ answer.Refused why → p ≡ tells_only (answer.Refused why)

alone-tells : (a : Answer) → IsAlone (tells_only a)
alone-tells a = record { alone = λ why q. ap tells_only q }

-- no note is answered with a refusal
never-refused : (say : Say) (x : Note) (why : Refusal) → said say x ≡ answer.Refused why → ⊥
never-refused Submitted x why h = cc
never-refused Delivered x why h = cc
never-refused Alone x why h = cc

alone-deed : (site : Site) (deed : Deed) → IsAlone (planned site deed)
alone-deed site (Refuses r) = alone-tells (answer.Refused r)
alone-deed site (Tells a) = alone-tells a
alone-deed site (Binds say d back e) = record { alone = λ why q. absurd (never-refused say _ why q) }
alone-deed site (Acts say h back e) = record { alone = λ why q. absurd (never-refused say _ why q) }
alone-deed site (Serves say h back e) = record { alone = λ why q. absurd (never-refused say _ why q) }
alone-deed site _ = record { alone = λ why q. cc }

alone-delivery : (c : CircuitId) (w : World) (from to : NodeId) (o : Option Message) → IsAlone (delivery_plan c w from to o)
alone-delivery c w from to None = alone-tells (answer.Refused refusal.NoMessage)
alone-delivery c w from to (Some m) = alone-deed (site_at to c) (does (site_at to c) (w.at to) (event.Deliver from m))

alone-up : (w : World) (s : Step) → IsAlone (plan_up w s)
alone-up w (step.At n c e) = alone-deed (site_at n c) (does (site_at n c) (w.at n) e)
alone-up w (step.Deliver from to c k) = alone-delivery c w from to (slice_get (messages w from to) (k - 1))

alone-step : (w : World) (s : Step) → IsAlone (step_plan w s)
alone-step w s = if_holds IsAlone (w.up (step_node s)) _ _ (λ q. alone-up w s) (λ q. alone-tells (answer.Refused refusal.Down))

-- ---- a refusal moves nothing

pub unmoved-same : (w : World) → IsUnmoved w w
unmoved-same w = record { nodes = refl; up = λ n. refl; at = λ n. refl; sent = refl }

-- without a move a cell stays
pub moved-keep : (n : NodeId) (k : Cell) → moved_cell n k move.Keep move.Keep ≡ k
moved-keep n Empty = refl
moved-keep n _ = refl

-- what stays as it was is the same
pub unmoved-is : (w v : World) → IsUnmoved w v → v ≡ w
unmoved-is w v u = λ i. record { nodes = u.nodes i; up = λ n. u.up n i; at = λ n. u.at n i; sent = u.sent i }

-- an answer alone
pub unmoved-tells : (w : World) (n : NodeId) (a : Answer) → IsUnmoved w (circuit_carried_out w n (tells_only a))
unmoved-tells w n a = record { nodes = refl; up = λ j. refl; at = λ j. there j (node_cases j n); sent = append-nil w.sent }
  where
    there : (j : NodeId) → (j ≡ n) ⊎ (j ≢ n) → put_at w.at n (moved_cell n (w.at n) move.Keep move.Keep) j ≡ w.at j
    there j (inl q) =
        subst (λ (i : CircuitId). put_at w.at n (moved_cell n (w.at n) move.Keep move.Keep) i ≡ w.at i) (sym q) (put_at-same w.at n _ ∙ moved-keep n (w.at n))
    there j (inr q) = put_at-other w.at n _ j q

pub unmoved-step : (w : World) (s : Step) (why : Refusal) → (step_plan w s).answer ≡ answer.Refused why → IsUnmoved w (step_world w s)
unmoved-step w s why h =
    subst (λ (p : Plan). IsUnmoved w (circuit_carried_out w (step_node s) p)) (sym ((alone-step w s).alone why h))
    (unmoved-tells w (step_node s) (answer.Refused why))

-- a stop in a step
pub unmoved-halt : (say : Bit → Answer) (w : World) (s : Step) (kept : Bool) (why : Refusal) → ((b : Bit) → say b ≡ answer.Refused why → ⊥)
    → halt_answer say w s kept ≡ answer.Refused why → IsUnmoved w (circuit_happens w (Halts kept s))
unmoved-halt say w s kept why other h =
    if_holds (IsUnmoved w) (w.up (step_node s)) _ _ (λ q. absurd (other (bit_of kept (step_plan w s).changes) (sym (up q) ∙ h))) (λ q. unmoved-same w)
  where
    up : w.up (step_node s) ≡ true → halt_answer say w s kept ≡ say (bit_of kept (step_plan w s).changes)
    up q = ap (λ (b : Bool). if b then say (bit_of kept (step_plan w s).changes) else answer.Refused refusal.Down) q

-- a line of the circuit
pub unmoved-line : (worlds : CircuitId → World) (roll : NodeId → Answer) (l : Line) (kept : Bool) (why : Refusal) (c : CircuitId) → names c l ≡ true
    → line_answer worlds roll l kept ≡ answer.Refused why → IsUnmoved (worlds c) (line_world (worlds c) l kept)
unmoved-line worlds roll (line.Step s) kept why c q h =
    unmoved-step (worlds c) s why (subst (λ (i : CircuitId). (step_plan (worlds i) s).answer ≡ answer.Refused why) (node_is (step_circuit s) c q) h)
unmoved-line worlds roll (line.Cut calls fill s) kept why c q h =
    unmoved-halt answer.Cut (worlds c) s kept why (λ b x. cc)
    (subst (λ (i : CircuitId). halt_answer answer.Cut (worlds i) s kept ≡ answer.Refused why) (node_is (step_circuit s) c q) h)
unmoved-line worlds roll (line.Fail call s) kept why c q h =
    unmoved-halt answer.Fault (worlds c) s kept why (λ b x. cc)
    (subst (λ (i : CircuitId). halt_answer answer.Fault (worlds i) s kept ≡ answer.Refused why) (node_is (step_circuit s) c q) h)
unmoved-line worlds roll _ kept why c q h = cc

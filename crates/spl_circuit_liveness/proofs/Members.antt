-- What holds of each member's cell all through a calm: it is open.
use Rattle.std.{specs.Prelude.{Option, Some, None, slice_get}, proofs.Common.{◌≡◌, ◌≢◌, ℕ, ◌-◌, ◌⊎◌, true, sym, subst, inl, inr}}
use Rattle.spl_agree.{specs.Member.Member, proofs.Tests.if_holds}
use Rattle.spl_circuit.specs.{Nodes.{NodeId, CircuitId, has_node}, declared.{act.Act.Act, definition.Definition.Definition}}
use Rattle.spl_wire.specs.declared.{answer.Answer.Answer, message.Message.Message, plan.Plan.Plan}
use Rattle.spl_wire.specs.declared.event.Event.TheVariants as event
use Rattle.spl_wire.specs.declared.answer.Answer.TheVariants as answer
use Rattle.spl_wire.specs.declared.answer.Refusal.TheVariants as refusal
use Rattle.spl_sched.specs.{Grammar.step_node, declared.line.Step.Step}
use Rattle.spl_sched.specs.declared.line.Step.TheVariants as step
use Rattle.spl_cell_rules.specs.{Cells.{Cell, site_at}, Changes.after_plan, Plans.{plan_of, tells_only}}
use Rattle.spl_circuit_world.{specs.{Worlds.{World, messages, delivery_plan, step_plan, step_world, put_at}, Projection.IsPlainStep}, proofs.Nodes.node_cases}
use Rattle.spl_circuit_world.proofs.{Puts.{put_at-same, put_at-other}, Unmoved.moved-keep}
use Rattle.spl_circuit_safety.proofs.GroupWorlds.{IsValidCell}
use Rattle.spl_circuit_liveness.proofs.{ActShape.IsOpenTo, Stays.{StaysOpen, stays-tick, stays-deliver}, Coupled.{IsCoupled, coupled-step, valid-after}}
use Rattle.spl_circuit_liveness.proofs.Lasting.{IsLasting}

-- the events of a calm keep this of a cell that is valid after them
pub record KeepsCell (P : Cell → Type 0) : Type 0 where
  pub ticks : (c : CircuitId) (n : NodeId) (k : Cell) → P k → IsValidCell n (after_plan n k (plan_of (site_at n c) k event.Tick))
      → P (after_plan n k (plan_of (site_at n c) k event.Tick))
  pub delivers : (c : CircuitId) (n from : NodeId) (x : Message) (k : Cell) → P k
      → IsValidCell n (after_plan n k (plan_of (site_at n c) k (event.Deliver from x))) → P (after_plan n k (plan_of (site_at n c) k (event.Deliver from x)))

-- the coupling, and this of each member's cell
abbrev pub CellsAre : Definition → (Cell → Type 0) → World → (NodeId → NodeId → ℕ) → Type 0
CellsAre d P w taken = IsCoupled w × ((n : NodeId) → has_node d.members n ≡ true → P (w.at n))

-- what only reports something keeps all of a cell
pub told-keeps : (P : Cell → Type 0) (n : NodeId) (k : Cell) (a : Answer) → P k → P (after_plan n k (tells_only a))
told-keeps P n k a p = subst P (sym (moved-keep n k)) p

-- a step of a calm
pub cells-step : (d : Definition) (P : Cell → Type 0) (w : World) (s : Step) → IsPlainStep s
    → (P (w.at (step_node s)) → IsValidCell (step_node s) (after_plan (step_node s) (w.at (step_node s)) (step_plan w s))
    → P (after_plan (step_node s) (w.at (step_node s)) (step_plan w s))) → (taken taken2 : NodeId → NodeId → ℕ) → CellsAre d P w taken
    → CellsAre d P (step_world w s) taken2
cells-step d P w s plain keeps taken taken2 q = (later, λ j h. go j h (node_cases j (step_node s)))
  where
    n : NodeId
    n = step_node s

    later : IsCoupled (step_world w s)
    later = coupled-step w s plain q.0

    go : (j : NodeId) → has_node d.members j ≡ true → (j ≡ n) ⊎ (j ≢ n) → P (put_at w.at n (after_plan n (w.at n) (step_plan w s)) j)
    go j h (inl e) = subst (λ (z : NodeId). P (put_at w.at n (after_plan n (w.at n) (step_plan w s)) z)) (sym e)
        (subst P (sym (put_at-same w.at n (after_plan n (w.at n) (step_plan w s))))
        (keeps (q.1 n (subst (λ (z : NodeId). has_node d.members z ≡ true) e h)) (valid-after w n (step_plan w s) later)))
    go j h (inr e) = subst P (sym (put_at-other w.at n (after_plan n (w.at n) (step_plan w s)) j e)) (q.1 j h)

-- so it lasts
pub cells-last : (d : Definition) (P : Cell → Type 0) → KeepsCell P → IsLasting d (CellsAre d P)
cells-last d P keeps = record {
  ticks = λ c n w taken q. cells-step d P w (step.At n c event.Tick) tt (tick c n w) taken taken q;
  takes = λ c from to w taken number t hf ht dif e tk l q. cells-step d P w (step.Deliver from to c number) tt (deliver c from to w number) taken taken q;
  apart = λ c from to w taken number dif lone q. cells-step d P w (step.Deliver from to c number) tt (deliver c from to w number) taken taken q;
  again = λ w taken taken2 e q. q;
}
  where
    Kept : NodeId → Cell → Plan → Type 0
    Kept n k p = P k → IsValidCell n (after_plan n k p) → P (after_plan n k p)

    tick : (c : CircuitId) (n : NodeId) (w : World) → Kept n (w.at n) (step_plan w (step.At n c event.Tick))
    tick c n w =
        if_holds (Kept n (w.at n)) (w.up n) _ _ (λ u p v. keeps.ticks c n (w.at n) p v) (λ u p v. told-keeps P n (w.at n) (answer.Refused refusal.Down) p)

    by_message : (c : CircuitId) (from to : NodeId) (w : World) (o : Option Message) → Kept to (w.at to) (delivery_plan c w from to o)
    by_message c from to w None = λ p v. told-keeps P to (w.at to) (answer.Refused refusal.NoMessage) p
    by_message c from to w (Some x) = λ p v. keeps.delivers c to from x (w.at to) p v

    deliver : (c : CircuitId) (from to : NodeId) (w : World) (number : ℕ) → Kept to (w.at to) (step_plan w (step.Deliver from to c number))
    deliver c from to w number =
        if_holds (Kept to (w.at to)) (w.up to) _ _ (λ u. by_message c from to w (slice_get (messages w from to) (number - 1)))
        (λ u p v. told-keeps P to (w.at to) (answer.Refused refusal.Down) p)

-- ---- open

pub open-keeps : (d : Definition) → KeepsCell (IsOpenTo d)
open-keeps d = record {
  ticks = λ c n k o v. subst (λ (z : Cell). IsOpenTo d (after_plan n z (plan_of (site_at n c) z event.Tick))) (sym o.3)
      (opened n o.1 _ (stays-tick c n d o.0 o.1 o.2));
  delivers =
      λ c n from x k o v. subst (λ (z : Cell). IsOpenTo d (after_plan n z (plan_of (site_at n c) z (event.Deliver from x)))) (sym o.3)
      (opened n o.1 _ (stays-deliver c n from d o.0 o.1 o.2 x));
}
  where
    opened : (n : NodeId) (a : Member Act) (k : Cell) → StaysOpen d n a k → IsOpenTo d k
    opened n a k s = (s.turn, s.acts, s.batches, s.held)

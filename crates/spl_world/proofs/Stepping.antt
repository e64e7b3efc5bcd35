-- The step that a turn is.
use Rattle.std.proofs.{Common.{IsTrue, nat_lt, ◌^◌}, lemmas.Bool.{le-leb, lt-ltb, ltb-true}}
use Rattle.spl_base.specs.Ids.{is_node_id, is_circuit_id}
use Rattle.spl_world.{specs.{Cursor.{IsStep, IsTurn}, Turns.IsThere, Views.world_node_ids, declared.{calm.Turn.Turn, world.World.World}}, proofs.Common.◌≡◌}
use Rattle.spl_world.proofs.Common.{ℕ, ◌+◌, ◌<◌, Bool, true, false, nat_le, List, Some, slice_get, sym, subst, refl, arith, bytes_eq, NodeId, CircuitId}
use Rattle.spl_world.proofs.{Common.{is_step, Step}, Slots.same_length}
use Rattle.spl_world.specs.declared.calm.Turn.TheVariants as turn
use Rattle.spl_sched.specs.declared.line.Step.TheVariants as step
use Rattle.spl_wire.specs.declared.event.Event.TheVariants as event

-- what holds of the step that a tick is, and of that which a delivery is
pub tick_step : (P : Step → Type 0) (ids : List NodeId) (c : CircuitId) (t : Turn) (i : ℕ) (due : Bool) → t ≡ turn.Tick i due
    → ((n : NodeId) → slice_get ids i ≡ Some n → P (step.At n c event.Tick)) → (s : Step) → IsStep ids c t s → P s
tick_step P ids c t i due is h s st = go (subst (λ (u : Turn). IsStep ids c u s) is st)
  where
    go : IsStep ids c (turn.Tick i due) s → P s
    go (n, at, same) = subst P (sym same) (h n at)

pub delivery_step : (P : Step → Type 0) (ids : List NodeId) (c : CircuitId) (t : Turn) (i j k : ℕ) → t ≡ turn.Deliver i j k
    → ((a b : NodeId) → slice_get ids i ≡ Some a → slice_get ids j ≡ Some b → P (step.Deliver a b c (k + 1))) → (s : Step) → IsStep ids c t s → P s
delivery_step P ids c t i j k is h s st = go (subst (λ (u : Turn). IsStep ids c u s) is st)
  where
    go : IsStep ids c (turn.Deliver i j k) s → P s
    go (a, b, at, to, same) = subst P (sym same) (h a b at to)

-- a turn is there, also after nodes that have the same ids
pub turn_there : (w : World) (c : CircuitId) (t : Turn) → IsTurn w c t → IsThere w t
turn_there w c (turn.Tick i due) h = h.0
turn_there w c (turn.Deliver i j k) h = h

pub there_still : (v w : World) (t : Turn) → world_node_ids v ≡ world_node_ids w → IsThere w t → IsThere v t
there_still v w (turn.Tick i due) same h = subst (λ (n : ℕ). i < n) (sym (same_length w.slots.items v.slots.items same)) h
there_still v w (turn.Deliver i j k) same (from, to, apart) = (
  subst (λ (n : ℕ). i < n) (sym (same_length w.slots.items v.slots.items same)) from,
  subst (λ (n : ℕ). j < n) (sym (same_length w.slots.items v.slots.items same)) to,
  λ a b at there. apart a b (subst (λ (ids : List NodeId). slice_get ids i ≡ Some a) same at) (subst (λ (ids : List NodeId). slice_get ids j ≡ Some b) same there),
)

-- ---- it fits a line

pub tick_fits : (n m : NodeId) (c : CircuitId) → Some n ≡ Some m → IsTrue (is_node_id n) → IsTrue (is_circuit_id c) → is_step (step.At m c event.Tick) ≡ true
tick_fits n m c same spelled about = let is : n ≡ m = cc in subst (λ (k : NodeId). is_step (step.At k c event.Tick) ≡ true) is (rw (spelled, about) refl)

pub delivery_fits : (a b d e : NodeId) (c : CircuitId) (k : ℕ) → Some a ≡ Some d → Some b ≡ Some e → IsTrue (is_node_id a) → IsTrue (is_node_id b)
    → IsTrue (is_circuit_id c) → nat_lt k 4294967295 ≡ true → bytes_eq a b ≡ false
    → is_step (step.Deliver d e c (k + 1)) ≡ true
delivery_fits a b d e c k first second from to about few off =
    let below : k < 4294967295 = ltb-true k 4294967295 few in
    let least : nat_le 1 (k + 1) ≡ true = le-leb 1 (k + 1) (omega arith) in
    let most : nat_lt (k + 1) (2 ^ 32) ≡ true = lt-ltb (k + 1) 4294967296 (omega (arith, below)) in
    let is : a ≡ d = cc in
    let js : b ≡ e = cc in
    subst (λ (n : NodeId). is_step (step.Deliver n e c (k + 1)) ≡ true) is
    (subst (λ (n : NodeId). is_step (step.Deliver a n c (k + 1)) ≡ true) js (rw (from, to, about, least, most, off) refl))

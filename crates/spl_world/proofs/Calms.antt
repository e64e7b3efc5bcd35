-- The ticks and steps of a calm.
use Rattle.std.proofs.Common.{append-nil, not}
use Rattle.spl_circuit.{specs.Nodes.inserted, proofs.Order.below_turned}
use Rattle.spl_circuit_world.{specs.{Quiet.IsIdleAt, Worlds.on_pair}, proofs.Unmoved.{unmoved-is, unmoved-tells}}
use Rattle.spl_cell_rules.{specs.{Cells.site_at, Idle.is_idle}, proofs.Idle.idle-tick}
use Rattle.spl_world.{specs.{Calms.due_at, Views.{HoldsWorld, Nodes, ids_in}}, proofs.Common.{◌≡◌, ℕ, false, if◌then◌else◌, List, [], ◌∷◌, ◌++◌, refl, ap}}
use Rattle.spl_world.proofs.Common.{◌∙◌, true, sym, Bool, ◌&&◌, Option, Some, None, bytes_eq, if_holds, and_left, both_true, NodeId, CircuitId, has_node}
use Rattle.spl_world.proofs.Common.{is_below, sorted, ascends, ascends_after, calm, calming, calming_step, passes, ticks, Calming, put_at-other, SentMessage}
use Rattle.spl_world.proofs.Common.{CircuitWorld, messages, posted_outgoing, step_plan, step_world, circuit_carried_out, on_pair-append, is_open_cell}
use Rattle.spl_world.proofs.{Common.{after_plan, tells_only, plan_of, Answer, Message, Outgoing, Plan}, Reading.step_up, Slots.{turned, both_off}}
use Rattle.spl_sched.specs.declared.line.Step.TheVariants as step
use Rattle.spl_wire.specs.declared.event.Event.TheVariants as event

-- ---- what a sender sent, in its own turns

module _ (c : CircuitId) (a : NodeId) where
  -- what another node sends is on no pair of this one
  posted_apart : (ns : List NodeId) (b x : NodeId) (os : List Outgoing) → bytes_eq b a ≡ false → on_pair a x (posted_outgoing ns b os) ≡ []
  posted_apart ns b x [] off = refl
  posted_apart ns b x (o ∷ os) off = if_holds (λ (ss : List SentMessage). on_pair a x ss ≡ []) (has_node ns o.to) _ _ (λ q. rw off (posted_apart ns b x os off)) (λ q. posted_apart ns b x os off)

  pub step_keeps : (w : CircuitWorld) (b x : NodeId) (number : ℕ) → bytes_eq b a ≡ false → messages (step_world w (step.Deliver a b c number)) a x ≡ messages w a x
  step_keeps w b x number off = ap (λ (ms : List Message). if bytes_eq a x then [] else ms) same
    where
      new : List Outgoing
      new = (step_plan w (step.Deliver a b c number)).sends

      same : on_pair a x (w.sent ++ posted_outgoing w.nodes b new) ≡ on_pair a x w.sent
      same = on_pair-append a x w.sent (posted_outgoing w.nodes b new)
          ∙ ap (λ (ms : List Message). on_pair a x w.sent ++ ms) (posted_apart w.nodes b x new off) ∙ append-nil (on_pair a x w.sent)

-- ---- one more of each

pub ticks_more : (c : CircuitId) (z : Calming) (ns : List NodeId) (n : NodeId) → ticks c z (ns ++ n ∷ []) ≡ calming_step (ticks c z ns) (step.At n c event.Tick)
ticks_more c z [] n = refl
ticks_more c z (m ∷ ms) n = ticks_more c (calming_step z (step.At m c event.Tick)) ms n

-- ---- what ticks leave as it was

pub ticks_at : (c : CircuitId) (z : Calming) (ns : List NodeId) (n : NodeId) → has_node ns n ≡ false → (ticks c z ns).world.at n ≡ z.world.at n
ticks_at c z [] n h = refl
ticks_at c z (m ∷ ms) n h =
    let off = both_off (bytes_eq m n) (has_node ms n) h in
    ticks_at c (calming_step z (step.At m c event.Tick)) ms n off.1
    ∙ put_at-other z.world.at m n (after_plan m (z.world.at m) (step_plan z.world (step.At m c event.Tick))) (turned n m ∙ off.0)

-- ---- ids that ascend

below_not_in : (n : NodeId) (ns : List NodeId) → ascends_after n ns ≡ true → sorted ns ≡ ns → inserted n ns ≡ n ∷ ns
below_not_in n [] h e = refl
below_not_in n (m ∷ ms) h e = rw (below_turned n m (both_true (is_below n m) (ascends_after m ms) h).0) refl

sorted_after : (p : NodeId) (ns : List NodeId) → ascends_after p ns ≡ true → sorted ns ≡ ns
sorted_after p [] h = refl
sorted_after p (n ∷ ns) h =
    let q = both_true (is_below p n) (ascends_after n ns) h in
    let e = sorted_after n ns q.1 in
    ap (inserted n) e ∙ below_not_in n ns q.1 e

pub sorted_already : (ns : List NodeId) → ascends ns ≡ true → sorted ns ≡ ns
sorted_already [] h = refl
sorted_already (n ∷ ns) h = let e = sorted_after n ns h in ap (inserted n) e ∙ below_not_in n ns h e

-- the calm of a world for which nodes stand
pub calm_is : (c : CircuitId) (m : CircuitWorld) (xs : Nodes) (k : ℕ) → HoldsWorld c m xs → passes c (ids_in xs) k (calming m) ≡ calm c m k
calm_is c m xs k h = sym (ap (λ (ns : List NodeId). passes c ns k (calming m)) (ap sorted h.nodes ∙ sorted_already (ids_in xs) h.ordered))

-- ---- what is looked up of a tick

abbrev gate : Bool → Bool → Bool → Option Bool
gate u o i = if u then (if o then Some (not i) else None) else None

gate_closed : (u o i : Bool) → gate u o i ≡ None → (u && o) ≡ false
gate_closed true true i h = cc
gate_closed true false i h = refl
gate_closed false o i h = refl

gate_open : (u o i b : Bool) → gate u o i ≡ Some b → ((u && o) ≡ true) × (not i ≡ b)
gate_open true true i b h = (refl, cc)
gate_open true false i b h = absurd cc
gate_open false o i b h = absurd cc

not_false : (b : Bool) → not b ≡ false → b ≡ true
not_false true h = refl
not_false false h = cc

module _ (c : CircuitId) (n : NodeId) (m : CircuitWorld) where
  abbrev told : Answer
  told = (plan_of (site_at n c) (m.at n) event.Tick).answer

  -- no tick is there
  pub none_due : due_at c m n ≡ None → (m.up n && is_open_cell (m.at n)) ≡ false
  none_due h = gate_closed (m.up n) (is_open_cell (m.at n)) (is_idle told) h

  pub one_due : (b : Bool) → due_at c m n ≡ Some b → (m.up n && is_open_cell (m.at n)) ≡ true
  one_due b h = (gate_open (m.up n) (is_open_cell (m.at n)) (is_idle told) b h).0

  pub not_due : due_at c m n ≡ Some false → is_idle told ≡ true
  not_due h = not_false (is_idle told) (gate_open (m.up n) (is_open_cell (m.at n)) (is_idle told) false h).1

  planned_is : (m.up n && is_open_cell (m.at n)) ≡ true → step_plan m (step.At n c event.Tick) ≡ plan_of (site_at n c) (m.at n) event.Tick
  planned_is ready = step_up m (step.At n c event.Tick) (and_left (m.up n) (is_open_cell (m.at n)) ready)

  -- one with nothing to do is idle, and leaves the world as it is
  pub idle_due : due_at c m n ≡ Some false → IsIdleAt c m n
  idle_due h = ap (λ (p : Plan). is_idle p.answer) (planned_is (one_due false h)) ∙ not_due h

  pub stays_due : due_at c m n ≡ Some false → step_world m (step.At n c event.Tick) ≡ m
  stays_due h =
      let alone : step_plan m (step.At n c event.Tick) ≡ tells_only told = planned_is (one_due false h) ∙ idle-tick (site_at n c) (m.at n) (not_due h) in
      ap (circuit_carried_out m n) alone ∙ unmoved-is m (circuit_carried_out m n (tells_only told)) (unmoved-tells m n told)

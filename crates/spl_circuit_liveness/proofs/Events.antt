-- A tick and a delivery in a circuit's world, beside the group's calm.
use Rattle.std.{specs.Prelude.{Option, Some, None, slice_get}, proofs.Common.{◌≡◌, ◌≢◌, ℕ, suc, ◌-◌, ◌<◌, ◌≤◌, ◌⊎◌, true, false, List, [], ◌∷◌, drop, length}}
use Rattle.std.proofs.Common.{refl, sym, ap, subst, ◌∙◌, inl, inr, arith}
use Rattle.spl_agree.{specs.{Member.Member, declared.message.CommitMsg.CommitMsg}, proofs.Tests.if_true}
use Rattle.spl_agree.specs.declared.event.GroupEvent.TheVariants as group
use Rattle.spl_circuit.specs.{Nodes.{NodeId, CircuitId, has_node, position}, Positions.position_below, declared.definition.Definition.Definition}
use Rattle.spl_circuit.proofs.Valid.{few_members}
use Rattle.spl_wire.specs.declared.{message.Message.Message, plan.Plan.Plan}
use Rattle.spl_wire.specs.declared.event.Event.TheVariants as event
use Rattle.spl_wire.specs.declared.answer.Refusal.TheVariants as refusal
use Rattle.spl_sched.specs.declared.line.Step.TheVariants as step
use Rattle.spl_cell_rules.specs.{Cells.{Cell, Refuses, site_at}, Plans.plan_of}
use Rattle.spl_group_liveness.{specs.Calm.{Calm, left, ticked, first_delivered, deliver_first, turn_by}, proofs.Moves.{left-same, left-cases}}
use Rattle.spl_circuit_world.specs.Worlds.{World, messages, circuit_carried_out, delivery_plan, step_plan, step_world}
use Rattle.spl_circuit_safety.proofs.{Positions.position-apart, GroupOfDefinition.group_of}
use Rattle.spl_circuit_liveness.proofs.{Shapes.{Shape, owned, owns, Gives, IsMet}, Idles.gives-still, Lasting.{took, took-same, took-cases, IsCarried}}
use Rattle.spl_circuit_liveness.proofs.Sims.{Sim, Stands, sim-stands, sim-moves, sim-stays}

-- what holds at a member's cell
pub met-at : {V : Type 0} (s : Shape V) (IsOn : Definition → Cell → Type 0) (d : Definition) (Inv : World → (NodeId → NodeId → ℕ) → Type 0)
    → IsCarried s IsOn d Inv → (w : World) (taken : NodeId → NodeId → ℕ) (k : Calm V) (n : NodeId) → Sim s d Inv w taken k → has_node d.members n ≡ true
    → IsMet s IsOn d n (w.at n) (k.world.at (position d.members n))
met-at s IsOn d Inv run w taken k n q h = record { member = h; on = run.on w taken q.inv n h; stands = q.same n h }

-- a tick at a member
pub sim-tick : {V : Type 0} (s : Shape V) (IsOn : Definition → Cell → Type 0) (d : Definition) (Inv : World → (NodeId → NodeId → ℕ) → Type 0)
    → IsCarried s IsOn d Inv → (c : CircuitId) (n : NodeId) (w : World) (taken : NodeId → NodeId → ℕ) (k : Calm V) → has_node d.members n ≡ true
    → Sim s d Inv w taken k → Sim s d Inv (step_world w (step.At n c event.Tick)) taken (ticked (group_of s.groups d) (position d.members n) k)
sim-tick {V} s IsOn d Inv run c n w taken k h q =
    subst (λ (p : Plan). Inv (circuit_carried_out w n p) taken
    → Sim s d Inv (circuit_carried_out w n p) taken (ticked (group_of s.groups d) (position d.members n) k)) (sym same)
    (λ inv. sim-moves s d Inv w taken taken k n plan group.Tick k.due (few_members d run.ruled).1 h inv
    (run.shaped.ticks c n (w.at n) (k.world.at (position d.members n)) (met-at s IsOn d Inv run w taken k n q h)) (sim-stands s d Inv w taken k q) q)
    (run.lasts.ticks c n w taken q.inv)
  where
    plan : Plan
    plan = plan_of (site_at n c) (w.at n) event.Tick

    same : step_plan w (step.At n c event.Tick) ≡ plan
    same = if_true (λ (p : Plan). p ≡ plan) (w.up n) _ _ (q.up n h) refl

-- a tick at another node
pub sim-tick-other : {V : Type 0} (s : Shape V) (IsOn : Definition → Cell → Type 0) (d : Definition) (Inv : World → (NodeId → NodeId → ℕ) → Type 0)
    → IsCarried s IsOn d Inv → (c : CircuitId) (n : NodeId) (w : World) (taken : NodeId → NodeId → ℕ) (k : Calm V) → has_node d.members n ≡ false
    → Sim s d Inv w taken k → Sim s d Inv (step_world w (step.At n c event.Tick)) taken k
sim-tick-other s IsOn d Inv run c n w taken k h q =
    sim-stays s d Inv w taken taken k n (step_plan w (step.At n c event.Tick)) (run.lasts.ticks c n w taken q.inv)
    (λ g. absurd (let z : has_node d.members n ≡ false = h in cc)) (sim-stands s d Inv w taken k q) q

-- what stands once one more is taken on a pair of members
pub stands-took : {V : Type 0} (s : Shape V) (d : Definition) (Inv : World → (NodeId → NodeId → ℕ) → Type 0) (w : World) (taken : NodeId → NodeId → ℕ)
    (k : Calm V) (from to : NodeId) (t : ℕ) (due : ℕ → ℕ → List (CommitMsg V)) → t < length (messages w from to)
    → owns (s.own d from to) (drop (suc t) (messages w from to)) ≡ due (position d.members from) (position d.members to)
    → ((x y : NodeId) → has_node d.members x ≡ true → has_node d.members y ≡ true
    → (due (position d.members x) (position d.members y) ≡ k.due (position d.members x) (position d.members y)) ⊎ ((x ≡ from) × (y ≡ to)))
    → Sim s d Inv w taken k → Stands s d w (took taken from to (suc t)) due
stands-took {V} s d Inv w taken k from to t due l same others q = record {
  few = λ x y h g dif. few x y h g dif (took-cases taken from to (suc t) x y);
  left = λ x y h g dif. rest x y h g dif (took-cases taken from to (suc t) x y) (others x y h g);
}
  where
    at_pair : (P : NodeId → NodeId → Type 0) (x y : NodeId) → x ≡ from → y ≡ to → P from to → P x y
    at_pair P x y e f p = subst (λ (u : NodeId). P u y) (sym e) (subst (λ (u : NodeId). P from u) (sym f) p)

    few : (x y : NodeId) → has_node d.members x ≡ true → has_node d.members y ≡ true → x ≢ y
        → (took taken from to (suc t) x y ≡ taken x y) ⊎ ((x ≡ from) × (y ≡ to)) → took taken from to (suc t) x y ≤ length (messages w x y)
    few x y h g dif (inl e) = subst (λ (z : ℕ). z ≤ length (messages w x y)) (sym e) (q.few x y h g dif)
    few x y h g dif (inr e) =
        at_pair (λ u v. took taken from to (suc t) u v ≤ length (messages w u v)) x y e.0 e.1
        (subst (λ (z : ℕ). z ≤ length (messages w from to)) (sym (took-same taken from to (suc t))) (omega (arith, l)))

    mine : owns (s.own d from to) (drop (took taken from to (suc t) from to) (messages w from to)) ≡ due (position d.members from) (position d.members to)
    mine = ap (λ (z : ℕ). owns (s.own d from to) (drop z (messages w from to))) (took-same taken from to (suc t)) ∙ same

    rest : (x y : NodeId) → has_node d.members x ≡ true → has_node d.members y ≡ true → x ≢ y
        → (took taken from to (suc t) x y ≡ taken x y) ⊎ ((x ≡ from) × (y ≡ to))
        → (due (position d.members x) (position d.members y) ≡ k.due (position d.members x) (position d.members y)) ⊎ ((x ≡ from) × (y ≡ to))
        → owns (s.own d x y) (drop (took taken from to (suc t) x y) (messages w x y)) ≡ due (position d.members x) (position d.members y)
    rest x y h g dif o (inr e) =
        at_pair (λ u v. owns (s.own d u v) (drop (took taken from to (suc t) u v) (messages w u v))
        ≡ due (position d.members u) (position d.members v)) x y e.0 e.1 mine
    rest x y h g dif (inr e) (inl f) =
        at_pair (λ u v. owns (s.own d u v) (drop (took taken from to (suc t) u v) (messages w u v))
        ≡ due (position d.members u) (position d.members v)) x y e.0 e.1 mine
    rest x y h g dif (inl e) (inl f) = ap (λ (z : ℕ). owns (s.own d x y) (drop z (messages w x y))) e ∙ (q.due x y h g dif ∙ sym f)

-- the plan of a delivery at a node that is up
pub delivery-plan : (c : CircuitId) (from to : NodeId) (w : World) (number t : ℕ) (o : Option Message) → number ≡ suc t → w.up to ≡ true
    → slice_get (messages w from to) t ≡ o → step_plan w (step.Deliver from to c number) ≡ delivery_plan c w from to o
delivery-plan c from to w number t o e up get =
    if_true (λ (p : Plan). p ≡ delivery_plan c w from to o) (w.up to) _ _ up
    (ap (λ (i : ℕ). delivery_plan c w from to (slice_get (messages w from to) i)) (let z : number - 1 ≡ t = omega (arith, e) in z)
    ∙ ap (λ (z : Option Message). delivery_plan c w from to z) get)

-- a delivery between members
pub sim-deliver : {V : Type 0} (s : Shape V) (IsOn : Definition → Cell → Type 0) (d : Definition) (Inv : World → (NodeId → NodeId → ℕ) → Type 0)
    → IsCarried s IsOn d Inv → (c : CircuitId) (from to : NodeId) (w : World) (taken : NodeId → NodeId → ℕ) (k : Calm V) (number t : ℕ) (x : Message)
    → number ≡ suc t → taken from to ≡ t → t < length (messages w from to) → slice_get (messages w from to) t ≡ Some x
    → drop t (messages w from to) ≡ x ∷ drop (suc t) (messages w from to)
    → has_node d.members from ≡ true → has_node d.members to ≡ true → from ≢ to → (o : Option (CommitMsg V)) → s.own d from to x ≡ o → Sim s d Inv w taken k
    → (k2 : Calm V) × Sim s d Inv (step_world w (step.Deliver from to c number)) (took taken from to (suc t)) k2
    × ((ms : List (CommitMsg V))
    → turn_by (group_of s.groups d) (position d.members from) (position d.members to) (owned o ms) k
    ≡ turn_by (group_of s.groups d) (position d.members from) (position d.members to) ms k2)
    × ((k2 ≡ k) ⊎ (k2 ≡ deliver_first (group_of s.groups d) (position d.members from) (position d.members to) k))
sim-deliver {V} s IsOn d Inv run c from to w taken k number t x e tk l get next hf ht dif o own q = go o own
  where
    a : ℕ
    a = position d.members from

    b : ℕ
    b = position d.members to

    rest : List (CommitMsg V)
    rest = owns (s.own d from to) (drop (suc t) (messages w from to))

    plan : Plan
    plan = plan_of (site_at to c) (w.at to) (event.Deliver from x)

    same : step_plan w (step.Deliver from to c number) ≡ plan
    same = delivery-plan c from to w number t (Some x) e (q.up to ht) get

    inv : Inv (circuit_carried_out w to plan) (took taken from to (suc t))
    inv = subst (λ (p : Plan). Inv (circuit_carried_out w to p) (took taken from to (suc t))) same
        (run.lasts.takes c from to w taken number t hf ht dif e tk l q.inv)

    stood : k.due a b ≡ owned (s.own d from to x) rest
    stood = sym (q.due from to hf ht dif)
        ∙ (ap (λ (z : ℕ). owns (s.own d from to) (drop z (messages w from to))) tk ∙ ap (λ (z : List Message). owns (s.own d from to) z) next)

    met : IsMet s IsOn d to (w.at to) (k.world.at b)
    met = met-at s IsOn d Inv run w taken k to q ht

    apart : (u v i : NodeId) → has_node d.members i ≡ true → position d.members u ≡ position d.members i → u ≡ i
    apart u v i h z = sym (position-apart d.members i u (few_members d run.ruled).1 (position_below d.members i h) (sym z))

    go : (z : Option (CommitMsg V)) → s.own d from to x ≡ z
        → (k2 : Calm V) × Sim s d Inv (step_world w (step.Deliver from to c number)) (took taken from to (suc t)) k2
        × ((ms : List (CommitMsg V)) → turn_by (group_of s.groups d) a b (owned z ms) k ≡ turn_by (group_of s.groups d) a b ms k2)
        × ((k2 ≡ k) ⊎ (k2 ≡ deliver_first (group_of s.groups d) a b k))
    go None z = (
      k,
      subst (λ (p : Plan). Sim s d Inv (circuit_carried_out w to p) (took taken from to (suc t)) k) (sym same)
          (sim-stays s d Inv w taken (took taken from to (suc t)) k to plan inv (λ h. run.shaped.passes c to from (w.at to) (k.world.at b) x dif (inl z) met)
          (stands-took s d Inv w taken k from to t k.due l (sym (stood ∙ ap (λ (y : Option (CommitMsg V)). owned y rest) z)) (λ u v h g. inl refl) q) q),
      λ ms. refl,
      inl refl,
    )
    go (Some y) z = (
      deliver_first (group_of s.groups d) a b k,
      subst (λ (p : Plan). Sim s d Inv (circuit_carried_out w to p) (took taken from to (suc t)) (deliver_first (group_of s.groups d) a b k)) (sym same)
          (subst (λ (ms : List (CommitMsg V)). Sim s d Inv (circuit_carried_out w to plan) (took taken from to (suc t))
          (first_delivered (group_of s.groups d) k a b ms)) (sym (stood ∙ ap (λ (u : Option (CommitMsg V)). owned u rest) z))
          (sim-moves s d Inv w taken (took taken from to (suc t)) k to plan (group.From a y) (left k.due a b rest) (few_members d run.ruled).1 ht inv
          (run.shaped.hears c to from (w.at to) (k.world.at b) x y dif hf z met)
          (stands-took s d Inv w taken k from to t (left k.due a b rest) l (sym (left-same k.due a b rest))
          (λ u v h g. others u v (left-cases k.due a b rest (position d.members u) (position d.members v))) q) q)),
      λ ms. refl,
      inr refl,
    )
      where
        others : (u v : NodeId) → (left k.due a b rest (position d.members u) (position d.members v) ≡ k.due (position d.members u) (position d.members v))
            ⊎ ((position d.members u ≡ a) × (position d.members v ≡ b))
            → (left k.due a b rest (position d.members u) (position d.members v) ≡ k.due (position d.members u) (position d.members v))
            ⊎ ((u ≡ from) × (v ≡ to))
        others u v (inl r) = inl r
        others u v (inr r) = inr (apart u v from hf r.0, apart v u to ht r.1)

-- a delivery from or to a node that is no member
pub sim-deliver-other : {V : Type 0} (s : Shape V) (IsOn : Definition → Cell → Type 0) (d : Definition) (Inv : World → (NodeId → NodeId → ℕ) → Type 0)
    → IsCarried s IsOn d Inv → (c : CircuitId) (from to : NodeId) (w : World) (taken : NodeId → NodeId → ℕ) (k : Calm V) (number : ℕ) → from ≢ to
    → (has_node d.members from ≡ false) ⊎ (has_node d.members to ≡ false) → Sim s d Inv w taken k
    → Sim s d Inv (step_world w (step.Deliver from to c number)) taken k
sim-deliver-other {V} s IsOn d Inv run c from to w taken k number dif lone q =
    sim-stays s d Inv w taken taken k to (step_plan w (step.Deliver from to c number)) (run.lasts.apart c from to w taken number dif lone q.inv)
    (λ h. gives h lone) (sim-stands s d Inv w taken k q) q
  where
    m : Member V
    m = k.world.at (position d.members to)

    by_message : (o : Option Message) → has_node d.members to ≡ true → has_node d.members from ≡ false
        → Gives s d to (w.at to) (delivery_plan c w from to o) m []
    by_message None h none = gives-still s d c to (w.at to) m (Refuses refusal.NoMessage) tt (q.same to h)
    by_message (Some x) h none = run.shaped.passes c to from (w.at to) m x dif (inr none) (met-at s IsOn d Inv run w taken k to q h)

    gives : has_node d.members to ≡ true → (has_node d.members from ≡ false) ⊎ (has_node d.members to ≡ false)
        → Gives s d to (w.at to) (step_plan w (step.Deliver from to c number)) m []
    gives h (inr z) = absurd (let y : has_node d.members to ≡ false = z in cc)
    gives h (inl z) =
        if_true (λ (p : Plan). Gives s d to (w.at to) p m []) (w.up to) _ _ (q.up to h) (by_message (slice_get (messages w from to) (number - 1)) h z)

-- The turn of a pair in a circuit's world, beside the group's calm.
use Rattle.std.{specs.Prelude.{Some, slice_get}, proofs.Common.{◌≡◌, ◌≢◌, ℕ, zero, suc, ◌+◌, ◌-◌, ◌≤◌, ◌⊎◌, true, false, List, [], ◌∷◌, drop, length, refl}}
use Rattle.std.proofs.Common.{sym, ap, subst, ◌∙◌, inl, inr, arith}
use Rattle.spl_agree.{specs.declared.message.CommitMsg.CommitMsg, proofs.Tests.{if_holds, if_true}}
use Rattle.spl_circuit.specs.{Nodes.{NodeId, CircuitId, has_node, position}, declared.definition.Definition.Definition}
use Rattle.spl_wire.specs.declared.message.Message.{Message}
use Rattle.spl_sched.specs.declared.line.Step.TheVariants as step
use Rattle.spl_cell_rules.specs.Cells.{Cell}
use Rattle.spl_group_liveness.specs.Calm.{Calm, deliver_first, turn_by, group_turn}
use Rattle.spl_circuit_world.specs.{Worlds.{World, messages, step_plan, step_world}, Calm.{Calming, calming_step, delivers, pair_turn}}
use Rattle.spl_circuit_world.proofs.Nodes.{node_cases}
use Rattle.spl_circuit_safety.proofs.GroupOfDefinition.{group_of}
use Rattle.spl_circuit_liveness.proofs.{Pairs.{messages-other, messages-self, drop-all, drop-next}, Shapes.{Shape, owned, owns}, Sims.{Sim, sim-taken}}
use Rattle.spl_circuit_liveness.proofs.{Lasting.{took, took-same, took-cases, IsCarried}, Events.{sim-deliver, sim-deliver-other}}

-- deliveries take nothing by themselves
pub delivers-taken : (c : CircuitId) (z : Calming) (from to : NodeId) (number k : ℕ) → (delivers c z from to number k).taken ≡ z.taken
delivers-taken c z from to number zero = refl
delivers-taken c z from to number (suc k) = delivers-taken c (calming_step z (step.Deliver from to c number)) from to (number + 1) k

-- what is taken later stands for what was taken before
pub took-again : (taken : NodeId → NodeId → ℕ) (from to : NodeId) (t u : ℕ) (x y : NodeId)
    → took taken from to u x y ≡ took (took taken from to t) from to u x y
took-again taken from to t u x y = go (took-cases taken from to u x y) (took-cases (took taken from to t) from to u x y) (took-cases taken from to t x y)
  where
    at_pair : (x ≡ from) × (y ≡ to) → took taken from to u x y ≡ took (took taken from to t) from to u x y
    at_pair e =
        subst (λ (a : NodeId). took taken from to u a y ≡ took (took taken from to t) from to u a y) (sym e.0)
        (subst (λ (b : NodeId). took taken from to u from b ≡ took (took taken from to t) from to u from b) (sym e.1)
        (took-same taken from to u ∙ sym (took-same (took taken from to t) from to u)))

    go : (took taken from to u x y ≡ taken x y) ⊎ ((x ≡ from) × (y ≡ to))
        → (took (took taken from to t) from to u x y ≡ took taken from to t x y) ⊎ ((x ≡ from) × (y ≡ to))
        → (took taken from to t x y ≡ taken x y) ⊎ ((x ≡ from) × (y ≡ to)) → took taken from to u x y ≡ took (took taken from to t) from to u x y
    go (inr e) b c = at_pair e
    go a (inr e) c = at_pair e
    go a b (inr e) = at_pair e
    go (inl a) (inl b) (inl c) = a ∙ (sym c ∙ sym b)

-- deliveries between members
pub sim-delivers : {V : Type 0} (s : Shape V) (IsOn : Definition → Cell → Type 0) (d : Definition) (Inv : World → (NodeId → NodeId → ℕ) → Type 0)
    → IsCarried s IsOn d Inv → (c : CircuitId) (from to : NodeId) (taken : NodeId → NodeId → ℕ) → has_node d.members from ≡ true
    → has_node d.members to ≡ true → from ≢ to → (count number t : ℕ) (z : Calming) (k : Calm V) → number ≡ suc t
    → t + count ≡ length (messages z.world from to) → Sim s d Inv z.world (took taken from to t) k
    → Sim s d Inv (delivers c z from to number count).world (took taken from to (t + count))
    (turn_by (group_of s.groups d) (position d.members from) (position d.members to) (owns (s.own d from to) (drop t (messages z.world from to))) k)
sim-delivers {V} s IsOn d Inv run c from to taken hf ht dif zero number t z k e l q =
    subst (λ (ms : List Message). Sim s d Inv z.world (took taken from to (t + 0))
    (turn_by (group_of s.groups d) (position d.members from) (position d.members to) (owns (s.own d from to) ms) k)) (sym empty)
    (subst (λ (i : ℕ). Sim s d Inv z.world (took taken from to i) k) (let y : t ≡ t + 0 = omega arith in y) q)
  where
    empty : drop t (messages z.world from to) ≡ []
    empty = subst (λ (i : ℕ). drop i (messages z.world from to) ≡ []) (let y : length (messages z.world from to) ≡ t = omega (arith, l) in y)
        (drop-all (messages z.world from to))
sim-delivers {V} s IsOn d Inv run c from to taken hf ht dif (suc count) number t z k e l q =
    subst (λ (i : ℕ). Sim s d Inv (delivers c z2 from to (number + 1) count).world (took taken from to i)
    (turn_by (group_of s.groups d) a b (owns (s.own d from to) (drop t (messages z.world from to))) k))
    (let y : suc t + count ≡ t + suc count = omega arith in y)
    (subst (λ (g : Calm V). Sim s d Inv (delivers c z2 from to (number + 1) count).world (took taken from to (suc t + count)) g) (sym turned)
    (later (λ number t z k e l q. sim-delivers s IsOn d Inv run c from to taken hf ht dif count number t z k e l q)))
  where
    Rest : Type 0
    Rest = (number t : ℕ) (z : Calming) (k : Calm V) → number ≡ suc t → t + count ≡ length (messages z.world from to)
        → Sim s d Inv z.world (took taken from to t) k
        → Sim s d Inv (delivers c z from to number count).world (took taken from to (t + count))
        (turn_by (group_of s.groups d) (position d.members from) (position d.members to) (owns (s.own d from to) (drop t (messages z.world from to))) k)

    a : ℕ
    a = position d.members from

    b : ℕ
    b = position d.members to

    z2 : Calming
    z2 = calming_step z (step.Deliver from to c number)

    next : (x : Message) × (slice_get (messages z.world from to) t ≡ Some x) × (drop t (messages z.world from to) ≡ x ∷ drop (suc t) (messages z.world from to))
    next = drop-next t (messages z.world from to) (omega (arith, l))

    one : (k2 : Calm V) × Sim s d Inv (step_world z.world (step.Deliver from to c number)) (took (took taken from to t) from to (suc t)) k2
        × ((ms : List (CommitMsg V)) → turn_by (group_of s.groups d) a b (owned (s.own d from to next.0) ms) k ≡ turn_by (group_of s.groups d) a b ms k2)
        × ((k2 ≡ k) ⊎ (k2 ≡ deliver_first (group_of s.groups d) a b k))
    one = sim-deliver s IsOn d Inv run c from to z.world (took taken from to t) k number t next.0 e (took-same taken from to t)
        (omega (arith, l)) next.1 next.2 hf ht dif (s.own d from to next.0) refl q

    kept : messages z2.world from to ≡ messages z.world from to
    kept = messages-other z.world to from to (step_plan z.world (step.Deliver from to c number)) dif

    later : Rest → Sim s d Inv (delivers c z2 from to (number + 1) count).world (took taken from to (suc t + count))
        (turn_by (group_of s.groups d) a b (owns (s.own d from to) (drop (suc t) (messages z2.world from to))) one.0)
    later rest =
        rest (number + 1) (suc t) z2 one.0 (omega (arith, e))
        (let y : suc t + count ≡ length (messages z.world from to) = omega (arith, l) in y ∙ ap (λ (ms : List Message). length ms) (sym kept))
        (sim-taken s d Inv run.lasts z2.world (took (took taken from to t) from to (suc t)) (took taken from to (suc t)) one.0
        (λ x y h g off. took-again taken from to t (suc t) x y) one.1)

    turned : turn_by (group_of s.groups d) a b (owns (s.own d from to) (drop t (messages z.world from to))) k
        ≡ turn_by (group_of s.groups d) a b (owns (s.own d from to) (drop (suc t) (messages z2.world from to))) one.0
    turned =
        ap (λ (ms : List Message). turn_by (group_of s.groups d) a b (owns (s.own d from to) ms) k) next.2
        ∙ (one.2 (owns (s.own d from to) (drop (suc t) (messages z.world from to)))
        ∙ ap (λ (ms : List Message). turn_by (group_of s.groups d) a b (owns (s.own d from to) (drop (suc t) ms)) one.0) (sym kept))

-- the turn of a pair of members
pub sim-turn : {V : Type 0} (s : Shape V) (IsOn : Definition → Cell → Type 0) (d : Definition) (Inv : World → (NodeId → NodeId → ℕ) → Type 0)
    → IsCarried s IsOn d Inv → (c : CircuitId) (from to : NodeId) (z : Calming) (k : Calm V) → has_node d.members from ≡ true
    → has_node d.members to ≡ true → from ≢ to → Sim s d Inv z.world z.taken k
    → Sim s d Inv (pair_turn c z from to).world (pair_turn c z from to).taken
    (group_turn (group_of s.groups d) (position d.members from) (position d.members to) k)
sim-turn {V} s IsOn d Inv run c from to z k hf ht dif q =
    if_true (λ (y : Calming). Sim s d Inv y.world y.taken (group_turn (group_of s.groups d) (position d.members from) (position d.members to) k))
    (z.world.up to) _ _ (q.up to ht)
    (subst (λ (f : NodeId → NodeId → ℕ). Sim s d Inv (delivers c z from to (t + 1) (all - t)).world (took f from to all)
    (group_turn (group_of s.groups d) (position d.members from) (position d.members to) k)) (sym (delivers-taken c z from to (t + 1) (all - t)))
    (subst (λ (i : ℕ). Sim s d Inv (delivers c z from to (t + 1) (all - t)).world (took z.taken from to i)
    (group_turn (group_of s.groups d) (position d.members from) (position d.members to) k)) whole
    (subst (λ (ms : List (CommitMsg V)). Sim s d Inv (delivers c z from to (t + 1) (all - t)).world (took z.taken from to (t + (all - t)))
    (turn_by (group_of s.groups d) (position d.members from) (position d.members to) ms k)) (q.due from to hf ht dif)
    (sim-delivers s IsOn d Inv run c from to z.taken hf ht dif (all - t) (t + 1) t z k (omega arith) whole
    (sim-taken s d Inv run.lasts z.world z.taken (took z.taken from to t) k (λ x y h g off. same x y (took-cases z.taken from to t x y)) q)))))
  where
    t : ℕ
    t = z.taken from to

    all : ℕ
    all = length (messages z.world from to)

    whole : t + (all - t) ≡ all
    whole = let y : z.taken from to ≤ length (messages z.world from to) = q.few from to hf ht dif in omega (arith, y)

    same : (x y : NodeId) → (took z.taken from to t x y ≡ z.taken x y) ⊎ ((x ≡ from) × (y ≡ to)) → took z.taken from to t x y ≡ z.taken x y
    same x y (inl e) = e
    same x y (inr e) =
        subst (λ (u : NodeId). took z.taken from to t u y ≡ z.taken u y) (sym e.0)
        (subst (λ (u : NodeId). took z.taken from to t from u ≡ z.taken from u) (sym e.1) (took-same z.taken from to t))

-- deliveries from or to a node that is no member
pub sim-delivers-other : {V : Type 0} (s : Shape V) (IsOn : Definition → Cell → Type 0) (d : Definition) (Inv : World → (NodeId → NodeId → ℕ) → Type 0)
    → IsCarried s IsOn d Inv → (c : CircuitId) (from to : NodeId) (taken : NodeId → NodeId → ℕ) (k : Calm V) → from ≢ to
    → (has_node d.members from ≡ false) ⊎ (has_node d.members to ≡ false) → (count number : ℕ) (z : Calming) → Sim s d Inv z.world taken k
    → Sim s d Inv (delivers c z from to number count).world taken k
sim-delivers-other s IsOn d Inv run c from to taken k dif lone zero number z q = q
sim-delivers-other s IsOn d Inv run c from to taken k dif lone (suc count) number z q =
    sim-delivers-other s IsOn d Inv run c from to taken k dif lone count (number + 1) (calming_step z (step.Deliver from to c number))
    (sim-deliver-other s IsOn d Inv run c from to z.world taken k number dif lone q)

-- a pair that is no pair of members
abbrev pub IsLone : Definition → NodeId → NodeId → Type 0
IsLone d from to = (from ≡ to) ⊎ ((has_node d.members from ≡ false) ⊎ (has_node d.members to ≡ false))

-- the turn of such a pair
pub sim-turn-other : {V : Type 0} (s : Shape V) (IsOn : Definition → Cell → Type 0) (d : Definition) (Inv : World → (NodeId → NodeId → ℕ) → Type 0)
    → IsCarried s IsOn d Inv → (c : CircuitId) (from to : NodeId) (z : Calming) (k : Calm V) → IsLone d from to → Sim s d Inv z.world z.taken k
    → Sim s d Inv (pair_turn c z from to).world (pair_turn c z from to).taken k
sim-turn-other {V} s IsOn d Inv run c from to z k lone q = if_holds (λ (y : Calming). Sim s d Inv y.world y.taken k) (z.world.up to) _ _
    (λ u. subst (λ (f : NodeId → NodeId → ℕ). Sim s d Inv (delivers c z from to (t + 1) (all - t)).world (took f from to all) k)
    (sym (delivers-taken c z from to (t + 1) (all - t)))
    (sim-taken s d Inv run.lasts (delivers c z from to (t + 1) (all - t)).world z.taken (took z.taken from to all) k
    (λ x y h g off. same x y h g off lone (took-cases z.taken from to all x y)) (deliveries lone (node_cases from to))))
    (λ u. q)
  where
    t : ℕ
    t = z.taken from to

    all : ℕ
    all = length (messages z.world from to)

    nothing : from ≡ to → all - t ≡ 0
    nothing e =
        let y : length (messages z.world from to)
        ≡ 0 = ap (λ (ms : List Message). length ms) (subst (λ (u : NodeId). messages z.world from u ≡ []) e (messages-self z.world from)) in omega (arith, y)

    deliveries : IsLone d from to → (from ≡ to) ⊎ (from ≢ to) → Sim s d Inv (delivers c z from to (t + 1) (all - t)).world z.taken k
    deliveries o (inl e) = subst (λ (i : ℕ). Sim s d Inv (delivers c z from to (t + 1) i).world z.taken k) (sym (nothing e)) q
    deliveries (inl e) (inr dif) = absurd (dif e)
    deliveries (inr o) (inr dif) = sim-delivers-other s IsOn d Inv run c from to z.taken k dif o (all - t) (t + 1) z q

    same : (x y : NodeId) → has_node d.members x ≡ true → has_node d.members y ≡ true → x ≢ y → IsLone d from to
        → (took z.taken from to all x y ≡ z.taken x y) ⊎ ((x ≡ from) × (y ≡ to)) → took z.taken from to all x y ≡ z.taken x y
    same x y h g off o (inl e) = e
    same x y h g off (inl e) (inr f) = absurd (off (f.0 ∙ (e ∙ sym f.1)))
    same x y h g off (inr (inl e)) (inr f) = absurd (let p : has_node d.members from ≡ true = subst (λ (u : NodeId). has_node d.members u ≡ true) f.0 h in cc)
    same x y h g off (inr (inr e)) (inr f) = absurd (let p : has_node d.members to ≡ true = subst (λ (u : NodeId). has_node d.members u ≡ true) f.1 g in cc)

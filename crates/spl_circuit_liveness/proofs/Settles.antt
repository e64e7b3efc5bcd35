-- A calm of a circuit settles the first pending value of a coordinator.
use Rattle.std.{specs.Prelude.None, proofs.Common.{◌≡◌, ◌≢◌, ℕ, ◌<◌, ◌≤◌, ◌⊎◌, true, List, [], ◌∷◌, length, refl, sym, ap, subst, ◌∙◌, inl, inr, arith}}
use Rattle.spl_agree.specs.{Member.Member, World.World as GroupWorld, Agreement.{Told, lead, Agrees}, declared.message.CommitMsg.CommitMsg}
use Rattle.spl_circuit.specs.{Nodes.{NodeId, CircuitId, has_node, position, node_or, sorted}, Rules.broken, Positions.position_below}
use Rattle.spl_circuit.{specs.declared.definition.Definition.Definition, proofs.{Valid.few_members, Sorting.has_sorted}}
use Rattle.spl_wire.specs.declared.message.Message.{Message}
use Rattle.spl_cell_rules.specs.Cells.{Cell}
use Rattle.spl_group_liveness.{specs.{Calm.{calm_beginning, group_passes}, Bound.{IsKeyed, IsFit, Settles}}, proofs.{Steady.IsSteady, Reach.fit-by}}
use Rattle.spl_group_liveness.proofs.{Milestones.orders-settle, Idle.idle-calm}
use Rattle.spl_circuit_world.specs.{Worlds.{World, messages}, Calm.{Calming, calming, calm}}
use Rattle.spl_circuit_safety.proofs.GroupOfDefinition.{Groups, Presence, There, GroupMessage, Matters, SomeWorld, InGroups, group_of, says-told}
use Rattle.spl_circuit_liveness.proofs.{Places.{or-member, position-at}, Pairs.drop-all, Shapes.{Shape, owns}, Lasting.IsCarried, Sims.Sim, Passes.HasMembers}
use Rattle.spl_circuit_liveness.proofs.{Passes.{AllPassed, sim-passes}, Tame.{IsTame, WasAsked}}

-- the world of a group beside its cells, after so many events
pub record IsReached {V : Type 0} (groups : Groups V) (d : Definition) (count : ℕ) (at : NodeId → Presence V) (w : GroupWorld V) : Type 0 where
  pub agrees : Agrees (group_of groups d) w
  pub same : (n : NodeId) → has_node d.members n ≡ true → at n ≡ There d (w.at (position d.members n))
  pub steady : (n : NodeId) → has_node d.members n ≡ true → IsSteady (group_of groups d) count (w.at (position d.members n))
  pub heard : (n : NodeId) → has_node d.members n ≡ true → n ≢ groups.leader d
      → (w.at (position d.members n)).seen < (w.at (position d.members (groups.leader d))).next

-- there is such a world, where all members are bound
pub reached-groups : {V : Type 0} (groups : Groups V) (d : Definition) (count : ℕ) (past : List (NodeId × Definition)) (at : NodeId → Presence V)
    (said : GroupMessage V → Type 0) (list : List V) → has_node d.members (groups.leader d) ≡ true
    → ((n : NodeId) → has_node d.members n ≡ true → (m : Member V) × (at n ≡ There d m))
    → ((n : NodeId) (m : Member V) → at n ≡ There d m → IsTame groups d n said count m) → InGroups groups d past at said list
    → (w : GroupWorld V) × IsReached groups d count at w
reached-groups {V} groups d count past at said list leads there tame c =
    go (c.coupled (c.ever (groups.leader d) d (there (groups.leader d) leads).0 (there (groups.leader d) leads).1))
  where
    go : SomeWorld groups d past at said list → (w : GroupWorld V) × IsReached groups d count at w
    go x = (
      x.0,
      record {
        agrees =
            x.1.agrees;
        same = same;
        steady = λ n h. (tame n (x.0.at (position d.members n)) (same n h)).steady;
        heard = λ n h off. heard n h ((tame n (x.0.at (position d.members n)) (same n h)).heard off);
      },
    )
      where
        same : (n : NodeId) → has_node d.members n ≡ true → at n ≡ There d (x.0.at (position d.members n))
        same n h = (there n h).1 ∙ ap (λ (z : Member V). There d z) (sym (x.1.there n (there n h).0 (there n h).1))

        next : ℕ
        next = (x.0.at (position d.members (groups.leader d))).next

        asked : (r : ℕ) → WasAsked groups d said r → r < next
        asked r a = (subst (λ (z : CommitMsg V). Told (lead (x.0.at (position d.members (groups.leader d)))) z) a.5
            (says-told (group_of groups d) x.0 (position d.members a.0.from) a.0.body x.1.agrees
            (x.1.known a.0 a.1 (subst (λ (z : CommitMsg V). Matters groups d a.0.from a.0.to z) (sym a.5) (a.2, refl)))
            (ap (λ (z : NodeId). position d.members z) a.2))).0

        heard : (n : NodeId) → has_node d.members n ≡ true
            → ((x.0.at (position d.members n)).seen ≡ 0) ⊎ WasAsked groups d said (x.0.at (position d.members n)).seen
            → (x.0.at (position d.members n)).seen < next
        heard n h (inr a) = asked (x.0.at (position d.members n)).seen a
        heard n h (inl e) =
            let b : IsSteady (group_of groups d) count (x.0.at (position d.members (groups.leader d))) =
            (tame (groups.leader d) (x.0.at (position d.members (groups.leader d))) (same (groups.leader d) leads)).steady in
            let y : 1 ≤ (x.0.at (position d.members (groups.leader d))).next = b.begun in omega (arith, e, y)

-- it is fit
pub fit-groups : {V : Type 0} (groups : Groups V) (d : Definition) (count : ℕ) (at : NodeId → Presence V) (w : GroupWorld V) → IsKeyed (groups.rules d)
    → broken d ≡ None → has_node d.members (groups.leader d) ≡ true → count ≤ 32768 → IsReached groups d count at w → IsFit (group_of groups d) w
fit-groups {V} groups d count at w keyed ruled leads few r =
    fit-by (group_of groups d) keyed (few_members d ruled).0 (position_below d.members (groups.leader d) leads) count w few r.agrees
    (λ i l. subst (λ (j : ℕ). IsSteady (group_of groups d) count (w.at j)) (position-at d [] i ruled l)
    (r.steady (node_or d.members [] i) (or-member d.members [] i l)))
    (λ i l off. subst (λ (j : ℕ). (w.at j).seen < (w.at (position d.members (groups.leader d))).next) (position-at d [] i ruled l)
    (r.heard (node_or d.members [] i) (or-member d.members [] i l)
    (λ e. off (sym (position-at d [] i ruled l) ∙ ap (λ (z : NodeId). position d.members z) e))))

-- the members are registered and up, and their cells have the members of a world of the group
pub record IsCalmed {V : Type 0} (s : Shape V) (d : Definition) (w : World) (g : GroupWorld V) : Type 0 where
  pub registered : HasMembers d w.nodes
  pub up : (n : NodeId) → has_node d.members n ≡ true → w.up n ≡ true
  pub same : (n : NodeId) → has_node d.members n ≡ true → s.stand (w.at n) ≡ There d (g.at (position d.members n))

-- at first nothing of the calm stands on a pair
abbrev pub all_taken : World → NodeId → NodeId → ℕ
all_taken w a b = length (messages w a b)

pub sim-start : {V : Type 0} (s : Shape V) (d : Definition) (Inv : World → (NodeId → NodeId → ℕ) → Type 0) (w : World) (g : GroupWorld V)
    → Inv w (all_taken w) → IsCalmed s d w g → Sim s d Inv w (all_taken w) (calm_beginning g)
sim-start s d Inv w g inv q = record {
  inv = inv;
  registered = q.registered;
  up = q.up;
  same = q.same;
  few = λ x y h k off. omega arith;
  due = λ x y h k off. ap (λ (z : List Message). owns (s.own d x y) z) (drop-all (messages w x y));
}

-- after a calm: the fact holds, and there is a world of the group beside the cells. It is settled, where the calm has six
-- passes or more and a value was pending first; and its coordinator has committed nothing, where nothing was pending and no
-- round was open
pub record IsCalm {V : Type 0} (s : Shape V) (d : Definition) (Inv : World → (NodeId → NodeId → ℕ) → Type 0) (k : ℕ) (z : Calming)
    (g : GroupWorld V) : Type 0 where
  pub inv : Inv z.world z.taken
  pub group : GroupWorld V
  pub calmed : IsCalmed s d z.world group
  pub settles : (v : V) (rest : List V) → 6 ≤ k → IsFit (group_of s.groups d) g → (g.at (position d.members (s.groups.leader d))).pending ≡ v ∷ rest
      → Settles (group_of s.groups d) v group
  pub idles : ((n : NodeId) → has_node d.members n ≡ true → (g.at (position d.members n)).pending ≡ [])
      → (g.at (position d.members (s.groups.leader d))).opened ≡ None
      → (group.at (position d.members (s.groups.leader d))).history ≡ (g.at (position d.members (s.groups.leader d))).history

pub calm-group : {V : Type 0} (s : Shape V) (IsOn : Definition → Cell → Type 0) (d : Definition) (Inv : World → (NodeId → NodeId → ℕ) → Type 0)
    → IsCarried s IsOn d Inv → (c : CircuitId) (k : ℕ) (w : World) (g : GroupWorld V) → Inv w (all_taken w) → IsCalmed s d w g
    → IsCalm s d Inv k (calm c w k) g
calm-group {V} s IsOn d Inv run c k w g inv q =
    go (sim-passes s IsOn d Inv run c (sorted w.nodes) k (calming w) (calm_beginning g) (λ n h. has_sorted w.nodes n ∙ q.registered n h)
    (sim-start s d Inv w g inv q))
  where
    go : AllPassed s d Inv k (calm c w k) (calm_beginning g) → IsCalm s d Inv k (calm c w k) g
    go p = record {
      inv = p.sim.inv;
      group = (group_passes (group_of s.groups d) p.orders (calm_beginning g)).world;
      calmed = record { registered = p.sim.registered; up = p.sim.up; same = p.sim.same };
      settles = λ v rest six fit first. orders-settle (group_of s.groups d) g v rest p.orders p.full
          (let z : length p.orders ≡ k = p.many in omega (arith, z, six)) fit first;
      idles = λ empty shut. idle-calm (group_of s.groups d) p.orders g p.full
          (λ i l. subst (λ (j : ℕ). (g.at j).pending ≡ []) (position-at d [] i run.ruled l)
          (empty (node_or d.members [] i) (or-member d.members [] i l))) shut;
    }

-- A circuit's world in a calm beside the calm of one of its groups, and what an event at a node does to both.
use Rattle.std.proofs.Common.{◌≡◌, ◌≢◌, ℕ, ◌≤◌, ◌⊎◌, true, false, List, [], ◌++◌, append-nil, drop, length, length-append, refl, sym, ap, subst, ◌∙◌, inl}
use Rattle.std.proofs.Common.{inr, arith}
use Rattle.spl_agree.{specs.{Member.Member, declared.{event.GroupEvent.GroupEvent, message.CommitMsg.CommitMsg}}, proofs.Tests.{bool_cases, put-same}}
use Rattle.spl_agree.proofs.Tests.{put-other}
use Rattle.spl_circuit.specs.{Nodes.{NodeId, has_node, position}, Positions.position_below, declared.definition.Definition.Definition}
use Rattle.spl_wire.specs.declared.{message.Message.Message, plan.Plan.Plan}
use Rattle.spl_cell_rules.specs.Changes.{after_plan}
use Rattle.spl_group_liveness.{specs.Calm.{Calm, mail, move}, proofs.Moves.{mailed-here, mailed-other}}
use Rattle.spl_circuit_world.{specs.Worlds.{World, messages, circuit_carried_out, put_at}, proofs.{Nodes.node_cases, Puts.{put_at-same, put_at-other}}}
use Rattle.spl_circuit_safety.proofs.{Positions.position-apart, GroupOfDefinition.{There, after_row, plan_row, group_of}}
use Rattle.spl_circuit_liveness.proofs.{Pairs.{to_node, messages-mine, messages-other, drop-prefix}, Shapes.{Shape, owns, owns-append, Gives}}
use Rattle.spl_circuit_liveness.proofs.Lasting.{SameTaken, IsLasting}

-- the fact holds, the members of the definition are registered and up, their cells have the members of the group, and what
-- was sent on their pairs in this calm and isn't delivered yet is, of the group's own, what stands in the group's calm
pub record Sim {V : Type 0} (s : Shape V) (d : Definition) (Inv : World → (NodeId → NodeId → ℕ) → Type 0) (w : World) (taken : NodeId → NodeId → ℕ)
    (k : Calm V) : Type 0 where
  pub inv : Inv w taken
  pub registered : (n : NodeId) → has_node d.members n ≡ true → has_node w.nodes n ≡ true
  pub up : (n : NodeId) → has_node d.members n ≡ true → w.up n ≡ true
  pub same : (n : NodeId) → has_node d.members n ≡ true → s.stand (w.at n) ≡ There d (k.world.at (position d.members n))
  pub few : (x y : NodeId) → has_node d.members x ≡ true → has_node d.members y ≡ true → x ≢ y → taken x y ≤ length (messages w x y)
  pub due : (x y : NodeId) → has_node d.members x ≡ true → has_node d.members y ≡ true → x ≢ y
      → owns (s.own d x y) (drop (taken x y) (messages w x y)) ≡ k.due (position d.members x) (position d.members y)

-- where other numbers are taken on no pair of members
pub sim-taken : {V : Type 0} (s : Shape V) (d : Definition) (Inv : World → (NodeId → NodeId → ℕ) → Type 0) → IsLasting d Inv
    → (w : World) (taken taken2 : NodeId → NodeId → ℕ) (k : Calm V) → SameTaken d taken taken2 → Sim s d Inv w taken k → Sim s d Inv w taken2 k
sim-taken s d Inv lasts w taken taken2 k e q = record {
  inv = lasts.again w taken taken2 e q.inv;
  registered = q.registered;
  up = q.up;
  same = q.same;
  few = λ x y h g dif. subst (λ (t : ℕ). t ≤ length (messages w x y)) (sym (e x y h g dif)) (q.few x y h g dif);
  due = λ x y h g dif. ap (λ (t : ℕ). owns (s.own d x y) (drop t (messages w x y))) (e x y h g dif) ∙ q.due x y h g dif;
}

-- what stands before a plan's own sends
pub record Stands {V : Type 0} (s : Shape V) (d : Definition) (w : World) (taken : NodeId → NodeId → ℕ) (due : ℕ → ℕ → List (CommitMsg V)) : Type 0 where
  pub few : (x y : NodeId) → has_node d.members x ≡ true → has_node d.members y ≡ true → x ≢ y → taken x y ≤ length (messages w x y)
  pub left : (x y : NodeId) → has_node d.members x ≡ true → has_node d.members y ≡ true → x ≢ y
      → owns (s.own d x y) (drop (taken x y) (messages w x y)) ≡ due (position d.members x) (position d.members y)

pub sim-stands : {V : Type 0} (s : Shape V) (d : Definition) (Inv : World → (NodeId → NodeId → ℕ) → Type 0) (w : World) (taken : NodeId → NodeId → ℕ)
    (k : Calm V) → Sim s d Inv w taken k → Stands s d w taken k.due
sim-stands s d Inv w taken k q = record { few = q.few; left = q.due }

-- what the group's calm is after the plan
pub record Comes {V : Type 0} (d : Definition) (n : NodeId) (k k2 : Calm V) (due : ℕ → ℕ → List (CommitMsg V)) (m : Member V)
    (ss : List (ℕ × CommitMsg V)) : Type 0 where
  pub here : has_node d.members n ≡ true → k2.world.at (position d.members n) ≡ m
  pub others : (x : NodeId) → has_node d.members n ≡ true → has_node d.members x ≡ true → x ≢ n
      → k2.world.at (position d.members x) ≡ k.world.at (position d.members x)
  pub still : (x : NodeId) → has_node d.members n ≡ false → k2.world.at (position d.members x) ≡ k.world.at (position d.members x)
  pub mine : (y : NodeId) → has_node d.members n ≡ true → has_node d.members y ≡ true → y ≢ n
      → k2.due (position d.members n) (position d.members y) ≡ due (position d.members n) (position d.members y) ++ mail (position d.members y) ss
  pub theirs : (x y : NodeId) → has_node d.members x ≡ true → x ≢ n
      → k2.due (position d.members x) (position d.members y) ≡ due (position d.members x) (position d.members y)

-- a plan at a node
pub sim-plan : {V : Type 0} (s : Shape V) (d : Definition) (Inv : World → (NodeId → NodeId → ℕ) → Type 0) (w : World) (taken taken2 : NodeId → NodeId → ℕ)
    (k k2 : Calm V) (n : NodeId) (p : Plan) (due : ℕ → ℕ → List (CommitMsg V)) (m : Member V) (ss : List (ℕ × CommitMsg V))
    → Inv (circuit_carried_out w n p) taken2 → (has_node d.members n ≡ true → Gives s d n (w.at n) p m ss) → Stands s d w taken2 due
    → Comes d n k k2 due m ss → Sim s d Inv w taken k → Sim s d Inv (circuit_carried_out w n p) taken2 k2
sim-plan {V} s d Inv w taken taken2 k k2 n p due m ss inv gives stands comes q = record {
  inv = inv;
  registered = q.registered;
  up = q.up;
  same = λ x h. same x h (node_cases x n);
  few = λ x y h g dif. few x y h g dif (node_cases x n);
  due = λ x y h g dif. after x y h g dif (node_cases x n);
}
  where
    elsewhere : (x : NodeId) → has_node d.members x ≡ true → x ≢ n → (has_node d.members n ≡ true) ⊎ (has_node d.members n ≡ false)
        → k2.world.at (position d.members x) ≡ k.world.at (position d.members x)
    elsewhere x h e (inl z) = comes.others x z h e
    elsewhere x h e (inr z) = comes.still x z

    same : (x : NodeId) → has_node d.members x ≡ true → (x ≡ n) ⊎ (x ≢ n)
        → s.stand (put_at w.at n (after_plan n (w.at n) p) x) ≡ There d (k2.world.at (position d.members x))
    same x h (inl e) = let z : has_node d.members n ≡ true = subst (λ (u : NodeId). has_node d.members u ≡ true) e h in
        subst (λ (u : NodeId). s.stand (put_at w.at n (after_plan n (w.at n) p) u) ≡ There d (k2.world.at (position d.members u))) (sym e)
        (ap s.stand (put_at-same w.at n (after_plan n (w.at n) p)) ∙ ((gives z).stands ∙ ap (λ (u : Member V). There d u) (sym (comes.here z))))
    same x h (inr e) =
        ap s.stand (put_at-other w.at n (after_plan n (w.at n) p) x e)
        ∙ (q.same x h ∙ ap (λ (u : Member V). There d u) (sym (elsewhere x h e (bool_cases (has_node d.members n)))))

    few : (x y : NodeId) → has_node d.members x ≡ true → has_node d.members y ≡ true → x ≢ y → (x ≡ n) ⊎ (x ≢ n)
        → taken2 x y ≤ length (messages (circuit_carried_out w n p) x y)
    few x y h g dif (inr e) = subst (λ (z : List Message). taken2 x y ≤ length z) (sym (messages-other w n x y p e)) (stands.few x y h g dif)
    few x y h g dif (inl e) = subst (λ (u : NodeId). taken2 u y ≤ length (messages (circuit_carried_out w n p) u y)) (sym e)
        (subst (λ (z : List Message). taken2 n y ≤ length z) (sym (messages-mine w n y p (λ r. dif (e ∙ r)) (q.registered y g)))
        (rw (length-append (messages w n y) (to_node y p.sends))
        (let z : taken2 n y ≤ length (messages w n y) = stands.few n y (subst (λ (u : NodeId). has_node d.members u ≡ true) e h) g
        (λ r. dif (e ∙ r)) in omega (arith, z))))

    after : (x y : NodeId) → has_node d.members x ≡ true → has_node d.members y ≡ true → x ≢ y → (x ≡ n) ⊎ (x ≢ n)
        → owns (s.own d x y) (drop (taken2 x y) (messages (circuit_carried_out w n p) x y)) ≡ k2.due (position d.members x) (position d.members y)
    after x y h g dif (inr e) =
        ap (λ (z : List Message). owns (s.own d x y) (drop (taken2 x y) z)) (messages-other w n x y p e)
        ∙ (stands.left x y h g dif ∙ sym (comes.theirs x y h e))
    after x y h g dif (inl e) =
        subst (λ (u : NodeId). owns (s.own d u y) (drop (taken2 u y) (messages (circuit_carried_out w n p) u y))
        ≡ k2.due (position d.members u) (position d.members y)) (sym e) (mine (subst (λ (u : NodeId). has_node d.members u ≡ true) e h) (λ r. dif (e ∙ r)))
      where
        mine : has_node d.members n ≡ true → n ≢ y
            → owns (s.own d n y) (drop (taken2 n y) (messages (circuit_carried_out w n p) n y)) ≡ k2.due (position d.members n) (position d.members y)
        mine z off =
            ap (λ (u : List Message). owns (s.own d n y) (drop (taken2 n y) u)) (messages-mine w n y p off (q.registered y g))
            ∙ (ap (λ (u : List Message). owns (s.own d n y) u) (drop-prefix (taken2 n y) (messages w n y) (to_node y p.sends) (stands.few n y z g off))
            ∙ (owns-append (s.own d n y) (drop (taken2 n y) (messages w n y)) (to_node y p.sends)
            ∙ (ap (λ (u : List (CommitMsg V)). u ++ owns (s.own d n y) (to_node y p.sends)) (stands.left n y z g off)
            ∙ (ap (λ (u : List (CommitMsg V)). due (position d.members n) (position d.members y) ++ u) ((gives z).sends y g (λ r. off (sym r)))
            ∙ sym (comes.mine y z g (λ r. off (sym r)))))))

-- the group moves at a member
pub sim-moves : {V : Type 0} (s : Shape V) (d : Definition) (Inv : World → (NodeId → NodeId → ℕ) → Type 0) (w : World) (taken taken2 : NodeId → NodeId → ℕ)
    (k : Calm V) (n : NodeId) (p : Plan) (e : GroupEvent V) (due : ℕ → ℕ → List (CommitMsg V)) → length d.members ≤ 8 → has_node d.members n ≡ true
    → Inv (circuit_carried_out w n p) taken2
    → Gives s d n (w.at n) p (after_row s.groups d n (k.world.at (position d.members n)) e)
    (plan_row s.groups d n (k.world.at (position d.members n)) e).sends → Stands s d w taken2 due → Sim s d Inv w taken k
    → Sim s d Inv (circuit_carried_out w n p) taken2 (move (group_of s.groups d) k (position d.members n) e due)
sim-moves {V} s d Inv w taken taken2 k n p e due eight member inv gives stands q =
    sim-plan s d Inv w taken taken2 k (move (group_of s.groups d) k i e due) n p due m2 ss inv (λ h. gives) stands (record {
      here = λ h. put-same k.world.at i m2;
      others = λ x h g off. put-other k.world.at i m2 (position d.members x) (apart x off);
      still = λ x h. absurd (let z : has_node d.members n ≡ true = member in cc);
      mine = λ y h g off. mailed-here due i ss (position d.members y);
      theirs = λ x y h off. mailed-other due i ss (position d.members x) (position d.members y) (apart x off);
    }) q
  where
    i : ℕ
    i = position d.members n

    m2 : Member V
    m2 = after_row s.groups d n (k.world.at (position d.members n)) e

    ss : List (ℕ × CommitMsg V)
    ss = (plan_row s.groups d n (k.world.at (position d.members n)) e).sends

    apart : (x : NodeId) → x ≢ n → position d.members x ≢ i
    apart x off z = off (sym (position-apart d.members n x eight (position_below d.members n member) (sym z)))

-- the group stays
pub sim-stays : {V : Type 0} (s : Shape V) (d : Definition) (Inv : World → (NodeId → NodeId → ℕ) → Type 0) (w : World) (taken taken2 : NodeId → NodeId → ℕ)
    (k : Calm V) (n : NodeId) (p : Plan) → Inv (circuit_carried_out w n p) taken2
    → (has_node d.members n ≡ true → Gives s d n (w.at n) p (k.world.at (position d.members n)) []) → Stands s d w taken2 k.due → Sim s d Inv w taken k
    → Sim s d Inv (circuit_carried_out w n p) taken2 k
sim-stays {V} s d Inv w taken taken2 k n p inv gives stands q =
    sim-plan s d Inv w taken taken2 k k n p k.due (k.world.at (position d.members n)) [] inv gives stands (record {
      here = λ h. refl;
      others = λ x h g off. refl;
      still = λ x h. refl;
      mine = λ y h g off. sym (append-nil _);
      theirs = λ x y h off. refl;
    }) q

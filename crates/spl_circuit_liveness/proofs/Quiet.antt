-- Where no act is pending and no round of acts is open, the members' acts only catch up with the coordinator's in a calm; so
-- a lifecycle that runs in each member's acts at first, the coordinator's among them, runs there all through the calm.
use Rattle.std.{specs.Prelude.{Some, None, slice_get}, proofs.Common.{◌≡◌, ◌≢◌, ℕ, suc, ◌+◌, ◌<◌, ◌⊎◌, true, false, List, [], ◌∷◌, ◌++◌, append-nil, drop}}
use Rattle.std.proofs.Common.{length, length-append, refl, sym, ap, subst, ◌∙◌, inl, inr, arith}
use Rattle.spl_agree.{specs.{Member.{Member, values}, World.IsPrefixOf, Agreement.Agrees, declared.message.CommitMsg.CommitMsg}, proofs.Tests.bool_cases}
use Rattle.spl_agree.specs.World as one
use Rattle.spl_agree.specs.declared.event.GroupEvent.TheVariants as group
use Rattle.spl_circuit.specs.{Nodes.{NodeId, CircuitId, has_node, position, node_or}, Rules.{broken, admin, is_member}, Lifecycle.{life, is_running}}
use Rattle.spl_circuit.{specs.{Positions.position_below, declared.{act.Act.Act, definition.Definition.Definition}}, proofs.Valid.few_members}
use Rattle.spl_wire.specs.declared.message.Message.{Message}
use Rattle.spl_wire.specs.declared.event.Event.TheVariants as event
use Rattle.spl_sched.specs.declared.line.Step.TheVariants as step
use Rattle.spl_cell_rules.specs.Cells.{Cell}
use Rattle.spl_group_safety.proofs.Agreement.{agrees-run}
use Rattle.spl_group_liveness.{specs.Calm.{Calm, calm_beginning, ticked, deliver_first, turn_by}, proofs.{Moves.{IsKept, kept-deliver}, Kept.kept-history}}
use Rattle.spl_group_liveness.proofs.{Runs.{Ran, kept-ran}, Idle.{Idle, kept-idle}}
use Rattle.spl_circuit_world.{specs.Worlds.{World, messages, step_world}, proofs.Nodes.node_cases}
use Rattle.spl_circuit_safety.proofs.{Positions.position-apart, Rosters.roster, GroupOfDefinition.{There, there_is, group_of}, GroupWorlds.admin_groups}
use Rattle.spl_circuit_safety.proofs.{GroupWorlds.{admin_presence, admin_said}, HistoriesGrow.prefix-more}
use Rattle.spl_circuit_liveness.{specs.Settled.{acts_kept, is_running_by, IsWhole, IsRunningAll}, proofs.{Pairs.drop-next, Shapes.{Shape, owned}}}
use Rattle.spl_circuit_liveness.proofs.{Lasting.{took, IsLasting, IsCarried}, Sims.{Sim, sim-taken}, Events.{sim-tick, sim-tick-other, sim-deliver}}
use Rattle.spl_circuit_liveness.proofs.{Events.sim-deliver-other, ActShape.{act_shape, IsOpenTo}, BatchShape.{batch_shape, batch-shaped, IsRunningIn}}
use Rattle.spl_circuit_liveness.proofs.{Members.CellsAre, TameRuns.AllTame, Settles.{IsReached, reached-groups, sim-start}, Circuits.{acts-carried, open-to}}
use Rattle.spl_circuit_liveness.proofs.{Circuits.{acts-there, tame-acts, ruled-whole, BatchesCalm, calm-batches-by}, Coupled.IsCoupled, Places.or-member}
use Rattle.spl_circuit_liveness.proofs.Places.{position-at}

-- the calm of a group with a fact that each of its moves keeps lasts in the circuit's
pub sim-lasts : {V : Type 0} (s : Shape V) (IsOn : Definition → Cell → Type 0) (d : Definition) (Inv : World → (NodeId → NodeId → ℕ) → Type 0)
    → IsCarried s IsOn d Inv → (P : Calm V → Type 0) → IsKept (group_of s.groups d) P → IsLasting d (λ w taken. (k : Calm V) × (Sim s d Inv w taken k × P k))
sim-lasts {V} s IsOn d Inv run P kept = record {
  ticks = λ c n w taken q. tick c n w taken q (bool_cases (has_node d.members n));
  takes = λ c from to w taken number t hf ht dif e tk l q. take c from to w taken number t hf ht dif e tk l q;
  apart = λ c from to w taken number dif lone q. (q.0, (sim-deliver-other s IsOn d Inv run c from to w taken q.0 number dif lone q.1.0, q.1.1));
  again = λ w taken taken2 e q. (q.0, (sim-taken s d Inv run.lasts w taken taken2 q.0 e q.1.0, q.1.1));
}
  where
    Beside : World → (NodeId → NodeId → ℕ) → Type 0
    Beside w taken = (k : Calm V) × (Sim s d Inv w taken k × P k)

    tick : (c : CircuitId) (n : NodeId) (w : World) (taken : NodeId → NodeId → ℕ) → Beside w taken
        → (has_node d.members n ≡ true) ⊎ (has_node d.members n ≡ false) → Beside (step_world w (step.At n c event.Tick)) taken
    tick c n w taken q (inl h) = (
      ticked (group_of s.groups d) (position d.members n) q.0,
      (
        sim-tick s IsOn d Inv run c n w taken q.0 h q.1.0,
        kept q.0 (position d.members n) group.Tick q.0.due (record { member = position_below d.members n h; may = refl }) q.1.1,
      ),
    )
    tick c n w taken q (inr h) = (q.0, (sim-tick-other s IsOn d Inv run c n w taken q.0 h q.1.0, q.1.1))

    take : (c : CircuitId) (from to : NodeId) (w : World) (taken : NodeId → NodeId → ℕ) (number t : ℕ) → has_node d.members from ≡ true
        → has_node d.members to ≡ true → from ≢ to → number ≡ suc t → taken from to ≡ t → t < length (messages w from to) → Beside w taken
        → Beside (step_world w (step.Deliver from to c number)) (took taken from to (suc t))
    take c from to w taken number t hf ht dif e tk l q = go (drop-next t (messages w from to) l)
      where
        go : (x : Message) × (slice_get (messages w from to) t ≡ Some x) × (drop t (messages w from to) ≡ x ∷ drop (suc t) (messages w from to))
            → Beside (step_world w (step.Deliver from to c number)) (took taken from to (suc t))
        go next = known (sim-deliver s IsOn d Inv run c from to w taken q.0 number t next.0 e tk l next.1 next.2 hf ht dif (s.own d from to next.0) refl q.1.0)
          where
            moved : (k2 : Calm V) → (k2 ≡ q.0) ⊎ (k2 ≡ deliver_first (group_of s.groups d) (position d.members from) (position d.members to) q.0) → P k2
            moved k2 (inl z) = subst P (sym z) q.1.1
            moved k2 (inr z) =
                subst P (sym z) (kept-deliver (group_of s.groups d) P kept (position d.members from) (position d.members to)
                (position_below d.members from hf) (position_below d.members to ht)
                (λ y. dif (position-apart d.members from to (few_members d run.ruled).1 (position_below d.members from hf) y))
                (q.0.due (position d.members from) (position d.members to)) q.0 refl q.1.1)

            known : (k2 : Calm V) × Sim s d Inv (step_world w (step.Deliver from to c number)) (took taken from to (suc t)) k2
                × ((ms : List (CommitMsg V))
                → turn_by (group_of s.groups d) (position d.members from) (position d.members to) (owned (s.own d from to next.0) ms) q.0
                ≡ turn_by (group_of s.groups d) (position d.members from) (position d.members to) ms k2)
                × ((k2 ≡ q.0) ⊎ (k2 ≡ deliver_first (group_of s.groups d) (position d.members from) (position d.members to) q.0))
                → Beside (step_world w (step.Deliver from to c number)) (took taken from to (suc t))
            known x = (x.0, (x.1, moved x.0 x.3))

-- ---- the acts of an idle admin group

-- each member's acts are as they were, or the coordinator's, since the group's world g
pub record IsQuiet (d : Definition) (g : one.World Act) (k : Calm Act) : Type 0 where
  pub idle : Idle (group_of admin_groups d) (g.at (position d.members (admin d))).history k
  pub ran : Ran (group_of admin_groups d) g k
  pub grown : (i : ℕ) → IsPrefixOf (g.at i).history (k.world.at i).history

pub kept-quiet : (d : Definition) (g : one.World Act) → IsKept (group_of admin_groups d) (IsQuiet d g)
kept-quiet d g k here e due ready q = record {
  idle = kept-idle (group_of admin_groups d) (g.at (position d.members (admin d))).history k here e due ready q.idle;
  ran = kept-ran (group_of admin_groups d) g k here e due ready q.ran;
  grown = λ i. kept-history (group_of admin_groups d) (λ h. IsPrefixOf (g.at i).history h)
      (λ x h p. prefix-more (g.at i).history h x p) i k here e due ready (q.grown i);
}

-- two lists of which one begins the other, and which both lack the last of a third at most
pub caught-up : {A : Type 0} (p h all : List A) → IsPrefixOf p h → (p ≡ all) ⊎ ((x : A) × (all ≡ p ++ x ∷ []))
    → (h ≡ all) ⊎ ((x : A) × (all ≡ h ++ x ∷ [])) → (h ≡ p) ⊎ (h ≡ all)
caught-up {A} p h all f a (inl e) = inr e
caught-up {A} p h all f (inl e) (inr b) = absurd (let x : length p + length f.0 ≡ length h = sym (length-append p f.0) ∙ ap (λ (z : List A). length z) f.1 in
    let y : length all ≡ length h + 1 = ap (λ (z : List A). length z) b.1 ∙ length-append h (b.0 ∷ []) in
    let z : length p ≡ length all = ap (λ (u : List A). length u) e in omega (arith, x, y, z))
caught-up {A} p h all f (inr a) (inr b) =
    inl (go f.0 f.1 (let x : length p + length f.0 ≡ length h = sym (length-append p f.0) ∙ ap (λ (z : List A). length z) f.1 in
    let y : length all ≡ length h + 1 = ap (λ (z : List A). length z) b.1 ∙ length-append h (b.0 ∷ []) in
    let z : length all ≡ length p + 1 = ap (λ (u : List A). length u) a.1 ∙ length-append p (a.0 ∷ []) in omega (arith, x, y, z)))
  where
    go : (r : List A) → p ++ r ≡ h → length r ≡ 0 → h ≡ p
    go [] e l = sym e ∙ append-nil p
    go (x ∷ xs) e l = absurd (omega (arith, l))

-- a member's own acts
pub own-acts : (d : Definition) (g : one.World Act) (k : Calm Act) (n : NodeId) → broken d ≡ None → has_node d.members n ≡ true
    → Agrees (group_of admin_groups d) g → IsQuiet d g k
    → ((k.world.at (position d.members n)).history ≡ (g.at (position d.members n)).history)
    ⊎ ((k.world.at (position d.members n)).history ≡ (g.at (position d.members (admin d))).history)
own-acts d g k n ruled h agrees q = go (node_cases n (admin d))
  where
    i : ℕ
    i = position d.members n

    c : ℕ
    c = position d.members (admin d)

    now : Agrees (group_of admin_groups d) k.world
    now = subst (Agrees (group_of admin_groups d)) q.ran.ran.1.1 (agrees-run (group_of admin_groups d) g q.ran.ran.0 agrees)

    after : (w : one.World Act) → Agrees (group_of admin_groups d) w → i ≢ c → (all : List (ℕ × Act)) → (w.at c).history ≡ all
        → ((w.at i).history ≡ all) ⊎ ((x : ℕ × Act) × (all ≡ (w.at i).history ++ x ∷ []))
    after w a off all e = pick (a.follows i (position_below d.members n h) off).trails
      where
        pick : ((w.at i).history ≡ (w.at c).history) ⊎ ((x : ℕ × Act) × ((w.at i).promise ≡ Some x) × ((w.at c).history ≡ (w.at i).history ++ x ∷ []))
            → ((w.at i).history ≡ all) ⊎ ((x : ℕ × Act) × (all ≡ (w.at i).history ++ x ∷ []))
        pick (inl z) = inl (z ∙ e)
        pick (inr z) = inr (z.0, sym e ∙ z.2)

    go : (n ≡ admin d) ⊎ (n ≢ admin d) → ((k.world.at i).history ≡ (g.at i).history) ⊎ ((k.world.at i).history ≡ (g.at c).history)
    go (inl e) = inr (subst (λ (z : NodeId). (k.world.at (position d.members z)).history ≡ (g.at c).history) (sym e) q.idle.stays)
    go (inr e) = let off : i ≢ c = λ z. e (position-apart d.members n (admin d) (few_members d ruled).1 (position_below d.members n h) z) in
        caught-up (g.at i).history (k.world.at i).history (g.at c).history (q.grown i) (after g agrees off (g.at c).history refl)
        (after k.world now off (g.at c).history q.idle.stays)

-- the lifecycle hangs on the history alone
pub runs-by : (d : Definition) (a b : Member Act) → a.history ≡ b.history → is_running_by d b ≡ true → is_running_by d a ≡ true
runs-by d a b e h = subst (λ (z : List (ℕ × Act)). is_running (life d (values z)).state ≡ true) (sym e) h

-- so the service group is carried where the lifecycle runs at each member, and the admin group is idle
pub quiet-carried : (d : Definition) (g : one.World Act) → broken d ≡ None → Agrees (group_of admin_groups d) g
    → ((n : NodeId) → has_node d.members n ≡ true → is_running_by d (g.at (position d.members n)) ≡ true)
    → IsCarried batch_shape IsRunningIn d (λ w taken. (k : Calm Act) × (Sim act_shape d (CellsAre d (IsOpenTo d)) w taken k × IsQuiet d g k))
quiet-carried d g ruled agrees active = record {
  ruled = ruled;
  shaped = batch-shaped d ruled;
  lasts = sim-lasts act_shape IsOpenTo d (CellsAre d (IsOpenTo d)) (acts-carried d ruled) (IsQuiet d g) (kept-quiet d g);
  on = λ w taken q n h. on w taken q.0 q.1.0 q.1.1 n h;
}
  where
    on : (w : World) (taken : NodeId → NodeId → ℕ) (k : Calm Act) → Sim act_shape d (CellsAre d (IsOpenTo d)) w taken k → IsQuiet d g k → (n : NodeId)
        → has_node d.members n ≡ true → IsRunningIn d (w.at n)
    on w taken k sim q n h = (o.0, o.1, o.2, o.3, subst (λ (z : Member Act). is_running_by d z ≡ true) (sym same) (go (own-acts d g k n ruled h agrees q)))
      where
        o : IsOpenTo d (w.at n)
        o = sim.inv.1 n h

        same : o.1 ≡ k.world.at (position d.members n)
        same = (there_is d d o.1 (k.world.at (position d.members n)) (sym (ap admin_presence o.3) ∙ sim.same n h)).1

        go : ((k.world.at (position d.members n)).history ≡ (g.at (position d.members n)).history)
            ⊎ ((k.world.at (position d.members n)).history ≡ (g.at (position d.members (admin d))).history)
            → is_running_by d (k.world.at (position d.members n)) ≡ true
        go (inl e) = runs-by d (k.world.at (position d.members n)) (g.at (position d.members n)) e (active n h)
        go (inr e) = runs-by d (k.world.at (position d.members n)) (g.at (position d.members (admin d))) e (active (admin d) (roster d ruled).admin_in)

-- a calm where the admin group is idle: by the acts that each member has, and not by what becomes of an active lifecycle
pub quiet-batches : (c : CircuitId) (k count : ℕ) (w : World) (d : Definition) (n : NodeId) → IsCoupled w → AllTame count w → IsWhole w d
    → IsRunningAll w d → is_member d n ≡ true → BatchesCalm c k count w d
quiet-batches c k count w d n coupled tame whole running member =
    go (reached-groups admin_groups d count coupled.0 (λ j. admin_presence (w.at j)) (admin_said w.sent) (coupled.1 d) (roster d ruled).admin_in there
    (λ j m h. tame-acts j w.sent count (w.at j) d m (tame j) h) (coupled.3.admins d))
  where
    ruled : broken d ≡ None
    ruled = ruled-whole w d n coupled whole member

    there : (j : NodeId) → has_node d.members j ≡ true → (m : Member Act) × (admin_presence (w.at j) ≡ There d m)
    there j h = let o : IsOpenTo d (w.at j) = open-to d (w.at j) (whole.open_cells j h) in (o.1, ap admin_presence o.3)

    go : (g : one.World Act) × IsReached admin_groups d count (λ j. admin_presence (w.at j)) g → BatchesCalm c k count w d
    go r = calm-batches-by c k count w d _
        (quiet-carried d r.0 ruled r.1.agrees (λ j h. subst (λ (z : Member Act). is_running_by d z ≡ true) (mine j h) (running.runs j h))) (
          calm_beginning r.0,
          (
            sim-start act_shape d (CellsAre d (IsOpenTo d)) w r.0 (coupled, λ j h. open-to d (w.at j) (whole.open_cells j h))
                (record { registered = whole.registered; up = whole.up; same = r.1.same }),
            starts,
          ),
        ) coupled tame whole
      where
        mine : (j : NodeId) → has_node d.members j ≡ true → acts_kept w j ≡ r.0.at (position d.members j)
        mine j h = acts-there d (w.at j) (r.0.at (position d.members j)) (r.1.same j h)

        starts : IsQuiet d r.0 (calm_beginning r.0)
        starts = record {
          idle = record {
            empty = λ i l. subst (λ (j : ℕ). (r.0.at j).pending ≡ []) (position-at d [] i ruled l)
                (subst (λ (z : Member Act). z.pending ≡ []) (mine (node_or d.members [] i) (or-member d.members [] i l))
                (running.idle (node_or d.members [] i) (or-member d.members [] i l)));
            shut = subst (λ (z : Member Act). z.opened ≡ None) (mine (admin d) (roster d ruled).admin_in) running.shut;
            none = λ a b x. x;
            stays = refl;
          };
          ran = record { ran = ([], (tt, refl)); was = λ a b m x. absurd x };
          grown = λ i. ([], append-nil _);
        }

-- The admin group of a definition in a calm.
use Rattle.std.{specs.{Prelude.{Option, Some, None, ◌==◌, if◌then◌else◌, Ok, Err}, Str.bytes_eq}, proofs.Common.{◌≡◌, ◌≢◌, ℕ, ◌≤◌, ◌⊎◌, true, false, eqb}}
use Rattle.std.proofs.Common.{List, [], ◌∷◌, ◌++◌, append-nil, length, refl, sym, ap, subst, ◌∙◌, inl, inr, arith}
use Rattle.spl_cell_rules.specs.{Cells.{site_at, Cell, Held, is_open_cell, Deed, Acts, Serves, Turns, hears_first, Say, Delivered, Alone}, Batches.routed}
use Rattle.spl_cell_rules.specs.{Batches.{way, hears_routed, serves_other}, Plans.{planned, plan_of, group_sends, admin_lane, service_lane}}
use Rattle.spl_agree.specs.{Member.Member, Fits.generation_of, World.after, declared.{event.GroupEvent.GroupEvent, message.CommitMsg.CommitMsg}}
use Rattle.spl_agree.{specs.declared.plan.GroupPlan.GroupPlan, proofs.Tests.{if_holds, if_true, bool_cases, eqb_is, eqb_not, eqb_same}}
use Rattle.spl_agree.specs.declared.event.GroupEvent.TheVariants as group
use Rattle.spl_circuit.specs.{Nodes.{NodeId, CircuitId, ServiceId, has_node, position, node_or}, Rules.{broken, admin}, Routing.Way, Positions.position_below}
use Rattle.spl_circuit.specs.{Same.node_same, declared.{act.Act.Act, definition.Definition.Definition}}
use Rattle.spl_command.specs.declared.batch.Batch.{Batch}
use Rattle.spl_wire.specs.declared.message.Message.{Message}
use Rattle.spl_wire.specs.declared.message.Message.TheVariants as message
use Rattle.spl_wire.specs.declared.event.Event.TheVariants as event
use Rattle.spl_group_liveness.{specs.Calm.mail, proofs.Strangers.{AllTo, LeavesBe, stranger-leaves}}
use Rattle.spl_circuit_safety.proofs.{Rosters.roster, GroupOfDefinition.{AllPosts, There, there_is, after_row, plan_row, group_of}, GroupWorlds.admin_groups}
use Rattle.spl_circuit_safety.proofs.GroupWorlds.{service_groups, admin_presence}
use Rattle.spl_circuit_liveness.{specs.Settled.is_running_by, proofs.{Places.outside, Pairs.{to_node, to_node-append}, Shapes.{Shape, owns, owns-append}}}
use Rattle.spl_circuit_liveness.proofs.{Shapes.{Gives, IsShaped}, Sends.{IsPost, posts-message, names-tick}, Landing.{open_at, Lands, posts-more}}
use Rattle.spl_circuit_liveness.proofs.{Landing.{lands-there, lands-elsewhere, lands-back, after-acts, after-serves, after-both}, Idles.gives-still}
use Rattle.spl_circuit_liveness.proofs.Idles.{idle-first, idle-other}

-- a message of acts of the generation
abbrev pub own_act : Definition → NodeId → NodeId → Message → Option (CommitMsg Act)
own_act d from to (message.Admin i x) = if generation_of x == d.generation then Some x else None
own_act d from to (message.Scabbard i s t x) = None

abbrev pub act_shape : Shape Act
act_shape = record { groups = admin_groups; stand = admin_presence; own = own_act }

-- bound to the definition, and open
abbrev pub IsOpenTo : Definition → Cell → Type 0
IsOpenTo d k = (t : ℕ) × (a : Member Act) × (b : Member Batch) × (k ≡ Held (open_at d t a b))

-- its own sends to a member are those to its position
pub mail-acts : (d : Definition) (c : CircuitId) (n back y : NodeId) (ss : List (ℕ × CommitMsg Act)) → broken d ≡ None → has_node d.members y ≡ true
    → y ≢ n → AllPosts (Lands d n back) ss
    → owns (own_act d n y) (to_node y (group_sends (admin_lane (site_at n c) d) back ss)) ≡ mail (position d.members y) ss
mail-acts d c n back y [] ruled h dif a = refl
mail-acts d c n back y (s ∷ ss) ruled h dif a = go (bool_cases (eqb s.0 (position d.members y))) (mail-acts d c n back y ss ruled h dif a.1)
  where
    named : (generation_of s.1 == d.generation) ≡ true
    named = subst (λ (z : ℕ). eqb (generation_of s.1) z ≡ true) a.0.0 (eqb_same (generation_of s.1))

    go : (eqb s.0 (position d.members y) ≡ true) ⊎ (eqb s.0 (position d.members y) ≡ false)
        → owns (own_act d n y) (to_node y (group_sends (admin_lane (site_at n c) d) back ss)) ≡ mail (position d.members y) ss
        → owns (own_act d n y) (to_node y (group_sends (admin_lane (site_at n c) d) back (s ∷ ss))) ≡ mail (position d.members y) (s ∷ ss)
    go (inl q) hyp =
        let z : node_or d.members back s.0 ≡ y = lands-there d back y s.0 h (eqb_is s.0 (position d.members y) q) in
        rw (q, z, node_same y) (rw named (ap (λ u. s.1 ∷ u) hyp))
    go (inr q) hyp = rw (q, lands-elsewhere d n back y s.0 ruled dif a.0.1 (eqb_not s.0 (position d.members y) q)) hyp

-- no message of batches is one of acts
pub none-of-batches : (d : Definition) (c : CircuitId) (n back y : NodeId) (ss : List (ℕ × CommitMsg Batch))
    → owns (own_act d n y) (to_node y (group_sends (service_lane (site_at n c) d) back ss)) ≡ []
none-of-batches d c n back y [] = refl
none-of-batches d c n back y (s ∷ ss) =
    if_holds (λ (z : List Message). owns (own_act d n y) z ≡ []) (bytes_eq (node_or d.members back s.0) y) _ _ (λ q. none-of-batches d c n back y ss)
    (λ q. none-of-batches d c n back y ss)

-- nothing comes to a member where all goes back
pub back-acts : (d : Definition) (c : CircuitId) (n from y : NodeId) (q : ℕ) (ss : List (ℕ × CommitMsg Act)) → length d.members ≤ q
    → has_node d.members y ≡ true → has_node d.members from ≡ false → AllTo q ss
    → owns (own_act d n y) (to_node y (group_sends (admin_lane (site_at n c) d) from ss)) ≡ []
back-acts d c n from y q [] l h none a = refl
back-acts d c n from y q (s ∷ ss) l h none a =
    rw (lands-back d from y s.0 (let z : s.0 ≡ q = a.0 in omega (arith, z, l)) h none) (back-acts d c n from y q ss l h none a.1)

-- ---- deeds

abbrev pub ActGives : Definition → NodeId → Cell → NodeId → Deed → Member Act → List (ℕ × CommitMsg Act) → Type 0
ActGives d n k c deed m ss = Gives act_shape d n k (planned (site_at n c) deed) m ss

pub acts-acts : (d : Definition) (c : CircuitId) (n back : NodeId) (t : ℕ) (a : Member Act) (b : Member Batch) (say : Say) (e : GroupEvent Act)
    → broken d ≡ None → AllPosts (Lands d n back) (plan_row admin_groups d n a e).sends
    → ActGives d n (Held (open_at d t a b)) c (Acts say (open_at d t a b) back e) (after_row admin_groups d n a e) (plan_row admin_groups d n a e).sends
acts-acts d c n back t a b say e ruled all =
    let x : (u : ℕ) × (_ ≡ Held (open_at d u (after_row admin_groups d n a e) b)) = after-acts n (open_at d t a b) (plan_row admin_groups d n a e) in record {
      stands = ap admin_presence x.1;
      sends = λ y h dif. mail-acts d c n back y (plan_row admin_groups d n a e).sends ruled h dif all;
    }

pub acts-serves : (d : Definition) (c : CircuitId) (n back : NodeId) (t : ℕ) (a : Member Act) (b : Member Batch) (say : Say) (e : GroupEvent Batch)
    → ActGives d n (Held (open_at d t a b)) c (Serves say (open_at d t a b) back e) a []
acts-serves d c n back t a b say e =
    let x : _ ≡ Held (open_at d t a (after_row service_groups d n b e)) = after-serves n (open_at d t a b) (plan_row service_groups d n b e) in record {
      stands = ap admin_presence x;
      sends = λ y h dif. none-of-batches d c n back y (plan_row service_groups d n b e).sends;
    }

pub acts-turns : (d : Definition) (c : CircuitId) (n : NodeId) (t : ℕ) (a : Member Act) (b : Member Batch) (e : GroupEvent Act) (f : GroupEvent Batch)
    → broken d ≡ None → AllPosts (Lands d n n) (plan_row admin_groups d n a e).sends
    → ActGives d n (Held (open_at d t a b)) c (Turns (open_at d t a b) e f) (after_row admin_groups d n a e) (plan_row admin_groups d n a e).sends
acts-turns d c n t a b e f ruled all =
    let p : GroupPlan Act = plan_row admin_groups d n a e in
    let q : GroupPlan Batch = plan_row service_groups d n b f in
    let x : (u : ℕ) × (_ ≡ Held (open_at d u (after_row admin_groups d n a e) (after_row service_groups d n b f))) =
    after-both n (open_at d t a b) p q in record {
      stands = ap admin_presence x.1;
      sends = λ y h dif.
          ap (λ z. owns (own_act d n y) z)
          (to_node-append y (group_sends (admin_lane (site_at n c) d) n p.sends) (group_sends (service_lane (site_at n c) d) n q.sends))
          ∙ (owns-append (own_act d n y) (to_node y (group_sends (admin_lane (site_at n c) d) n p.sends))
          (to_node y (group_sends (service_lane (site_at n c) d) n q.sends))
          ∙ (ap (λ z. owns (own_act d n y) (to_node y (group_sends (admin_lane (site_at n c) d) n p.sends)) ++ z) (none-of-batches d c n n y q.sends)
          ∙ (append-nil _ ∙ mail-acts d c n n y p.sends ruled h dif all)));
    }

-- ---- events

pub acts-tick : (d : Definition) (c : CircuitId) (n : NodeId) (t : ℕ) (a : Member Act) (b : Member Batch) → broken d ≡ None
    → Gives act_shape d n (Held (open_at d t a b)) (plan_of (site_at n c) (Held (open_at d t a b)) event.Tick) (after_row admin_groups d n a group.Tick)
    (plan_row admin_groups d n a group.Tick).sends
acts-tick d c n t a b ruled =
    if_holds (λ (deed : Deed). ActGives d n (Held (open_at d t a b)) c deed (after_row admin_groups d n a group.Tick)
    (plan_row admin_groups d n a group.Tick).sends) (is_running_by d a) _ _
    (λ q. acts-turns d c n t a b group.Tick group.Tick ruled all)
    (λ q. acts-acts d c n n t a b Alone group.Tick ruled all)
  where
    all : AllPosts (Lands d n n) (plan_row admin_groups d n a group.Tick).sends
    all = posts-more _ (Lands d n n) (plan_row admin_groups d n a group.Tick).sends (λ q x h. (h, inr refl))
        (names-tick (group_of admin_groups d) (position d.members n) a)

pub acts-hear : (d : Definition) (c : CircuitId) (n from : NodeId) (t : ℕ) (a : Member Act) (b : Member Batch) (i : CircuitId) (x : CommitMsg Act)
    → broken d ≡ None → has_node d.members from ≡ true → (generation_of x == d.generation) ≡ true
    → Gives act_shape d n (Held (open_at d t a b)) (plan_of (site_at n c) (Held (open_at d t a b)) (event.Deliver from (message.Admin i x)))
    (after_row admin_groups d n a (group.From (position d.members from) x)) (plan_row admin_groups d n a (group.From (position d.members from) x)).sends
acts-hear d c n from t a b i x ruled h g =
    if_true (λ (deed : Deed). ActGives d n (Held (open_at d t a b)) c deed (after_row admin_groups d n a (group.From (position d.members from) x))
    (plan_row admin_groups d n a (group.From (position d.members from) x)).sends) (generation_of x == d.generation) _ _ g
    (acts-acts d c n from t a b Delivered (group.From (position d.members from) x) ruled
    (posts-more (IsPost (group_of admin_groups d)) (Lands d n from) (plan_row admin_groups d n a (group.From (position d.members from) x)).sends
    (λ q y k. (k.0, inl k.1))
    (posts-message (group_of admin_groups d) (position d.members n) a (position d.members from) x (position_below d.members from h))))

-- a message of acts from a node that is no member
pub acts-stranger : (d : Definition) (c : CircuitId) (n from : NodeId) (t : ℕ) (a : Member Act) (b : Member Batch) (x : CommitMsg Act) → broken d ≡ None
    → has_node d.members from ≡ false
    → ActGives d n (Held (open_at d t a b)) c (Acts Delivered (open_at d t a b) from (group.From (position d.members from) x)) a []
acts-stranger d c n from t a b x ruled none =
    let p : GroupPlan Act = plan_row admin_groups d n a (group.From (position d.members from) x) in
    let be : LeavesBe (group_of admin_groups d) (position d.members n) a (position d.members from) p =
    stranger-leaves (group_of admin_groups d) (position d.members n) a (position d.members from) x
    (position_below d.members (admin d) (roster d ruled).admin_in) (outside d from ruled none) in
    let y : (u : ℕ) × (_ ≡ Held (open_at d u (after (group_of admin_groups d) (position d.members n) a p) b)) = after-acts n (open_at d t a b) p in record {
      stands = ap admin_presence y.1 ∙ ap (λ (z : Member Act). There d z) be.same;
      sends = λ z h dif. back-acts d c n from z (position d.members from) p.sends (outside d from ruled none) h none be.back;
    }

-- a message of batches
pub acts-routed : (d : Definition) (c : CircuitId) (n from : NodeId) (t : ℕ) (a : Member Act) (b : Member Batch) (s u : ServiceId) (x : CommitMsg Batch)
    (w : Way) → ActGives d n (Held (open_at d t a b)) c (routed w (hears_routed (site_at n c) (open_at d t a b) from s u x)) a []
acts-routed d c n from t a b s u x (Err f) =
    gives-still act_shape d c n (Held (open_at d t a b)) a (routed (Err f) (hears_routed (site_at n c) (open_at d t a b) from s u x)) tt refl
acts-routed d c n from t a b s u x (Ok y) = if_holds (λ (deed : Deed). ActGives d n (Held (open_at d t a b)) c deed a []) (generation_of x == d.generation) _ _
    (λ q. acts-serves d c n from t a b Delivered (group.From (position d.members from) x))
    (λ q. gives-still act_shape d c n (Held (open_at d t a b)) a (serves_other (site_at n c) from s u x)
    (idle-other act_shape d n c from s u x (λ y z e. refl)) refl)

-- a message of acts of another generation
pub acts-first : (d : Definition) (c : CircuitId) (n from : NodeId) (t : ℕ) (a : Member Act) (b : Member Batch) (x : CommitMsg Act)
    → (generation_of x == d.generation) ≡ false → ActGives d n (Held (open_at d t a b)) c (hears_first (site_at n c) (Held (open_at d t a b)) from x) a []
acts-first d c n from t a b x g =
    gives-still act_shape d c n (Held (open_at d t a b)) a (hears_first (site_at n c) (Held (open_at d t a b)) from x)
    (idle-first act_shape d n c (open_at d t a b) from x (λ y z e. other z e)) refl
  where
    other : (z : CommitMsg Act) → generation_of z ≡ generation_of x → (if generation_of z == d.generation then Some z else None) ≡ None
    other z e = rw (e, g)

pub acts-pass : (d : Definition) (c : CircuitId) (n from : NodeId) (t : ℕ) (a : Member Act) (b : Member Batch) (x : Message) → broken d ≡ None
    → (own_act d from n x ≡ None) ⊎ (has_node d.members from ≡ false)
    → Gives act_shape d n (Held (open_at d t a b)) (plan_of (site_at n c) (Held (open_at d t a b)) (event.Deliver from x)) a []
acts-pass d c n from t a b (message.Scabbard i s u x) ruled o = acts-routed d c n from t a b s u x (way (site_at n c) (open_at d t a b) from s u)
acts-pass d c n from t a b (message.Admin i x) ruled o =
    if_holds (λ (deed : Deed). ActGives d n (Held (open_at d t a b)) c deed a []) (generation_of x == d.generation) _ _ (λ q. mine q o)
    (λ q. acts-first d c n from t a b x q)
  where
    mine : (generation_of x == d.generation) ≡ true → (own_act d from n (message.Admin i x) ≡ None) ⊎ (has_node d.members from ≡ false)
        → ActGives d n (Held (open_at d t a b)) c (Acts Delivered (open_at d t a b) from (group.From (position d.members from) x)) a []
    mine q (inr h) = acts-stranger d c n from t a b x ruled h
    mine q (inl h) = absurd (let z : ◌≡◌ {A = Option (CommitMsg Act)} (Some x) None = rw q at h in cc)

-- ---- the laws

-- what holds at a cell that is open to the definition
pub at-open : (d : Definition) (k : Cell) (m : Member Act) (P : Cell → Member Act → Type 0)
    → ((t : ℕ) (a : Member Act) (b : Member Batch) → k ≡ Held (open_at d t a b) → P (Held (open_at d t a b)) a) → IsOpenTo d k
    → admin_presence k ≡ There d m → P k m
at-open d k m P f o is =
    subst (λ (z : Cell). P z m) (sym o.3)
    (subst (λ (z : Member Act). P (Held (open_at d o.0 o.1 o.2)) z) (there_is d d o.1 m (sym (ap admin_presence o.3) ∙ is)).1 (f o.0 o.1 o.2 o.3))

pub act-shaped : (d : Definition) → broken d ≡ None → IsShaped act_shape IsOpenTo d
act-shaped d ruled = record {
  opens = λ k o. ap is_open_cell o.3;
  ticks = λ c n k m met. at-open d k m
      (λ z a. Gives act_shape d n z (plan_of (site_at n c) z event.Tick) (after_row admin_groups d n a group.Tick)
      (plan_row admin_groups d n a group.Tick).sends)
      (λ t a b e. acts-tick d c n t a b ruled) met.on met.stands;
  hears = λ c n from k m x y dif h o met. hears c n from k m x y h o met.on met.stands;
  passes = λ c n from k m x dif o met. at-open d k m (λ z a. Gives act_shape d n z (plan_of (site_at n c) z (event.Deliver from x)) a [])
      (λ t a b e. acts-pass d c n from t a b x ruled o) met.on met.stands;
}
  where
    heard : (c : CircuitId) (n from : NodeId) (k : Cell) (m : Member Act) (i : CircuitId) (x y : CommitMsg Act) → has_node d.members from ≡ true
        → (generation_of x == d.generation) ≡ true → x ≡ y → IsOpenTo d k → admin_presence k ≡ There d m
        → Gives act_shape d n k (plan_of (site_at n c) k (event.Deliver from (message.Admin i x)))
        (after_row admin_groups d n m (group.From (position d.members from) y))
        (plan_row admin_groups d n m (group.From (position d.members from) y)).sends
    heard c n from k m i x y h g same on is =
        subst (λ (u : CommitMsg Act). Gives act_shape d n k (plan_of (site_at n c) k (event.Deliver from (message.Admin i x)))
        (after_row admin_groups d n m (group.From (position d.members from) u))
        (plan_row admin_groups d n m (group.From (position d.members from) u)).sends) same
        (at-open d k m (λ z a. Gives act_shape d n z (plan_of (site_at n c) z (event.Deliver from (message.Admin i x)))
        (after_row admin_groups d n a (group.From (position d.members from) x))
        (plan_row admin_groups d n a (group.From (position d.members from) x)).sends)
        (λ t a b e. acts-hear d c n from t a b i x ruled h g) on is)

    hears : (c : CircuitId) (n from : NodeId) (k : Cell) (m : Member Act) (x : Message) (y : CommitMsg Act) → has_node d.members from ≡ true
        → own_act d from n x ≡ Some y → IsOpenTo d k → admin_presence k ≡ There d m
        → Gives act_shape d n k (plan_of (site_at n c) k (event.Deliver from x)) (after_row admin_groups d n m (group.From (position d.members from) y))
        (plan_row admin_groups d n m (group.From (position d.members from) y)).sends
    hears c n from k m (message.Scabbard i s t x) y h o on is = absurd (let z : ◌≡◌ {A = Option (CommitMsg Act)} None (Some y) = o in cc)
    hears c n from k m (message.Admin i x) y h o on is = go (bool_cases (generation_of x == d.generation))
      where
        go : ((generation_of x == d.generation) ≡ true) ⊎ ((generation_of x == d.generation) ≡ false)
            → Gives act_shape d n k (plan_of (site_at n c) k (event.Deliver from (message.Admin i x)))
            (after_row admin_groups d n m (group.From (position d.members from) y))
            (plan_row admin_groups d n m (group.From (position d.members from) y)).sends
        go (inl q) = heard c n from k m i x y h q (let z : ◌≡◌ {A = Option (CommitMsg Act)} (Some x) (Some y) = rw q at o in cc) on is
        go (inr q) = absurd (let z : ◌≡◌ {A = Option (CommitMsg Act)} None (Some y) = rw q at o in cc)

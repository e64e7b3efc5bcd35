-- The service group of a definition in a calm, where the circuit runs at its members.
use Rattle.std.{specs.{Prelude.{Option, Some, None, ◌==◌, if◌then◌else◌, Ok, Err}, Str.bytes_eq}, proofs.Common.{◌≡◌, ◌≢◌, ℕ, ◌⊎◌, Bool, true, false, ◌&&◌}}
use Rattle.std.proofs.Common.{eqb, List, [], ◌∷◌, ◌++◌, refl, sym, ap, subst, ◌∙◌, inl, inr}
use Rattle.spl_cell_rules.specs.{Cells.{site_at, Cell, Held, is_open_cell, Deed, Acts, Serves, Turns, hears_first, Say, Delivered}, Batches.{routed, way}}
use Rattle.spl_cell_rules.specs.{Batches.{hears_routed, serves_other}, Plans.{planned, plan_of, service_on, group_sends, admin_lane, service_lane}}
use Rattle.spl_agree.specs.{Member.Member, Fits.generation_of, declared.{event.GroupEvent.GroupEvent, message.CommitMsg.CommitMsg, plan.GroupPlan.GroupPlan}}
use Rattle.spl_agree.proofs.Tests.{if_holds, if_true, bool_cases, and_left, and_right, eqb_is, eqb_not, eqb_same}
use Rattle.spl_agree.specs.declared.event.GroupEvent.TheVariants as group
use Rattle.spl_circuit.specs.{Nodes.{NodeId, CircuitId, ServiceId, has_node, position, node_or}, Rules.broken, Routing.{Way, route}, Positions.position_below}
use Rattle.spl_circuit.specs.{Same.node_same, declared.{act.Act.Act, definition.Definition.Definition}}
use Rattle.spl_command.specs.declared.batch.Batch.{Batch}
use Rattle.spl_wire.specs.declared.message.Message.{Message}
use Rattle.spl_wire.specs.declared.message.Message.TheVariants as message
use Rattle.spl_wire.specs.declared.event.Event.TheVariants as event
use Rattle.spl_group_liveness.specs.Calm.{mail}
use Rattle.spl_circuit_safety.proofs.{GroupOfDefinition.{AllPosts, There, there_is, after_row, plan_row, group_of}, GroupWorlds.admin_groups}
use Rattle.spl_circuit_safety.proofs.GroupWorlds.{service_groups, service_presence}
use Rattle.spl_circuit_liveness.{specs.Settled.is_running_by, proofs.{Places.{route-members, route-from}, Pairs.{to_node, to_node-append}, Shapes.Shape}}
use Rattle.spl_circuit_liveness.proofs.{Shapes.{owned, owns, owns-append, Gives, IsMet, IsShaped}, Sends.{IsPost, posts-message, names-tick}, Landing.open_at}
use Rattle.spl_circuit_liveness.proofs.{Landing.{Lands, posts-more, lands-there, lands-elsewhere, after-acts, after-serves, after-both}, Idles.IsIdle}
use Rattle.spl_circuit_liveness.proofs.Idles.{gives-still, idle-first, idle-other}

-- it goes on
abbrev pub goes : Way → Bool
goes (Ok x) = true
goes (Err f) = false

-- a message of batches of the generation that is routed
abbrev pub own_batch : Definition → NodeId → NodeId → Message → Option (CommitMsg Batch)
own_batch d from to (message.Admin i x) = None
own_batch d from to (message.Scabbard i s t x) = if generation_of x == d.generation && goes (route (Some d) true from s t to) then Some x else None

abbrev pub batch_shape : Shape Batch
batch_shape = record { groups = service_groups; stand = service_presence; own = own_batch }

-- bound to the definition, open, and running
abbrev pub IsRunningIn : Definition → Cell → Type 0
IsRunningIn d k = (t : ℕ) × (a : Member Act) × (b : Member Batch) × (k ≡ Held (open_at d t a b)) × (is_running_by d a ≡ true)

-- its own sends to a member are those to its position
pub mail-batches : (d : Definition) (c : CircuitId) (n back y : NodeId) (ss : List (ℕ × CommitMsg Batch)) → broken d ≡ None → has_node d.members n ≡ true
    → has_node d.members y ≡ true → y ≢ n → AllPosts (Lands d n back) ss
    → owns (own_batch d n y) (to_node y (group_sends (service_lane (site_at n c) d) back ss)) ≡ mail (position d.members y) ss
mail-batches d c n back y [] ruled here h dif a = refl
mail-batches d c n back y (s ∷ ss) ruled here h dif a = go (bool_cases (eqb s.0 (position d.members y))) (mail-batches d c n back y ss ruled here h dif a.1)
  where
    named : (generation_of s.1 == d.generation) ≡ true
    named = subst (λ (z : ℕ). eqb (generation_of s.1) z ≡ true) a.0.0 (eqb_same (generation_of s.1))

    goes_on : goes (route (Some d) true n (service_on d n) (service_on d y) y) ≡ true
    goes_on = ap goes (route-members d n y ruled here h)

    mine : own_batch d n y (message.Scabbard c (service_on d n) (service_on d y) s.1) ≡ Some s.1
    mine = if_true (λ (o : Option (CommitMsg Batch)). o ≡ Some s.1)
        (generation_of s.1 == d.generation && goes (route (Some d) true n (service_on d n) (service_on d y) y)) _ _
        (both (generation_of s.1 == d.generation) (goes (route (Some d) true n (service_on d n) (service_on d y) y)) named goes_on) refl
      where
        both : (p q : Bool) → p ≡ true → q ≡ true → (p && q) ≡ true
        both p q x z = rw (x, z)

    go : (eqb s.0 (position d.members y) ≡ true) ⊎ (eqb s.0 (position d.members y) ≡ false)
        → owns (own_batch d n y) (to_node y (group_sends (service_lane (site_at n c) d) back ss)) ≡ mail (position d.members y) ss
        → owns (own_batch d n y) (to_node y (group_sends (service_lane (site_at n c) d) back (s ∷ ss))) ≡ mail (position d.members y) (s ∷ ss)
    go (inl q) hyp =
        let z : node_or d.members back s.0 ≡ y = lands-there d back y s.0 h (eqb_is s.0 (position d.members y) q) in
        rw (q, z, node_same y) (ap
        (λ (o : Option (CommitMsg Batch)). owned o (owns (own_batch d n y) (to_node y (group_sends (service_lane (site_at n c) d) back ss)))) mine
        ∙ ap (λ u. s.1 ∷ u) hyp)
    go (inr q) hyp = rw (q, lands-elsewhere d n back y s.0 ruled dif a.0.1 (eqb_not s.0 (position d.members y) q)) hyp

-- no message of acts is one of batches
pub none-of-acts : (d : Definition) (c : CircuitId) (n back y : NodeId) (ss : List (ℕ × CommitMsg Act))
    → owns (own_batch d n y) (to_node y (group_sends (admin_lane (site_at n c) d) back ss)) ≡ []
none-of-acts d c n back y [] = refl
none-of-acts d c n back y (s ∷ ss) =
    if_holds (λ (z : List Message). owns (own_batch d n y) z ≡ []) (bytes_eq (node_or d.members back s.0) y) _ _ (λ q. none-of-acts d c n back y ss)
    (λ q. none-of-acts d c n back y ss)

-- ---- deeds

abbrev pub BatchGives : Definition → NodeId → Cell → NodeId → Deed → Member Batch → List (ℕ × CommitMsg Batch) → Type 0
BatchGives d n k c deed m ss = Gives batch_shape d n k (planned (site_at n c) deed) m ss

pub batches-serves : (d : Definition) (c : CircuitId) (n back : NodeId) (t : ℕ) (a : Member Act) (b : Member Batch) (say : Say) (e : GroupEvent Batch)
    → broken d ≡ None → has_node d.members n ≡ true → AllPosts (Lands d n back) (plan_row service_groups d n b e).sends
    → BatchGives d n (Held (open_at d t a b)) c (Serves say (open_at d t a b) back e) (after_row service_groups d n b e)
    (plan_row service_groups d n b e).sends
batches-serves d c n back t a b say e ruled here all =
    let x : _ ≡ Held (open_at d t a (after_row service_groups d n b e)) = after-serves n (open_at d t a b) (plan_row service_groups d n b e) in record {
      stands = ap service_presence x;
      sends = λ y k dif. mail-batches d c n back y (plan_row service_groups d n b e).sends ruled here k dif all;
    }

pub batches-acts : (d : Definition) (c : CircuitId) (n back : NodeId) (t : ℕ) (a : Member Act) (b : Member Batch) (say : Say) (e : GroupEvent Act)
    → BatchGives d n (Held (open_at d t a b)) c (Acts say (open_at d t a b) back e) b []
batches-acts d c n back t a b say e =
    let x : (u : ℕ) × (_ ≡ Held (open_at d u (after_row admin_groups d n a e) b)) = after-acts n (open_at d t a b) (plan_row admin_groups d n a e) in record {
      stands = ap service_presence x.1;
      sends = λ y k dif. none-of-acts d c n back y (plan_row admin_groups d n a e).sends;
    }

pub batches-turns : (d : Definition) (c : CircuitId) (n : NodeId) (t : ℕ) (a : Member Act) (b : Member Batch) (e : GroupEvent Act) (f : GroupEvent Batch)
    → broken d ≡ None → has_node d.members n ≡ true → AllPosts (Lands d n n) (plan_row service_groups d n b f).sends
    → BatchGives d n (Held (open_at d t a b)) c (Turns (open_at d t a b) e f) (after_row service_groups d n b f) (plan_row service_groups d n b f).sends
batches-turns d c n t a b e f ruled here all =
    let p : GroupPlan Act = plan_row admin_groups d n a e in
    let q : GroupPlan Batch = plan_row service_groups d n b f in
    let x : (u : ℕ) × (_ ≡ Held (open_at d u (after_row admin_groups d n a e) (after_row service_groups d n b f))) =
    after-both n (open_at d t a b) p q in record {
      stands = ap service_presence x.1;
      sends = λ y k dif.
          ap (λ z. owns (own_batch d n y) z)
          (to_node-append y (group_sends (admin_lane (site_at n c) d) n p.sends) (group_sends (service_lane (site_at n c) d) n q.sends))
          ∙ (owns-append (own_batch d n y) (to_node y (group_sends (admin_lane (site_at n c) d) n p.sends))
          (to_node y (group_sends (service_lane (site_at n c) d) n q.sends))
          ∙ (ap (λ z. z ++ owns (own_batch d n y) (to_node y (group_sends (service_lane (site_at n c) d) n q.sends))) (none-of-acts d c n n y p.sends)
          ∙ mail-batches d c n n y q.sends ruled here k dif all));
    }

-- ---- events

pub batches-tick : (d : Definition) (c : CircuitId) (n : NodeId) (t : ℕ) (a : Member Act) (b : Member Batch) → broken d ≡ None
    → has_node d.members n ≡ true → is_running_by d a ≡ true
    → Gives batch_shape d n (Held (open_at d t a b)) (plan_of (site_at n c) (Held (open_at d t a b)) event.Tick)
    (after_row service_groups d n b group.Tick) (plan_row service_groups d n b group.Tick).sends
batches-tick d c n t a b ruled here h =
    if_true (λ (deed : Deed). BatchGives d n (Held (open_at d t a b)) c deed (after_row service_groups d n b group.Tick)
    (plan_row service_groups d n b group.Tick).sends) (is_running_by d a) _ _ h
    (batches-turns d c n t a b group.Tick group.Tick ruled here
    (posts-more _ (Lands d n n) (plan_row service_groups d n b group.Tick).sends (λ q x k. (k, inr refl))
    (names-tick (group_of service_groups d) (position d.members n) b)))

-- the way of a message at a running cell
pub way-running : (d : Definition) (c : CircuitId) (n from : NodeId) (s u : ServiceId) (t : ℕ) (a : Member Act) (b : Member Batch)
    → is_running_by d a ≡ true → way (site_at n c) (open_at d t a b) from s u ≡ route (Some d) true from s u n
way-running d c n from s u t a b h = ap (λ (z : Bool). route (Some d) z from s u n) h

pub goes-on : (w : Way) → goes w ≡ true → w ≡ Ok tt
goes-on (Ok x) h = refl
goes-on (Err f) h = cc

pub batches-hear : (d : Definition) (c : CircuitId) (n from : NodeId) (t : ℕ) (a : Member Act) (b : Member Batch) (i : CircuitId) (s u : ServiceId)
    (x : CommitMsg Batch) → broken d ≡ None → has_node d.members n ≡ true → has_node d.members from ≡ true → is_running_by d a ≡ true
    → (generation_of x == d.generation) ≡ true → goes (route (Some d) true from s u n) ≡ true
    → Gives batch_shape d n (Held (open_at d t a b)) (plan_of (site_at n c) (Held (open_at d t a b)) (event.Deliver from (message.Scabbard i s u x)))
    (after_row service_groups d n b (group.From (position d.members from) x))
    (plan_row service_groups d n b (group.From (position d.members from) x)).sends
batches-hear d c n from t a b i s u x ruled here there h g w =
    subst (λ (z : Way). BatchGives d n (Held (open_at d t a b)) c (routed z (hears_routed (site_at n c) (open_at d t a b) from s u x))
    (after_row service_groups d n b (group.From (position d.members from) x))
    (plan_row service_groups d n b (group.From (position d.members from) x)).sends)
    (sym (way-running d c n from s u t a b h ∙ goes-on (route (Some d) true from s u n) w))
    (if_true (λ (deed : Deed). BatchGives d n (Held (open_at d t a b)) c deed (after_row service_groups d n b (group.From (position d.members from) x))
    (plan_row service_groups d n b (group.From (position d.members from) x)).sends) (generation_of x == d.generation) _ _ g
    (batches-serves d c n from t a b Delivered (group.From (position d.members from) x) ruled here
    (posts-more (IsPost (group_of service_groups d)) (Lands d n from) (plan_row service_groups d n b (group.From (position d.members from) x)).sends
    (λ q y k. (k.0, inl k.1))
    (posts-message (group_of service_groups d) (position d.members n) b (position d.members from) x (position_below d.members from there)))))

-- nothing happens
pub batches-still : (d : Definition) (c : CircuitId) (n : NodeId) (t : ℕ) (a : Member Act) (b : Member Batch) (deed : Deed) → IsIdle batch_shape d n deed
    → BatchGives d n (Held (open_at d t a b)) c deed b []
batches-still d c n t a b deed idle = gives-still batch_shape d c n (Held (open_at d t a b)) b deed idle refl

-- a message of batches that is not the group's
pub batches-routed : (d : Definition) (c : CircuitId) (n from : NodeId) (t : ℕ) (a : Member Act) (b : Member Batch) (s u : ServiceId) (x : CommitMsg Batch)
    (w : Way) → (w ≡ Ok tt → (generation_of x == d.generation) ≡ false)
    → BatchGives d n (Held (open_at d t a b)) c (routed w (hears_routed (site_at n c) (open_at d t a b) from s u x)) b []
batches-routed d c n from t a b s u x (Err f) g = batches-still d c n t a b (routed (Err f) (hears_routed (site_at n c) (open_at d t a b) from s u x)) tt
batches-routed d c n from t a b s u x (Ok y) g =
    if_holds (λ (deed : Deed). BatchGives d n (Held (open_at d t a b)) c deed b []) (generation_of x == d.generation) _ _
    (λ q. absurd (let z : (generation_of x == d.generation) ≡ false = g refl in cc))
    (λ q. batches-still d c n t a b (serves_other (site_at n c) from s u x) (idle-other batch_shape d n c from s u x (λ y z e. other y z e q)))
  where
    none : (p q : Bool) (z : CommitMsg Batch) → p ≡ false → (if p && q then Some z else None) ≡ None
    none p q z e = rw e

    other : (y : NodeId) (z : CommitMsg Batch) → generation_of z ≡ generation_of x → (generation_of x == d.generation) ≡ false
        → own_batch d n y (message.Scabbard c u s z) ≡ None
    other y z e q = none (generation_of z == d.generation) (goes (route (Some d) true n u s y)) z (subst (λ (k : ℕ). eqb k d.generation ≡ false) (sym e) q)

pub batches-pass : (d : Definition) (c : CircuitId) (n from : NodeId) (t : ℕ) (a : Member Act) (b : Member Batch) (x : Message) → broken d ≡ None
    → is_running_by d a ≡ true → (own_batch d from n x ≡ None) ⊎ (has_node d.members from ≡ false)
    → Gives batch_shape d n (Held (open_at d t a b)) (plan_of (site_at n c) (Held (open_at d t a b)) (event.Deliver from x)) b []
batches-pass d c n from t a b (message.Admin i x) ruled h o =
    if_holds (λ (deed : Deed). BatchGives d n (Held (open_at d t a b)) c deed b []) (generation_of x == d.generation) _ _
    (λ q. batches-acts d c n from t a b Delivered (group.From (position d.members from) x))
    (λ q. batches-still d c n t a b (hears_first (site_at n c) (Held (open_at d t a b)) from x)
    (idle-first batch_shape d n c (open_at d t a b) from x (λ y z e. refl)))
batches-pass d c n from t a b (message.Scabbard i s u x) ruled h o =
    batches-routed d c n from t a b s u x (way (site_at n c) (open_at d t a b) from s u) (λ e. other o (sym (way-running d c n from s u t a b h) ∙ e))
  where
    other : (own_batch d from n (message.Scabbard i s u x) ≡ None) ⊎ (has_node d.members from ≡ false) → route (Some d) true from s u n ≡ Ok tt
        → (generation_of x == d.generation) ≡ false
    other (inr k) e = absurd (let z : has_node d.members from ≡ true = route-from d from s u n ruled e in cc)
    other (inl k) e = go (bool_cases (generation_of x == d.generation))
      where
        go : ((generation_of x == d.generation) ≡ true) ⊎ ((generation_of x == d.generation) ≡ false) → (generation_of x == d.generation) ≡ false
        go (inr q) = q
        go (inl q) = absurd (let z : ◌≡◌ {A = Option (CommitMsg Batch)} (Some x) None = rw (q, e) at k in cc)

-- ---- the laws

-- what holds at a cell that runs
pub at-running : (d : Definition) (k : Cell) (m : Member Batch) (P : Cell → Member Batch → Type 0)
    → ((t : ℕ) (a : Member Act) (b : Member Batch) → k ≡ Held (open_at d t a b) → is_running_by d a ≡ true → P (Held (open_at d t a b)) b)
    → IsRunningIn d k → service_presence k ≡ There d m → P k m
at-running d k m P f o is =
    subst (λ (z : Cell). P z m) (sym o.3)
    (subst (λ (z : Member Batch). P (Held (open_at d o.0 o.1 o.2)) z) (there_is d d o.2 m (sym (ap service_presence o.3) ∙ is)).1 (f o.0 o.1 o.2 o.3 o.4))

pub batch-shaped : (d : Definition) → broken d ≡ None → IsShaped batch_shape IsRunningIn d
batch-shaped d ruled = record {
  opens = λ k o. ap is_open_cell o.3;
  ticks = λ c n k m met. at-running d k m
      (λ z b. Gives batch_shape d n z (plan_of (site_at n c) z event.Tick) (after_row service_groups d n b group.Tick)
      (plan_row service_groups d n b group.Tick).sends)
      (λ t a b e h. batches-tick d c n t a b ruled met.member h) met.on met.stands;
  hears = λ c n from k m x y dif h o met. hears c n from k m x y h o met;
  passes = λ c n from k m x dif o met. at-running d k m (λ z b. Gives batch_shape d n z (plan_of (site_at n c) z (event.Deliver from x)) b [])
      (λ t a b e h. batches-pass d c n from t a b x ruled h o) met.on met.stands;
}
  where
    heard : (c : CircuitId) (n from : NodeId) (k : Cell) (m : Member Batch) (i : CircuitId) (s u : ServiceId) (x y : CommitMsg Batch)
        → has_node d.members from ≡ true → (generation_of x == d.generation) ≡ true → goes (route (Some d) true from s u n) ≡ true → x ≡ y
        → IsMet batch_shape IsRunningIn d n k m
        → Gives batch_shape d n k (plan_of (site_at n c) k (event.Deliver from (message.Scabbard i s u x)))
        (after_row service_groups d n m (group.From (position d.members from) y))
        (plan_row service_groups d n m (group.From (position d.members from) y)).sends
    heard c n from k m i s u x y there g w same met =
        subst (λ (z : CommitMsg Batch). Gives batch_shape d n k (plan_of (site_at n c) k (event.Deliver from (message.Scabbard i s u x)))
        (after_row service_groups d n m (group.From (position d.members from) z))
        (plan_row service_groups d n m (group.From (position d.members from) z)).sends) same
        (at-running d k m (λ z b. Gives batch_shape d n z (plan_of (site_at n c) z (event.Deliver from (message.Scabbard i s u x)))
        (after_row service_groups d n b (group.From (position d.members from) x))
        (plan_row service_groups d n b (group.From (position d.members from) x)).sends)
        (λ t a b e h. batches-hear d c n from t a b i s u x ruled met.member there h g w) met.on met.stands)

    hears : (c : CircuitId) (n from : NodeId) (k : Cell) (m : Member Batch) (x : Message) (y : CommitMsg Batch) → has_node d.members from ≡ true
        → own_batch d from n x ≡ Some y → IsMet batch_shape IsRunningIn d n k m
        → Gives batch_shape d n k (plan_of (site_at n c) k (event.Deliver from x))
        (after_row service_groups d n m (group.From (position d.members from) y))
        (plan_row service_groups d n m (group.From (position d.members from) y)).sends
    hears c n from k m (message.Admin i x) y h o met = absurd (let z : ◌≡◌ {A = Option (CommitMsg Batch)} None (Some y) = o in cc)
    hears c n from k m (message.Scabbard i s u x) y h o met = go (bool_cases (generation_of x == d.generation && goes (route (Some d) true from s u n)))
      where
        go : ((generation_of x == d.generation && goes (route (Some d) true from s u n)) ≡ true)
            ⊎ ((generation_of x == d.generation && goes (route (Some d) true from s u n)) ≡ false)
            → Gives batch_shape d n k (plan_of (site_at n c) k (event.Deliver from (message.Scabbard i s u x)))
            (after_row service_groups d n m (group.From (position d.members from) y))
            (plan_row service_groups d n m (group.From (position d.members from) y)).sends
        go (inl q) =
            heard c n from k m i s u x y h (and_left (generation_of x == d.generation) (goes (route (Some d) true from s u n)) q)
            (and_right (generation_of x == d.generation) (goes (route (Some d) true from s u n)) q)
            (let z : ◌≡◌ {A = Option (CommitMsg Batch)} (Some x) (Some y) = rw q at o in cc) met
        go (inr q) = absurd (let z : ◌≡◌ {A = Option (CommitMsg Batch)} None (Some y) = rw q at o in cc)

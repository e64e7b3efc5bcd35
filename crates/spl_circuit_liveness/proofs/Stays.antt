-- In a calm an open cell of a circuit stays open.
use Rattle.std.{specs.Prelude.{◌==◌, Ok, Err}, proofs.Common.{◌≡◌, ℕ, ◌⊎◌, refl, sym, subst, inl, inr}}
use Rattle.spl_cell_rules.specs.Cells.{site_at, Cell, Held, Deed, Refuses, Tells, Replies, Binds, Acts, Serves, Turns, Abandons, Purges, hears_first, Bound}
use Rattle.spl_cell_rules.specs.{Cells.{Say, Delivered, Alone}, Batches.{routed, way, hears_routed, serves_other}, Changes.after_plan, Plans.planned}
use Rattle.spl_cell_rules.specs.Plans.{plan_of}
use Rattle.spl_agree.specs.{Member.Member, Fits.generation_of, World.after, declared.{event.GroupEvent.GroupEvent, message.CommitMsg.CommitMsg}}
use Rattle.spl_agree.{specs.declared.plan.GroupPlan.GroupPlan, proofs.Tests.if_holds}
use Rattle.spl_agree.specs.declared.event.GroupEvent.TheVariants as group
use Rattle.spl_circuit.specs.{Nodes.{NodeId, CircuitId, ServiceId, position}, Routing.Way, declared.{act.Act.Act, definition.Definition.Definition}}
use Rattle.spl_command.specs.declared.batch.Batch.{Batch}
use Rattle.spl_wire.specs.declared.message.Message.{Message}
use Rattle.spl_wire.specs.declared.message.Message.TheVariants as message
use Rattle.spl_wire.specs.declared.event.Event.TheVariants as event
use Rattle.spl_circuit_safety.proofs.{GroupOfDefinition.{after_row, plan_row, group_of}, GroupWorlds.{admin_groups, service_groups}}
use Rattle.spl_circuit_liveness.{specs.Settled.is_running_by, proofs.{Landing.{open_at, after-acts, after-serves, after-both}, Idles.{IsIdle, idle-first}}}
use Rattle.spl_circuit_liveness.proofs.{Idles.idle-other, ActShape.act_shape, BatchShape.batch_shape, Shapes.Shape}

-- what a calm does at an open cell
abbrev pub IsCalmDeed : Bound → Deed → Type 0
IsCalmDeed b (Binds say e back x) = ⊥
IsCalmDeed b (Acts say h back y) = h ≡ b
IsCalmDeed b (Serves say h back y) = h ≡ b
IsCalmDeed b (Turns h v w) = h ≡ b
IsCalmDeed b Abandons = ⊥
IsCalmDeed b Purges = ⊥
IsCalmDeed b _ = Unit {0}

-- the cell is open still, and its member of acts is as it was, or as a plan leaves it
pub record StaysOpen (d : Definition) (n : NodeId) (a : Member Act) (k : Cell) : Type 0 where
  pub turn : ℕ
  pub acts : Member Act
  pub batches : Member Batch
  pub held : k ≡ Held (open_at d turn acts batches)
  pub grown : (acts ≡ a) ⊎ ((p : GroupPlan Act) × (acts ≡ after (group_of admin_groups d) (position d.members n) a p))

pub stays-acts : (c : CircuitId) (n : NodeId) (d : Definition) (t : ℕ) (a : Member Act) (b : Member Batch) (say : Say) (back : NodeId) (e : GroupEvent Act)
    → StaysOpen d n a (after_plan n (Held (open_at d t a b)) (planned (site_at n c) (Acts say (open_at d t a b) back e)))
stays-acts c n d t a b say back e =
    let x : (u : ℕ) × (_ ≡ Held (open_at d u (after_row admin_groups d n a e) b)) = after-acts n (open_at d t a b) (plan_row admin_groups d n a e) in
    record { turn = x.0; acts = after_row admin_groups d n a e; batches = b; held = x.1; grown = inr (plan_row admin_groups d n a e, refl) }

pub stays-serves : (c : CircuitId) (n : NodeId) (d : Definition) (t : ℕ) (a : Member Act) (b : Member Batch) (say : Say) (back : NodeId)
    (e : GroupEvent Batch) → StaysOpen d n a (after_plan n (Held (open_at d t a b)) (planned (site_at n c) (Serves say (open_at d t a b) back e)))
stays-serves c n d t a b say back e =
    record {
      turn = t;
      acts = a;
      batches = after_row service_groups d n b e;
      held = after-serves n (open_at d t a b) (plan_row service_groups d n b e);
      grown = inl refl;
    }

pub stays-turns : (c : CircuitId) (n : NodeId) (d : Definition) (t : ℕ) (a : Member Act) (b : Member Batch) (e : GroupEvent Act) (f : GroupEvent Batch)
    → StaysOpen d n a (after_plan n (Held (open_at d t a b)) (planned (site_at n c) (Turns (open_at d t a b) e f)))
stays-turns c n d t a b e f =
    let x : (u : ℕ) × (_ ≡ Held (open_at d u (after_row admin_groups d n a e) (after_row service_groups d n b f))) =
    after-both n (open_at d t a b) (plan_row admin_groups d n a e) (plan_row service_groups d n b f) in
    record {
      turn =
          x.0;
      acts = after_row admin_groups d n a e;
      batches = after_row service_groups d n b f;
      held = x.1;
      grown = inr (plan_row admin_groups d n a e, refl);
    }

pub stays-still : (d : Definition) (n : NodeId) (t : ℕ) (a : Member Act) (b : Member Batch) → StaysOpen d n a (Held (open_at d t a b))
stays-still d n t a b = record { turn = t; acts = a; batches = b; held = refl; grown = inl refl }

pub stays-deed : (c : CircuitId) (n : NodeId) (d : Definition) (t : ℕ) (a : Member Act) (b : Member Batch) (deed : Deed)
    → IsCalmDeed (open_at d t a b) deed → StaysOpen d n a (after_plan n (Held (open_at d t a b)) (planned (site_at n c) deed))
stays-deed c n d t a b (Binds say e back x) h = absurd h
stays-deed c n d t a b (Acts say e back y) h =
    subst (λ (z : Bound). StaysOpen d n a (after_plan n (Held (open_at d t a b)) (planned (site_at n c) (Acts say z back y)))) (sym h)
    (stays-acts c n d t a b say back y)
stays-deed c n d t a b (Serves say e back y) h =
    subst (λ (z : Bound). StaysOpen d n a (after_plan n (Held (open_at d t a b)) (planned (site_at n c) (Serves say z back y)))) (sym h)
    (stays-serves c n d t a b say back y)
stays-deed c n d t a b (Turns e v w) h =
    subst (λ (z : Bound). StaysOpen d n a (after_plan n (Held (open_at d t a b)) (planned (site_at n c) (Turns z v w)))) (sym h) (stays-turns c n d t a b v w)
stays-deed c n d t a b Abandons h = absurd h
stays-deed c n d t a b Purges h = absurd h
stays-deed c n d t a b _ h = stays-still d n t a b

-- an idle deed is one of a calm
pub idle-calm : {V : Type 0} (s : Shape V) (e : Definition) (n : NodeId) (b : Bound) (deed : Deed) → IsIdle s e n deed → IsCalmDeed b deed
idle-calm s e n b (Refuses r) h = tt
idle-calm s e n b (Tells x) h = tt
idle-calm s e n b (Replies note to m) h = tt
idle-calm s e n b _ h = absurd h

-- a tick
pub stays-tick : (c : CircuitId) (n : NodeId) (d : Definition) (t : ℕ) (a : Member Act) (b : Member Batch)
    → StaysOpen d n a (after_plan n (Held (open_at d t a b)) (plan_of (site_at n c) (Held (open_at d t a b)) event.Tick))
stays-tick c n d t a b =
    if_holds (λ (deed : Deed). StaysOpen d n a (after_plan n (Held (open_at d t a b)) (planned (site_at n c) deed))) (is_running_by d a) _ _
    (λ q. stays-turns c n d t a b group.Tick group.Tick) (λ q. stays-acts c n d t a b Alone n group.Tick)

-- any message
pub calm-routed : (c : CircuitId) (n : NodeId) (b : Bound) (from : NodeId) (s u : ServiceId) (x : CommitMsg Batch) (w : Way)
    → IsCalmDeed b (routed w (hears_routed (site_at n c) b from s u x))
calm-routed c n b from s u x (Err f) = tt
calm-routed c n b from s u x (Ok y) =
    if_holds (IsCalmDeed b) (generation_of x == b.definition.generation) _ _ (λ q. refl)
    (λ q. idle-calm act_shape b.definition n b (serves_other (site_at n c) from s u x) (idle-other act_shape b.definition n c from s u x (λ y z e. refl)))

pub stays-deliver : (c : CircuitId) (n from : NodeId) (d : Definition) (t : ℕ) (a : Member Act) (b : Member Batch) (x : Message)
    → StaysOpen d n a (after_plan n (Held (open_at d t a b)) (plan_of (site_at n c) (Held (open_at d t a b)) (event.Deliver from x)))
stays-deliver c n from d t a b (message.Scabbard i s u x) =
    stays-deed c n d t a b (routed (way (site_at n c) (open_at d t a b) from s u) (hears_routed (site_at n c) (open_at d t a b) from s u x))
    (calm-routed c n (open_at d t a b) from s u x (way (site_at n c) (open_at d t a b) from s u))
stays-deliver c n from d t a b (message.Admin i x) =
    if_holds (λ (deed : Deed). StaysOpen d n a (after_plan n (Held (open_at d t a b)) (planned (site_at n c) deed))) (generation_of x == d.generation) _ _
    (λ q. stays-acts c n d t a b Delivered from (group.From (position d.members from) x))
    (λ q. stays-deed c n d t a b (hears_first (site_at n c) (Held (open_at d t a b)) from x)
    (idle-calm batch_shape d n (open_at d t a b) (hears_first (site_at n c) (Held (open_at d t a b)) from x)
    (idle-first batch_shape d n c (open_at d t a b) from x (λ y z e. refl))))

-- When a deed fits a cell.
use Rattle.std.{specs.{Prelude.{Option, Some, None, ◌==◌, if◌then◌else◌}, Str.bytes_eq}, proofs.Common.{◌≡◌, ◌⊎◌, ℕ, ◌≤◌, Bool, true, false, ◌&&◌, IsTrue}}
use Rattle.std.proofs.Common.{List, [], length, refl, sym, ◌∙◌, inl, inr}
use Rattle.spl_agree.specs.{Member.{Group, Member, changed_by, others, has}, Rows.{row, strayed}, Fits.{IsDue, MayQueue, generation_of}}
use Rattle.spl_agree.specs.declared.{event.GroupEvent.GroupEvent, message.CommitMsg.CommitMsg, plan.GroupPlan.GroupPlan, reason.Reason.Reason}
use Rattle.spl_agree.proofs.Tests.{if_holds, bool_cases, has-below_but-other}
use Rattle.spl_agree.specs.declared.reason.Admit.TheVariants as admit
use Rattle.spl_agree.specs.declared.message.CommitMsg.TheVariants as msg
use Rattle.spl_agree.specs.declared.event.GroupEvent.TheVariants as group
use Rattle.spl_circuit.specs.{Forms.definition, Nodes.{NodeId, has_node, position}, Rules.broken, Acts.{act_rules, admits_act, admits_kind}, Same.node_is}
use Rattle.spl_circuit.specs.{Positions.{member_below, node_at_position, position_apart}, declared.{act.Act.Act, definition.Definition.Definition}}
use Rattle.spl_circuit.proofs.Valid.{few_members}
use Rattle.spl_command.specs.declared.batch.Batch.{Batch}
use Rattle.spl_wire.specs.Bounds.{has_form}
use Rattle.spl_wire.specs.declared.change.Change.TheVariants as durable
use Rattle.spl_cell_rules.specs.Cells.{Bound, Cell, Held, Site, Deed, Replies, Binds, Acts, Serves, Turns, Abandons, Purges, fresh, admin_group}
use Rattle.spl_cell_rules.specs.{Cells.{service_group, is_open_mark, runs}, Plans.{admin_lane, group_row}, Changes.{may_queue, may_serve, fits_free}}
use Rattle.spl_cell_rules.{specs.Valid.{carries, is_legal}, proofs.Carried.Brings}

-- the event is due at the member; and what it lets in may be queued, or its row changes nothing
pub record FitsRow {V : Type 0} (g : Group V) (may : V → Bool) (here : ℕ) (m : Member V) (e : GroupEvent V) : Type 0 where
  pub due : IsDue g here m e
  pub queues : MayQueue g may e ⊎ ((row g here m e).changes ≡ [])

-- at the two members of a cell
abbrev pub FitsEvent : Site → Bound → GroupEvent Act → Type 0
FitsEvent site h e = FitsRow (admin_group h.definition) (may_queue site.here h.turn h.acts.pending) (position h.definition.members site.here) h.acts e

abbrev pub FitsServed : Site → Bound → GroupEvent Batch → Type 0
FitsServed site h e = FitsRow (service_group h.definition) may_serve (position h.definition.members site.here) h.batches e

pub record ActsAt (site : Site) (k : Cell) (h : Bound) (e : GroupEvent Act) : Type 0 where
  pub held : k ≡ Held h
  pub unclosed : is_open_mark h.mark ≡ true
  pub fit : FitsEvent site h e
  pub brings : Brings has_form e

pub record ServesAt (site : Site) (k : Cell) (h : Bound) (e : GroupEvent Batch) : Type 0 where
  pub held : k ≡ Held h
  pub unclosed : is_open_mark h.mark ≡ true
  pub active : runs h ≡ true
  pub fit : FitsServed site h e
  pub brings : Brings may_serve e

-- a tick, or an expire: it leaves the history of acts, so that the service group goes on to fit
pub record TurnsAt (site : Site) (k : Cell) (h : Bound) (x : GroupEvent Act) (y : GroupEvent Batch) : Type 0 where
  pub held : k ≡ Held h
  pub unclosed : is_open_mark h.mark ≡ true
  pub active : runs h ≡ true
  pub fit : FitsEvent site h x
  pub still : (changed_by (act_rules h.definition) h.acts (group_row (admin_lane site h.definition) h.acts x).changes).history ≡ h.acts.history
  pub asks : Brings has_form x
  pub serves : FitsServed site h y
  pub brings : Brings may_serve y

pub record AbandonsAt (k : Cell) : Type 0 where
  pub bound : Bound
  pub held : k ≡ Held bound
  pub active : (is_open_mark bound.mark && runs bound) ≡ true

pub record PurgesAt (k : Cell) : Type 0 where
  pub bound : Bound
  pub held : k ≡ Held bound

pub record BindsAt (site : Site) (k : Cell) (d : Definition) (e : GroupEvent Act) : Type 0 where
  pub free : fits_free site k (durable.Bind d) ≡ true
  pub defined : IsTrue (definition.fits d)
  pub fit : FitsEvent site (fresh d) e
  pub brings : Brings has_form e

-- the deed can be done at the cell
abbrev pub FitsDeed : Site → Cell → Deed → Type 0
FitsDeed site k (Replies n to m) = is_legal m ≡ true
FitsDeed site k (Binds say d back e) = BindsAt site k d e
FitsDeed site k (Acts say h back e) = ActsAt site k h e
FitsDeed site k (Serves say h back e) = ServesAt site k h e
FitsDeed site k (Turns h x y) = TurnsAt site k h x y
FitsDeed site k Abandons = AbandonsAt k
FitsDeed site k Purges = PurgesAt k
FitsDeed site k _ = Unit {0}

pub acts-at : (site : Site) (h : Bound) (e : GroupEvent Act) → is_open_mark h.mark ≡ true → FitsEvent site h e → Brings has_form e → ActsAt site (Held h) h e
acts-at site h e unclosed fit brings = record { held = refl; unclosed = unclosed; fit = fit; brings = brings }

pub serves-at : (site : Site) (h : Bound) (e : GroupEvent Batch) → is_open_mark h.mark ≡ true → runs h ≡ true → FitsServed site h e → Brings may_serve e
    → ServesAt site (Held h) h e
serves-at site h e unclosed active fit brings = record { held = refl; unclosed = unclosed; active = active; fit = fit; brings = brings }

pub abandons-at : (h : Bound) → is_open_mark h.mark ≡ true → runs h ≡ true → AbandonsAt (Held h)
abandons-at h unclosed active = record { bound = h; held = refl; active = rw (unclosed, active) }

pub purges-at : (h : Bound) → PurgesAt (Held h)
purges-at h = record { bound = h; held = refl }

-- ---- what may be queued

abbrev Queues : Site → Bound → GroupEvent Act → Type 0
Queues site h e =
    MayQueue (admin_group h.definition) (may_queue site.here h.turn h.acts.pending) e ⊎ ((group_row (admin_lane site h.definition) h.acts e).changes ≡ [])

-- an act of another node
pub may-other : (here : NodeId) (turn : ℕ) (pending : List Act) (v : Act) → bytes_eq v.node here ≡ false → may_queue here turn pending v ≡ true
may-other here turn pending v d = rw d

-- an act that the group takes in from a member is that member's
taken-node : (d : Definition) (from : NodeId) (v : Act) → has_node d.members from ≡ true → admits_act d (position d.members from) v ≡ admit.Take → from ≡ v.node
taken-node d from v h take = go (bool_cases (bytes_eq from v.node))
  where
    at_place : admits_act d (position d.members from) v ≡ (if bytes_eq from v.node then admits_kind d v.kind else admit.Ignore)
    at_place = rw (node_at_position d.members [] from h)

    go : (bytes_eq from v.node ≡ true) ⊎ (bytes_eq from v.node ≡ false) → from ≡ v.node
    go (inl q) = node_is from v.node q
    go (inr q) = absurd (let x : admits_act d (position d.members from) v ≡ admit.Ignore = at_place ∙ rw q in cc)

-- a forwarded value of no other member changes nothing
strayed-none : (gen sender : ℕ) (v : Act) (o : Option Reason) → (strayed gen sender v o).changes ≡ []
strayed-none gen sender v None = refl
strayed-none gen sender v (Some reason) = refl

forwarded-none : (site : Site) (h : Bound) (sender gen : ℕ) (v : Act)
    → has sender (others (admin_group h.definition) (position h.definition.members site.here)) ≡ false
    → (group_row (admin_lane site h.definition) h.acts (group.From sender (msg.Forward gen v))).changes ≡ []
forwarded-none site h sender gen v stranger =
    if_holds (λ (p : GroupPlan Act). p.changes ≡ []) (position h.definition.members site.here == (admin_group h.definition).coordinator) _ _
    (λ q. rw stranger)
    (λ q. strayed-none h.definition.generation sender v ((act_rules h.definition).stray v))

forward-queues : (site : Site) (h : Bound) (from : NodeId) (gen : ℕ) (v : Act) → length h.definition.members ≤ 8 → bytes_eq from site.here ≡ false
    → Queues site h (group.From (position h.definition.members from) (msg.Forward gen v))
forward-queues site h from gen v few apart =
    go (bool_cases (has (position h.definition.members from) (others (admin_group h.definition) (position h.definition.members site.here))))
  where
    go : (has (position h.definition.members from) (others (admin_group h.definition) (position h.definition.members site.here)) ≡ true)
        ⊎ (has (position h.definition.members from) (others (admin_group h.definition) (position h.definition.members site.here)) ≡ false)
        → Queues site h (group.From (position h.definition.members from) (msg.Forward gen v))
    go (inl q) = inl (λ take.
        let member : has_node h.definition.members from ≡ true =
        member_below h.definition.members from few
        (has-below_but-other (length h.definition.members) (position h.definition.members site.here) (position h.definition.members from) q).0 in
        may-other site.here h.turn h.acts.pending v (rw (sym (taken-node h.definition from v member take)) apart))
    go (inr q) = inr (forwarded-none site h (position h.definition.members from) gen v q)

message-queues : (site : Site) (h : Bound) (from : NodeId) (x : CommitMsg Act) → length h.definition.members ≤ 8 → bytes_eq from site.here ≡ false
    → Queues site h (group.From (position h.definition.members from) x)
message-queues site h from (msg.Forward gen v) few apart = forward-queues site h from gen v few apart
message-queues site h from _ few apart = inl tt

-- a message of the generation, from another node
pub fits-message : (site : Site) (h : Bound) (from : NodeId) (x : CommitMsg Act) → broken h.definition ≡ None
    → has_node h.definition.members site.here ≡ true → generation_of x ≡ h.definition.generation → bytes_eq from site.here ≡ false
    → FitsEvent site h (group.From (position h.definition.members from) x)
fits-message site h from x ruled member same apart = record {
  due = (same, position_apart h.definition.members site.here from (few_members h.definition ruled).1 member apart);
  queues = message-queues site h from x (few_members h.definition ruled).1 apart;
}

-- a message of the service group of the generation, from another node, with no batch that breaks a rule
pub fits-served : (site : Site) (h : Bound) (from : NodeId) (x : CommitMsg Batch) → broken h.definition ≡ None
    → has_node h.definition.members site.here ≡ true → generation_of x ≡ h.definition.generation → bytes_eq from site.here ≡ false
    → carries may_serve x ≡ true → FitsServed site h (group.From (position h.definition.members from) x)
fits-served site h from x ruled member same apart legal = record {
  due = (same, position_apart h.definition.members site.here from (few_members h.definition ruled).1 member apart);
  queues = inl (may x legal);
}
  where
    may : (y : CommitMsg Batch) → carries may_serve y ≡ true
        → MayQueue (service_group h.definition) may_serve (group.From (position h.definition.members from) y)
    may (msg.Forward gen v) w = λ take. w
    may _ w = tt

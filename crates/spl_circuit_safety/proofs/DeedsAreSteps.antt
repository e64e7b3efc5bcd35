-- What an event does is one of the steps, and its conditions hold.
use Rattle.std.{specs.{Prelude.{None, ◌==◌, is_some}, List.list_any, Str.bytes_eq}, proofs.Common.{◌≡◌, ◌≢◌, ℕ, true, false, List, [], length, refl, sym}}
use Rattle.std.proofs.Common.{◌∙◌}
use Rattle.spl_base.specs.Booleans.{none_of}
use Rattle.spl_agree.specs.{Rows.on_submit, Member.{Rules, Group, Member, new_member, known}, declared.event.GroupEvent.GroupEvent}
use Rattle.spl_agree.{specs.declared.plan.GroupPlan.GroupPlan, proofs.Tests.{if_holds, or_left, or_right}}
use Rattle.spl_agree.specs.declared.event.GroupEvent.TheVariants as group
use Rattle.spl_circuit.specs.{Nodes.{NodeId, has_node, position}, Rules.{broken, admin}, Acts.act_rules, declared.act.ActKind.ActKind}
use Rattle.spl_circuit.specs.declared.definition.Definition.{Definition}
use Rattle.spl_circuit.specs.declared.act.ActKind.TheVariants as kind
use Rattle.spl_scabbard.specs.Checks.{batch_rules}
use Rattle.spl_wire.specs.declared.{event.Event.Event, message.Message.Message}
use Rattle.spl_wire.specs.declared.event.Event.TheVariants as event
use Rattle.spl_cell_rules.specs.Cells.{Cell, Held, Deed, Replies, Binds, Acts, Serves, Turns, Abandons, Purges, runs, is_act_pending, next_act, proposal}
use Rattle.spl_cell_rules.{specs.{Cells.{admin_group, Bound, Site}, Events.does}, proofs.Does.{IsClock, Ticks, Expires, Does, Refused, Told, Declined}}
use Rattle.spl_cell_rules.proofs.Does.{Returned, Unserved, Proposed, Asked, Handed, Acted, Taken, Heard, Served, GoesOn, BothGoOn, Left, Forgot, does-is}
use Rattle.spl_circuit_world.specs.Worlds.{SentMessage}
use Rattle.spl_circuit_safety.proofs.{GroupOfDefinition.{GroupMessage, MayHear, all_committed, plan_row}, GroupWorlds.{WasSent, admin_said, service_said}}
use Rattle.spl_circuit_safety.proofs.{GroupWorlds.admin_groups, CoupledSteps.{IsIdle, IsFree, free-is, IsNew}}

-- what holds of a deed wherever it is done: which cell is there, and what was sent to it
abbrev pub IsStepOf : NodeId → List SentMessage → Cell → Deed → Type 0
IsStepOf n sent k (Replies note to m) = IsIdle m
IsStepOf n sent k (Binds say d back e) =
    (broken d ≡ None) × (has_node d.members n ≡ true) × IsFree k d.generation × MayHear d (admin_said sent) n back e × IsNew (act_rules d) new_member e
    × (n ≡ admin d → all_committed (plan_row admin_groups d n new_member e).changes ≡ [])
IsStepOf n sent k (Acts say h back e) = (k ≡ Held h) × MayHear h.definition (admin_said sent) n back e × IsNew (act_rules h.definition) h.acts e
IsStepOf n sent k (Serves say h back e) = (k ≡ Held h) × (runs h ≡ true) × MayHear h.definition (service_said sent) n back e × IsNew batch_rules h.batches e
IsStepOf n sent k (Turns h x y) =
    (k ≡ Held h) × (runs h ≡ true) × MayHear h.definition (admin_said sent) n n x × MayHear h.definition (service_said sent) n n y
    × IsNew (act_rules h.definition) h.acts x × IsNew batch_rules h.batches y
IsStepOf n sent k Abandons = (h : Bound) × (k ≡ Held h)
IsStepOf n sent k Purges = (h : Bound) × (k ≡ Held h)
IsStepOf n sent k _ = Unit {0}

-- what is delivered at a node was sent to it by another
abbrev pub WasHeard : List SentMessage → NodeId → NodeId → Message → Type 0
WasHeard sent n from m = WasSent (record { from = from; to = n; message = m }) sent × (from ≢ n)

abbrev pub IsDue : List SentMessage → NodeId → Event → Type 0
IsDue sent n (event.Deliver from m) = WasHeard sent n from m
IsDue sent n _ = Unit {0}

-- what is handed in is queued alone
pub submit-commits : {V : Type 0} (g : Group V) (here : ℕ) (v : V) → all_committed (on_submit g here v).changes ≡ []
submit-commits g here v = if_holds (λ (p : GroupPlan _). all_committed p.changes ≡ []) (here == g.coordinator) _ _ (λ q. refl) (λ q. refl)

-- where no act of the node is pending, its next one is new
pub next-new : (site : Site) (b : Bound) (w : ActKind) → is_act_pending site b ≡ false
    → IsNew (act_rules b.definition) b.acts (group.Submit (next_act site.here b.turn w))
next-new site b w h =
    let r1 : _ ≡ false = or_right (list_any (λ v. bytes_eq v.node site.here) b.acts.pending) _ h in
    let r2 : _ ≡ false = or_right (length b.acts.pending == 64) _ r1 in (
      none_of (known (act_rules b.definition) b.acts (next_act site.here b.turn w))
          (or_left (is_some (known (act_rules b.definition) b.acts (next_act site.here b.turn kind.Accept))) _ r2),
      or_left (length b.acts.pending == 64) _ r1,
    )

-- a group that goes on hears nothing, and is handed nothing
may-clock : {V : Type 0} {e : GroupEvent V} (d : Definition) (said : GroupMessage V → Type 0) (n back : NodeId) → IsClock e → MayHear d said n back e
may-clock d said n back Ticks = tt
may-clock d said n back Expires = tt

new-clock : {V : Type 0} {e : GroupEvent V} (rules : Rules V) (m : Member V) → IsClock e → IsNew rules m e
new-clock rules m Ticks = tt
new-clock rules m Expires = tt

-- what an event does is a step
step-of : (site : Site) (sent : List SentMessage) (k : Cell) (e : Event) (deed : Deed) → Does site k e deed → IsDue sent site.here e
    → IsStepOf site.here sent k deed
step-of site sent k e deed (Refused why) due = tt
step-of site sent k e deed (Told a q) due = tt
step-of site sent k e deed (Declined from i gen r place v) due = tt
step-of site sent k e deed (Returned from i gen v d is) due = tt
step-of site sent k e deed (Unserved from i s t gen r place v) due = tt
step-of site sent k e deed (Proposed d b) due = (
  b.ruled,
  b.member,
  free-is k d.generation b.free,
  tt,
  (refl, refl),
  λ q. submit-commits (admin_group d) (position d.members site.here) (proposal site.here d),
)
step-of site sent k e deed (Asked d from i gen r place v is b leads) due =
    (b.bind.ruled, b.bind.member, free-is k d.generation b.bind.free, (refl, (i, due.0), sym b.same, due.1), tt, λ q. absurd (due.1 (sym leads ∙ sym q)))
step-of site sent k e deed (Handed d from i gen v is b leads its) due =
    (b.bind.ruled, b.bind.member, free-is k d.generation b.bind.free, tt, (refl, refl), λ q. submit-commits (admin_group d) (position d.members site.here) v)
step-of site sent k e deed (Acted h f w next kept unclosed pending some) due = (refl, tt, next-new site h w pending)
step-of site sent k e deed (Taken h v unclosed active good unknown room) due = (refl, active, tt, (unknown, room))
step-of site sent k e deed (Heard h from i x unclosed same) due = (refl, (refl, (i, due.0), same, due.1), tt)
step-of site sent k e deed (Served h from i s t x unclosed active same) due = (refl, active, (refl, (i, s, t, due.0), same, due.1), tt)
step-of site sent k e deed (GoesOn h x unclosed p) due =
    (refl, may-clock h.definition (admin_said sent) site.here site.here p, new-clock (act_rules h.definition) h.acts p)
step-of site sent k e deed (BothGoOn h x y unclosed active p q) due = (
  refl,
  active,
  may-clock h.definition (admin_said sent) site.here site.here p,
  may-clock h.definition (service_said sent) site.here site.here q,
  new-clock (act_rules h.definition) h.acts p,
  new-clock batch_rules h.batches q,
)
step-of site sent k e deed (Left h unclosed active) due = (h, refl)
step-of site sent k e deed (Forgot h) due = (h, refl)

pub steps-does : (site : Site) (sent : List SentMessage) (k : Cell) (e : Event) → IsDue sent site.here e → IsStepOf site.here sent k (does site k e)
steps-does site sent k e due = step-of site sent k e (does site k e) (does-is site k e) due

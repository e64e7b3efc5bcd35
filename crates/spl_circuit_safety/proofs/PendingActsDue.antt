-- What an event does with acts: what it submits is the node's next act, or a proposal that was forwarded to its coordinator.
use Rattle.std.{specs.{List.list_any, Str.bytes_eq}, proofs.Common.{◌≡◌, ◌≢◌, ℕ, ◌⊎◌, true, false, List, [], ◌∷◌, refl, sym, ap, subst, ◌∙◌, inl, inr}}
use Rattle.spl_agree.{specs.{Member.Member, declared.{event.GroupEvent.GroupEvent, message.CommitMsg.CommitMsg}}, proofs.Tests.{or_left, or_right}}
use Rattle.spl_agree.specs.declared.message.CommitMsg.TheVariants as msg
use Rattle.spl_agree.specs.declared.event.GroupEvent.TheVariants as group
use Rattle.spl_circuit.specs.{Nodes.NodeId, Rules.admin, Lifecycle.Life, declared.{act.{Act.Act, ActKind.ActKind}, definition.Definition.Definition}}
use Rattle.spl_circuit.specs.declared.act.ActKind.TheVariants as kind
use Rattle.spl_wire.specs.declared.{event.Event.Event, message.Message.Message}
use Rattle.spl_wire.specs.declared.message.Message.TheVariants as message
use Rattle.spl_cell_rules.{specs.{Cells.{Cell, Deed, Replies, Binds, Acts, Turns, Site, own_life}, Events.does}, proofs.Does.{IsClock, Ticks, Expires}}
use Rattle.spl_cell_rules.proofs.Does.{IsNextKind, Does, Refused, Told, Declined, Returned, Unserved, Proposed, Asked, Handed, Acted, Taken, Heard, Served}
use Rattle.spl_cell_rules.proofs.Does.{GoesOn, BothGoOn, Left, Forgot, does-is}
use Rattle.spl_circuit_safety.{specs.Agreement.is_proposal, proofs.{GroupOfDefinition.GroupMessage, GroupWorlds.admin_said, DeedsAreSteps.IsDue}}
use Rattle.spl_circuit_safety.proofs.PendingActLists.{Among}
use Rattle.spl_circuit_world.{specs.Worlds.SentMessage, proofs.Nodes.node_not}

-- an act that is no proposal
abbrev pub IsOther : Act → Type 0
IsOther v = is_proposal v.kind ≡ false

-- an act was forwarded
abbrev pub Forwards : (GroupMessage Act → Type 0) → NodeId → NodeId → ℕ → Act → Type 0
Forwards said n k g u = said (record { from = n; to = k; body = msg.Forward g u })

-- what is submitted where a cell is bound: the node's own proposal, or one that was forwarded to the coordinator
abbrev pub IsFirstAct : (GroupMessage Act → Type 0) → NodeId → Definition → GroupEvent Act → Type 0
IsFirstAct said n d (group.Submit v) =
    (is_proposal v.kind ≡ true) × (((v.node ≡ n) × (v.turn ≡ 1)) ⊎ ((n ≡ admin d) × (v.node ≢ n) × Forwards said v.node n d.generation v))
IsFirstAct said n d _ = Unit {0}

-- what is submitted at a bound cell: an act of the node, where no other one of it is pending and the circuit has acts
abbrev pub IsNextAct : NodeId → Member Act → GroupEvent Act → Type 0
IsNextAct n a (group.Submit v) = IsOther v × (v.node ≡ n) × ((x : Act) → Among x a.pending → x.node ≢ n) × (a.history ≡ [] → ⊥)
IsNextAct n a _ = Unit {0}

-- a reply returns proposals alone, and forwards nothing
abbrev pub IsReplyOf : CommitMsg Act → Type 0
IsReplyOf (msg.Forward g u) = ⊥
IsReplyOf (msg.Refused g u why) = is_proposal u.kind ≡ true
IsReplyOf _ = Unit {0}

abbrev pub IsReply : Message → Type 0
IsReply (message.Admin i x) = IsReplyOf x
IsReply (message.Scabbard i s t x) = Unit {0}

-- what holds of a deed
abbrev pub Apt : (GroupMessage Act → Type 0) → NodeId → Deed → Type 0
Apt said n (Replies note to m) = IsReply m
Apt said n (Binds say d back e) = IsFirstAct said n d e
Apt said n (Acts say h back e) = IsNextAct n h.acts e
Apt said n (Turns h x y) = IsNextAct n h.acts x
Apt said n _ = Unit {0}

-- where none of the node is pending
pub none-pending : (n : NodeId) (x : Act) (us : List Act) → list_any (λ v. bytes_eq v.node n) us ≡ false → Among x us → x.node ≢ n
none-pending n x [] h k = absurd k
none-pending n x (u ∷ us) h (inl e) = subst (λ (z : Act). z.node ≢ n) (sym e) (node_not u.node n (or_left (bytes_eq u.node n) _ h))
none-pending n x (u ∷ us) h (inr k) = none-pending n x us (or_right (bytes_eq u.node n) _ h) k

-- a group that goes on is handed nothing
next-clock : {e : GroupEvent Act} (n : NodeId) (a : Member Act) → IsClock e → IsNextAct n a e
next-clock n a Ticks = tt
next-clock n a Expires = tt

next-other : (l : Life) (w : ActKind) → IsNextKind l w → is_proposal w ≡ false
next-other l (kind.Propose d) own = absurd own
next-other l _ own = refl

-- what an event does is so
apt-of : (site : Site) (sent : List SentMessage) (k : Cell) (e : Event) (deed : Deed) → Does site k e deed → IsDue sent site.here e
    → Apt (admin_said sent) site.here deed
apt-of site sent k e deed (Refused why) due = tt
apt-of site sent k e deed (Told a q) due = tt
apt-of site sent k e deed (Declined from i gen r place v) due = tt
apt-of site sent k e deed (Returned from i gen v d is) due = ap is_proposal is
apt-of site sent k e deed (Unserved from i s t gen r place v) due = tt
apt-of site sent k e deed (Proposed d b) due = (refl, inl (refl, refl))
apt-of site sent k e deed (Asked d from i gen r place v is b leads) due = tt
apt-of site sent k e deed (Handed d from i gen v is b leads its) due = (
  ap is_proposal is,
  inr (
    sym leads,
    (λ x. due.1 (sym its ∙ x)),
    subst (λ (g : ℕ). Forwards (admin_said sent) v.node site.here g v) (sym b.same)
        (subst (λ (z : NodeId). Forwards (admin_said sent) z site.here gen v) (sym its) (i, due.0)),
  ),
)
apt-of site sent k e deed (Acted h f w next kept unclosed pending some) due = (
  next-other (own_life h) w kept,
  refl,
  (λ x q. none-pending site.here x h.acts.pending (or_left (list_any (λ v. bytes_eq v.node site.here) h.acts.pending) _ pending) q),
  some,
)
apt-of site sent k e deed (Taken h v unclosed active good unknown room) due = tt
apt-of site sent k e deed (Heard h from i x unclosed same) due = tt
apt-of site sent k e deed (Served h from i s t x unclosed active same) due = tt
apt-of site sent k e deed (GoesOn h x unclosed p) due = next-clock site.here h.acts p
apt-of site sent k e deed (BothGoOn h x y unclosed active p q) due = next-clock site.here h.acts p
apt-of site sent k e deed (Left h unclosed active) due = tt
apt-of site sent k e deed (Forgot h) due = tt

pub apt-does : (site : Site) (sent : List SentMessage) (k : Cell) (e : Event) → IsDue sent site.here e → Apt (admin_said sent) site.here (does site k e)
apt-does site sent k e due = apt-of site sent k e (does site k e) (does-is site k e) due

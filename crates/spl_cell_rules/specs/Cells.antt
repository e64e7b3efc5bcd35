-- What a node keeps about one circuit, and what an event of acts does there (docs/RULES.md, Cells).
use Rattle.std.specs.Prelude.{ℕ, ◌+◌, ◌-◌, ◌^◌, Bool, true, false, not, ◌&&◌, ◌||◌, ◌==◌, nat_lt, List, length, if◌then◌else◌, Option, Some, None, is_some}
use Rattle.std.specs.{Prelude.is_none, List.{list_any, filter}, Str.bytes_eq}
use Rattle.sha2.specs.Sha256.{sha256}
use Rattle.spl_agree.specs.{Member.{Group, Member, new_member, values, known}, declared.event.{GroupEvent.GroupEvent, Note.Note}}
use Rattle.spl_agree.specs.declared.{limit.TheConstants.MOST_PENDING, message.CommitMsg.CommitMsg, reason.TheConstants.Reason.CANNOT_BIND}
use Rattle.spl_agree.specs.declared.event.Note.TheVariants as note
use Rattle.spl_agree.specs.declared.message.CommitMsg.TheVariants as msg
use Rattle.spl_agree.specs.declared.event.GroupEvent.TheVariants as group
use Rattle.spl_circuit.specs.{Forms.definition, Nodes.{NodeId, CircuitId, has_node, position}, Rules.{broken, admin, service, is_member}, Lifecycle.Life}
use Rattle.spl_circuit.specs.{Lifecycle.{life, is_active, is_disbanding, is_asked, is_running, has_run, current}, Acts.{is_node, act_rules}}
use Rattle.spl_circuit.specs.declared.{act.{Act.Act, ActKind.ActKind}, definition.Definition.Definition, lifecycle.{Lifecycle.Lifecycle, Mark.Mark}}
use Rattle.spl_circuit.specs.declared.act.ActKind.TheVariants as kind
use Rattle.spl_circuit.specs.declared.lifecycle.Mark.TheVariants as mark
use Rattle.spl_circuit.specs.declared.lifecycle.Lifecycle.TheVariants as lifecycle
use Rattle.spl_command.specs.declared.batch.Batch.{Batch}
use Rattle.spl_scabbard.specs.Checks.{batch_rules}
use Rattle.spl_wire.specs.declared.{answer.{Answer.Answer, Refusal.Refusal}, message.Message.Message}
use Rattle.spl_wire.specs.declared.message.Message.TheVariants as message
use Rattle.spl_wire.specs.declared.answer.Refusal.TheVariants as refusal
use Rattle.spl_wire.specs.declared.answer.Answer.TheVariants as answer

-- what a node keeps of a circuit that it is bound to: the definition, its mark, the turn of the node, and what it keeps in
-- the admin group and in the service group
pub record Bound : Type 0 where
  pub definition : Definition
  pub mark : Mark
  pub turn : ℕ
  pub acts : Member Act
  pub batches : Member Batch

-- a cell is empty; or bound; or purged with the generation that it last had
pub data Cell : Type 0 where
  Empty : Cell
  Held : (bound : Bound) → Cell
  Purged : (generation : ℕ) → Cell

-- a circuit at a node
pub record Site : Type 0 where
  pub here : NodeId
  pub circuit : CircuitId

abbrev pub site_at : NodeId → CircuitId → Site
site_at n c = record { here = n; circuit = c }

abbrev pub is_bound : Cell → Bool
is_bound (Held h) = true
is_bound _ = false

-- nothing is kept
abbrev pub is_empty_cell : Cell → Bool
is_empty_cell Empty = true
is_empty_cell _ = false

-- what is kept of a definition that was bound just now
abbrev pub fresh : Definition → Bound
fresh d = record { definition = d; mark = mark.Open; turn = 0; acts = new_member; batches = new_member }

-- the admin group of a definition
abbrev pub admin_group : Definition → Group Act
admin_group d = record { rules = act_rules d; generation = d.generation; members = length d.members; coordinator = position d.members (admin d) }

-- its service group
abbrev pub service_group : Definition → Group Batch
service_group d = record { rules = batch_rules; generation = d.generation; members = length d.members; coordinator = position d.members (service d) }

abbrev pub is_open_mark : Mark → Bool
is_open_mark mark.Open = true
is_open_mark _ = false

-- bound, and the node takes part
abbrev pub is_open_cell : Cell → Bool
is_open_cell (Held h) = is_open_mark h.mark
is_open_cell _ = false

-- the lifecycle of the acts in its own history
abbrev pub own_life : Bound → Life
own_life h = life h.definition (values h.acts.history)

-- the circuit is active here
abbrev pub is_active_here : Bound → Bool
is_active_here h = is_active (own_life h).state

-- its service group runs: batches are taken and reported, messages are routed, and the group is ticked
abbrev pub runs : Bound → Bool
runs h = is_running (own_life h).state

-- durable changes of its service group fit: it runs, or has run until the circuit was disbanded
abbrev pub keeps_batches : Bound → Bool
keeps_batches h = has_run (own_life h).state

-- how a note of a group is answered: what was queued, what a message did, and what the admin group did where no service
-- group runs
pub data Say : Type 0 where
  Submitted : Say
  Delivered : Say
  Alone : Say

abbrev pub said : Say → Note → Answer
said Submitted n = answer.Submitted false
said Delivered n = answer.Delivered n
said Alone n = answer.Notes n note.Off

-- what an event does at a cell
pub data Deed : Type 0 where
  -- it is refused
  Refuses : Refusal → Deed
  -- it is answered, and changes nothing
  Tells : Answer → Deed
  -- a message goes to one node, and nothing changes
  Replies : Note → NodeId → Message → Deed
  -- the cell is bound, and its admin group does this; a message came from `back`
  Binds : Say → Definition → (back : NodeId) → GroupEvent Act → Deed
  -- the admin group does this
  Acts : Say → Bound → (back : NodeId) → GroupEvent Act → Deed
  -- the service group does this
  Serves : Say → Bound → (back : NodeId) → GroupEvent Batch → Deed
  -- each group does its part, the admin group first
  Turns : Bound → GroupEvent Act → GroupEvent Batch → Deed
  Abandons : Deed
  Purges : Deed

-- ---- binding

-- the cell may be bound to a definition of this generation
abbrev pub is_free : Cell → ℕ → Bool
is_free Empty generation = true
is_free (Held h) generation = false
is_free (Purged old) generation = nat_lt old generation

-- a message of this generation can bind the definition
abbrev pub can_bind : Site → Cell → ℕ → Definition → Bool
can_bind site k generation d =
    bytes_eq d.id site.circuit && (d.generation == generation && (is_none (broken d) && (is_member d site.here && is_free k generation)))

-- the proposal of a definition: the first act of its node
abbrev pub proposal : NodeId → Definition → Act
proposal here d = record { node = here; turn = 1; kind = kind.Propose d }

-- ---- propose

abbrev pub stale_or_held : ℕ → Definition → Refusal
stale_or_held bound d = if nat_lt bound d.generation then refusal.CircuitHeld else refusal.StaleGeneration bound

-- a definition that breaks no rule, at one of its members
abbrev pub proposes_at : Site → Definition → Cell → Deed
proposes_at site d Empty = Binds Submitted d site.here (group.Submit (proposal site.here d))
proposes_at site d (Held h) = Refuses (stale_or_held h.definition.generation d)
proposes_at site d (Purged old) =
    if nat_lt old d.generation then Binds Submitted d site.here (group.Submit (proposal site.here d))
    else Refuses (refusal.StaleGeneration old)

-- a proposal, by the first rule that its definition breaks
abbrev pub proposes : Site → Definition → Cell → Option ℕ → Deed
proposes site d k (Some rule) = Refuses (refusal.BadDefinition rule)
proposes site d k None = if is_member d site.here then proposes_at site d k else Refuses refusal.NotMember

-- ---- vote, remove, disband

-- the next act of this node
abbrev pub next_act : NodeId → ℕ → ActKind → Act
next_act here turn k = record { node = here; turn = turn + 1; kind = k }

-- no further act of this node may be pending here
abbrev pub is_act_pending : Site → Bound → Bool
is_act_pending site h =
    list_any (λ v. bytes_eq v.node site.here) h.acts.pending || (length h.acts.pending == MOST_PENDING
    || (is_some (known (act_rules h.definition) h.acts (next_act site.here h.turn kind.Accept)) || h.turn == 2 ^ 32 - 1))

-- the next act of this node is submitted, where it takes part
abbrev pub submits_next : Site → Bound → ActKind → Deed
submits_next site h k = if is_open_mark h.mark then Acts Submitted h site.here (group.Submit (next_act site.here h.turn k)) else Refuses refusal.Closed

-- how a node accepts or rejects what is asked for
abbrev pub vote_kind : Life → Bool → ActKind
vote_kind l accept =
    if is_disbanding l.state then (if accept then kind.DisbandAccept l.disband.place else kind.DisbandReject l.disband.place)
    else (if accept then kind.Accept else kind.Reject)

-- how a node takes back what it asked for
abbrev pub removal_kind : Life → ActKind
removal_kind l = if is_disbanding l.state then kind.DisbandRemove l.disband.place else kind.Remove

abbrev pub votes : Site → Bound → ActKind → Deed
votes site h k =
    if is_act_pending site h then Refuses refusal.ActPending
    else (if not (is_asked (own_life h).state) then Refuses refusal.NoProposal
    else (if has_node (current (own_life h)).accepted site.here then Refuses refusal.AlreadyVoted
    else submits_next site h k))

abbrev pub removes : Site → Bound → ActKind → Deed
removes site h k =
    if is_act_pending site h then Refuses refusal.ActPending
    else (if not (is_asked (own_life h).state) then Refuses refusal.NoProposal
    else (if not (is_node (current (own_life h)).requester site.here) then Refuses refusal.NotRequester
    else submits_next site h k))

abbrev pub disbands : Site → Bound → Deed
disbands site h =
    if is_act_pending site h then Refuses refusal.ActPending
    else (if not (is_active_here h) then Refuses refusal.NotActive
    else (if not (is_open_mark h.mark) then Refuses refusal.Closed
    else (if h.definition.version == 1 then Refuses refusal.VersionTooLow
    else Acts Submitted h site.here (group.Submit (next_act site.here h.turn kind.Disband)))))

-- ---- abandon, purge

abbrev pub abandons : Bound → Deed
abandons h =
    if not (runs h) then Refuses refusal.NotActive
    else (if is_open_mark h.mark then Abandons else Refuses refusal.Closed)

-- what keeps an open cell from being purged
abbrev pub is_waiting : Lifecycle → Member Act → Bool
is_waiting lifecycle.None a = nat_lt 0 (length a.pending) || is_some a.promise
is_waiting lifecycle.Rejected a = false
is_waiting lifecycle.Removed a = false
is_waiting lifecycle.Disbanded a = false
is_waiting _ a = true

abbrev pub purges : Bound → Deed
purges h = if is_open_mark h.mark && is_waiting (own_life h).state h.acts then Refuses refusal.NotPurgeable else Purges

-- ---- show, detail

-- the members that have accepted what is reported of, in member order
abbrev pub accepted_in_order : Bound → List NodeId
accepted_in_order h = filter (λ m. has_node (current (own_life h)).accepted m) h.definition.members

abbrev pub shows : Bound → Answer
shows h =
    answer.Show h.definition.generation (own_life h).state h.mark (accepted_in_order h)
    (length h.acts.history) (length h.acts.pending) (length h.batches.history) (length h.batches.pending)

abbrev pub details : Bound → Answer
details h = answer.Detail h.definition (sha256 (definition.spell h.definition)) (own_life h).state h.mark (accepted_in_order h) (own_life h).circuit.requester

-- ---- messages

abbrev pub ignores : Deed
ignores = Tells (answer.Delivered note.Ignored)

abbrev pub declines : Site → NodeId → ℕ → ℕ → Deed
declines site from gen r = Replies (note.Declined r) from (message.Admin site.circuit (msg.Vote gen r false))

-- the coordinator can't bind the definition
abbrev pub returns_unbound : Site → NodeId → ℕ → Act → Deed
returns_unbound site from gen v = Replies (note.Returned CANNOT_BIND) from (message.Admin site.circuit (msg.Refused gen v CANNOT_BIND))

-- a request at a cell that is not bound to its generation, or not open
abbrev pub asked_first : Site → Cell → NodeId → ℕ → ℕ → ℕ → Act → ActKind → Deed
asked_first site k from gen r place v (kind.Propose d) =
    if place == 0 && (can_bind site k gen d && bytes_eq (admin d) from)
    then Binds Delivered d from (group.From (position d.members from) (msg.VoteRequest gen r place v))
    else declines site from gen r
asked_first site k from gen r place v _ = declines site from gen r

-- a forwarded act there
abbrev pub forwarded_first : Site → Cell → NodeId → ℕ → Act → ActKind → Deed
forwarded_first site k from gen v (kind.Propose d) =
    if can_bind site k gen d && (bytes_eq (admin d) site.here && (bytes_eq v.node from && (is_member d from && not (bytes_eq from site.here))))
    then Binds Delivered d from (group.Submit v)
    else returns_unbound site from gen v
forwarded_first site k from gen v _ = ignores

-- a message of the admin group there
abbrev pub hears_first : Site → Cell → NodeId → CommitMsg Act → Deed
hears_first site k from (msg.VoteRequest gen r place v) = asked_first site k from gen r place v v.kind
hears_first site k from (msg.Forward gen v) = forwarded_first site k from gen v v.kind
hears_first site k from _ = ignores

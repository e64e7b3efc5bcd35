-- What an event of batches does at a bound cell (docs/RULES.md, Cells).
use Rattle.std.specs.Prelude.{ℕ, Bool, true, false, not, ◌&&◌, ◌==◌, nat_eq, List, [], length, map, if◌then◌else◌, Option, Some, None, is_some, Ok, Err}
use Rattle.std.specs.{List.{filter, starts_with}, Map.lookup, BTreeMap.is_at}
use Rattle.spl_agree.specs.{Member.{Member, values, known, found, found_refused}, Fits.generation_of, declared.limit.TheConstants.MOST_PENDING}
use Rattle.spl_agree.specs.declared.{message.CommitMsg.CommitMsg, reason.Reason.Reason}
use Rattle.spl_agree.specs.declared.event.Note.TheVariants as note
use Rattle.spl_agree.specs.declared.message.CommitMsg.TheVariants as msg
use Rattle.spl_agree.specs.declared.event.GroupEvent.TheVariants as group
use Rattle.spl_state.specs.{Entries.{Entry, address_cmp}, Root.node_at, declared.address.Address.Address}
use Rattle.spl_proof.specs.{Made.proof, Forms.proof as proof_form}
use Rattle.spl_command.specs.{Rules.broken_batch, Equality.same_batch, Lists.state_of, declared.{batch.Batch.Batch, receipt.Receipt.Receipt}}
use Rattle.spl_scabbard.specs.{Checks.batch_rules, Readers.{ids_of, place_of, receipts_of}}
use Rattle.spl_circuit.specs.{Nodes.{NodeId, ServiceId, position}, Routing.{Way, route}}
use Rattle.spl_wire.specs.declared.answer.{Answer.Answer, Entry.Entry as Told}
use Rattle.spl_wire.specs.declared.message.Message.TheVariants as message
use Rattle.spl_wire.specs.declared.answer.BatchStatus.TheVariants as status
use Rattle.spl_wire.specs.declared.answer.Refusal.TheVariants as refusal
use Rattle.spl_wire.specs.declared.answer.Answer.TheVariants as answer
use Rattle.spl_cell_rules.specs.Cells.{Bound, Site, Deed, Refuses, Tells, Replies, Serves, Submitted, Delivered, ignores, is_open_mark, runs}

-- ---- submit

abbrev pub submits_new : Site → Bound → Batch → Deed
submits_new site h v = if length h.batches.pending == MOST_PENDING then Refuses refusal.QueueFull else Serves Submitted h site.here (group.Submit v)

-- by what is known of the id here
abbrev pub submits_known : Site → Bound → Batch → Option Batch → Deed
submits_known site h v None = submits_new site h v
submits_known site h v (Some u) = if same_batch u v then Tells (answer.Submitted true) else Refuses refusal.IdTaken

-- by the first rule that the batch breaks
abbrev pub submits_ruled : Site → Bound → Batch → Option ℕ → Deed
submits_ruled site h v (Some rule) = Refuses (refusal.BadBatch rule)
submits_ruled site h v None = submits_known site h v (known batch_rules h.batches v)

abbrev pub submits : Site → Bound → Batch → Deed
submits site h v =
    if not (runs h) then Refuses refusal.NotActive
    else (if not (is_open_mark h.mark) then Refuses refusal.Closed
    else submits_ruled site h v (broken_batch v))

-- ---- what is reported of the batches that are committed here

-- only of a circuit that runs
abbrev pub when_active : Bound → Deed → Deed
when_active h deed = if runs h then deed else Refuses refusal.NotActive

abbrev pub state_here : Member Batch → List Entry
state_here b = state_of (values b.history)

abbrev pub root_told : Member Batch → Answer
root_told b = answer.Root (length b.history) (node_at 70 [] (state_here b))

-- the root, and the byte form of the proof that the state gives of an address
abbrev pub proof_told : Member Batch → Address → Answer
proof_told b address = answer.Proof (node_at 70 [] (state_here b)) (proof_form.spell (proof (state_here b) address))

abbrev pub history_told : Member Batch → Answer
history_told b = answer.History (ids_of (values b.history))

abbrev pub value_told : Member Batch → Address → Answer
value_told b address = answer.Value (lookup (is_at (address_cmp address)) (state_here b))

abbrev pub entry_told : Entry → Told
entry_told e = record { address = e.0; value = e.1 }

abbrev pub has_prefix : List ℕ → Entry → Bool
has_prefix prefix e = starts_with nat_eq e.0.0 prefix

abbrev pub listed_entries : Member Batch → List ℕ → Answer
listed_entries b prefix = answer.Listed (map entry_told (filter (has_prefix prefix) (state_here b)))

-- ---- where a batch stands: history first, then pending, then refused

abbrev pub status_refused : Option (Batch × Reason) → Deed
status_refused None = Refuses refusal.UnknownId
status_refused (Some u) = Tells (answer.Status (status.Refused u.1))

abbrev pub has_the_id : ℕ → Batch → Bool
has_the_id i v = i == v.id

abbrev pub status_kept : Member Batch → ℕ → Option ℕ → Deed
status_kept b i (Some place) = Tells (answer.Status (status.Committed place))
status_kept b i None =
    if is_some (found (has_the_id i) b.pending) then Tells (answer.Status status.Pending)
    else status_refused (found_refused (has_the_id i) b.refused)

abbrev pub status_told : Member Batch → ℕ → Deed
status_told b i = status_kept b i (place_of (values b.history) i)

abbrev pub receipt_kept : ℕ → Option ℕ → Option (List Receipt) → Deed
receipt_kept i (Some place) (Some receipts) = Tells (answer.Receipt i place receipts)
receipt_kept i _ _ = Refuses refusal.UnknownId

abbrev pub receipt_told : Member Batch → ℕ → Deed
receipt_told b i = receipt_kept i (place_of (values b.history) i) (receipts_of (values b.history) i)

-- ---- messages between services

abbrev pub routed : Way → Deed → Deed
routed (Ok x) deed = deed
routed (Err f) deed = Refuses (refusal.NotRouted f)

-- the way of a message at a bound cell
abbrev pub way : Site → Bound → NodeId → ServiceId → ServiceId → Way
way site h from_node from to = route (Some h.definition) (is_open_mark h.mark && runs h) from_node from to site.here

-- a message of another generation: a request is declined, and the answer swaps the services
abbrev pub serves_other : Site → NodeId → ServiceId → ServiceId → CommitMsg Batch → Deed
serves_other site from_node from to (msg.VoteRequest gen r place v) =
    Replies (note.Declined r) from_node (message.Scabbard site.circuit to from (msg.Vote gen r false))
serves_other site from_node from to _ = ignores

-- a message that is routed
abbrev pub hears_routed : Site → Bound → NodeId → ServiceId → ServiceId → CommitMsg Batch → Deed
hears_routed site h from_node from to x =
    if generation_of x == h.definition.generation
    then Serves Delivered h from_node (group.From (position h.definition.members from_node) x)
    else serves_other site from_node from to x

abbrev pub hears_service : Site → Bound → NodeId → ServiceId → ServiceId → CommitMsg Batch → Deed
hears_service site h from_node from to x = routed (way site h from_node from to) (hears_routed site h from_node from to x)

-- The texts of answers (docs/RULES.md, Answers).
use Rattle.std.specs.{Prelude.{ℕ, List, [], ◌∷◌, ◌++◌, if◌then◌else◌, codes, decimal}, List.flat_map}
use Rattle.serde_json.specs.Written.{compact_text}
use Rattle.spl_agree.specs.declared.{event.Note.Note, reason.Reason.Reason}
use Rattle.spl_agree.specs.declared.event.Note.TheVariants as note
use Rattle.spl_circuit.specs.declared.lifecycle.{Lifecycle.Lifecycle, Mark.Mark}
use Rattle.spl_wire.specs.declared.answer.Answer.{Answer, TheVariants.{Submitted, Left, Show, Detail, Root, Proof, Checked, History, Value, Listed, Status}}
use Rattle.spl_wire.specs.declared.answer.Answer.TheVariants.{Receipt, Routed, Notes, Delivered, Calm, Power, Roll, Cut, Fault, Refused}
use Rattle.spl_wire.specs.declared.answer.{BatchStatus.BatchStatus, Refusal.Refusal}
use Rattle.spl_wire.specs.declared.answer.Refusal.TheVariants as refusal
use Rattle.spl_wire.specs.declared.answer.BatchStatus.TheVariants as status
use Rattle.spl_answer.specs.{Names.{lifecycle_text, mark_text, fault_text, bit_text}, Json.detail_value, Receipts.receipts_value, Nodes.power_text}
use Rattle.spl_answer.specs.{Nodes.roll_text, Batches.{root_text, proof_text, history_text, value_text, entries_text}}

-- each item after a `,`
abbrev pub items_after_commas : {A : Type 0} → (A → List ℕ) → List A → List ℕ
items_after_commas answer_spelling xs = flat_map (λ x. 44 ∷ answer_spelling x) xs

-- the nodes with `,` between them, or `-` where there are none
abbrev pub nodes_text : List (List ℕ) → List ℕ
nodes_text [] = codes "-"
nodes_text (n ∷ ns) = n ++ items_after_commas (λ m. m) ns

-- the number of a refusal, and the rule, bound generation, fault or place that it names
abbrev pub refusal_text : Refusal → List ℕ
refusal_text refusal.Down = codes "1"
refusal_text refusal.NoCircuit = codes "2"
refusal_text (refusal.BadDefinition rule) = codes "3 " ++ decimal rule
refusal_text refusal.NotMember = codes "4"
refusal_text (refusal.StaleGeneration bound) = codes "5 " ++ decimal bound
refusal_text refusal.CircuitHeld = codes "6"
refusal_text refusal.ActPending = codes "7"
refusal_text refusal.NoProposal = codes "8"
refusal_text refusal.AlreadyVoted = codes "9"
refusal_text refusal.NotRequester = codes "10"
refusal_text refusal.NotActive = codes "11"
refusal_text refusal.Closed = codes "12"
refusal_text (refusal.BadBatch rule) = codes "13 " ++ decimal rule
refusal_text refusal.IdTaken = codes "14"
refusal_text refusal.QueueFull = codes "15"
refusal_text refusal.NotPurgeable = codes "16"
refusal_text refusal.NoMessage = codes "17"
refusal_text (refusal.NotRouted fault) = codes "18 " ++ fault_text fault
refusal_text refusal.UnknownId = codes "19"
refusal_text refusal.VersionTooLow = codes "20"
refusal_text (refusal.NotProof at) = codes "26 " ++ decimal at

-- code, and where in the value
abbrev pub reason_text : Reason → List ℕ
reason_text r = decimal r.code ++ (32 ∷ decimal r.at)

abbrev pub note_text : Note → List ℕ
note_text note.Idle = codes "idle"
note_text (note.Asked round) = codes "asked " ++ decimal round
note_text (note.Refused reason) = codes "refused " ++ reason_text reason
note_text (note.Begun round) = codes "begun " ++ decimal round
note_text note.Forwarded = codes "forwarded"
note_text (note.Expired round) = codes "expired " ++ decimal round
note_text (note.Declined round) = codes "declined " ++ decimal round
note_text (note.Again round) = codes "again " ++ decimal round
note_text note.Ignored = codes "ignored"
note_text (note.Promised round) = codes "promised " ++ decimal round
note_text (note.Counted round) = codes "counted " ++ decimal round
note_text (note.Committed round) = codes "committed " ++ decimal round
note_text (note.Aborted round) = codes "aborted " ++ decimal round
note_text (note.Told round commit) = codes "told " ++ (decimal round ++ (if commit then codes " commit" else codes " abort"))
note_text (note.Returned reason) = codes "returned " ++ reason_text reason
note_text note.Queued = codes "queued"
note_text note.Off = codes "-"

abbrev pub status_text : BatchStatus → List ℕ
status_text (status.Committed place) = codes "ok status committed " ++ decimal place
status_text status.Pending = codes "ok status pending"
status_text (status.Refused reason) = codes "ok status refused " ++ reason_text reason

-- the number of what is committed and of what is pending
abbrev pub counts_text : List ℕ → ℕ → ℕ → List ℕ
counts_text name committed pending = name ++ decimal committed ++ codes " " ++ decimal pending

abbrev pub standing_text : ℕ → Lifecycle → Mark → List ℕ
standing_text generation lifecycle mark =
    codes "generation " ++ decimal generation ++ codes " lifecycle " ++ lifecycle_text lifecycle ++ codes " mark " ++ mark_text mark

abbrev pub answer_spelling : Answer → List ℕ
answer_spelling (Submitted known) = if known then codes "ok known" else codes "ok queued"
answer_spelling (Left purged) = if purged then codes "ok purged" else codes "ok abandoned"
answer_spelling (Show generation lifecycle mark accepted acts acts_pending batches batches_pending) =
    codes "ok circuit " ++ standing_text generation lifecycle mark ++ codes " accepted " ++ nodes_text accepted
    ++ counts_text (codes " acts ") acts acts_pending ++ counts_text (codes " batches ") batches batches_pending
answer_spelling (Detail definition hash lifecycle mark accepted requester) =
    codes "ok detail " ++ compact_text (detail_value definition hash lifecycle mark accepted requester)
answer_spelling (Root count root) = root_text count root
answer_spelling (Proof root bytes) = proof_text root bytes
answer_spelling (Checked accepted) = if accepted then codes "ok yes" else codes "ok no"
answer_spelling (History ids) = history_text ids
answer_spelling (Value value) = value_text value
answer_spelling (Listed entries) = entries_text entries
answer_spelling (Status s) = status_text s
answer_spelling (Receipt batch place receipts) = codes "ok receipt " ++ compact_text (receipts_value batch place receipts)
answer_spelling Routed = codes "ok routed"
answer_spelling (Notes admin service) = codes "ok " ++ (note_text admin ++ (codes " / " ++ note_text service))
answer_spelling (Delivered n) = codes "ok " ++ note_text n
answer_spelling (Calm passes) = codes "ok calm " ++ decimal passes
answer_spelling (Power up) = power_text up
answer_spelling (Roll ids) = roll_text ids
answer_spelling (Cut bit) = codes "cut " ++ bit_text bit
answer_spelling (Fault bit) = codes "fault " ++ bit_text bit
answer_spelling (Refused refusal) = codes "refused " ++ refusal_text refusal

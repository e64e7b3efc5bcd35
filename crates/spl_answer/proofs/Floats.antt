-- Values of answers have no floats.
use Rattle.std.proofs.Common.{◌≡◌, ℕ, false, List, [], ◌∷◌, Option, Some, None, refl}
use Rattle.serde_json.specs.{Data.{Data, string}, Written.has_float}
use Rattle.spl_circuit.specs.declared.{definition.{Definition.Definition, Service.Service}, lifecycle.{Lifecycle.Lifecycle, Mark.Mark}}
use Rattle.spl_command.specs.declared.receipt.{Receipt.Receipt, StateChange.{StateChange, TheVariants.{Set, Delete}}, StateEvent.StateEvent}
use Rattle.spl_answer.specs.{Json.{digits, list, text_or_null, service_value, fields_to_management, fields_from_mark, detail_value}, Receipts.change_value}
use Rattle.spl_answer.specs.Receipts.{event_value, receipt_value, receipts_value}

list_has_none : {A : Type 0} (value : A → Data) → ((x : A) → has_float (value x) ≡ false) → (xs : List A) → has_float (list value xs) ≡ false
list_has_none value none [] = refl
list_has_none value none (x ∷ xs) = rw (none x) (list_has_none value none xs)

texts_have_none : (xs : List (List ℕ)) → has_float (list string xs) ≡ false
texts_have_none = list_has_none string (λ x. refl)

service_has_none : (s : Service) → has_float (service_value s) ≡ false
unfolding service_value
service_has_none s = refl

requester_has_none : (r : Option (List ℕ)) → has_float (text_or_null r) ≡ false
requester_has_none None = refl
requester_has_none (Some r) = refl

pub detail_has_none : (d : Definition) (hash : List ℕ) (lifecycle : Lifecycle) (mark : Mark) (accepted : List (List ℕ)) (requester : Option (List ℕ))
    → has_float (detail_value d hash lifecycle mark accepted requester) ≡ false
unfolding fields_to_management fields_from_mark detail_value
detail_has_none d hash lifecycle mark accepted requester =
    rw (texts_have_none accepted, texts_have_none d.members, requester_has_none requester, list_has_none service_value service_has_none d.services) refl

change_has_none : (c : StateChange) → has_float (change_value c) ≡ false
unfolding change_value
change_has_none (Set a v) = refl
change_has_none (Delete a) = refl

event_has_none : (e : StateEvent) → has_float (event_value e) ≡ false
unfolding event_value
event_has_none e = refl

receipt_has_none : (r : Receipt) → has_float (receipt_value r) ≡ false
unfolding receipt_value
receipt_has_none r =
    rw (
      list_has_none change_value change_has_none r.changes,
      list_has_none digits (λ b. refl) r.returned,
      list_has_none event_value event_has_none r.events,
    ) refl

pub receipts_have_none : (batch place : ℕ) (receipts : List Receipt) → has_float (receipts_value batch place receipts) ≡ false
unfolding receipts_value
receipts_have_none batch place receipts = rw (list_has_none receipt_value receipt_has_none receipts) refl

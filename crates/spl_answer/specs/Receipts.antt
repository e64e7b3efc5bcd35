-- The JSON value of the receipts of a batch (docs/RULES.md, Answers).
use Rattle.std.specs.Prelude.{ℕ, List, [], ◌∷◌, codes}
use Rattle.serde_json.specs.Data.{Data, null, string}
use Rattle.spl_command.specs.declared.receipt.{Receipt.Receipt, StateChange.{StateChange, TheVariants.{Set, Delete}}, StateEvent.StateEvent}
use Rattle.spl_answer.specs.Json.{natural, digits, list, fields}

unfoldable pub change_value : StateChange → Data
change_value (Set a v) = fields ((codes "address", digits a.0) ∷ (codes "value", digits v) ∷ [])
change_value (Delete a) = fields ((codes "address", digits a.0) ∷ (codes "value", null) ∷ [])

unfoldable pub event_value : StateEvent → Data
event_value e = fields ((codes "data", digits e.«data») ∷ (codes "type", string e.kind) ∷ [])

-- of one transaction
unfoldable pub receipt_value : Receipt → Data
receipt_value r = fields (
    (codes "changes", list change_value r.changes)
    ∷ (codes "data", list digits r.returned)
    ∷ (codes "events", list event_value r.events)
    ∷ [])

-- of the batch at a place
unfoldable pub receipts_value : ℕ → ℕ → List Receipt → Data
receipts_value batch place receipts = fields (
    (codes "batch", natural batch)
    ∷ (codes "place", natural place)
    ∷ (codes "transactions", list receipt_value receipts)
    ∷ [])

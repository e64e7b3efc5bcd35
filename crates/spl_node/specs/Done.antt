-- What an event gave at a cell.
use Rattle.std.specs.Prelude.{◌≡◌, true, List, [], ◌∷◌, Option, Some, None, IfSome, ℕ}
use Rattle.spl_circuit.specs.Nodes.{CircuitId}
use Rattle.spl_journal.specs.Records.{IsGood}
use Rattle.spl_wire.specs.{Bounds.AllSendable, Grouping.record_of, declared.{change.Change.Change, plan.Plan.Plan}}
use Rattle.spl_wire.specs.declared.answer.Refusal.TheVariants as refusal
use Rattle.spl_wire.specs.declared.answer.Answer.TheVariants as answer
use Rattle.spl_cell_rules.specs.{Cells.{Cell, Site}, Changes.{applied, changes_made}, Plans.tells_only, Valid.are_legal}
use Rattle.spl_node.specs.{Records.{is_record, record_in, record_bytes}, declared.done.Done.Done}

-- the record of changes, where there are any
abbrev pub record_of_changes : CircuitId → List Change → Option (List ℕ)
record_of_changes c [] = None
record_of_changes c (x ∷ xs) = Some (record_bytes (record_of c (x ∷ xs)))

-- an event is refused for want of a circuit
abbrev pub no_circuit : Plan
no_circuit = tells_only (answer.Refused refusal.NoCircuit)

-- a plan at a cell of this state was carried out
pub record IsGiven (site : Site) (k : Cell) (p : Plan) (d : Done) : Type 0 where
  pub answer_is : d.answer ≡ p.answer
  pub sends_is : d.sends ≡ p.sends
  pub bytes_is : d.bytes ≡ record_of_changes site.circuit p.changes
  pub good : IfSome d.bytes (IsGood is_record)
  pub read : IfSome d.bytes (λ bytes. record_in bytes ≡ Some (record_of site.circuit p.changes))
  pub fits : applied site k p.changes ≡ changes_made site.here k p.changes
  pub legal : are_legal p.sends ≡ true
  pub sendable : AllSendable p.sends

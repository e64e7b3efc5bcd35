-- Names in answers (docs/RULES.md, Answers).
use Rattle.std.specs.Prelude.{ℕ, List, codes}
use Rattle.spl_circuit.specs.declared.lifecycle.{Lifecycle.Lifecycle, Mark.Mark, RouteFault.RouteFault}
use Rattle.spl_circuit.specs.declared.lifecycle.Lifecycle.TheVariants as lifecycle
use Rattle.spl_circuit.specs.declared.lifecycle.Mark.TheVariants as mark
use Rattle.spl_circuit.specs.declared.lifecycle.RouteFault.TheVariants as fault
use Rattle.spl_wire.specs.declared.answer.Bit.{Bit}
use Rattle.spl_wire.specs.declared.answer.Bit.TheVariants as bit

abbrev pub lifecycle_text : Lifecycle → List ℕ
lifecycle_text lifecycle.None = codes "none"
lifecycle_text lifecycle.Proposed = codes "proposed"
lifecycle_text lifecycle.Active = codes "active"
lifecycle_text lifecycle.Disbanding = codes "disbanding"
lifecycle_text lifecycle.Disbanded = codes "disbanded"
lifecycle_text lifecycle.Rejected = codes "rejected"
lifecycle_text lifecycle.Removed = codes "removed"

abbrev pub mark_text : Mark → List ℕ
mark_text mark.Open = codes "open"
mark_text mark.Abandoned = codes "abandoned"
mark_text mark.Purged = codes "purged"

abbrev pub fault_text : RouteFault → List ℕ
fault_text fault.CircuitDoesNotExist = codes "1"
fault_text fault.SenderNotInRoster = codes "2"
fault_text fault.RecipientNotInRoster = codes "3"
fault_text fault.SenderNotOnNode = codes "4"
fault_text fault.RecipientNotHere = codes "5"

abbrev pub bit_text : Bit → List ℕ
bit_text bit.Kept = codes "kept"
bit_text bit.Lost = codes "lost"
bit_text bit.Nothing = codes "none"

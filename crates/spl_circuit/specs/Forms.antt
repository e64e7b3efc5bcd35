-- The byte forms of acts, beside those of definitions (docs/RULES.md, Byte forms).
use Rattle.std.specs.Prelude.{List, [], ◌∷◌, refl}
use Rattle.spl_base.specs.{Form.{Form, IsExact, ◌&◌, via, nothing, Case, case, Filled, filled, sum_of}, FormLaws.{exact_and, exact_via, exact_nothing}}
use Rattle.spl_base.specs.SumLaws.{◌also◌, IsMade, exact_sum}
pub use Rattle.spl_circuit.specs.DefinitionForms.{node_id, label, service_id, circuit_id, byte, word, service, lists, definition, exact_node_id, exact_label}
pub use Rattle.spl_circuit.specs.DefinitionForms.{exact_service_id, exact_circuit_id, exact_byte, exact_word, exact_service, exact_definition}
use Rattle.spl_circuit.specs.declared.act.{Act.Act, ActKind.{ActKind, TheVariants.{Propose, Accept, Reject, Remove, Disband, DisbandAccept, DisbandReject}}}
use Rattle.spl_circuit.specs.declared.act.ActKind.TheVariants.{DisbandRemove}

abbrev pub kinds : List (Case ActKind)
kinds =
    case 1 definition (λ d. Propose d)
    ∷ case 2 nothing (λ _. Accept)
    ∷ case 3 nothing (λ _. Reject)
    ∷ case 4 nothing (λ _. Remove)
    ∷ case 5 nothing (λ _. Disband)
    ∷ case 6 word (λ place. DisbandAccept place)
    ∷ case 7 word (λ place. DisbandReject place)
    ∷ case 8 word (λ place. DisbandRemove place)
    ∷ []

abbrev pub kind_fields : ActKind → Filled kinds
kind_fields (Propose d) = filled 1 d
kind_fields Accept = filled 2 tt
kind_fields Reject = filled 3 tt
kind_fields Remove = filled 4 tt
kind_fields Disband = filled 5 tt
kind_fields (DisbandAccept place) = filled 6 place
kind_fields (DisbandReject place) = filled 7 place
kind_fields (DisbandRemove place) = filled 8 place

abbrev pub kind : Form ActKind
kind = sum_of kinds kind_fields

-- node, turn and kind
abbrev pub act : Form Act
act = via (λ x. record { node = x.0; turn = x.1.0; kind = x.1.1 }) (λ a. (a.node, (a.turn, a.kind))) (node_id & word & kind)

-- ---- each of them is read back and reads nothing else

kind_made : (k : ActKind) → IsMade kinds kind_fields k
kind_made (Propose d) = record { value = refl; small = refl }
kind_made k = record { value = refl; small = refl }

pub exact_kind : IsExact kind
exact_kind = exact_sum kinds kind_fields kind_made (
    (exact_definition, λ _. refl)
    also (exact_nothing, λ _. refl)
    also (exact_nothing, λ _. refl)
    also (exact_nothing, λ _. refl)
    also (exact_nothing, λ _. refl)
    also (exact_word, λ _. refl)
    also (exact_word, λ _. refl)
    also (exact_word, λ _. refl)
    also tt)

pub exact_act : IsExact act
exact_act = exact_via _ _ _ (λ _. refl) (λ _. refl) (exact_and _ _ exact_node_id (exact_and _ _ exact_word exact_kind))

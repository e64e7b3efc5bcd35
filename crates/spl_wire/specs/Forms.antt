-- The byte forms of messages and records (docs/RULES.md, Byte forms).
use Rattle.std.{specs.Prelude.{List, [], ◌∷◌, refl}, proofs.Common.lit<}
use Rattle.spl_base.specs.{Form.{Form, IsExact, ◌&◌, via, list_of, Case, case, Filled, filled, sum_of}, FormLaws.{exact_and, exact_via, exact_list}}
use Rattle.spl_base.specs.SumLaws.{◌also◌, IsMade, exact_sum}
use Rattle.spl_circuit.specs.Forms.{circuit_id, service_id, act, exact_circuit_id, exact_service_id, exact_act}
use Rattle.spl_command.specs.Forms.{batch, exact_batch}
use Rattle.spl_wire.specs.{Bodies.{body, exact_body}, Changes.{change_form, exact_change}, declared.message.Message.Message}
use Rattle.spl_wire.specs.declared.record.Record.{Record}
use Rattle.spl_wire.specs.declared.record.TheConstants.{MOST_CHANGES}
use Rattle.spl_wire.specs.declared.message.Message.TheVariants as message

-- ---- messages

-- lane 1, the admin group: circuit and body; lane 2, the service group: circuit, sender, recipient and body
abbrev pub lanes : List (Case Message)
lanes =
    case 1 (circuit_id & body act) (λ x. message.Admin x.0 x.1)
    ∷ case 2 (circuit_id & service_id & service_id & body batch) (λ x. message.Scabbard x.0 x.1.0 x.1.1.0 x.1.1.1)
    ∷ []

abbrev pub lane_fields : Message → Filled lanes
lane_fields (message.Admin c b) = filled 1 (c, b)
lane_fields (message.Scabbard c s t b) = filled 2 (c, (s, (t, b)))

abbrev pub message_form : Form Message
message_form = sum_of lanes lane_fields

lane_made : (m : Message) → IsMade lanes lane_fields m
lane_made (message.Admin c b) = record { value = refl; small = refl }
lane_made (message.Scabbard c s t b) = record { value = refl; small = refl }

pub exact_message : IsExact message_form
exact_message = exact_sum lanes lane_fields lane_made (
    (exact_and _ _ exact_circuit_id (exact_body _ exact_act), λ _. refl)
    also (exact_and _ _ exact_circuit_id (exact_and _ _ exact_service_id (exact_and _ _ exact_service_id (exact_body _ exact_batch))), λ _. refl)
    also tt)

-- ---- records

-- circuit, and changes
abbrev pub record_form : Form Record
record_form = via (λ x. record { circuit = x.0; changes = x.1 }) (λ r. (r.circuit, r.changes)) (circuit_id & list_of MOST_CHANGES change_form)

pub exact_record : IsExact record_form
exact_record = exact_via _ _ _ (λ _. refl) (λ _. refl) (exact_and _ _ exact_circuit_id (exact_list _ exact_change MOST_CHANGES (lit< tt)))

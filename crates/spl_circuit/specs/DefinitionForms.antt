-- The byte forms of definitions (docs/RULES.md, Byte forms).
use Rattle.std.{specs.{Prelude.{ℕ, ◌^◌, List, refl}, Int.{w8, w32}}, proofs.Common.lit<}
use Rattle.spl_base.specs.{Ids.{is_node_id, is_circuit_id, is_service_id, is_label}, Form.{Form, IsExact, number, raw, text, ◌&◌, via, list_of}}
use Rattle.spl_base.specs.FormLaws.{wide8, wide32, exact_number, exact_raw, exact_text, exact_and, exact_via, exact_list}
use Rattle.spl_circuit.specs.declared.definition.{Definition.Definition, Service.Service}

abbrev pub node_id : Form (List ℕ)
node_id = text 32 is_node_id

abbrev pub label : Form (List ℕ)
label = text 128 is_label

abbrev pub service_id : Form (List ℕ)
service_id = raw 4 is_service_id

abbrev pub circuit_id : Form (List ℕ)
circuit_id = raw 11 is_circuit_id

abbrev pub byte : Form ℕ
byte = number w8 (2 ^ 8)

abbrev pub word : Form ℕ
word = number w32 (2 ^ 32)

-- id, type and node
abbrev pub service : Form Service
service = via (λ x. record { id = x.0; kind = x.1.0; node = x.1.1 }) (λ s. (s.id, (s.kind, s.node))) (service_id & label & node_id)

-- members and services
abbrev pub lists : Form (List (List ℕ) × List Service)
lists = list_of 16 node_id & list_of 16 service

-- id, generation, version, management, name, members and services
abbrev pub definition : Form Definition
definition =
    via (λ x. record {
      id = x.0;
      generation = x.1.0;
      version = x.1.1.0;
      management = x.1.1.1.0;
      name = x.1.1.1.1.0;
      members = x.1.1.1.1.1.0;
      services = x.1.1.1.1.1.1;
    })
    (λ d. (d.id, (d.generation, (d.version, (d.management, (d.name, (d.members, d.services)))))))
    (circuit_id & word & byte & label & label & lists)

-- ---- each of them is read back and reads nothing else

pub exact_node_id : IsExact node_id
exact_node_id = exact_text 32 is_node_id (lit< tt)

pub exact_label : IsExact label
exact_label = exact_text 128 is_label (lit< tt)

pub exact_service_id : IsExact service_id
exact_service_id = exact_raw 4 is_service_id

pub exact_circuit_id : IsExact circuit_id
exact_circuit_id = exact_raw 11 is_circuit_id

pub exact_byte : IsExact byte
exact_byte = exact_number w8 (2 ^ 8) wide8

pub exact_word : IsExact word
exact_word = exact_number w32 (2 ^ 32) wide32

pub exact_service : IsExact service
exact_service = exact_via _ _ _ (λ _. refl) (λ _. refl) (exact_and _ _ exact_service_id (exact_and _ _ exact_label exact_node_id))

pub exact_definition : IsExact definition
exact_definition = exact_via _ _ _ (λ _. refl) (λ _. refl)
    (exact_and _ _ exact_circuit_id (exact_and _ _ exact_word (exact_and _ _ exact_byte (exact_and _ _ exact_label (exact_and _ _ exact_label
    (exact_and _ _ (exact_list _ exact_node_id 16 (lit< tt)) (exact_list _ exact_service 16 (lit< tt))))))))

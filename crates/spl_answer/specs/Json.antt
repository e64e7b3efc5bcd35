-- JSON values of texts, bytes, lists and objects, and that of a circuit at a node (docs/RULES.md, Answers).
use Rattle.std.specs.Prelude.{ℕ, List, [], ◌∷◌, ◌++◌, Option, Some, None, map, codes}
use Rattle.hex.specs.Hex.{encode_lower}
use Rattle.serde_json.specs.{Data.{Data, null, number, unsigned, string, array, object, Members, no_members, member, put}, View.items_of}
use Rattle.spl_circuit.specs.declared.{definition.{Definition.Definition, Service.Service}, lifecycle.{Lifecycle.Lifecycle, Mark.Mark}}
use Rattle.spl_answer.specs.Names.{lifecycle_text, mark_text}

abbrev pub natural : ℕ → Data
natural n = number (unsigned n)

-- two digits of 0 to 9 and a to f for each byte
abbrev pub digits : List ℕ → Data
digits bytes = string (encode_lower bytes)

abbrev pub text_or_null : Option (List ℕ) → Data
text_or_null None = null
text_or_null (Some text) = string text

abbrev pub list : {A : Type 0} → (A → Data) → List A → Data
list value xs = array (items_of (map value xs))

abbrev pub members : List (List ℕ × Data) → Members
members [] = no_members
members (m ∷ ms) = member m.0 m.1 (members ms)

-- the members, with these put in one after the other
abbrev pub put_all : List (List ℕ × Data) → Members → Members
put_all [] into = into
put_all (m ∷ ms) into = put_all ms (put m.0 m.1 into)

-- keys with their values, written in byte order
abbrev pub fields : List (List ℕ × Data) → Data
fields ms = object (members ms)

unfoldable pub service_value : Service → Data
service_value s = fields (
    (codes "node", string s.node)
    ∷ (codes "service", string s.id)
    ∷ (codes "type", string s.kind)
    ∷ [])

unfoldable pub fields_to_management : Definition → List ℕ → Lifecycle → List (List ℕ) → List (List ℕ × Data)
fields_to_management d hash lifecycle accepted =
    (codes "accepted", list string accepted)
    ∷ (codes "generation", natural d.generation)
    ∷ (codes "hash", digits hash)
    ∷ (codes "id", string d.id)
    ∷ (codes "lifecycle", string (lifecycle_text lifecycle))
    ∷ (codes "management", string d.management)
    ∷ []

unfoldable pub fields_from_mark : Definition → Mark → Option (List ℕ) → List (List ℕ × Data)
fields_from_mark d mark requester =
    (codes "mark", string (mark_text mark))
    ∷ (codes "members", list string d.members)
    ∷ (codes "name", string d.name)
    ∷ (codes "requester", text_or_null requester)
    ∷ (codes "services", list service_value d.services)
    ∷ (codes "version", natural d.version)
    ∷ []

unfoldable pub detail_value : Definition → List ℕ → Lifecycle → Mark → List (List ℕ) → Option (List ℕ) → Data
detail_value d hash lifecycle mark accepted requester = fields (fields_to_management d hash lifecycle accepted ++ fields_from_mark d mark requester)

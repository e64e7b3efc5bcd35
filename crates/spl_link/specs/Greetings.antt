-- The two bodies of a handshake (docs/RULES.md, Handshake).
use Rattle.std.specs.{Prelude.{ℕ, ◌^◌, ◌==◌, ◌&&◌, Bool, List, length, Option, Some, None, if◌then◌else◌, option_and_then}, Result.result_ok, Int.{w8, w16}}
use Rattle.spl_base.specs.{Form.{Form, number, text, ◌&◌}, Prefix.prefix_of, Ids.is_node_id}

-- Hello is of the side that opens, Welcome of the other
abbrev pub tag_of : Bool → ℕ
tag_of opens = if opens then 3 else 4

-- a tag, a version and the id of a node
abbrev pub greeting_form : Form (ℕ × (ℕ × List ℕ))
greeting_form = number w8 (2 ^ 8) & number w16 (2 ^ 16) & text 32 is_node_id

-- the greeting of a node; the version is 1
abbrev pub greeting : Bool → List ℕ → List ℕ
greeting opens name = greeting_form.spell (tag_of opens, (1, name))

-- the name in what was read, where it is the greeting of that side and has so many bytes
abbrev pub name_of : Bool → ℕ → (ℕ × (ℕ × List ℕ)) × ℕ → Option (List ℕ)
name_of opens n x = if (x.0.0 == tag_of opens && x.0.1.0 == 1) && x.1 == n then Some x.0.1.1 else None

-- the name in a body that is exactly the greeting of that side
abbrev pub name_in : Bool → List ℕ → Option (List ℕ)
name_in opens body = option_and_then (name_of opens (length body)) (result_ok (prefix_of greeting_form body))

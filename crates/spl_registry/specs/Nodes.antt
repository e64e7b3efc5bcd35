-- The nodes of a registry, and how a document gives them (docs/RULES.md, Registry).
use Rattle.std.specs.Prelude.{◌≢◌, ◌≤◌, ℕ, Bool, codes, List, length, map, option_map, Option, slice_get, ◌+◌, ◌-◌, ◌^◌, min, true, false, ◌&&◌, nat_le, []}
use Rattle.std.specs.{Prelude.{◌∷◌, ◌++◌, Some, None, Result, Ok, Err, if◌then◌else◌, option_and_then}, List.{list_any, position_from, AllPairs}}
use Rattle.std.specs.{Str.{bytes_eq, is_utf8}, Option.option_map_or}
use Rattle.toml.specs.{Data.{Data, Items, no_items, item, Members, get_item, get_member, as_str, as_array, as_table}, Parse.parse_document}
use Rattle.spl_base.specs.Ids.{is_node_id}
use Rattle.spl_registry.specs.declared.fault.RegistryFault.{RegistryFault, TheVariants.{NotToml, BadEntry, Repeated, TooMany}}
use Rattle.spl_registry.specs.declared.tree.TheConstants.{LONGEST_TEXT}

-- a node, and where it is reached
pub record Entry : Type 0 where
  pub identity : List ℕ
  pub endpoint : List ℕ

abbrev pub is_of : List ℕ → Entry → Bool
is_of n e = bytes_eq e.identity n

abbrev pub knows : List Entry → List ℕ → Bool
knows es n = list_any (is_of n) es

-- the position of a node, from 0 on
abbrev pub slot_of : List Entry → List ℕ → Option ℕ
slot_of es n = position_from (is_of n) 0 es

-- the node at a position
abbrev pub node_at : List Entry → ℕ → Option (List ℕ)
node_at es slot = option_map (λ e. e.identity) (slice_get es slot)

-- where the node at a position is reached
abbrev pub endpoint_at : List Entry → ℕ → Option (List ℕ)
endpoint_at es slot = option_map (λ e. e.endpoint) (slice_get es slot)

-- the ids of the nodes
abbrev pub entry_ids : List Entry → List (List ℕ)
entry_ids es = map (λ e. e.identity) es

abbrev pub Differ : Entry → Entry → Type 0
Differ a b = a.identity ≢ b.identity

-- at most 16 nodes, of which no two have one id
pub record IsRegistry (es : List Entry) : Type 0 where
  pub few : length es ≤ 16
  pub apart : AllPairs Differ es

-- a node that is reached at this machine alone
abbrev pub local : List ℕ → Entry
local n = record { identity = n; endpoint = codes "127.0.0.1:0" }

-- such nodes of these ids
abbrev pub local_entries : List (List ℕ) → List Entry
local_entries ids = map local ids

-- a text of 1 to LONGEST_TEXT bytes
abbrev pub is_text : List ℕ → Bool
is_text s = nat_le 1 (length s) && nat_le (length s) LONGEST_TEXT

abbrev pub is_text_value : Data → Bool
is_text_value d = option_map_or is_text (as_str d) false

abbrev pub all_texts : Items → Bool
all_texts no_items = true
all_texts (item d ds) = is_text_value d && all_texts ds

abbrev pub items_len : Items → ℕ
items_len no_items = 0
items_len (item d ds) = items_len ds + 1

-- the first of 1 to 4 texts
abbrev pub first_endpoint : Items → Option (List ℕ)
first_endpoint ds = if nat_le 1 (items_len ds) && nat_le (items_len ds) 4 && all_texts ds then option_and_then as_str (get_item 0 ds) else None

-- the text and the list at a key of a table
abbrev pub member_text : List ℕ → Members → Option (List ℕ)
member_text k ms = option_and_then as_str (get_member k ms)

abbrev pub list_at : List ℕ → Members → Option Items
list_at k ms = option_and_then as_array (get_member k ms)

-- the node of a table with these texts
abbrev pub entry_from : List ℕ → List ℕ → List ℕ → Option Entry
entry_from identity name endpoint = if is_node_id identity && is_text name then Some (record { identity = identity; endpoint = endpoint }) else None

abbrev pub entry_of_table : Members → Option Entry
entry_of_table ms = option_and_then (λ identity. option_and_then (λ name. option_and_then (λ endpoint. entry_from identity name endpoint)
    (option_and_then first_endpoint (list_at (codes "endpoints") ms))) (member_text (codes "display_name") ms)) (member_text (codes "identity") ms)

abbrev pub entry_of : Data → Option Entry
entry_of d = option_and_then entry_of_table (as_table d)

-- the nodes, where those of `found` were read before the item of this index
abbrev pub entries_from : List Entry → ℕ → Items → Result (List Entry) RegistryFault
entries_from found i no_items = Ok found
entries_from found i (item d ds) = option_map_or
    (λ e. if knows found e.identity then Err (Repeated i) else entries_from (found ++ e ∷ []) (i + 1) ds)
    (entry_of d) (Err (BadEntry i))

abbrev pub registry_of_items : Items → Result (List Entry) RegistryFault
registry_of_items ds = if nat_le (items_len ds) 16 then entries_from [] 1 ds else Err (TooMany (min (items_len ds) (2 ^ 32 - 1)))

abbrev pub registry_of_tree : Members → Result (List Entry) RegistryFault
registry_of_tree ms = option_map_or registry_of_items (list_at (codes "node") ms) (Err NotToml)

abbrev pub registry_of_text : List ℕ → Result (List Entry) RegistryFault
registry_of_text text = option_map_or registry_of_tree (parse_document text) (Err NotToml)

-- the registry that the bytes of a document spell
abbrev pub registry_of : List ℕ → Result (List Entry) RegistryFault
registry_of bytes = if is_utf8 bytes then registry_of_text bytes else Err NotToml

-- Definitions of circuits: the nine rules, and who coordinates (docs/RULES.md, Definitions).
use Rattle.std.specs.{Prelude.{ℕ, Bool, true, ◌&&◌, ◌||◌, ◌==◌, nat_le, List, [], ◌∷◌, length, if◌then◌else◌, Option, Some, None, codes}, List.list_all}
use Rattle.std.specs.{List.list_any, Str.bytes_eq}
use Rattle.spl_circuit.specs.{Nodes.{Node, has_node, is_below, lowest, sorted, same_nodes}, declared.definition.{Definition.Definition, Service.Service}}
use Rattle.spl_circuit.specs.declared.rules.TheConstants.{LONGEST_NAME}
pub use Rattle.spl_base.specs.Rules.{first_false}

abbrev pub ascends_after : Node → List Node → Bool
ascends_after p [] = true
ascends_after p (x ∷ xs) = is_below p x && ascends_after x xs

-- strictly by bytes
abbrev pub ascends : List Node → Bool
ascends [] = true
ascends (x ∷ xs) = ascends_after x xs

abbrev pub ids_of : List Service → List Node
ids_of [] = []
ids_of (s ∷ ss) = s.id ∷ ids_of ss

abbrev pub nodes_of : List Service → List Node
nodes_of [] = []
nodes_of (s ∷ ss) = s.node ∷ nodes_of ss

-- some service stands on the node
abbrev pub serves : List Service → Node → Bool
serves ss n = list_any (λ s. bytes_eq s.node n) ss

-- the rules in their order, the first of them rule 1
abbrev pub rules_of : Definition → List Bool
rules_of d =
    (d.version == 1 || d.version == 2)
    ∷ nat_le 1 d.generation
    ∷ (nat_le 1 (length d.management) && nat_le (length d.management) 32)
    ∷ (nat_le 1 (length d.name) && nat_le (length d.name) LONGEST_NAME)
    ∷ (nat_le 2 (length d.members) && nat_le (length d.members) 8)
    ∷ ascends d.members
    ∷ list_all (λ s. bytes_eq s.kind (codes "scabbard")) d.services
    ∷ ascends (ids_of d.services)
    ∷ same_nodes (sorted (nodes_of d.services)) d.members
    ∷ []

-- the least rule that is broken
abbrev pub broken : Definition → Option ℕ
broken d = first_false 1 (rules_of d)

-- the lowest member coordinates the admin group
abbrev pub admin : Definition → Node
admin d = lowest d.members

abbrev pub lowest_service : Service → List Service → Service
lowest_service s [] = s
lowest_service s (t ∷ ts) = lowest_service (if is_below t.id s.id then t else s) ts

-- the node of the lowest service
abbrev pub leading_node : List Service → Node
leading_node [] = []
leading_node (s ∷ ss) = (lowest_service s ss).node

-- the node of the lowest service coordinates the service group
abbrev pub service : Definition → Node
service d = leading_node d.services

abbrev pub is_member : Definition → Node → Bool
is_member d n = has_node d.members n

-- the service of a node
abbrev pub service_of_node : List Service → Node → Option Node
service_of_node [] n = None
service_of_node (s ∷ ss) n = if bytes_eq s.node n then Some s.id else service_of_node ss n

-- the node of a service
abbrev pub node_of_service : List Service → Node → Option Node
node_of_service [] i = None
node_of_service (s ∷ ss) i = if bytes_eq s.id i then Some s.node else node_of_service ss i

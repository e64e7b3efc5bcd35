-- Nodes, and their positions among members (docs/RULES.md, Ids).
use Rattle.std.specs.{Prelude.{ℕ, zero, suc, Bool, true, false, ◌&&◌, ◌||◌, List, [], ◌∷◌, if◌then◌else◌}, Ordering.{nat_cmp, is_lt}}
use Rattle.std.specs.{Cmp.Lexicographic.slice_cmp, Str.bytes_eq}

-- the id of a node
abbrev pub NodeId : Type 0
NodeId = List ℕ

-- the id of a circuit
abbrev pub CircuitId : Type 0
CircuitId = List ℕ

-- the id of a service
abbrev pub ServiceId : Type 0
ServiceId = List ℕ

-- the id of a node, or of a service
abbrev pub Node : Type 0
Node = List ℕ

-- the node is one of these
abbrev pub has_node : List Node → Node → Bool
has_node [] n = false
has_node (m ∷ ms) n = bytes_eq m n || has_node ms n

-- how many stand before it
abbrev pub before_node : List Node → Node → ℕ
before_node [] n = 0
before_node (m ∷ ms) n = if bytes_eq m n then 0 else suc (before_node ms n)

-- the position among members; a node that is none has the position 255
abbrev pub position : List Node → Node → ℕ
position ms n = if has_node ms n then before_node ms n else 255

-- the node at a position; a position that is no member's stands for the node that a message came from
abbrev pub node_or : List Node → Node → ℕ → Node
node_or [] back p = back
node_or (m ∷ ms) back zero = m
node_or (m ∷ ms) back (suc p) = node_or ms back p

-- the order of ids is that of their bytes
abbrev pub is_below : List ℕ → List ℕ → Bool
is_below x y = is_lt (slice_cmp nat_cmp x y)

-- the lowest of a first one and others
abbrev pub lowest_from : Node → List Node → Node
lowest_from x [] = x
lowest_from x (y ∷ ys) = lowest_from (if is_below y x then y else x) ys

abbrev pub lowest : List Node → Node
lowest [] = []
lowest (x ∷ xs) = lowest_from x xs

-- in ascending order
abbrev pub inserted : Node → List Node → List Node
inserted x [] = x ∷ []
inserted x (y ∷ ys) = if is_below y x then y ∷ inserted x ys else x ∷ y ∷ ys

abbrev pub sorted : List Node → List Node
sorted [] = []
sorted (x ∷ xs) = inserted x (sorted xs)

-- the same nodes in the same order
abbrev pub same_nodes : List Node → List Node → Bool
same_nodes [] [] = true
same_nodes (x ∷ xs) (y ∷ ys) = bytes_eq x y && same_nodes xs ys
same_nodes xs ys = false

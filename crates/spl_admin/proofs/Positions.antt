-- The node at a position among members.
use Rattle.std.{specs.{Prelude.slice_get, Str.bytes_eq}, proofs.Common.{arith, ◌≡◌, ℕ, zero, suc, ◌==◌, List, [], ◌∷◌, length, Option, Some, None, refl, sym}}
use Rattle.std.proofs.lemmas.Bool.Decides.{nat_tests}
use Rattle.spl_circuit.specs.Nodes.{Node, node_or}

-- what a look-up finds at the position
abbrev found_or : Node → Option Node → Node
found_or back None = back
found_or back (Some n) = n

node_found : (ms : List Node) (back : Node) (p : ℕ) → found_or back (slice_get ms p) ≡ node_or ms back p
node_found [] back p = refl
node_found (m ∷ ms) back zero = refl
node_found (m ∷ ms) back (suc p) = node_found ms back p

pub node_at : (ms : List Node) (back : Node) (p : ℕ) (o : Option Node) → slice_get ms p ≡ o → found_or back o ≡ node_or ms back p
node_at ms back p o e = rw (sym e) (node_found ms back p)

-- no bytes
pub is_no_node : (n : Node) → (length n == 0) ≡ bytes_eq [] n
is_no_node [] = refl
is_no_node (x ∷ xs) = grind (arith, nat_tests)

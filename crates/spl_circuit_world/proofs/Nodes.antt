-- Two nodes are one or not, as their ids are equal or not.
use Rattle.std.{specs.Str.bytes_eq, proofs.Common.{◌≡◌, ◌≢◌, ◌⊎◌, true, false, ap, sym, ◌∙◌, inl, inr}}
use Rattle.spl_agree.proofs.Booleans.{bool_cases}
use Rattle.spl_circuit.specs.{Nodes.NodeId, Same.{node_is, node_same}}

-- unequal ids are two nodes
pub node_not : (a b : NodeId) → bytes_eq a b ≡ false → a ≢ b
node_not a b h e = let p : bytes_eq a b ≡ true = ap (bytes_eq a) (sym e) ∙ node_same a in cc

-- two nodes have unequal ids
pub node_other : (a b : NodeId) → a ≢ b → bytes_eq a b ≡ false
node_other a b d = go (bool_cases (bytes_eq a b))
  where
    go : (bytes_eq a b ≡ true) ⊎ (bytes_eq a b ≡ false) → bytes_eq a b ≡ false
    go (inl q) = absurd (d (node_is a b q))
    go (inr q) = q

-- two nodes are one or not
pub node_cases : (a b : NodeId) → (a ≡ b) ⊎ (a ≢ b)
node_cases a b = go (bool_cases (bytes_eq a b))
  where
    go : (bytes_eq a b ≡ true) ⊎ (bytes_eq a b ≡ false) → (a ≡ b) ⊎ (a ≢ b)
    go (inl q) = inl (node_is a b q)
    go (inr q) = inr (node_not a b q)

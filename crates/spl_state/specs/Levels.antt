-- The nodes level by level: each is made of the entries that its parent hands down.
use Rattle.std.specs.Prelude.{ℕ, zero, suc, ◌+◌, ◌==◌, List, [], ◌∷◌, ◌++◌, filter, replicate, if◌then◌else◌}
use Rattle.sha2.specs.Sha256.{sha256}
use Rattle.spl_state.specs.{Entries.Entry, Root.{digit_of, leaf_of}}

-- the entries whose digit k is d
abbrev pub branch : ℕ → ℕ → List Entry → List Entry
branch k d es = filter (λ e. digit_of e.0.0 k == d) es

-- what `node` gives for the branches at digit k, for the digits below m, one after the other
unfoldable pub children : (List Entry → List ℕ) → ℕ → List Entry → ℕ → List ℕ
children node k es zero = []
children node k es (suc d) = children node k es d ++ node (branch k d es)

-- the node of entries that share their first k digits, n digits being left
unfoldable pub node_of : ℕ → ℕ → List Entry → List ℕ
node_of n k [] = replicate 32 0
node_of n k (e ∷ []) = leaf_of e
node_of zero k (e ∷ f ∷ es) = replicate 32 0
node_of (suc n) k (e ∷ f ∷ es) = sha256 (1 ∷ children (node_of n (k + 1)) k (e ∷ f ∷ es) 16)

-- the nodes of sixteen parts of which the j-th alone has entries
abbrev pub lone : ℕ → List ℕ → ℕ → List ℕ
lone j below i = if i == j then below else replicate 32 0

-- The steps of the digest's definition.
use Rattle.std.proofs.Common.{◌≡◌, ℕ, zero, suc, ◌+◌, ◌≤◌, List, [], ◌∷◌, ◌++◌, length, refl, ap, ◌∙◌, arith, add-one, replicate}
use Rattle.sha2.specs.Sha256.{sha256}
use Rattle.spl_state.specs.{Entries.Entry, Root.leaf_of, Levels.{branch, children, node_of}}

pub children-zero : (g : List Entry → List ℕ) (k : ℕ) (es : List Entry) → children g k es 0 ≡ []
unfolding children
children-zero g k es = refl

pub children-more : (g : List Entry → List ℕ) (k : ℕ) (es : List Entry) (d : ℕ) → children g k es (d + 1) ≡ children g k es d ++ g (branch k d es)
unfolding children
children-more g k es d = rw add-one refl

pub node_of-none : (n k : ℕ) → node_of n k [] ≡ replicate 32 0
unfolding node_of
node_of-none zero k = refl
node_of-none (suc n) k = refl

pub node_of-one : (n k : ℕ) (e : Entry) → node_of n k (e ∷ []) ≡ leaf_of e
unfolding node_of
node_of-one zero k e = refl
node_of-one (suc n) k e = refl

many_inner : (n k : ℕ) (es : List Entry) → 2 ≤ length es → node_of (suc n) k es ≡ sha256 (1 ∷ children (node_of n (k + 1)) k es 16)
unfolding node_of
many_inner n k [] h = absurd (omega arith)
many_inner n k (e ∷ []) h = absurd (omega arith)
many_inner n k (e ∷ f ∷ es) h = refl

pub node_of-many : (m n k : ℕ) (es : List Entry) → m ≡ n + 1 → 2 ≤ length es → node_of m k es ≡ sha256 (1 ∷ children (node_of n (k + 1)) k es 16)
node_of-many m n k es e h = ap (λ q. node_of q k es) (e ∙ add-one n) ∙ many_inner n k es h

-- the digest of no entry, byte for byte
pub node_none : (n k : ℕ)
    → node_of n k [] ≡ 0 ∷ 0 ∷ 0 ∷ 0 ∷ 0 ∷ 0 ∷ 0 ∷ 0 ∷ 0 ∷ 0 ∷ 0 ∷ 0 ∷ 0 ∷ 0 ∷ 0 ∷ 0 ∷ 0 ∷ 0 ∷ 0 ∷ 0 ∷ 0 ∷ 0 ∷ 0 ∷ 0 ∷ 0 ∷ 0 ∷ 0 ∷ 0 ∷ 0 ∷ 0 ∷ 0 ∷ 0 ∷ []
node_none n k = node_of-none n k

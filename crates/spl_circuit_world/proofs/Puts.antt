-- Another thing at one node: there, at any other, and where it is what was there.
use Rattle.std.proofs.Common.{◌≡◌, ◌≢◌, ◌⊎◌, sym, subst, ◌∙◌, inl, inr}
use Rattle.spl_circuit.specs.{Nodes.NodeId, Same.node_same}
use Rattle.spl_circuit_world.{specs.Worlds.put_at, proofs.Nodes.{node_other, node_cases}}

pub put_at-same : {A : Type 0} (f : NodeId → A) (n : NodeId) (x : A) → put_at f n x n ≡ x
unfolding put_at
put_at-same f n x = rw (node_same n)

-- all others stay
pub put_at-other : {A : Type 0} (f : NodeId → A) (n : NodeId) (x : A) (k : NodeId) → k ≢ n → put_at f n x k ≡ f k
unfolding put_at
put_at-other f n x k d = rw (node_other k n d)

-- putting what is there changes nothing
pub put_at-still : {A : Type 0} (f : NodeId → A) (n : NodeId) (x : A) → x ≡ f n → (k : NodeId) → put_at f n x k ≡ f k
put_at-still {A} f n x e k = go (node_cases k n)
  where
    go : (k ≡ n) ⊎ (k ≢ n) → put_at f n x k ≡ f k
    go (inl q) = subst (λ (z : NodeId). put_at f n x z ≡ f z) (sym q) (put_at-same f n x ∙ e)
    go (inr q) = put_at-other f n x k q

-- What was sent on a pair of nodes, as more is sent.
use Rattle.std.{specs.Str.bytes_eq, proofs.Common.{◌≡◌, ◌⊎◌, true, false, ◌&&◌, List, [], ◌∷◌, ◌++◌, refl, ap, inl, inr}}
use Rattle.spl_agree.proofs.Tests.{bool_cases}
use Rattle.spl_circuit.specs.Nodes.{NodeId}
use Rattle.spl_circuit_world.specs.Worlds.{SentMessage, on_pair}

pub on_pair-append : (x y : NodeId) (xs ys : List SentMessage) → on_pair x y (xs ++ ys) ≡ on_pair x y xs ++ on_pair x y ys
on_pair-append x y [] ys = refl
on_pair-append x y (s ∷ ss) ys = go (bool_cases (bytes_eq s.from x && bytes_eq s.to y)) (on_pair-append x y ss ys)
  where
    go : ((bytes_eq s.from x && bytes_eq s.to y) ≡ true) ⊎ ((bytes_eq s.from x && bytes_eq s.to y) ≡ false)
        → on_pair x y (ss ++ ys) ≡ on_pair x y ss ++ on_pair x y ys
        → on_pair x y ((s ∷ ss) ++ ys) ≡ on_pair x y (s ∷ ss) ++ on_pair x y ys
    go (inl q) hyp = rw q (ap (λ z. s.message ∷ z) hyp)
    go (inr q) hyp = rw q hyp

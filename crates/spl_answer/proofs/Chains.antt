-- Texts appended one after the other.
use Rattle.std.proofs.Common.{◌≡◌, ℕ, List, ◌++◌, append_assoc}

pub six : (u v w x y z all a b c d e f : List ℕ) → v ≡ u ++ a → w ≡ v ++ b → x ≡ w ++ c → y ≡ x ++ d → z ≡ y ++ e → all ≡ z ++ f
    → all ≡ u ++ (a ++ b ++ c ++ d ++ e ++ f)
six u v w x y z all a b c d e f h1 h2 h3 h4 h5 h6 = rw (h6, h5, h4, h3, h2, h1) (simp append_assoc)

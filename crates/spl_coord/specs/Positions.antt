-- A set of positions, kept as the bits of a byte and seen as a list.
use Rattle.std.specs.{Prelude.{ℕ, List, [], ◌∷◌, ◌==◌}, List.filter, Int.bit_at}

-- the positions whose bits are set, in order
abbrev pub positions : ℕ → List ℕ
positions bits = filter (λ i. bit_at bits i == 1) (0 ∷ 1 ∷ 2 ∷ 3 ∷ 4 ∷ 5 ∷ 6 ∷ 7 ∷ [])

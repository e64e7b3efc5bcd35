-- Cells of a table.
use Rattle.std.specs.Prelude.{ℕ, ◌-◌, List, ◌∷◌, ◌++◌, [], length, replicate}

-- a text, spaces up to the width of its column, and one more
abbrev pub cell : ℕ → List ℕ → List ℕ
cell width text = text ++ (replicate (width - length text) 32 ++ (32 ∷ []))

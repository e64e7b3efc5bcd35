-- Vectors of words, which have a lane for each message.
use Rattle.std.specs.Prelude.{ℕ, List, map, slice_index}

-- one message's words
abbrev pub lane : ℕ → List (List ℕ) → List ℕ
lane j x = map (λ v. slice_index v j) x

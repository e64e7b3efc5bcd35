-- The texts of answers about nodes (docs/RULES.md, Answers).
use Rattle.std.specs.Prelude.{ℕ, Bool, List, ◌++◌, length, if◌then◌else◌, codes, decimal}
use Rattle.spl_answer.specs.Batches.{spaced}

abbrev pub power_text : Bool → List ℕ
power_text up = if up then codes "ok up" else codes "ok down"

abbrev pub roll_text : List (List ℕ) → List ℕ
roll_text ids = codes "ok roll " ++ (decimal (length ids) ++ spaced (λ c. c) ids)

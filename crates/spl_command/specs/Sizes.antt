-- A length as the code counts it.
use Rattle.std.specs.Prelude.{ℕ, ◌-◌, ◌^◌, min}

-- the greatest number stands for all above it
abbrev pub capped : ℕ → ℕ
capped n = min n (2 ^ 64 - 1)

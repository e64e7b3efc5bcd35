-- The numbers that a schedule is made from (docs/RULES.md, Generated schedules).
use Rattle.std.specs.Prelude.{ℕ, ◌+◌, ◌*◌, ◌/◌, ◌%◌, ◌^◌}

-- the generator's state after a draw
unfoldable pub next_state : ℕ → ℕ
next_state x = (x * 6364136223846793005 + 1442695040888963407) % 2 ^ 64

-- what a draw gives
unfoldable pub draw : ℕ → ℕ
draw x = next_state x / 2 ^ 33

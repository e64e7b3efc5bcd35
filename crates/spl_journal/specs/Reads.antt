-- What is read of a journal.
use Rattle.std.specs.Prelude.{◌≡◌, ◌≢◌, ◌≤◌, ◌<◌, ◌+◌, ℕ, List, length, take, drop, get_or, Bool}
use Rattle.spl_edge.specs.Devices.{Image, SamePast, DiskView, image_now}
use Rattle.spl_journal.specs.Records.{block, IsRecord}

-- what was reported before stays reported, and at each moment since x the disk held what it held then
pub record Stays (x y : DiskView) : Type 0 where
  pub past : SamePast x y
  pub still : (k : ℕ) → x.moment ≤ k → k ≤ y.moment → y.image_at k ≡ image_now x
  pub later : x.moment ≤ y.moment

-- a whole record of at most so many bytes stands after the gate at this place, and another gate after it
pub record IsNext (longest : ℕ) (fits : List ℕ → Bool) (at : ℕ) (r bytes : List ℕ) : Type 0 where
  pub good : IsRecord longest fits r
  pub block_is : take (5 + length r) (drop at bytes) ≡ block r
  pub room : at + 5 + length r < length bytes

-- the gate at this place isn't open
abbrev pub EndsAt : ℕ → Image → Type 0
EndsAt at i = at < length i.bytes → get_or i.bytes at 0 ≢ 1

-- The changes of a disk in memory.
use Rattle.std.specs.Prelude.{ℕ, List}
use Rattle.spl_edge.specs.declared.{disk.Arming.Arming, fill.Fill.Fill}

-- a write of bytes at an offset, a cut to a length, a sync, or a pick
pub data Change : Type 0 where
  Wrote : (at : ℕ) (bytes : List ℕ) → Change
  Cut : (len : ℕ) → Change
  Synced : Change
  Picked : Fill → Arming → (faults : ℕ) → Change

-- a change, and the moment after it
pub record Call : Type 0 where
  pub moment : ℕ
  pub change : Change

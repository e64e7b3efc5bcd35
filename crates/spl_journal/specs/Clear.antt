-- A disk cut short, and a closed head written on it.
use Rattle.std.specs.Prelude.{◌≡◌, ◌⊎◌, ◌<◌, ◌≤◌, ℕ, zero, suc, List, length, take}
use Rattle.spl_edge.specs.Devices.{Image, IsSettled, after_write, after_cut, after_sync, settled_at}
use Rattle.spl_journal.specs.Records.{closed_prefix}

-- it has so many bytes, and nothing is pending
pub record IsAtRest (len : ℕ) (i : Image) : Type 0 where
  pub long : len ≡ length i.bytes
  pub settled : IsSettled i

-- fewer than 18 bytes, or the first 17 of these and no more bytes
abbrev pub IsShortOrSame : List ℕ → List ℕ → Type 0
IsShortOrSame bytes c = (length c < 18) ⊎ ((take 17 c ≡ take 17 bytes) × (length c ≤ length bytes))

-- what so many calls that succeed make of it
abbrev pub cleared : ℕ → List ℕ → ℕ → Image → Image
cleared n head zero i = i
cleared n head (suc zero) i = after_cut n i
cleared n head (suc (suc zero)) i = after_sync (after_cut n i)
cleared n head (suc (suc (suc zero))) i = after_write 0 head (after_sync (after_cut n i))
cleared n head (suc (suc (suc (suc m)))) i = after_sync (after_write 0 head (after_sync (after_cut n i)))

-- it holds the closed head of this epoch alone, and nothing is pending
abbrev pub IsCleared : ℕ → Image → Type 0
IsCleared epoch i = i ≡ settled_at (closed_prefix epoch)

-- Bytes after a closed gate, which is then opened.
use Rattle.std.specs.{Prelude.{◌≡◌, ◌⊎◌, ◌≤◌, ◌<◌, ◌+◌, ℕ, zero, suc, List, [], ◌∷◌, length, take, Option, IfSome, IsTrue}, Option.option_map}
use Rattle.spl_edge.specs.Devices.{Image, IsSettled, MayLeave, patched, after_write, after_sync, fails_at, IsArmed, DiskView, image_now}
use Rattle.spl_edge.specs.declared.disk.Armed.{Armed}

-- nothing is pending, and the disk has this place
pub record IsReady (gate : ℕ) (i : Image) : Type 0 where
  pub settled : IsSettled i
  pub within : gate < length i.bytes

-- a crash at any of the moments from the first to the last leaves what has P
abbrev pub LeavesBetween : (ℕ → Option Image) → ℕ → ℕ → (List ℕ → Type 0) → Type 0
LeavesBetween at first last P = (k : ℕ) → first ≤ k → k ≤ last → IfSome (at k) (λ i. (c : List ℕ) → MayLeave i c → P c)

-- so it did while a disk went from x to y
abbrev pub LeavesSince : DiskView → DiskView → (List ℕ → Type 0) → Type 0
LeavesSince x y P = LeavesBetween y.image_at x.moment y.moment P

-- the piece stands after the gate, which has this byte
abbrev pub after : ℕ → List ℕ → List ℕ → ℕ → List ℕ
after gate piece bytes byte = patched (patched bytes (gate + 1) piece) gate (byte ∷ [])

-- a crash left all as it was up to the gate, or the whole piece after it
pub record IsUpToGate (gate : ℕ) (bytes c : List ℕ) : Type 0 where
  pub same : take (gate + 1) c ≡ take (gate + 1) bytes
  pub within : gate < length c

abbrev pub IsAfterGate : ℕ → List ℕ → List ℕ → List ℕ → Type 0
IsAfterGate gate piece bytes c = IsUpToGate gate bytes c ⊎ ((byte : ℕ) × (c ≡ after gate piece bytes byte))

-- what so many calls that succeed make of it
abbrev pub opened : ℕ → List ℕ → ℕ → Image → Image
opened gate piece zero i = i
opened gate piece (suc zero) i = after_write (gate + 1) piece i
opened gate piece (suc (suc zero)) i = after_sync (after_write (gate + 1) piece i)
opened gate piece (suc (suc (suc zero))) i = after_write gate (1 ∷ []) (after_sync (after_write (gate + 1) piece i))
opened gate piece (suc (suc (suc (suc n)))) i = after_sync (after_write gate (1 ∷ []) (after_sync (after_write (gate + 1) piece i)))

-- one of so many calls from this moment on is one that the arming names
abbrev pub NamesOne : Armed → ℕ → ℕ → Type 0
NamesOne armed first most = (j : ℕ) × (j < most) × IsTrue (fails_at armed (first + j))

-- of so many calls at most that took a disk from x to y, some succeeded, each leaving what f has for it, and at most one
-- failed after them, which is the one that the arming names where it is armed
pub record ByCalls (most : ℕ) (x y : DiskView) (f : ℕ → Image → Image) (ok failed : Type 0) : Type 0 where
  pub calls : ℕ
  pub at_most : calls ≤ most
  pub stands : y.image_at (x.moment + calls) ≡ option_map (f calls) (image_now x)
  pub last : y.moment ≤ x.moment + calls + 1
  pub passed : (j : ℕ) → j < calls → IsTrue (fails_at x.armed (x.moment + j)) → ⊥
  pub still : IsTrue (fails_at x.armed (x.moment + calls)) → image_now y ≡ y.image_at (x.moment + calls)
  pub named : failed → IsArmed x.armed → IsTrue (fails_at x.armed (x.moment + calls))
  pub whole : ok → calls ≡ most
  pub fewer : failed → calls < most

-- What two disks keep of an append, or of a checkpoint, that stopped.
use Rattle.std.specs.Prelude.{◌≡◌, ◌⊎◌, ◌+◌, ◌-◌, ℕ, List, Bool, false, IsTrue, if◌then◌else◌}
use Rattle.spl_edge.specs.{Devices.{fails_at, Image, MayLeave, picked_bytes, PairView, image_now}, declared.{disk.Armed.Armed, fill.Fill.Fill}}
use Rattle.spl_journal.specs.{Gate.opened, Records.{is_open, epoch_in, is_kept}}
use Rattle.spl_snapshot.specs.Counting.{second_counts, IfBoth}

-- what a fill picks of the disk that counts, after so many calls that succeeded; the other is as it was
abbrev pub kept_on : Bool → Fill → ℕ → List ℕ → ℕ → Image → List ℕ
kept_on counts fill gate piece calls i = if counts then picked_bytes fill (opened gate piece calls i) else i.bytes

-- ---- a checkpoint

-- the head isn't open, or is the one of these bytes
abbrev pub IsShutOrSame : List ℕ → List ℕ → Type 0
IsShutOrSame bytes c = (is_open c ≡ false) ⊎ ((is_open c ≡ is_open bytes) × (epoch_in c ≡ epoch_in bytes))

-- the arming names one of the calls of a checkpoint, from this moment on, after which this fill doesn't leave its head open: the
-- last four of the eight open it
pub record StopsShut (fill : Fill) (armed : Armed) (moment : ℕ) : Type 0 where
  pub calls : ℕ
  pub named : IsTrue (fails_at armed (moment + calls))
  pub shut : is_kept (calls - 4) fill ≡ false

-- of what this fill picks of two disks the second counts exactly where this is true
abbrev pub PicksCount : Fill → Bool → Image → Image → Type 0
PicksCount fill second i j =
    MayLeave i (picked_bytes fill i) → MayLeave j (picked_bytes fill j) → second_counts (picked_bytes fill i) (picked_bytes fill j) ≡ second

-- so it does of two disks that reported before
abbrev pub PairPicksCount : PairView → PairView → Fill → Bool → Type 0
PairPicksCount p q fill second =
    IfBoth (image_now p.first) (image_now p.second) (λ i j. IfBoth (image_now q.first) (image_now q.second) (PicksCount fill second))

-- What the pairs of disks of nodes hold, and how they go on (docs/RULES.md, Journals).
use Rattle.std.specs.Prelude.{Err, IfSome, IsOk, List, None, Option, Some, [], length, map, slice_get, ℕ, ◌<◌, ◌≡◌, ◌≤◌, ◌∷◌}
use Rattle.spl_node.specs.Stands.{BothTell, disk_records}
use Rattle.spl_edge.specs.{Devices.{DiskView, Image, IsSettled, PairView, Picked, image_now}, declared.{bench.Pair.Pair, disk.Arming.TheVariants.Off}}
use Rattle.spl_snapshot.specs.Counting.{HasRisen, IfBoth, PairOnward, TellsAs}
use Rattle.spl_journal.specs.Records.{IsBlank}

-- what the two disks of a node hold now, where they report
abbrev pub Images : Type 0
Images = Option Image × Option Image

abbrev pub images_of : {D : Type 0} → (D → DiskView) → Pair D → Images
images_of view p = (image_now (view p.first), image_now (view p.second))

-- what each pair holds
abbrev pub images : {D : Type 0} → (D → DiskView) → List (Pair D) → List Images
images view ps = map (images_of view) ps

-- what the disks of a pair hold now
abbrev pub images_now : PairView → Images
images_now p = (image_now p.first, image_now p.second)

abbrev pub images_or_none : Option Images → Images
images_or_none None = (None, None)
images_or_none (Some is) = is

-- the pair at a position
abbrev pub images_at : List Images → ℕ → Images
images_at is i = images_or_none (slice_get is i)

-- both disks of a node say what they hold
abbrev pub Tell : Images → Type 0
Tell is = BothTell is.0 is.1

-- so do those of each of the first so many pairs
abbrev pub AllTell : ℕ → List Images → Type 0
AllTell n is = (i : ℕ) → i < n → Tell (images_at is i)

-- each of the two reports exactly where it did
abbrev pub TellAs : Images → Images → Type 0
TellAs old new = TellsAs old.0 new.0 × TellsAs old.1 new.1

-- both disks are blank, where they report
pub record AreBlank (is : Images) : Type 0 where
  pub first : IfSome is.0 IsBlank
  pub second : IfSome is.1 IsBlank

-- nothing is pending on two disks, where they report
pub record AreSettled (is : Images) : Type 0 where
  pub first : IfSome is.0 IsSettled
  pub second : IfSome is.1 IsSettled

-- two disks are blank or a journal
abbrev pub AreReadable : Images → Type 0
AreReadable is = IfBoth is.0 is.1 (λ i j. IsOk (disk_records i.bytes j.bytes))

-- they hold bytes, which are no journal at this place
abbrev pub IsUnread : ℕ → Images → Type 0
IsUnread at is = IfBoth is.0 is.1 (λ i j. disk_records i.bytes j.bytes ≡ Err at)

-- the first n pairs can be read
abbrev pub AllReadableTo : ℕ → List Images → Type 0
AllReadableTo n is = (k : ℕ) → k < n → AreReadable (images_at is k)

-- all pairs went on: nothing of the past of a disk changed, no fault is forgotten, and none was armed or picked from
pub record AllGoOn (old new : List PairView) : Type 0 where
  pub as_many : length new ≡ length old
  pub each : (i : ℕ) (p q : PairView) → slice_get old i ≡ Some p → slice_get new i ≡ Some q → PairOnward p q

-- a disk of the pair at this position has failed more often
pub record RoseAt (i : ℕ) (old new : List PairView) : Type 0 where
  pub below : i < length old
  pub rose : (p q : PairView) → slice_get old i ≡ Some p → slice_get new i ≡ Some q → HasRisen p q

abbrev pub IsUnarmed : DiskView → Type 0
IsUnarmed d = d.armed.arming ≡ Off

-- no fault of a disk is forgotten
pub record NoneForgotten (old new : List PairView) : Type 0 where
  pub as_many : length new ≡ length old
  pub first : (i : ℕ) (p q : PairView) → slice_get old i ≡ Some p → slice_get new i ≡ Some q → p.first.faults ≤ q.first.faults
  pub second : (i : ℕ) (p q : PairView) → slice_get old i ≡ Some p → slice_get new i ≡ Some q → p.second.faults ≤ q.second.faults

abbrev pub IsPairUnarmed : PairView → Type 0
IsPairUnarmed p = IsUnarmed p.first × IsUnarmed p.second

-- no disk is armed
abbrev pub AllUnarmed : List PairView → Type 0
AllUnarmed ps = (i : ℕ) (p : PairView) → slice_get ps i ≡ Some p → IsPairUnarmed p

-- a disk from which nothing was picked, and that isn't armed
pub record IsUnpicked (d : DiskView) : Type 0 where
  pub picks : d.picks ≡ []
  pub off : IsUnarmed d

pub record AreUnpicked (p : PairView) : Type 0 where
  pub first : IsUnpicked p.first
  pub second : IsUnpicked p.second

abbrev pub AllUnpicked : List PairView → Type 0
AllUnpicked ps = (i : ℕ) (p : PairView) → slice_get ps i ≡ Some p → AreUnpicked p

-- the count that a disk kept with its last pick, or this one where it picked nothing
abbrev pub last_count : ℕ → List Picked → ℕ
last_count count [] = count
last_count count (p ∷ ps) = last_count p.faults ps

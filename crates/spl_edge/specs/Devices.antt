-- What devices report, what a stop may leave of a disk, and why a call fails (docs/RULES.md, Disks, Links).
use Rattle.std.specs.Prelude.{◌≡◌, ◌⊎◌, ◌<◌, ◌≤◌, ◌+◌, ℕ, min, max, List, [], ◌∷◌, ◌++◌, length, get_or, take, drop, replicate, Option, Some, None, ◌-◌, ◌^◌}
use Rattle.std.specs.{Prelude.{Result, Ok, Err, IsErrOf, IfSome, Bool, false, ◌==◌, nat_le, IsTrue, IsSomeAnd, OnOk, OnErr}, Io.KnownBytes.Appends}
use Rattle.std.specs.Option.{option_map}
use Rattle.spl_edge.specs.declared.{bench.Pair.Pair, disk.{Armed.Armed, Arming.{Arming, TheVariants.{Off, After, At}}}, fault.DeviceError.DeviceError}
use Rattle.spl_edge.specs.declared.{fault.DeviceError.TheVariants.Failed, fill.Fill.{Fill, TheVariants.{Old, New, Byte}}}

-- What a read gives, and what it gave at the last sync. Since then: the offset and the number of bytes of each
-- write, the oldest first (a cut touches none), and the least and the greatest length.
pub record Image : Type 0 where
  pub bytes : List ℕ
  pub synced : List ℕ
  pub touched : List (ℕ × ℕ)
  pub least : ℕ
  pub greatest : ℕ

-- these bytes at this offset
abbrev pub patched : List ℕ → ℕ → List ℕ → List ℕ
patched old at bytes = take at old ++ bytes ++ drop (at + length bytes) old

-- no range has this place
abbrev pub IsOutside : ℕ → List (ℕ × ℕ) → Type 0
IsOutside k [] = Unit {0}
IsOutside k (range ∷ ranges) = ((k < range.0) ⊎ (range.0 + range.1 ≤ k)) × IsOutside k ranges

-- a crash may leave these bytes: any in what was written and past the old end, the same elsewhere
pub record MayLeave (i : Image) (c : List ℕ) : Type 0 where
  pub no_shorter : i.least ≤ length c
  pub no_longer : length c ≤ i.greatest
  pub same : (k : ℕ) → k < length c → k < length i.synced → IsOutside k i.touched → get_or c k 0 ≡ get_or i.synced k 0

-- what a write, a cut and a sync that succeed make of it
abbrev pub after_write : ℕ → List ℕ → Image → Image
after_write at bytes i =
    record {
      bytes = patched i.bytes at bytes;
      synced = i.synced;
      touched = i.touched ++ (at, length bytes) ∷ [];
      least = i.least;
      greatest = max i.greatest (at + length bytes);
    }

abbrev pub after_cut : ℕ → Image → Image
after_cut n i = record { bytes = take n i.bytes; synced = i.synced; touched = i.touched ++ (n, 0) ∷ []; least = min i.least n; greatest = i.greatest }

abbrev pub after_sync : Image → Image
after_sync i = record { bytes = i.bytes; synced = i.bytes; touched = []; least = length i.bytes; greatest = length i.bytes }

-- these bytes, with nothing pending
abbrev pub settled_at : List ℕ → Image
settled_at bytes = record { bytes = bytes; synced = bytes; touched = []; least = length bytes; greatest = length bytes }

-- nothing is pending
pub record IsSettled (i : Image) : Type 0 where
  pub same : i.synced ≡ i.bytes
  pub none : i.touched ≡ []
  pub least : i.least ≡ length i.bytes
  pub greatest : i.greatest ≡ length i.bytes

pub record Picked : Type 0 where
  pub image : List ℕ
  pub fill : Fill
  pub arming : Arming
  pub faults : ℕ

-- these bytes with b in every byte of a range
abbrev pub painted : ℕ → ℕ × ℕ → List ℕ → List ℕ
painted b range bytes = take (length bytes) (patched bytes range.0 (replicate range.1 b))

-- and of each of these ranges
abbrev pub filled : ℕ → List (ℕ × ℕ) → List ℕ → List ℕ
filled b [] bytes = bytes
filled b (range ∷ ranges) bytes = filled b ranges (painted b range bytes)

abbrev pub picked_bytes : Fill → Image → List ℕ
picked_bytes Old i = i.synced
picked_bytes New i = i.bytes
picked_bytes (Byte b) i = filled b i.touched i.bytes

abbrev pub picked_of : Fill → Arming → ℕ → Image → Picked
picked_of fill arming faults i = record { image = picked_bytes fill i; fill = fill; arming = arming; faults = faults }

-- one pick more, of an image that a crash may leave, and the disk holds it
pub record Picks (fill : Fill) (arming : Arming) (faults : ℕ) (before after : List Picked) (old new : Option Image) : Type 0 where
  pub image : Image
  pub told : old ≡ Some image
  pub allowed : MayLeave image (picked_bytes fill image)
  pub holds : new ≡ Some (settled_at (picked_bytes fill image))
  pub kept : after ≡ before ++ picked_of fill arming faults image ∷ []

-- a disk
pub record DiskView : Type 0 where
  -- what it held at each moment so far, where the object reports
  pub image_at : ℕ → Option Image
  -- how many calls it has had; the count stops at 2^64 - 1
  pub moment : ℕ
  -- how often it has failed
  pub faults : ℕ
  -- which of the calls to come fail because it is made to stop
  pub armed : Armed
  -- the images that were picked so far, the oldest first
  pub picks : List Picked

-- what a disk holds now, where it reports
abbrev pub image_now : DiskView → Option Image
image_now x = x.image_at x.moment

-- a disk that doesn't say what it holds, and is never made to stop
abbrev pub untold_disk : ℕ → ℕ → DiskView
untold_disk moment faults = record { image_at = λ t. None; moment = moment; faults = faults; armed = record { arming = Off; since = 0 }; picks = [] }

-- the two disks of a node
pub record PairView : Type 0 where
  pub first : DiskView
  pub second : DiskView

abbrev pub pair_view : {D : Type 0} → (D → DiskView) → Pair D → PairView
pair_view view p = record { first = view p.first; second = view p.second }

-- each pair of disks
abbrev pub bench : {D : Type 0} → (D → DiskView) → List (Pair D) → List PairView
bench view [] = []
bench view (p ∷ ps) = pair_view view p ∷ bench view ps

-- a source
pub record SourceView : Type 0 where
  -- all bytes that it gave so far
  pub gave : List ℕ
  -- the bytes that are left, where the object reports
  pub left : Option (List ℕ)
  -- how often it has failed
  pub faults : ℕ

-- a sink
pub record SinkView : Type 0 where
  -- the bytes that were written so far, where the object reports
  pub written : Option (List ℕ)
  -- how often it has failed
  pub faults : ℕ

-- the bytes on each pair of nodes, from the one to the other, where they are reported
abbrev pub Streams : Type 0
Streams = ℕ → ℕ → Option (List ℕ)

-- a fabric
pub record FabricView : Type 0 where
  -- the bytes that were put so far
  pub put : Streams
  -- the bytes that were taken so far
  pub taken : Streams
  -- how often it has failed
  pub faults : ℕ

-- a fabric that doesn't say what was put and taken
abbrev pub untold_fabric : ℕ → FabricView
untold_fabric faults = record { put = λ from to. None; taken = λ from to. None; faults = faults }

-- one more, in a count of 64 bits that stops at its end
abbrev pub next : ℕ → ℕ
next count = min (count + 1) (2 ^ 64 - 1)

-- a count is above what it was
abbrev pub Rose : ℕ → ℕ → Type 0
Rose before now = before < now

-- a count has not fallen, and `Failed` is reported only where it rose
pub record HasCause {T : Type 0} (before now : ℕ) (result : Result T DeviceError) : Type 0 where
  pub later : before ≤ now
  pub failed : IsErrOf result Failed → Rose before now

-- the bytes of a buffer that a call moved: none where it failed
abbrev pub moved_by : {E : Type 0} → Result ℕ E → List ℕ → List ℕ
moved_by (Ok n) buf = take n buf
moved_by (Err e) buf = []

-- known bytes grow by some prefix of these
abbrev pub AppendsPart : Option (List ℕ) → Option (List ℕ) → List ℕ → Type 0
AppendsPart old new all = (done : List ℕ) × (more : List ℕ) × (all ≡ done ++ more) × Appends old new done

-- as many bytes were taken as were put, where both are reported
abbrev pub AreTaken : Option (List ℕ) → Option (List ℕ) → Type 0
AreTaken put taken = IfSome put (λ p. IfSome taken (λ t. length t ≡ length p))

-- fewer bytes were taken than were put, where both are reported
abbrev pub AreLeft : Option (List ℕ) → Option (List ℕ) → Type 0
AreLeft put taken = IfSome put (λ p. IfSome taken (λ t. length t < length p))

-- it isn't this pair of nodes
abbrev pub IsOtherPair : ℕ → ℕ → ℕ → ℕ → Type 0
IsOtherPair a b from to = a ≡ from → b ≡ to → ⊥

-- what was taken from each node to each is a prefix of what was put
abbrev pub IsHonest : (ℕ → ℕ → Option (List ℕ)) → (ℕ → ℕ → Option (List ℕ)) → Type 0
IsHonest put taken = (from to : ℕ) → IfSome (put from to) (λ p. IfSome (taken from to) (λ t. t ≡ take (length t) p))

abbrev pub armed_with : Arming → ℕ → Armed
armed_with arming since = record { arming = arming; since = since }

-- after so many calls since the arming, the call that comes now fails
abbrev pub is_due : Arming → ℕ → Bool
is_due Off passed = false
is_due (After k) passed = nat_le k passed
is_due (At k) passed = passed + 1 == k

-- the call from this moment on fails
abbrev pub fails_at : Armed → ℕ → Bool
fails_at armed moment = is_due armed.arming (moment - armed.since)

-- the call that a disk gets now fails
abbrev pub fails_now : DiskView → Bool
fails_now x = fails_at x.armed x.moment

abbrev pub IsArmed : Armed → Type 0
IsArmed armed = armed.arming ≡ Off → ⊥

-- One call has passed: its moment and its cause. A call that the arming names doesn't succeed, and it fails unless the
-- count of faults has no room for that.
pub record Passes {T : Type 0} (before now : ℕ) (faults later_faults : ℕ) (armed : Armed) (result : Result T DeviceError) : Type 0 where
  pub tick : OnOk result (now ≡ before + 1)
  pub any_tick : now ≡ next before
  pub later : before ≤ now
  pub no_less : faults ≤ later_faults
  pub failed : IsErrOf result Failed → Rose faults later_faults
  pub stopped : IsTrue (fails_at armed before) → OnOk result ⊥
  pub told : IsTrue (fails_at armed before) → faults < 2 ^ 64 - 1 → IsErrOf result Failed
  pub named : IsErrOf result Failed → IsArmed armed → IsTrue (fails_at armed before)

-- so it did of a disk
abbrev pub IsCall : {T : Type 0} → DiskView → DiskView → Result T DeviceError → Type 0
IsCall x y result = Passes x.moment y.moment x.faults y.faults x.armed result

-- each earlier moment is as it was
abbrev pub SamePast : DiskView → DiskView → Type 0
SamePast x y = (t : ℕ) → t ≤ x.moment → y.image_at t ≡ x.image_at t

-- a disk went on: earlier moments are as they were, no count fell, and it is armed and has picked as before
pub record Onward (x y : DiskView) : Type 0 where
  pub past : SamePast x y
  pub later : x.moment ≤ y.moment
  pub no_less : x.faults ≤ y.faults
  pub armed : y.armed ≡ x.armed
  pub picks : y.picks ≡ x.picks

-- where it reports: at Ok the change is made, and at Err something that may have been done of it; nothing, where the arming names the call
pub record Changes {T : Type 0} (armed : Bool) (result : Result T DeviceError) (f : Image → Image) (Part : Image → Image → Type 0)
    (old new : Option Image) : Type 0 where
  pub done : OnOk result (new ≡ option_map f old)
  pub stopped : IsTrue armed → new ≡ old
  pub part : OnErr result ((new ≡ old) ⊎ IsSomeAnd old (λ i. (j : Image) × (new ≡ Some j) × Part i j))

-- what a write of n bytes that fails may have done: any bytes in its range and past the old end
pub record PartOfWrite (at n : ℕ) (i j : Image) : Type 0 where
  pub before : take at j.bytes ≡ take at i.bytes
  pub after : drop (at + n) j.bytes ≡ drop (at + n) i.bytes
  pub no_shorter : length i.bytes ≤ length j.bytes
  pub no_longer : length j.bytes ≤ max (length i.bytes) (at + n)
  pub synced : j.synced ≡ i.synced
  pub touched : j.touched ≡ i.touched ++ (at, n) ∷ []
  pub least : j.least ≡ i.least
  pub greatest : j.greatest ≡ max i.greatest (at + n)

-- what a cut that fails may have done: some length between
pub record PartOfCut (n : ℕ) (i j : Image) : Type 0 where
  pub no_shorter : n ≤ length j.bytes
  pub prefix : j.bytes ≡ take (length j.bytes) i.bytes
  pub synced : j.synced ≡ i.synced
  pub touched : j.touched ≡ i.touched ++ (n, 0) ∷ []
  pub least : j.least ≡ min i.least n
  pub greatest : j.greatest ≡ i.greatest

-- The changes of a disk in memory, done again and taken back.
use Rattle.std.specs.Prelude.{◌≡◌, ◌<◌, ◌≤◌, ℕ, List, [], ◌∷◌, ◌++◌, Bool, true, nat_le, ◌&&◌, if◌then◌else◌, length, map}
use Rattle.spl_edge.specs.Devices.{Image, MayLeave, after_write, after_cut, after_sync, settled_at, Picked, picked_of, picked_bytes, filled}
use Rattle.spl_edge.specs.declared.fill.Fill.{Fill, TheVariants.{Old, New, Byte}}
use Rattle.spl_memory.specs.{Changes.{Change, Wrote, Cut, Synced, Picked as MadePick, Call}, Marks.{marks_undone, range_of}, declared.marks.Mark.Mark}

abbrev pub after_change : Change → Image → Image
after_change (Wrote at bytes) i = after_write at bytes i
after_change (Cut n) i = after_cut n i
after_change Synced i = after_sync i
after_change (MadePick fill arming faults) i = settled_at (picked_bytes fill i)

abbrev pub replayed : Image → List Call → Image
replayed i [] = i
replayed i (c ∷ calls) = replayed (after_change c.change i) calls

abbrev pub kept_by : Change → Image → List Picked
kept_by (Wrote at bytes) i = []
kept_by (Cut n) i = []
kept_by Synced i = []
kept_by (MadePick fill arming faults) i = picked_of fill arming faults i ∷ []

-- the picks among them
abbrev pub picks_of : Image → List Call → List Picked
picks_of i [] = []
picks_of i (c ∷ calls) = kept_by c.change i ++ picks_of (after_change c.change i) calls

-- the changes up to a moment
abbrev pub until : ℕ → List Call → List Call
until k [] = []
until k (c ∷ calls) = if nat_le c.moment k then c ∷ until k calls else until k calls

-- all changes are at this moment or before
abbrev pub all_until : ℕ → List Call → Bool
all_until k [] = true
all_until k (c ∷ calls) = nat_le c.moment k && all_until k calls

-- a change was added at this moment
pub record Pushed (moment : ℕ) (f : Image → Image) (kept : Image → List Picked) (old new : List Call) : Type 0 where
  pub step : (i : Image) → replayed i new ≡ f (replayed i old)
  pub past : (t : ℕ) → t < moment → until t new ≡ until t old
  pub all : (m : ℕ) → m < moment → all_until m old ≡ true → all_until moment new ≡ true
  pub picks : (i : Image) → picks_of i new ≡ picks_of i old ++ kept (replayed i old)

-- what a pick makes of the bytes
abbrev pub filled_in : Fill → List Mark → List ℕ → List ℕ
filled_in Old undo bytes = marks_undone undo bytes
filled_in New undo bytes = bytes
filled_in (Byte b) undo bytes = filled b (map range_of undo) bytes

-- each image that can be picked is one that a crash may leave
pub record IsImageSound (i : Image) : Type 0 where
  pub old_least : i.least ≤ length i.synced
  pub old_greatest : length i.synced ≤ i.greatest
  pub new : MayLeave i i.bytes

-- the bytes, and what undoes the changes since the last sync, are those of the changes so far
pub record IsReplayHeld (first : Image) (calls : List Call) (bytes : List ℕ) (undo : List Mark) : Type 0 where
  pub bytes_are : bytes ≡ (replayed first calls).bytes
  pub undoes : marks_undone undo bytes ≡ (replayed first calls).synced
  pub ranges : map range_of undo ≡ (replayed first calls).touched
  pub sound : IsImageSound (replayed first calls)

-- Bytes, and the changes that made them.
use Rattle.std.specs.Prelude.{◌≡◌, ℕ, List, [], ◌∷◌, ◌++◌, drop}
use Rattle.spl_edge.specs.Devices.{Image}
use Rattle.spl_memory.specs.{Changes.{Change, Call}, Marks.{was, change_of, calls_of, range_of}, Replay.IsReplayHeld, declared.history.History.History}
use Rattle.spl_memory.specs.declared.marks.Mark.{Mark}

-- the changes so far
abbrev pub calls_in : History → List Call
calls_in h = calls_of h.marks.items h.bytes.items

-- the marks since the last sync or pick
abbrev pub pending : History → List Mark
pending h = drop h.since h.marks.items

-- the bytes are those of its changes
abbrev pub IsHeldBy : Image → History → Type 0
IsHeldBy first h = IsReplayHeld first (calls_in h) h.bytes.items (pending h)

-- it says the same
pub record IsSameHistory (old new : History) : Type 0 where
  pub bytes : new.bytes.items ≡ old.bytes.items
  pub marks : new.marks.items ≡ old.marks.items
  pub since : new.since ≡ old.since

-- a mark was added, by which the bytes after give those before and the change, of this range
pub record Gained (t : ℕ) (made : Change) (written : ℕ × ℕ) (old new : History) : Type 0 where
  pub mark : Mark
  pub marks : new.marks.items ≡ old.marks.items ++ mark ∷ []
  pub since : new.since ≡ old.since
  pub moment : mark.moment ≡ t
  pub change : change_of mark.kind new.bytes.items ≡ made
  pub before : was mark.kind new.bytes.items ≡ old.bytes.items
  pub range : range_of mark ≡ written

-- Streams of bytes between nodes in memory.
use Rattle.std.specs.Prelude.{ℕ, ◌+◌, ◌*◌, List, [], take, slice_get, Option, None, Some}
use Rattle.spl_memory.specs.declared.lane.Lane.{Lane}

-- the bytes put on a lane, and those taken
abbrev pub lane_put : Lane → List ℕ
lane_put l = l.put.items

abbrev pub lane_taken : Lane → List ℕ
lane_taken l = take l.taken l.put.items

-- the same of a lane that may not be there yet
abbrev pub put_if : Option Lane → List ℕ
put_if None = []
put_if (Some l) = lane_put l

abbrev pub taken_if : Option Lane → List ℕ
taken_if None = []
taken_if (Some l) = lane_taken l

abbrev pub put_in : List Lane → ℕ → List ℕ
put_in lanes k = put_if (slice_get lanes k)

abbrev pub taken_in : List Lane → ℕ → List ℕ
taken_in lanes k = taken_if (slice_get lanes k)

-- the lane from one node to another
abbrev pub lane_from : ℕ → ℕ → ℕ
lane_from from to = from * 256 + to

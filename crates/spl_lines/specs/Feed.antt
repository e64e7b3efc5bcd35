-- What a feed has read of a source and not given yet, and the lines that it gave (docs/RULES.md, Schedules).
use Rattle.std.specs.{Prelude.{◌≡◌, ◌-◌, ℕ, List, ◌++◌, Option, Bool, false, Result, Ok, Err, length, take, drop}, Io.{appended_bytes, KnownBytes.Consumes}}
use Rattle.spl_lines.specs.{Lines.{lines_of, rest_of}, declared.feed.Feed.Feed}
use Rattle.spl_edge.specs.Sources.{limit}

-- the bytes within the limit that were read and not given yet
abbrev pub waiting : Feed → List ℕ
waiting f = drop f.start f.buffer.items

-- the line that was given last
abbrev pub last_line : Feed → List ℕ
last_line f = take (f.to - f.from) (drop f.from f.buffer.items)

-- how many bytes were read, those past the limit too
abbrev pub count_of : Feed → ℕ
count_of f = f.taken

-- a call gave a line
abbrev pub has_line : {E : Type 0} → Result Bool E → Bool
has_line (Ok more) = more
has_line (Err fault) = false

-- so many bytes were read; within the limit they are these lines, which were given, and after them what waits
pub record IsFed (given : List ℕ) (lines : List (List ℕ)) (waiting : List ℕ) (count : ℕ) : Type 0 where
  pub counted : count ≡ length given
  pub run : lines_of (take limit given) ≡ lines ++ lines_of waiting
  pub after : rest_of (take limit given) ≡ rest_of waiting

-- a feed read all that a source gave since it had given `before` and had `had` left, and gave these lines of it
pub record Feeds (before : List ℕ) (had : Option (List ℕ)) (lines : List (List ℕ)) (taken : List ℕ) (left : Option (List ℕ)) (feed : Feed) : Type 0 where
  pub told : taken ≡ before ++ appended_bytes before taken
  pub consumed : Consumes had left (appended_bytes before taken)
  pub fed : IsFed (appended_bytes before taken) lines (waiting feed) (count_of feed)

-- The lines of a source, and what of it a run was given (docs/RULES.md, Schedules).
use Rattle.std.specs.Prelude.{◌≡◌, ◌≤◌, ◌<◌, ℕ, max, nat_eq, List, [], ◌∷◌, length, codes, if◌then◌else◌, ◌==◌, ◌||◌, Bool, true, false, ◌≢◌, take, Option}
use Rattle.std.specs.{Prelude.{None, Some}, List.starts_with, Io.KnownBytes.IsAtEnd}
use Rattle.spl_edge.specs.Sources.{limit}
use Rattle.spl_base.specs.declared.limit.TheConstants.{LONGEST_LINE}
use Rattle.spl_lines.specs.declared.lines.TheConstants.{LONGEST_CHECK}

-- b goes to the beginning of the first of these lines
abbrev pub onto_line : ℕ → List (List ℕ) → List (List ℕ)
onto_line b [] = []
onto_line b (line ∷ lines) = (b ∷ line) ∷ lines

-- the lines that end with a line feed, without it
abbrev pub lines_of : List ℕ → List (List ℕ)
lines_of [] = []
lines_of (b ∷ bytes) = if b == 10 then [] ∷ lines_of bytes else onto_line b (lines_of bytes)

abbrev pub has_feed : List ℕ → Bool
has_feed [] = false
has_feed (b ∷ bytes) = b == 10 || has_feed bytes

-- what stands after the last line feed
abbrev pub rest_of : List ℕ → List ℕ
rest_of [] = []
rest_of (b ∷ bytes) = if has_feed (b ∷ bytes) then rest_of bytes else b ∷ bytes

-- how the lines begin that may be longer than others, and the most bytes that these may have
abbrev pub longer_lines : List (List ℕ × ℕ)
longer_lines = (codes "check ", LONGEST_CHECK) ∷ []

-- the most bytes that a line may have, by such a table
abbrev pub longest_by : List (List ℕ × ℕ) → List ℕ → ℕ
longest_by [] line = LONGEST_LINE
longest_by (x ∷ xs) line = if starts_with nat_eq line x.0 then x.1 else longest_by xs line

-- the most bytes that a line may have that begins like this
abbrev pub longest_line : List ℕ → ℕ
longest_line line = longest_by longer_lines line

-- the most bytes that any line may have
abbrev pub greatest_by : List (List ℕ × ℕ) → ℕ
greatest_by [] = LONGEST_LINE
greatest_by (x ∷ xs) = max x.1 (greatest_by xs)

abbrev pub greatest_line : ℕ
greatest_line = greatest_by longer_lines

-- a line isn't longer than it may be, or it is
abbrev pub IsShort : List ℕ → Type 0
IsShort line = length line ≤ longest_line line

abbrev pub IsLong : List ℕ → Type 0
IsLong line = longest_line line < length line

-- an empty line or a comment, which is numbered and has no answer
abbrev pub is_silent : List ℕ → Bool
is_silent [] = true
is_silent (b ∷ line) = b == 35

-- the lines that are run of the bytes given
abbrev pub run_of : List ℕ → List (List ℕ)
run_of given = lines_of (take limit given)

-- the source is at its end, within the limit, and its last line lacks its line feed
pub record IsUnfinished (given : List ℕ) (left : Option (List ℕ)) : Type 0 where
  pub ended : IsAtEnd left
  pub short : length given ≤ limit
  pub more : rest_of given ≢ []

-- a line is too long already: its line feed didn't come within the limit
pub record IsOverlong (given : List ℕ) : Type 0 where
  pub over : IsLong (rest_of (take limit given))

-- a text that was read to its end: it isn't too long, and nothing stands after its last line
pub record IsWholeText (text : List ℕ) (left : Option (List ℕ)) : Type 0 where
  pub ended : IsAtEnd left
  pub short : length text ≤ limit
  pub whole : rest_of text ≡ []

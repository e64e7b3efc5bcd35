-- The next line of an operator (docs/RULES.md, Serving).
use Rattle.std.specs.{Prelude.{◌≡◌, ◌≤◌, ◌<◌, ◌==◌, ◌++◌, ◌∷◌, ℕ, List, length, Option, Some, None}, List.position}
use Rattle.spl_base.specs.declared.limit.TheConstants.{LONGEST_LINE}
use Rattle.spl_ports.specs.declared.line_buffer.NextLine.{NextLine, TheVariants.{Line, Part, TooLong}}
use Rattle.spl_serve.specs.Asking.{place_or}

-- the place of the first line feed among bytes
abbrev pub place_of_feed : List ℕ → Option ℕ
place_of_feed bytes = position (λ b. b == 10) bytes

-- how many bytes of the first line came
abbrev pub first_length : List ℕ → ℕ
first_length bytes = place_or (length bytes) (place_of_feed bytes)

-- bytes that begin with a line, and what is left of them behind it
pub record BeginsWithLine (old line new : List ℕ) : Type 0 where
  pub spelled : old ≡ line ++ 10 ∷ new
  pub first : place_of_feed old ≡ Some (length line)
  pub short : length line ≤ LONGEST_LINE

-- bytes of one line that hasn't ended yet
pub record IsLinePart (old new : List ℕ) : Type 0 where
  pub same : new ≡ old
  pub unfed : place_of_feed old ≡ None
  pub short : length old ≤ LONGEST_LINE

-- what comes next of these bytes
abbrev pub IsNextLine : List ℕ → List ℕ → NextLine → Type 0
IsNextLine old new (Line p) = BeginsWithLine old p new
IsNextLine old new Part = IsLinePart old new
IsNextLine old new TooLong = LONGEST_LINE < first_length old

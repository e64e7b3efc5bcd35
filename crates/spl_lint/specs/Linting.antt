-- What is said of a schedule that isn't run (docs/RULES.md, Looking for a bad line).
use Rattle.std.specs.{Prelude.{◌≡◌, ◌⊎◌, ◌<◌, ◌≤◌, ◌+◌, ◌-◌, ℕ, List, [], ◌∷◌, length, take, drop, Option, None, Result, Ok, Err, ⊤}, Io.KnownBytes.IsAtEnd}
use Rattle.std.specs.List.{AllByRecursion}
use Rattle.spl_circuit.specs.Nodes.{Node}
use Rattle.spl_edge.specs.{Devices.{Rose, SourceView}, Sources.{limit, given}}
use Rattle.spl_lines.specs.{Lines.{IsOverlong, IsUnfinished, run_of, rest_of}, Tasks.IsLine, declared.feed.FeedFault.FeedFault}
use Rattle.spl_lines.specs.declared.feed.FeedFault.TheVariants as feed
use Rattle.spl_lint.specs.declared.linting.LintFault.{LintFault}
use Rattle.spl_lint.specs.declared.linting.LintFault.TheVariants as fault
use Rattle.spl_lint.specs.declared.wanted.Wanted.TheVariants as wanted

-- each of these lines is one that a schedule over these nodes may have
abbrev pub AreLines : List Node → List (List ℕ) → Type 0
AreLines ns lines = AllByRecursion (IsLine ns) lines

-- a whole schedule: it was read to its end, and each line is good
pub record IsSchedule (ns : List Node) (text : List ℕ) (left : Option (List ℕ)) : Type 0 where
  pub ended : IsAtEnd left
  pub short : length text ≤ limit
  pub whole : rest_of text ≡ []
  pub lines : AreLines ns (run_of text)

-- the line of this number isn't one
pub record IsNoLine (ns : List Node) (text : List ℕ) (number : ℕ) : Type 0 where
  pub line : List ℕ
  pub more : List (List ℕ)
  pub counted : 0 < number
  pub place : drop (number - 1) (run_of text) ≡ line ∷ more
  pub bad : IsLine ns line → ⊥

-- it comes after all lines given, and lacks its line feed or is too long
pub record IsNoEnd (text : List ℕ) (left : Option (List ℕ)) (number : ℕ) : Type 0 where
  pub last : number ≡ length (run_of text) + 1
  pub bad : IsUnfinished text left ⊎ IsOverlong text

-- it is the first that isn't one
pub record IsFirstBad (ns : List Node) (text : List ℕ) (left : Option (List ℕ)) (number : ℕ) : Type 0 where
  pub before : AreLines ns (take (number - 1) (run_of text))
  pub bad : IsNoLine ns text number ⊎ IsNoEnd text left number

-- what is said of the bytes that a source gave
abbrev pub Linted : Result (Unit {0}) LintFault → List Node → SourceView → SourceView → Type 0
Linted (Ok x) ns s t = IsSchedule ns (given s t) t.left
Linted (Err (fault.BadLine n cause)) ns s t = IsFirstBad ns (given s t) t.left n
Linted (Err fault.Read) ns s t = Rose s.faults t.faults × AreLines ns (run_of (given s t))
Linted (Err fault.TooLong) ns s t = (limit < length (given s t)) × AreLines ns (run_of (given s t))
Linted (Err fault.NoMemory) ns s t = ⊤

-- ---- one line

-- what is said of the line of this number
abbrev pub FitsLine : Result (Unit {0}) LintFault → List Node → ℕ → List ℕ → Type 0
FitsLine (Ok x) ns number line = IsLine ns line
FitsLine (Err (fault.BadLine n cause)) ns number line = (n ≡ number) × (IsLine ns line → ⊥)
FitsLine (Err fault.NoMemory) ns number line = ⊤
FitsLine (Err _) ns number line = ⊥

-- what becomes of a schedule whose next line, of this number, didn't come
abbrev pub lint_fault : FeedFault → ℕ → LintFault
lint_fault feed.Unfinished n = fault.BadLine n (record { column = None; wanted = wanted.LineFeed })
lint_fault feed.Overlong n = fault.BadLine n (record { column = None; wanted = wanted.ShorterLine })
lint_fault feed.TooLong n = fault.TooLong
lint_fault feed.Read n = fault.Read
lint_fault feed.NoMemory n = fault.NoMemory

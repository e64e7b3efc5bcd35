-- What a source had, and what it gave since a moment (docs/RULES.md, Schedules).
use Rattle.std.specs.{Prelude.{ℕ, List, Option, None, Some}, Io.appended_bytes}
use Rattle.spl_edge.specs.Devices.{SourceView}

-- the most bytes that a source may give
unfoldable pub limit : ℕ
limit = 67108864

-- the bytes that a source gave since
abbrev pub given : SourceView → SourceView → List ℕ
given s t = appended_bytes s.gave t.gave

-- what a source had; what it gave, where it doesn't report
abbrev pub had : Option (List ℕ) → List ℕ → List ℕ
had None given = given
had (Some all) given = all

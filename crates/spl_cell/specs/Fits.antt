-- Changes of which each fits behind those before it.
use Rattle.std.specs.Prelude.{Bool, true, false, ◌&&◌, List, [], ◌∷◌}
use Rattle.spl_wire.specs.declared.change.Change.{Change}
use Rattle.spl_wire.specs.declared.change.Change.TheVariants as durable
use Rattle.spl_cell_rules.specs.{Cells.{Cell, Site}, Changes.{fits_cell, made_one}}

-- each change fits where those before it are made
abbrev pub all_fit : Site → Cell → List Change → Bool
all_fit site k [] = true
all_fit site k (x ∷ xs) = fits_cell site k x && all_fit site (made_one site.here k x) xs

-- a change that leaves a bound cell bound as it was
abbrev pub is_within : Change → Bool
is_within (durable.Admin x) = true
is_within (durable.Service x) = true
is_within durable.Abandon = true
is_within (durable.Turn t) = true
is_within _ = false

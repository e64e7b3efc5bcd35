-- The cell of the rules that a state in memory stands for.
use Rattle.std.specs.Prelude.{◌≡◌, None}
use Rattle.spl_cell_rules.specs.Cells.{Cell, Empty, Held, Purged, Site}
use Rattle.spl_cell.specs.declared.state.State.{State}
use Rattle.spl_cell.specs.declared.state.State.TheVariants as state

abbrev pub cell_of : State → Cell
cell_of state.Empty = Empty
cell_of (state.Held h) = Held h.value.bound
cell_of (state.Purged old) = Purged old

-- what is bound is bound at the site
abbrev pub IsAt : Site → State → Type 0
IsAt site (state.Held h) = h.value.site ≡ site
IsAt site _ = Unit {0}

-- no round is open in either group
abbrev pub IsStill : Cell → Type 0
IsStill (Held h) = (h.acts.opened ≡ None) × (h.batches.opened ≡ None)
IsStill _ = Unit {0}

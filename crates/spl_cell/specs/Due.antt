-- Whether a tick has anything to do at a cell (docs/RULES.md, Calm).
use Rattle.std.specs.Prelude.{Bool, not, Option, Some, None, if◌then◌else◌}
use Rattle.spl_wire.specs.declared.event.Event.TheVariants as event
use Rattle.spl_cell_rules.specs.{Cells.{Cell, Site, is_open_cell}, Idle.is_idle, Plans.plan_of}

-- whether a tick has anything to do at an open cell; none where the cell isn't bound and open
abbrev pub due : Site → Cell → Option Bool
due site k = if is_open_cell k then Some (not (is_idle (plan_of site k event.Tick).answer)) else None

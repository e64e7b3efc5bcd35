-- The packed form of a cell: the changes that make it of an empty one (docs/RULES.md, Cells).
use Rattle.std.specs.Prelude.{List, [], ◌∷◌, ◌++◌, map, if◌then◌else◌}
use Rattle.spl_agree.specs.Pack.{packed_member}
use Rattle.spl_circuit.specs.declared.lifecycle.Mark.{Mark}
use Rattle.spl_circuit.specs.declared.lifecycle.Mark.TheVariants as mark
use Rattle.spl_wire.specs.declared.change.Change.{Change}
use Rattle.spl_wire.specs.declared.change.Change.TheVariants as durable
use Rattle.spl_cell_rules.specs.Cells.{Bound, Cell, Empty, Held, Purged, keeps_batches}

-- what the service group keeps, where it goes on
abbrev pub packed_batches : Bound → List Change
packed_batches h = if keeps_batches h then map durable.Service (packed_member h.batches) else []

abbrev pub packed_mark : Mark → List Change
packed_mark mark.Abandoned = durable.Abandon ∷ []
packed_mark _ = []

-- the changes that make a cell of an empty one
abbrev pub packed : Cell → List Change
packed Empty = []
packed (Held h) = durable.Bind h.definition ∷ durable.Turn h.turn ∷ map durable.Admin (packed_member h.acts) ++ (packed_batches h ++ packed_mark h.mark)
packed (Purged old) = durable.Gone old ∷ []

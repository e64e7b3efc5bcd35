-- What callers read of a cell (docs/RULES.md, Cells).
use Rattle.std.specs.Prelude.{ℕ, List, Option, Some, None, if◌then◌else◌, slice_get}
use Rattle.spl_agree.specs.Member.{values}
use Rattle.spl_circuit.specs.declared.{act.Act.Act, definition.Definition.Definition}
use Rattle.spl_command.specs.declared.batch.Batch.{Batch}
use Rattle.spl_cell_rules.specs.Cells.{Cell, Held, runs}

-- the definition that it is bound to
abbrev pub bound_definition : Cell → Option Definition
bound_definition (Held h) = Some h.definition
bound_definition _ = None

-- the batches that are committed there, where the circuit runs
abbrev pub running_batches : Cell → Option (List Batch)
running_batches (Held h) = if runs h then Some (values h.batches.history) else None
running_batches _ = None

-- the act that is committed there at a place
abbrev pub act_at : Cell → ℕ → Option Act
act_at (Held h) place = slice_get (values h.acts.history) place
act_at _ place = None

-- the batch that is committed there at a place
abbrev pub batch_at : Cell → ℕ → Option Batch
batch_at (Held h) place = slice_get (values h.batches.history) place
batch_at _ place = None

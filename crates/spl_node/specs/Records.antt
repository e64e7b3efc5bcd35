-- The records of a node, and what they make of a cell (docs/RULES.md, Journals).
use Rattle.std.specs.{Prelude.{ℕ, Bool, ◌==◌, List, [], ◌∷◌, ◌++◌, length, if◌then◌else◌, Option, Some, None, is_some, Result, Ok, Err, ◌+◌}, Str.bytes_eq}
use Rattle.spl_cell_rules.specs.{Cells.{site_at, Cell, Empty, Site}, Changes.applied}
use Rattle.spl_base.specs.{Form.IsBytes, Prefix.prefix_of}
use Rattle.spl_circuit.specs.Nodes.{NodeId, CircuitId}
use Rattle.spl_wire.specs.{Forms.record_form, declared.change.Change.Change}
use Rattle.spl_wire.specs.declared.record.Record.{Record}

-- what was read, where it took so many bytes
abbrev pub whole : ℕ → Result (Record × ℕ) ℕ → Option Record
whole size (Ok x) = if x.1 == size then Some x.0 else None
whole size (Err at) = None

-- the record that bytes are, with nothing after it
unfoldable pub record_in : List ℕ → Option Record
record_in bytes = whole (length bytes) (prefix_of record_form bytes)

-- bytes are exactly one record
abbrev pub is_record : List ℕ → Bool
is_record bytes = is_some (record_in bytes)

-- each is a list of bytes
abbrev pub AreBytes : List (List ℕ) → Type 0
AreBytes [] = Unit {0}
AreBytes (bytes ∷ rs) = IsBytes bytes × AreBytes rs

-- the byte form of a record
unfoldable pub record_bytes : Record → List ℕ
record_bytes r = record_form.spell r

-- the changes of a record that is about the circuit
abbrev pub changes_about : CircuitId → Option Record → List Change
changes_about c None = []
changes_about c (Some r) = if bytes_eq r.circuit c then r.changes else []

-- those of all records, in order
abbrev pub changes_in : CircuitId → List (List ℕ) → List Change
changes_in c [] = []
changes_in c (bytes ∷ rs) = changes_about c (record_in bytes) ++ changes_in c rs

-- the cell that the records make of an empty one
abbrev pub recorded_cell : NodeId → CircuitId → List (List ℕ) → Cell
recorded_cell here c rs = applied (site_at here c) Empty (changes_in c rs)

-- Whose files they are, by what their journal binds (docs/RULES.md, Whose files they are).
use Rattle.std.specs.{Prelude.{◌≡◌, ℕ, Bool, false, not, List, [], ◌∷◌, if◌then◌else◌, Option, Some, None}, List.list_any, Option.option_or, Result.IsOkAnd}
use Rattle.spl_circuit.specs.{Nodes.{NodeId, CircuitId}, Rules.is_member}
use Rattle.spl_wire.specs.declared.change.Change.{Change}
use Rattle.spl_wire.specs.declared.record.Record.{Record}
use Rattle.spl_wire.specs.declared.change.Change.TheVariants as durable
use Rattle.spl_node.specs.{Stands.disk_records, Records.record_in}

-- the change binds a definition of which the node is no member
abbrev pub binds_without : NodeId → Change → Bool
binds_without here (durable.Bind d) = not (is_member d here)
binds_without here _ = false

-- the circuit of a record that has such a change
abbrev pub without_in : NodeId → Record → Option CircuitId
without_in here r = if list_any (binds_without here) r.changes then Some r.circuit else None

abbrev pub without_at : NodeId → Option Record → Option CircuitId
without_at here None = None
without_at here (Some r) = without_in here r

-- that of the first record that has one
abbrev pub first_without : NodeId → List (List ℕ) → Option CircuitId
first_without here [] = None
first_without here (bytes ∷ rs) = option_or (without_at here (record_in bytes)) (first_without here rs)

-- it is that of the records of two disks
abbrev pub IsFirstWithout : NodeId → List ℕ → List ℕ → Option CircuitId → Type 0
IsFirstWithout here first second found = IsOkAnd (disk_records first second) (λ rs. found ≡ first_without here rs)

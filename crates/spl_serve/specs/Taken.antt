-- What a watcher of a process is told (docs/RULES.md, Node processes).
use Rattle.std.specs.{Prelude.{◌≡◌, ℕ, ◌≤◌, ◌+◌, ◌&&◌, List, [], ◌∷◌, ◌++◌, length, Some, if◌then◌else◌}, Str.bytes_eq}
use Rattle.spl_agree.specs.{Member.values, World.IsPrefixOf}
use Rattle.spl_circuit.specs.{Nodes.{NodeId, CircuitId}, declared.definition.Definition.Definition}
use Rattle.spl_command.specs.declared.batch.Batch.{Batch}
use Rattle.spl_cell_rules.specs.Cells.{Bound, Held}
use Rattle.spl_delta.specs.{Watches.{deltas, Watcher, watcher_named}, declared.{answer.WatchAnswer.{WatchAnswer, TheVariants.Taken}, delta.Delta.Delta}}
use Rattle.spl_delta.specs.declared.line.WatchLine.TheVariants.{Pull}
use Rattle.spl_serve.specs.{Served.{Served, watch_told}, Turns.{Deed, Watches, served_after, served_past}}

-- the deltas that an answer gives
abbrev pub deltas_in : WatchAnswer → List Delta
deltas_in (Taken ds) = ds
deltas_in a = []

-- those that a watcher of this circuit and name is told by one thing that the node does
abbrev pub deed_deltas : CircuitId → List ℕ → Served → Deed → List Delta
deed_deltas c name z (Watches caller (Pull n d m count)) = if bytes_eq d c && bytes_eq m name then deltas_in (watch_told z (Pull n d m count)) else []
deed_deltas c name z d = []

-- and by all that it does, each at what the earlier ones led to
abbrev pub all_deed_deltas : NodeId → CircuitId → List ℕ → Served → List Deed → List Delta
all_deed_deltas here c name z [] = []
all_deed_deltas here c name z (d ∷ ds) = deed_deltas c name z d ++ all_deed_deltas here c name (served_after here z d) ds

-- where the cell of the circuit is bound to this definition, its batches begin the list
abbrev pub BatchesBegin : CircuitId → Definition → List Batch → Served → Type 0
BatchesBegin c definition list z = (b : Bound) → z.cells c ≡ Held b → b.definition ≡ definition → IsPrefixOf (values b.batches.history) list

-- at each moment
abbrev pub AllBatchesBegin : NodeId → CircuitId → Definition → List Batch → Served → List Deed → Type 0
AllBatchesBegin here c definition list z [] = BatchesBegin c definition list z
AllBatchesBegin here c definition list z (d ∷ ds) = BatchesBegin c definition list z × AllBatchesBegin here c definition list (served_after here z d) ds

-- a watcher has taken so many more
abbrev pub on : Watcher → ℕ → Watcher
on t count = record t { next = t.next + count }

-- a watcher stays, and takes what the list has from its place on, each delta once and in order
pub record TakesOn (here : NodeId) (z : Served) (ds : List Deed) (c : CircuitId) (name : List ℕ) (t : Watcher) (list : List Batch) : Type 0 where
  pub count : ℕ
  pub after : watcher_named name ((served_past here z ds).watchers c) ≡ Some (on t count)
  pub there : t.next + count ≤ length list
  pub taken : all_deed_deltas here c name z ds ≡ deltas list t.next count

-- What a node process serves, and what a line of a watcher makes of it (docs/RULES.md, Node processes).
use Rattle.std.specs.{Prelude.{List, if◌then◌else◌}, Str.bytes_eq}
use Rattle.spl_circuit.specs.Nodes.{CircuitId}
use Rattle.spl_cell_rules.specs.Cells.{Cell}
use Rattle.spl_delta.specs.{Watches.{Watcher, watch_told_at, watch_circuit, watchers_after}, declared.answer.WatchAnswer.WatchAnswer}
use Rattle.spl_delta.specs.declared.line.WatchLine.{WatchLine}

-- the cells of the node, and the watchers of each circuit
pub record Served : Type 0 where
  pub cells : CircuitId → Cell
  pub watchers : CircuitId → List Watcher

-- what a line of a watcher is answered
abbrev pub watch_told : Served → WatchLine → WatchAnswer
watch_told z l = watch_told_at (z.cells (watch_circuit l)) (z.watchers (watch_circuit l)) l

-- and the watchers of its circuit after it
abbrev pub watchers_told : Served → WatchLine → List Watcher
watchers_told z l = watchers_after (z.cells (watch_circuit l)) (z.watchers (watch_circuit l)) l (watch_told z l)

-- the watchers of each circuit after it
abbrev pub watchers_past : Served → WatchLine → CircuitId → List Watcher
watchers_past z l c = if bytes_eq (watch_circuit l) c then watchers_told z l else z.watchers c

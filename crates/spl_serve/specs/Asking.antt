-- What a line of an operator asks of a node (docs/RULES.md, Node processes).
use Rattle.std.specs.Prelude.{ℕ, ◌==◌, Bool, true, false, nat_le, length, take, drop, List, [], ◌∷◌, ◌++◌, Option, Some, None, if◌then◌else◌, codes}
use Rattle.std.specs.{List.{list_all, position}, Str.bytes_eq}
use Rattle.spl_base.specs.{Ids.{is_circuit_id, within}, declared.limit.TheConstants.LONGEST_LINE}
use Rattle.spl_circuit.specs.Nodes.{CircuitId, NodeId, has_node}
use Rattle.spl_wire.specs.declared.event.Event.{Event}
use Rattle.spl_wire.specs.declared.event.Event.TheVariants as event
use Rattle.spl_sched.specs.{Grammar.{line_of, line_nodes}, declared.line.{Line.Line, Step.Step}}
use Rattle.spl_sched.specs.declared.line.Line.TheVariants as line
use Rattle.spl_sched.specs.declared.line.Step.TheVariants as step
use Rattle.spl_cell_rules.specs.{Valid.IsFor, Cells.site_at}
use Rattle.spl_lines.specs.Lines.{is_silent}
use Rattle.spl_delta.specs.{Watches.{watch_line_of, watch_node}, declared.line.WatchLine.WatchLine}
use Rattle.spl_serve.specs.declared.line.Asked.{Asked}
use Rattle.spl_serve.specs.declared.line.Asked.TheVariants as asked

-- how many bytes the first word has
abbrev pub place_or : ℕ → Option ℕ → ℕ
place_or n None = n
place_or n (Some k) = k

abbrev pub first_space : List ℕ → ℕ
first_space bytes = place_or (length bytes) (position (λ b. b == 32) bytes)

-- the line of a schedule: a space and the node's name come after the first word
abbrev pub with_node_name : NodeId → List ℕ → List ℕ
with_node_name here bytes = ((take (first_space bytes) bytes ++ 32 ∷ []) ++ here) ++ drop (first_space bytes) bytes

abbrev pub is_tick : Event → Bool
is_tick event.Tick = true
is_tick _ = false

-- what a step asks of the node: an event there that isn't a tick
abbrev pub asked_by_step : NodeId → Step → Option Asked
asked_by_step here (step.At n c e) = if bytes_eq n here then (if is_tick e then None else Some (asked.At c e)) else None
asked_by_step here (step.Deliver from to c k) = None

-- what a line of a schedule asks of the node
abbrev pub asked_of : NodeId → Line → Option Asked
asked_of here (line.Step s) = asked_by_step here s
asked_of here (line.Roll n) = if bytes_eq n here then Some asked.Roll else None
asked_of here _ = None

-- the circuit that bytes behind a word spell, after a space
abbrev pub circuit_behind : List ℕ → Option CircuitId
circuit_behind [] = None
circuit_behind (space ∷ bytes) = within is_circuit_id bytes

-- waits ID
abbrev pub waits_in : List ℕ → Option CircuitId
waits_in bytes = if bytes_eq (take (first_space bytes) bytes) (codes "waits") then circuit_behind (drop (first_space bytes) bytes) else None

-- what a line of a watcher asks of the node
abbrev pub asked_watch : NodeId → Option WatchLine → Option Asked
asked_watch here None = None
asked_watch here (Some l) = if bytes_eq (watch_node l) here then Some (asked.OfWatcher l) else None

-- what a line asks that is none of the nodes of a schedule: what waits, or what a watcher asks
abbrev pub asked_besides : NodeId → Option CircuitId → Option WatchLine → Option Asked
asked_besides here (Some c) w = Some (asked.Waits c)
asked_besides here None w = asked_watch here w

-- what a line of a schedule asks, if it names these nodes alone
abbrev pub asked_said : NodeId → List NodeId → Line → Option Asked
asked_said here ns l = if list_all (has_node ns) (line_nodes l) then asked_of here l else None

-- of a line of the nodes of a schedule, or else besides
abbrev pub asked_among : NodeId → List NodeId → Option Asked → Option Line → Option Asked
asked_among here ns besides None = besides
asked_among here ns besides (Some l) = asked_said here ns l

-- what a line asks: an empty one, a comment, and one that is too long ask nothing
abbrev pub asked_by_line : NodeId → List NodeId → List ℕ → Option Asked
asked_by_line here ns bytes =
    if is_silent bytes then None
    else if nat_le (length bytes) LONGEST_LINE then
    asked_among here ns (asked_besides here (waits_in bytes) (watch_line_of (with_node_name here bytes))) (line_of (with_node_name here bytes))
    else None

-- what is asked is an event that may come at its circuit's cell
abbrev pub IsAskedFor : NodeId → Asked → Type 0
IsAskedFor here (asked.At c e) = IsFor (site_at here c) e
IsAskedFor here asked.Roll = Unit {0}
IsAskedFor here (asked.Waits c) = Unit {0}
IsAskedFor here (asked.OfWatcher l) = Unit {0}

-- Watchers of a circuit: their lines and answers, and the changes of a batch (docs/RULES.md, Subscriptions).
use Rattle.std.specs.Prelude.{◌≡◌, ◌≤◌, ℕ, zero, suc, ◌+◌, List, [], ◌∷◌, length, fold, take, Option, Some, None, slice_get, ◌^◌, Bool, ◌&&◌, ◌||◌, nat_le}
use Rattle.std.specs.{Prelude.{nat_lt, ◌++◌, if◌then◌else◌, codes, decimal, map}, List.{flat_map, list_all, list_any, join_with_byte}, Option.option_map}
use Rattle.std.specs.Str.{bytes_eq}
use Rattle.spl_state.specs.Entries.{Entry}
use Rattle.spl_command.specs.{Lists.{with_change, receipts_after}, declared.{batch.Batch.Batch, receipt.{Receipt.Receipt, StateChange.StateChange}}}
use Rattle.spl_command.specs.declared.receipt.StateChange.TheVariants.{Set, Delete}
use Rattle.spl_delta.specs.declared.answer.WatchAnswer.{WatchAnswer, TheVariants.{Watching, Taken, Down, NoCircuit, NotActive, NameTaken, BadPlace}}
use Rattle.spl_delta.specs.declared.{answer.WatchAnswer.TheVariants.{NoWatcher, WrongCircuit, TooManyWatchers}, delta.Delta.Delta}
use Rattle.spl_delta.specs.declared.{group.TheConstants.MOST_WATCHERS, line.WatchLine.{WatchLine, TheVariants.{Watch, Pull}}, read.TheConstants.MOST_PULLED}
use Rattle.spl_agree.specs.Member.{values}
use Rattle.spl_base.specs.Ids.{is_node_id, is_circuit_id, is_lower, is_digit}
use Rattle.spl_circuit.specs.{Equality.same_definition, Nodes.{NodeId, CircuitId}, declared.definition.Definition.Definition}
use Rattle.spl_words.specs.Words.{Words, Kind, text, number, joined, end, ◌&◌, that, kind, read_kind}
use Rattle.spl_cell_rules.specs.Cells.{Bound, Cell, Empty, Held, Purged, runs}
use Rattle.spl_circuit_world.specs.{Worlds.{World, Origin, first_world}, Projection.{Ran, concerned, own_line}, Answers.{line_answer, line_world}}
use Rattle.spl_circuit_world.specs.Answers.{roll_answer}
use Rattle.spl_answer.specs.Batches.{hex_text, spaced}
use Rattle.spl_wire.specs.declared.answer.Answer.{Answer}

-- the changes of receipts, in their order
abbrev pub receipt_changes : List Receipt → List StateChange
receipt_changes rs = flat_map (λ r. r.changes) rs

-- a batch at its place, and what it changed
abbrev pub delta_of : List Batch → ℕ → Batch → Delta
delta_of bs place b = record { place = place; batch = b.id; changes = receipt_changes (receipts_after (take place bs) b) }

-- of the batch at a place
abbrev pub delta : List Batch → ℕ → Option Delta
delta bs place = option_map (delta_of bs place) (slice_get bs place)

abbrev pub and_deltas : Option Delta → List Delta → List Delta
and_deltas None ds = []
and_deltas (Some d) ds = d ∷ ds

-- from a place on, as many as a count and the list allow
abbrev pub deltas : List Batch → ℕ → ℕ → List Delta
deltas bs place zero = []
deltas bs place (suc count) = and_deltas (delta bs place) (deltas bs (place + 1) count)

-- a state with these changes, in their order
abbrev pub with_delta : List Entry → Delta → List Entry
with_delta m d = fold with_change m d.changes

abbrev pub with_deltas : List Entry → List Delta → List Entry
with_deltas m ds = fold with_delta m ds

-- as many as these are, all of them of batches that are there
pub record AreCut (bs : List Batch) (place count : ℕ) (ds : List Delta) : Type 0 where
  pub same : ds ≡ deltas bs place (length ds)
  pub within : place + length ds ≤ length bs
  pub few : length ds ≤ count

-- ---- lines

-- a to z and 0 to 9
abbrev pub is_watcher_byte : ℕ → Bool
is_watcher_byte b = is_lower b || is_digit b

-- 1 to 8 of them
abbrev pub is_watcher_name : List ℕ → Bool
is_watcher_name xs = nat_le 1 (length xs) && (nat_le (length xs) 8 && list_all is_watcher_byte xs)

abbrev pub is_count : ℕ → Bool
is_count n = nat_le 1 n && nat_le n MOST_PULLED

-- watch NODE ID NAME PLACE
abbrev pub watch : Words (List ℕ × (List ℕ × (List ℕ × (ℕ × Unit {0}))))
watch = text is_node_id & text is_circuit_id & text is_watcher_name & number (2 ^ 32) & end

-- pull NODE ID NAME COUNT
abbrev pub pull : Words (List ℕ × (List ℕ × (List ℕ × (ℕ × Unit {0}))))
pull = text is_node_id & text is_circuit_id & text is_watcher_name & that is_count (number (2 ^ 8)) & end

abbrev pub watch_kinds : List (Kind WatchLine)
watch_kinds = kind (codes "watch") watch (λ x. Watch x.0 x.1.0 x.1.1.0 x.1.1.1.0) ∷ kind (codes "pull") pull (λ x. Pull x.0 x.1.0 x.1.1.0 x.1.1.1.0) ∷ []

abbrev pub read_watch_words : List (List ℕ) → Option WatchLine
read_watch_words [] = None
read_watch_words (name ∷ xs) = read_kind watch_kinds None name xs

abbrev pub watch_words : WatchLine → List (List ℕ)
watch_words (Watch n c name place) = codes "watch" ∷ n ∷ c ∷ name ∷ decimal place ∷ []
watch_words (Pull n c name count) = codes "pull" ∷ n ∷ c ∷ name ∷ decimal count ∷ []

abbrev pub is_watch_line : WatchLine → Bool
is_watch_line (Watch n c name place) = is_node_id n && (is_circuit_id c && (is_watcher_name name && nat_lt place (2 ^ 32)))
is_watch_line (Pull n c name count) = is_node_id n && (is_circuit_id c && (is_watcher_name name && is_count count))

abbrev pub watch_lines : Words WatchLine
watch_lines = record { spell = watch_words; read = read_watch_words; fits = is_watch_line }

-- the line that bytes spell, its words apart by one space
abbrev pub watch_line_of : List ℕ → Option WatchLine
watch_line_of bytes = (joined 32 watch_lines).read bytes

abbrev pub watch_spelling : WatchLine → List ℕ
watch_spelling l = join_with_byte 32 (watch_words l)

abbrev pub watch_circuit : WatchLine → CircuitId
watch_circuit (Watch n c name place) = c
watch_circuit (Pull n c name count) = c

abbrev pub watch_node : WatchLine → NodeId
watch_node (Watch n c name place) = n
watch_node (Pull n c name count) = n

-- ---- watchers

-- a watcher: of which circuit, from which place on it began, and the place of what it takes next
pub record Watcher : Type 0 where
  pub name : List ℕ
  pub definition : Definition
  pub start : ℕ
  pub next : ℕ

abbrev pub is_named : List ℕ → Watcher → Bool
is_named name t = bytes_eq t.name name

abbrev pub watcher_named : List ℕ → List Watcher → Option Watcher
watcher_named name [] = None
watcher_named name (t ∷ ts) = if is_named name t then Some t else watcher_named name ts

-- ---- answers

-- a bound cell has this definition, and these batches
pub record IsHere (h : Bound) (definition : Definition) (batches : List Batch) : Type 0 where
  pub definition_is : h.definition ≡ definition
  pub batches_are : values h.batches.history ≡ batches

-- a watcher of a circuit that runs here
abbrev pub watched : Bound → List Watcher → List ℕ → ℕ → WatchAnswer
watched h ts name place =
    if list_any (is_named name) ts then NameTaken
    else (if nat_lt (length h.batches.history) place then BadPlace (length h.batches.history)
    else (if nat_le MOST_WATCHERS (length ts) then TooManyWatchers
    else Watching place))

-- what it takes: of its own circuit alone
abbrev pub pulled_by : Bound → ℕ → Option Watcher → WatchAnswer
pulled_by h count None = NoWatcher
pulled_by h count (Some t) = if same_definition h.definition t.definition then Taken (deltas (values h.batches.history) t.next count) else WrongCircuit

-- at a bound cell
abbrev pub told_by : Bound → List Watcher → WatchLine → WatchAnswer
told_by h ts (Watch n c name place) = watched h ts name place
told_by h ts (Pull n c name count) = pulled_by h count (watcher_named name ts)

abbrev pub watch_told_at : Cell → List Watcher → WatchLine → WatchAnswer
watch_told_at Empty ts l = NoCircuit
watch_told_at (Purged g) ts l = NoCircuit
watch_told_at (Held h) ts l = if runs h then told_by h ts l else NotActive

-- the answer in the world of the circuit, with its watchers
abbrev pub watch_answer : World → List Watcher → WatchLine → WatchAnswer
watch_answer w ts l = if w.up (watch_node l) then watch_told_at (w.at (watch_node l)) ts l else Down

-- ---- what becomes of the watchers

-- how many deltas an answer gives
abbrev pub taken_count : WatchAnswer → ℕ
taken_count (Taken ds) = length ds
taken_count a = 0

-- the watcher has taken so many more
abbrev pub moved_on : List ℕ → ℕ → List Watcher → List Watcher
moved_on name count [] = []
moved_on name count (t ∷ ts) =
    if is_named name t then record t { next = t.next + count } ∷ ts
    else t ∷ moved_on name count ts

-- a watcher of the circuit to which the cell is bound
abbrev pub joined_by : Cell → List ℕ → ℕ → List Watcher → List Watcher
joined_by (Held h) name place ts = ts ++ record { name = name; definition = h.definition; start = place; next = place } ∷ []
joined_by k name place ts = ts

abbrev pub watchers_after : Cell → List Watcher → WatchLine → WatchAnswer → List Watcher
watchers_after k ts (Watch n c name place) (Watching at) = joined_by k name place ts
watchers_after k ts (Pull n c name count) (Taken ds) = moved_on name (length ds) ts
watchers_after k ts l a = ts

-- ADDRESS=HEX, or ADDRESS! for a deletion
abbrev pub change_text : StateChange → List ℕ
change_text (Set a v) = hex_text a.0 ++ (61 ∷ hex_text v)
change_text (Delete a) = hex_text a.0 ++ (33 ∷ [])

-- with a comma between each two, or - where there are none
abbrev pub changes_text : List StateChange → List ℕ
changes_text [] = codes "-"
changes_text (x ∷ xs) = join_with_byte 44 (map change_text (x ∷ xs))

-- PLACE:BATCH: and its changes
abbrev pub delta_text : Delta → List ℕ
delta_text d = decimal d.place ++ (58 ∷ (decimal d.batch ++ (58 ∷ changes_text d.changes)))

abbrev pub watch_text : WatchAnswer → List ℕ
watch_text (Watching place) = codes "ok watching " ++ decimal place
watch_text (Taken ds) = codes "ok delta " ++ (decimal (length ds) ++ spaced delta_text ds)
watch_text Down = codes "refused 1"
watch_text NoCircuit = codes "refused 2"
watch_text NotActive = codes "refused 11"
watch_text NameTaken = codes "refused 21"
watch_text (BadPlace committed) = codes "refused 22 " ++ decimal committed
watch_text NoWatcher = codes "refused 23"
watch_text WrongCircuit = codes "refused 24"
watch_text TooManyWatchers = codes "refused 25"

-- ---- tasks

-- what a schedule asks for: a line of the nodes, or one of a watcher
pub data Task : Type 0 where
  Line : Ran → Task
  OfWatcher : WatchLine → Task

-- the lines of the nodes among these
abbrev pub lines_in : List Task → List Ran
lines_in [] = []
lines_in (Line r ∷ ts) = r ∷ lines_in ts
lines_in (OfWatcher l ∷ ts) = lines_in ts

-- the nodes at which a watcher of a circuit asks
abbrev pub asked_in : CircuitId → List Task → List NodeId
asked_in c [] = []
asked_in c (Line r ∷ ts) = asked_in c ts
asked_in c (OfWatcher l ∷ ts) = if bytes_eq (watch_circuit l) c then watch_node l ∷ asked_in c ts else asked_in c ts

-- the nodes concerned with a circuit
abbrev pub concerned_in : Origin → CircuitId → List Task → List NodeId
concerned_in o c ts = concerned o c (lines_in ts) ++ asked_in c ts

-- ---- the world of a circuit, with its watchers

pub record Watched : Type 0 where
  pub world : World
  pub watchers : List Watcher

abbrev pub lines_watched : Watched → List Ran → Watched
lines_watched z [] = z
lines_watched z (r ∷ rs) = lines_watched (record { world = line_world z.world r.line r.kept; watchers = z.watchers }) rs

abbrev pub watch_done : Watched → WatchLine → Watched
watch_done z l = record { world = z.world; watchers = watchers_after (z.world.at (watch_node l)) z.watchers l (watch_answer z.world z.watchers l) }

-- after a task, where these nodes are concerned with the circuit
abbrev pub task_done : CircuitId → List NodeId → Watched → Task → Watched
task_done c ns z (Line r) = lines_watched z (own_line c ns r)
task_done c ns z (OfWatcher l) = if bytes_eq (watch_circuit l) c then watch_done z l else z

abbrev pub tasks_done : CircuitId → List NodeId → Watched → List Task → Watched
tasks_done c ns z [] = z
tasks_done c ns z (t ∷ ts) = tasks_done c ns (task_done c ns z t) ts

-- at first there are no watchers
abbrev pub first_watched : Origin → CircuitId → Watched
first_watched o c = record { world = first_world o c; watchers = [] }

-- after a circuit's own tasks
abbrev pub circuit_watched : Origin → CircuitId → List Task → Watched
circuit_watched o c ts = tasks_done c (concerned_in o c ts) (first_watched o c) ts

-- the world in which a task is done: what it concerns counts already
abbrev pub watched_before : Origin → CircuitId → List Task → Task → Watched
watched_before o c before t = tasks_done c (concerned_in o c (before ++ t ∷ [])) (first_watched o c) before

-- ---- answers

pub data TaskAnswer : Type 0 where
  OfLine : Answer → TaskAnswer
  OfWatch : WatchAnswer → TaskAnswer

-- the answer to a task after others
abbrev pub task_answer : Origin → List Task → Task → TaskAnswer
task_answer o before (Line r) =
    OfLine (line_answer (λ c. (watched_before o c before (Line r)).world) (λ n. roll_answer o (lines_in (before ++ Line r ∷ [])) n) r.line r.kept)
task_answer o before (OfWatcher l) =
    let z : Watched = watched_before o (watch_circuit l) before (OfWatcher l) in
    OfWatch (watch_answer z.world z.watchers l)

-- What a run executes, and what is written of it (docs/RULES.md, Schedules, Answers, Subscriptions).
use Rattle.std.specs.Prelude.{◌⊎◌, ℕ, List, ◌++◌, ◌∷◌, [], Option, Some, None, IsSomeAnd, IsTrue, Bool, true, false, if◌then◌else◌, decimal, nat_le, ◌≤◌, ◌+◌}
use Rattle.std.specs.{Prelude.map, List.list_all}
use Rattle.spl_circuit.specs.Nodes.{CircuitId, Node, has_node}
use Rattle.spl_delta.specs.Watches.{is_watch_line, watch_circuit, watch_line_of, watch_node, watch_text, watch_spelling, OfLine, OfWatch, OfWatcher}
use Rattle.spl_delta.specs.{Watches.{Task as Asked, TaskAnswer, lines_in, task_answer}, declared.line.WatchLine.WatchLine}
use Rattle.spl_delta.specs.Watches as asked
use Rattle.spl_sched.specs.{Grammar.{line_circuit, line_of, line_nodes, is_line}, declared.line.Line.Line}
use Rattle.spl_lines.specs.{Lines.{IsShort, is_silent}, declared.reading.Said.Said}
use Rattle.spl_lines.specs.declared.reading.Said.TheVariants as say
use Rattle.spl_circuit_world.specs.{Worlds.Origin, Projection.{Ran, by_rule}, Answers.{events_of, stops_of, answer_to}, declared.TheConstants.MOST_EVENTS}
use Rattle.spl_circuit_world.specs.declared.TheConstants.{MOST_STOPS}
use Rattle.spl_answer.specs.Texts.{answer_spelling}
use Rattle.spl_trace.specs.Traced.{flat_ran, written_lines}

-- the line names no other node than these
abbrev pub IsAdmitted : List Node → Said → Type 0
IsAdmitted ns (say.Line l) = IsTrue (list_all (has_node ns) (line_nodes l))
IsAdmitted ns (say.Watch l) = IsTrue (has_node ns (watch_node l))

-- what it says is within the bounds of a line
abbrev pub is_sayable : Said → Bool
is_sayable (say.Line l) = is_line l
is_sayable (say.Watch l) = is_watch_line l

-- a line that a run over these nodes runs
pub record IsRunnable (ns : List Node) (s : Said) : Type 0 where
  pub known : IsAdmitted ns s
  pub fits : IsTrue (is_sayable s)

abbrev pub as_watch : Option WatchLine → Option Said
as_watch None = None
as_watch (Some l) = Some (say.Watch l)

abbrev pub or_watch : Option Line → Option WatchLine → Option Said
or_watch None w = as_watch w
or_watch (Some l) w = Some (say.Line l)

-- what the bytes say: a line of the nodes, or one of a watcher
abbrev pub said_in : List ℕ → Option Said
said_in line = or_watch (line_of line) (watch_line_of line)

-- a line that a schedule over these nodes may have
abbrev pub IsLine : List Node → List ℕ → Type 0
IsLine ns line = IsShort line × (IsTrue (is_silent line) ⊎ IsSomeAnd (said_in line) (IsAdmitted ns))

-- what is run of a line
abbrev pub line_said : List ℕ → Option Said
line_said line = if is_silent line then None else said_in line

-- the circuit that it names
abbrev pub named_circuit : Said → Option CircuitId
named_circuit (say.Line l) = line_circuit l
named_circuit (say.Watch l) = Some (watch_circuit l)

-- a number, a text and a line feed
abbrev pub printed : ℕ → List ℕ → List ℕ
printed n answer = decimal n ++ 32 ∷ answer ++ 10 ∷ []

-- what is told of the line of this number: a trace as it is, or an answer after the number
abbrev pub text_told : Bool → ℕ → List ℕ → List ℕ
text_told true n answer_spelling = answer_spelling
text_told false n answer_spelling = printed n answer_spelling

-- that, where the line is after the first n
abbrev pub shown_line : Bool → ℕ → ℕ → List ℕ → List ℕ
shown_line traced n number answer_spelling = if nat_le number n then [] else text_told traced number answer_spelling

-- a line that is run, and the number with which its answer is written, where it is
pub record Task : Type 0 where
  pub number : Option ℕ
  pub line : Said

-- what it asks for: a line of the nodes, by the rules, or one of a watcher
abbrev pub asked_for : Said → Asked
asked_for (say.Line l) = asked.Line (by_rule l)
asked_for (say.Watch l) = OfWatcher l

-- what these tasks ask for
abbrev pub asked_by : List Task → List Asked
asked_by ts = map (λ t. asked_for t.line) ts

-- the lines of the nodes that ran
abbrev pub ran_by : List Task → List Ran
ran_by ts = lines_in (asked_by ts)

abbrev pub watch_event : Said → ℕ
watch_event (say.Line l) = 0
watch_event (say.Watch l) = 1

-- how many lines of watchers ran beside them
abbrev pub watches_in : List Task → ℕ
watches_in [] = 0
watches_in (t ∷ ts) = watch_event t.line + watches_in ts

-- the events of these tasks are within their limit, and so are their stops
abbrev pub AreTasksWithin : Origin → List Task → Type 0
AreTasksWithin o ts = (events_of o (ran_by ts) + watches_in ts ≤ MOST_EVENTS) × (stops_of (ran_by ts) ≤ MOST_STOPS)

-- ---- what is written

abbrev pub watched_text : TaskAnswer → List ℕ
watched_text (OfLine a) = answer_spelling a
watched_text (OfWatch a) = watch_text a

-- the answer to what a line says, after these tasks
abbrev pub answer_text : Origin → List Task → Said → List ℕ
answer_text o before (say.Line l) = answer_spelling (answer_to o (ran_by before) (by_rule l))
answer_text o before (say.Watch l) = watched_text (task_answer o (asked_by before) (OfWatcher l))

-- the lines of its trace: a calm's ticks and deliveries, and any other line itself
abbrev pub trace_text : Origin → List Task → Said → List ℕ
trace_text o before (say.Line l) = written_lines (flat_ran o (ran_by before) (by_rule l))
trace_text o before (say.Watch l) = watch_spelling l ++ 10 ∷ []

-- the one or the other
abbrev pub text_for : Bool → Origin → List Task → Said → List ℕ
text_for false o before s = answer_text o before s
text_for true o before s = trace_text o before s

-- what is written of a line, where it has a number
abbrev pub numbered_text : Bool → Option ℕ → List ℕ → List ℕ
numbered_text traced None answer_spelling = []
numbered_text traced (Some n) answer_spelling = text_told traced n answer_spelling

-- of a task after these
abbrev pub task_text : Bool → Origin → List Task → Task → List ℕ
task_text traced o before t = numbered_text traced t.number (text_for traced o before t.line)

-- of tasks after these
abbrev pub texts_after : Bool → Origin → List Task → List Task → List ℕ
texts_after traced o before [] = []
texts_after traced o before (t ∷ ts) = task_text traced o before t ++ texts_after traced o (before ++ t ∷ []) ts

-- what a run of these tasks writes, from this origin on
abbrev pub texts_of : Bool → Origin → List Task → List ℕ
texts_of traced o ts = texts_after traced o [] ts

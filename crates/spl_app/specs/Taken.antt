-- What watchers of a circuit take is one list (docs/RULES.md, Subscriptions, Traces).
use Rattle.std.specs.{Prelude.{◌≡◌, ℕ, ◌≤◌, ◌-◌, ◌&&◌, List, [], ◌∷◌, ◌++◌, length, take, Some, if◌then◌else◌, map}, Str.bytes_eq}
use Rattle.spl_circuit.specs.Nodes.{NodeId, CircuitId}
use Rattle.spl_command.specs.{Lists.state_of, declared.batch.Batch.Batch}
use Rattle.spl_circuit_world.specs.{Worlds.{Occurrence, Origin, blank}, Projection.Ran, Whole.whole_happened}
use Rattle.spl_circuit_safety.specs.Agreement.{batch_list, gone_on_in}
use Rattle.spl_delta.specs.Watches.{deltas, with_deltas, Watcher, watcher_named, Task, OfWatcher, TaskAnswer, OfWatch, lines_in, circuit_watched, task_answer}
use Rattle.spl_delta.specs.{Watches.Line, declared.{answer.WatchAnswer.TheVariants.Taken, delta.Delta.Delta, line.WatchLine.{WatchLine, TheVariants.Pull}}}
use Rattle.spl_trace.specs.Traced.{flat_ran}

-- the deltas of an answer to a pull of this watcher of this circuit
abbrev pub answer_deltas : CircuitId → List ℕ → Task → TaskAnswer → List Delta
answer_deltas c name (OfWatcher (Pull n d m count)) (OfWatch (Taken ds)) = if bytes_eq d c && bytes_eq m name then ds else []
answer_deltas c name t a = []

-- those of all answers, in their order
abbrev pub deltas_after : Origin → CircuitId → List ℕ → List Task → List Task → List Delta
deltas_after o c name before [] = []
deltas_after o c name before (t ∷ ts) = answer_deltas c name t (task_answer o before t) ++ deltas_after o c name (before ++ t ∷ []) ts

abbrev pub taken_by : Origin → CircuitId → List ℕ → List Task → List Delta
taken_by o c name ts = deltas_after o c name [] ts

-- a watcher has taken what the circuit's one list of batches has from its first place on below its next, each delta once and
-- in order; folded over the state of the batches before they give the state of all that it has taken
pub record TakesOneList (o : Origin) (ts : List Task) (c : CircuitId) (t : Watcher) (list : List Batch) : Type 0 where
  pub below : t.start ≤ t.next
  pub there : t.next ≤ length list
  pub taken : taken_by o c t.name ts ≡ deltas list t.start (t.next - t.start)
  pub state : with_deltas (state_of (take t.start list)) (taken_by o c t.name ts) ≡ state_of (take t.next list)

-- so it is with each watcher after any tasks, whatever members it asked and whatever stopped between
abbrev pub WatchersTakeOneList : List NodeId → List Task → Type 0
WatchersTakeOneList ns ts = (c : CircuitId) (name : List ℕ) (t : Watcher) → watcher_named name (circuit_watched (blank ns) c ts).watchers ≡ Some t
    → TakesOneList (blank ns) ts c t (batch_list ns t.definition (whole_happened (blank ns) c (lines_in ts)))

-- so it is in a run that goes on: the list is that of what happened before and of the run, as one
abbrev pub WatchersTakeOn : Origin → (CircuitId → List Occurrence) → List Task → Type 0
WatchersTakeOn o left ts = (c : CircuitId) (name : List ℕ) (t : Watcher) → watcher_named name (circuit_watched o c ts).watchers ≡ Some t
    → TakesOneList o ts c t (batch_list o.nodes t.definition (gone_on_in o left c (lines_in ts)))

-- the trace of tasks after these lines: a line of a watcher stands in it as it is
abbrev pub flat_tasks_after : Origin → List Ran → List Task → List Task
flat_tasks_after o before [] = []
flat_tasks_after o before (Line r ∷ ts) = map Line (flat_ran o before r) ++ flat_tasks_after o (before ++ r ∷ []) ts
flat_tasks_after o before (OfWatcher l ∷ ts) = OfWatcher l ∷ flat_tasks_after o before ts

-- of a whole schedule
abbrev pub flat_tasks : Origin → List Task → List Task
flat_tasks o ts = flat_tasks_after o [] ts

-- each line of a watcher is answered after the trace of what stands before it as it is answered in the schedule; and the
-- schedule and its trace leave the same watchers
pub record AskAlike (o : Origin) (ts : List Task) : Type 0 where
  pub answers : (before after : List Task) (l : WatchLine) → before ++ OfWatcher l ∷ after ≡ ts
      → task_answer o (flat_tasks o before) (OfWatcher l) ≡ task_answer o before (OfWatcher l)
  pub watchers : (c : CircuitId) → (circuit_watched o c (flat_tasks o ts)).watchers ≡ (circuit_watched o c ts).watchers

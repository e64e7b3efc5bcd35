-- The headline: what a command that runs circuits asks for, and what it gives (docs/RULES.md, Statuses, Disks, Links).
use Rattle.std.specs.{Io.KnownBytes.Appends, Prelude.{◌≡◌, ℕ, true, false, List, [], length, Some, Err, ⊤, ◌⊎◌, ◌∷◌, ◌++◌}, List.list_all}
use Rattle.spl_cli.specs.{Command.{is_linked, reads}, Registered.IsRegistryRead, declared.{command.Command.Command, status.Status.Status}}
use Rattle.spl_cli.specs.declared.command.Command.TheVariants as command
use Rattle.spl_cli.specs.declared.status.Status.TheVariants as status
use Rattle.spl_edge.specs.{Devices.SourceView, Sources.given}
use Rattle.spl_lines.specs.Tasks.{AreTasksWithin, Task, asked_by, ran_by}
use Rattle.spl_registry.specs.Nodes.{node_at}
use Rattle.spl_runs.specs.Run.{Plan, ids, origin, tasks, held_on, Ended, PlanRun, Unmade}
use Rattle.spl_runs.specs.declared.fault.RunFault.TheVariants as fault
use Rattle.spl_node.specs.{Benches.RoseAt, Blank.{AllEmpty, IsFirstWithBytes}}
use Rattle.spl_world.specs.declared.fault.WorldFault.TheVariants as error
use Rattle.spl_circuit_safety.specs.Agreement.{Agree, TellOneList, AgreeOn, ShowsOn, restarts, ShowsPrefixes}
use Rattle.spl_base.specs.Ids.{is_node_id}
use Rattle.spl_circuit.specs.Nodes.{CircuitId, Node, has_node}
use Rattle.spl_app.specs.{Left.HasLeftCells, Taken.{WatchersTakeOn, WatchersTakeOneList, AskAlike}, Asked.{way_of, command_plan, Outside, devices_of, Report}}
use Rattle.spl_app.specs.Asked.{IsStatusOf, Because}
use Rattle.spl_circuit_world.specs.{Answers.{answers_about, circuit_world}, Projection.{Ran, beside, concerned, lines_fit, names, own}, Worlds.IsOrigin}
use Rattle.spl_circuit_world.specs.{Worlds.{Occurrence, Origin, blank}, Same.IsSameFor, Whole.whole_world}
use Rattle.spl_cell_rules.specs.Cells.{Empty}
use Rattle.spl_trace.specs.Traced.{IsOneRun}

-- ---- what came of it

-- a run over links that didn't begin, since it goes on from none: a disk held bytes, one failed, or memory ran out
abbrev pub WhyNot : Status → Plan → Outside → Outside → Type 0
WhyNot (status.NotBlank node) p x y = (k : ℕ) × (node_at p.nodes k ≡ Some node) × IsFirstWithBytes k (held_on x.shelf)
WhyNot (status.DiskFault node) p x y = (k : ℕ) × (node_at p.nodes k ≡ Some node) × RoseAt k x.shelf y.shelf
WhyNot status.NoMemory p x y = ⊤
WhyNot s p x y = ⊥

-- then the schedule wasn't read, nothing was written, and disks and links are as they were
pub record NotBegun (s : Status) (m : Command) (p : Plan) (c d : SourceView) (x y : Outside) : Type 0 where
  pub linked : m ≡ command.Links
  pub why : WhyNot s p x y
  pub unread : given c d ≡ []
  pub written : Appends x.sink.written y.sink.written []
  pub disks : held_on y.shelf ≡ held_on x.shelf
  pub links : y.fabric ≡ x.fabric

-- one that began
pub record Began (s : Status) (m : Command) (p : Plan) (c d : SourceView) (x y : Outside) : Type 0 where
  -- over links no disk of its nodes held bytes
  pub blank : m ≡ command.Links → AllEmpty (length p.nodes) (held_on x.shelf)
  -- how it ended, which the status names, and why
  pub ended : Ended
  pub status : IsStatusOf p.nodes ended s
  pub why : Because ended (way_of m) p (reads m) c d (devices_of m p x) (devices_of m p y)
  -- only one that goes on finds files that are no journal, where they report what they hold
  pub opened : Report (is_linked m) p x → (k at : ℕ) → ended ≡ Err (fault.World (error.NotAJournal k at)) → m ≡ command.Resume
  -- which tasks ran, and what they wrote, left on the disks and sent, or that not all nodes were made
  pub done : Report (is_linked m) p x → Unmade ended (way_of m) p c d (devices_of m p x) (devices_of m p y)
      ⊎ PlanRun ended (way_of m) p (devices_of m p x) (devices_of m p y)

-- what came of the bytes given, which spell a plan
pub record CameOfPlan (s : Status) (m : Command) (r q c d : SourceView) (x y : Outside) : Type 0 where
  pub plan : Plan
  pub spelled : command_plan m (held_on x.shelf) (given r q) (given c d) ≡ Some plan
  pub read : reads m ≡ true → IsRegistryRead (given r q) q.left
  -- what its nodes keep at first they keep of its circuits, and no other node keeps anything
  pub begins : IsOrigin (origin plan)
  pub comes : NotBegun s m plan c d x y ⊎ Began s m plan c d x y

-- ---- what holds of every plan

-- The members of each circuit agree at each moment of these tasks, whatever the nodes are. What they answer is of one list, and
-- each root, entry, receipt, history and state of a circuit that an answer shows is that of a prefix of it. Each watcher takes
-- what the batches of that list changed, each once and in order. A schedule within the limits and its trace
-- are one run, in which watchers are answered alike
pub record Laws (ns : List Node) (ts : List Task) : Type 0 where
  pub agree : Agree ns (ran_by ts)
  pub one_list : TellOneList ns (ran_by ts)
  pub shown : ShowsPrefixes ns (ran_by ts)
  pub taken : WatchersTakeOneList ns (asked_by ts)
  pub traced : list_all is_node_id ns ≡ true → AreTasksWithin (blank ns) ts → IsOneRun (blank ns) (ran_by ts)
  pub asked : list_all is_node_id ns ≡ true → AreTasksWithin (blank ns) ts → AskAlike (blank ns) (asked_by ts)

-- At each moment of these tasks each circuit's members agree as if they and what happened before were one run; each root, entry,
-- receipt, history and state that an answer shows is that of a prefix of a circuit's lists in that run, and each watcher takes what
-- the batches of that list changed, each once and in order
pub record LawsOnwards (o : Origin) (before : CircuitId → List Occurrence) (ts : List Task) : Type 0 where
  pub agree : AgreeOn o before (ran_by ts)
  pub shown : IsOrigin o → ShowsOn o before (ran_by ts)
  pub taken : IsOrigin o → WatchersTakeOn o before (asked_by ts)

-- a run that begins with these cells goes on from what happened before and a stop and start of each node
abbrev pub HistoryGoesOn : Origin → List Task → Type 0
HistoryGoesOn o ts = (before : CircuitId → List Occurrence) → HasLeftCells o before → LawsOnwards o (λ c. before c ++ restarts o.nodes) ts

abbrev pub PlanAgrees : Command → Plan → Type 0
PlanAgrees command.Resume p = HistoryGoesOn (origin p) (tasks (way_of command.Resume) p.lines)
PlanAgrees m p = Laws (ids p) (tasks (way_of m) p.lines)

-- ---- what decides

-- A circuit's own lines alone decide, whatever else ran: those that name it, and the stops and starts of the nodes concerned
pub record OwnLinesDecide (o : Origin) : Type 0 where
  -- two runs in which they are the same give the same answers to the lines that name it
  pub answers : (c : CircuitId) (rs ss : List Ran) → lines_fit rs ≡ true → lines_fit ss ≡ true → own o c rs ≡ own o c ss
      → answers_about o c [] rs ≡ answers_about o c [] ss
  -- a line that doesn't name it, and stops or starts no node concerned, is none of them
  pub dropped : (c : CircuitId) (before after : List Ran) (r : Ran) → names c r.line ≡ false → beside (concerned o c (before ++ after)) r.line ≡ []
      → own o c (before ++ r ∷ after) ≡ own o c (before ++ after)
  -- the world after them, which agrees, has the cells and the messages of the one after all lines, for which the disks stand
  pub same : (c : CircuitId) (rs : List Ran) → lines_fit rs ≡ true → IsSameFor (concerned o c rs) (circuit_world o c rs) (whole_world o c rs)
  -- and no other node keeps anything
  pub elsewhere : (c : CircuitId) (rs : List Ran) (n : Node) → lines_fit rs ≡ true → has_node (concerned o c rs) n ≡ false → (whole_world o c rs).at n ≡ Empty

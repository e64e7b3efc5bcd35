-- What is run, over what, and what comes of it: one form for all ways to run (docs/RULES.md, Schedules, Traces, Resuming, Links, Statuses).
use Rattle.std.specs.Prelude.{◌≡◌, ◌+◌, ℕ, Bool, true, false, nat_le, if◌then◌else◌, List, [], ◌∷◌, ◌++◌, map, Option, Some, None, IfSome, ◌⊎◌, ◌<◌, ◌≤◌, ◌-◌}
use Rattle.std.specs.{Prelude.{Result, Ok, Err, ⊤, length, take, drop}, Io.{appended_bytes, KnownBytes.{Appends, IsAtEnd, append_known}}, List.AllByRecursion}
use Rattle.std.specs.List.{slice_get}
use Rattle.spl_lines.specs.{Lines.{IsWholeText, IsOverlong, IsUnfinished, IsShort, rest_of}, Tasks.{Task, ran_by, texts_of, IsLine, IsRunnable}}
use Rattle.spl_lines.specs.{Tasks.{named_circuit, line_said, AreTasksWithin, watches_in}, declared.reading.Said.Said}
use Rattle.spl_lines.specs.declared.reading.Said.TheVariants as say
use Rattle.spl_edge.specs.{Sources.{given, limit}, Devices.{AppendsPart, Rose, PairView, SinkView, SourceView, Streams}}
use Rattle.spl_circuit.specs.Nodes.{CircuitId, Node, sorted}
use Rattle.spl_circuit_world.specs.{Worlds.{Origin, blank}, Whole.whole_world}
use Rattle.spl_pump.specs.Wires.{Carried, LiesOf, TakesBetween}
use Rattle.spl_pump.specs.declared.fault.PumpFault.TheVariants as pump
use Rattle.spl_registry.specs.Nodes.{Entry, entry_ids, node_at}
use Rattle.spl_cell_rules.specs.Cells.{Cell, Empty}
use Rattle.spl_runs.specs.declared.{fault.{RunEnd.RunEnd, RunFault.RunFault}, mode.{Beginning.Beginning, Mode.Mode, Writing.Writing}}
use Rattle.spl_runs.specs.declared.mode.Beginning.TheVariants as beginning
use Rattle.spl_runs.specs.declared.mode.Writing.TheVariants as writing
use Rattle.spl_runs.specs.declared.fault.RunEnd.TheVariants as end
use Rattle.spl_runs.specs.declared.fault.RunFault.TheVariants as fault
use Rattle.spl_sched.specs.declared.line.Line.{Line}
use Rattle.spl_sched.specs.declared.line.Line.TheVariants as line
use Rattle.spl_sched.specs.declared.line.Step.TheVariants as step
use Rattle.spl_wire.specs.declared.event.Event.TheVariants as event
use Rattle.spl_node.specs.{Benches.{Images, AllGoOn, AllTell, RoseAt, Tell, images_at, AllUnarmed, NoneForgotten, images_now}, Stopping.BothPickAtMostOnce}
use Rattle.spl_world.specs.Held.{origin_on, IsOverLimit, HoldFor, LineEnds, FailedSince, HasPicked, cells_after_lines, stops_at, stops, EachSeat, AllReadable}
use Rattle.spl_world.specs.{Held.{AreOpenedBut, IsFirstUnread}, Links.{line_carried, seat_of, HasLinkCause, IsDueIn, LinkView, MayBeDue, MayComeLast}}
use Rattle.spl_world.specs.declared.fault.WorldFault.{WorldFault}
use Rattle.spl_world.specs.declared.fault.WorldFault.TheVariants as error

-- ---- plans

-- the nodes of a registry, in the order of their ids
abbrev pub nodes_in : List Entry → List Node
nodes_in es = sorted (entry_ids es)

-- and their positions
abbrev pub places_in : List Entry → List ℕ
places_in es = map (seat_of es) (nodes_in es)

-- the nodes, the lines of the schedule, whether their traces are written in place of their answers, what each node keeps of each
-- circuit at first, and the circuits of which one keeps something
pub record Plan : Type 0 where
  pub nodes : List Entry
  pub lines : List (List ℕ)
  pub traced : Bool
  pub kept : CircuitId → Node → Cell
  pub circuits : List CircuitId

-- nothing is kept at first, and answers are written
abbrev pub plan : List Entry → List (List ℕ) → Plan
plan es lines = record { nodes = es; lines = lines; traced = false; kept = λ c n. Empty; circuits = [] }

-- the nodes in the order of their ids
abbrev pub ids : Plan → List Node
ids p = nodes_in p.nodes

-- where it begins
abbrev pub origin : Plan → Origin
origin p = record { nodes = ids p; kept = p.kept; circuits = p.circuits }

-- what a run of these tasks writes
abbrev pub texts : Plan → List Task → List ℕ
texts p ts = texts_of p.traced (origin p) ts

-- the same run of these lines
abbrev pub with_lines : Plan → List (List ℕ) → Plan
with_lines p lines = record { nodes = p.nodes; lines = lines; traced = p.traced; kept = p.kept; circuits = p.circuits }

-- ---- by a mode

-- traces are written in place of answers
abbrev pub is_trace : Writing → Bool
is_trace writing.Answers = false
is_trace writing.Trace = true

-- a run goes on from what disks hold
abbrev pub is_resumed : Beginning → Bool
is_resumed beginning.Blank = false
is_resumed beginning.Resumed = true

-- where it begins: with nothing, or with that for which disks stand that hold this
abbrev pub origin_in : Beginning → List Entry → List Images → Origin
origin_in beginning.Blank es is = blank (nodes_in es)
origin_in beginning.Resumed es is = origin_on es is

-- the plan of a registry and of lines, in a mode, over disks that hold this
abbrev pub run_plan : Mode → List Entry → List Images → List (List ℕ) → Plan
run_plan m es is lines = record {
  nodes = es;
  lines = lines;
  traced = is_trace m.writing;
  kept = (origin_in m.beginning es is).kept;
  circuits = (origin_in m.beginning es is).circuits;
}

-- ---- ways to run

-- how a schedule is run
pub record RunMode : Type 0 where
  -- messages go over links, and a stop picks nothing of the disks
  pub linked : Bool
  -- so many of its first lines are run, and not answered
  pub unanswered : ℕ

abbrev pub run_way : Bool → ℕ → RunMode
run_way linked unanswered = record { linked = linked; unanswered = unanswered }

-- ---- lines

-- lines of the nodes that a run over links takes: all but ticks, ends of rounds and deliveries, which it brings about itself, and stops in an
-- event
abbrev pub is_taken_line : Line → Bool
is_taken_line (line.Step (step.At n c event.Tick)) = false
is_taken_line (line.Step (step.At n c event.Expire)) = false
is_taken_line (line.Step (step.At n c e)) = true
is_taken_line (line.Stop n) = true
is_taken_line (line.Start n) = true
is_taken_line (line.Roll n) = true
is_taken_line (line.Check k) = true
is_taken_line _ = false

-- so it takes what a line says; it takes each line of a watcher
abbrev pub is_said_taken : Said → Bool
is_said_taken (say.Line l) = is_taken_line l
is_said_taken (say.Watch l) = true

-- the lines of the nodes that are run there: those that are taken, and calms
abbrev pub is_run : Line → Bool
is_run (line.Calm c k) = true
is_run l = is_taken_line l

-- a line that a schedule over these nodes may have there
pub record IsAllowed (w : RunMode) (ns : List Node) (bytes : List ℕ) : Type 0 where
  pub good : IsLine ns bytes
  pub taken : w.linked ≡ true → IfSome (line_said bytes) (λ s. is_said_taken s ≡ true)

-- the bytes spell what is read of a line, which nodes like these may run, and, over links, which the run takes
pub record MayAnswer (linked : Bool) (ns : List Node) (bytes : List ℕ) (read : Said) : Type 0 where
  pub spelled : line_said bytes ≡ Some read
  pub known : IsRunnable ns read
  pub taken : linked ≡ true → is_said_taken read ≡ true

-- ---- tasks

-- the number with which a line's answer is written
abbrev pub number_of : RunMode → ℕ → Option ℕ
number_of w n = if nat_le n w.unanswered then None else Some n

-- the passes of the calm after a line
abbrev pub calm_passes : ℕ
calm_passes = 8

-- a calm of the circuit that a line names, where it names one
abbrev pub calm_in : Option CircuitId → List Task
calm_in None = []
calm_in (Some c) = record { number = None; line = say.Line (line.Calm c calm_passes) } ∷ []

-- what is run after a line: over links a calm of the circuit that it names
abbrev pub after_line : RunMode → Said → List Task
after_line w s = if w.linked then calm_in (named_circuit s) else []

abbrev pub tasks_of : RunMode → ℕ → Option Said → List Task
tasks_of w n None = []
tasks_of w n (Some s) = record { number = number_of w n; line = s } ∷ after_line w s

abbrev pub tasks_from : RunMode → ℕ → List (List ℕ) → List Task
tasks_from w n [] = []
tasks_from w n (bytes ∷ lines) = tasks_of w n (line_said bytes) ++ tasks_from w (n + 1) lines

-- what is run of lines, which are numbered from 1
abbrev pub tasks : RunMode → List (List ℕ) → List Task
tasks w lines = tasks_from w 1 lines

-- ---- messages

-- the messages that a task after these carries between the nodes: a line of a watcher carries none
abbrev pub task_carried : Plan → List Task → Said → List Carried
task_carried p before (say.Line l) = line_carried (seat_of p.nodes) (λ c. whole_world (origin p) c (ran_by before)) l
task_carried p before (say.Watch l) = []

-- those of tasks after these, in order
abbrev pub carried_after : Plan → List Task → List Task → List Carried
carried_after p before [] = []
carried_after p before (t ∷ ts) = task_carried p before t.line ++ carried_after p (before ++ t ∷ []) ts

abbrev pub carried : Plan → List Task → List Carried
carried p ts = carried_after p [] ts

-- ---- what is run, over what

abbrev pub AreAllowed : RunMode → Plan → List (List ℕ) → Type 0
AreAllowed w p lines = AllByRecursion (IsAllowed w (ids p)) lines

-- what the devices of a run report: its sink, the disks of its nodes, and the links between them
pub record Devices : Type 0 where
  pub sink : SinkView
  pub disks : List PairView
  pub links : LinkView

abbrev pub devices : SinkView → List PairView → LinkView → Devices
devices sink disks links = record { sink = sink; disks = disks; links = links }

-- what each pair of disks holds
abbrev pub held_on : List PairView → List Images
held_on ps = map images_now ps

-- how a run ended
abbrev pub Ended : Type 0
Ended = Result RunEnd RunFault

-- ---- why it ended, whatever the devices report

-- a disk of the node at this position failed: over links in the run, and else since it was last picked from
abbrev pub HasFailed : Bool → ℕ → List PairView → List PairView → Type 0
HasFailed true k start now = RoseAt k start now
HasFailed false k start now = FailedSince k start now

abbrev pub Why : Ended → RunMode → Plan → Devices → Devices → Type 0
Why (Ok e) w p x y = AreAllowed w p p.lines
Why (Err (fault.BadLine n)) w p x y = AreAllowed w p (take (n - 1) p.lines)
Why (Err (fault.World (error.Disk k))) w p x y = (k < length p.nodes) × HasFailed w.linked k x.disks y.disks
Why (Err (fault.World (error.NotAJournal k at))) w p x y = k < length p.nodes
Why (Err (fault.World error.Link)) w p x y = Rose x.links.faults y.links.faults
Why (Err (fault.World (error.Lied from to sent got))) w p x y =
    (from < x.links.slots) × (to < x.links.slots) × LiesOf (MayBeDue x.links.hello from to) (pump.Lied sent got) y.links.put y.links.taken
Why (Err (fault.World (error.TooMany which))) w p x y = ⊤
Why (Err (fault.World error.NoMemory)) w p x y = ⊥
Why (Err fault.Write) w p x y = Rose x.sink.faults y.sink.faults
Why (Err fault.NoMemory) w p x y = ⊤

-- the line of this number is none that the schedule may have
pub record IsBadLine (w : RunMode) (p : Plan) (number : ℕ) : Type 0 where
  pub line : List ℕ
  pub more : List (List ℕ)
  pub counted : 0 < number
  pub place : drop (number - 1) p.lines ≡ line ∷ more
  pub bad : IsAllowed w (ids p) line → ⊥

-- or the one after all lines given has it, and lacks its line feed or is too long
pub record IsBadRest (p : Plan) (text : List ℕ) (left : Option (List ℕ)) (number : ℕ) : Type 0 where
  pub last : number ≡ length p.lines + 1
  pub bad : IsUnfinished text left ⊎ IsOverlong text

-- what the source of the schedule gave, by how the run ended
abbrev pub EndsText : Ended → RunMode → Plan → SourceView → SourceView → Type 0
EndsText (Ok end.Whole) w p s t = IsWholeText (given s t) t.left
EndsText (Ok end.Read) w p s t = Rose s.faults t.faults × (length (given s t) ≤ limit) × IsShort (rest_of (given s t))
EndsText (Ok end.TooLong) w p s t = (limit < length (given s t)) × IsShort (rest_of (take limit (given s t)))
EndsText (Err (fault.BadLine n)) w p s t = IsBadLine w p n ⊎ IsBadRest p (given s t) t.left n
EndsText e w p s t = ⊤

-- ---- how far it came

-- where it stood when it ended: after tasks that ran, or in the next one, which ended with an error
pub data Stop : Type 0 where
  After : Stop
  In : Task → WorldFault → Stop

abbrev pub under_way : Stop → List Task
under_way After = []
under_way (In t e) = t ∷ []

-- a disk may fail in it: it is of the nodes, and stops none
abbrev pub MayFail : Said → Type 0
MayFail (say.Line l) = stops l ≡ false
MayFail (say.Watch l) = ⊥

-- the cause of an error, after these tasks
abbrev pub ErrorHasCause : RunMode → Plan → List Task → Stop → Devices → Devices → Type 0
ErrorHasCause w p before After x y = ⊤
ErrorHasCause w p before (In t (error.TooMany which)) x y = IsOverLimit (origin p) (watches_in (before ++ t ∷ [])) (ran_by (before ++ t ∷ [])) which
ErrorHasCause w p before (In t (error.Disk k)) x y = HasFailed w.linked k x.disks y.disks × MayFail t.line
ErrorHasCause w p before (In t (error.NotAJournal k at)) x y = ⊥
ErrorHasCause w p before (In t error.NoMemory) x y = ⊤
ErrorHasCause w p before (In t e) x y = HasLinkCause e (task_carried p before t.line) x.links y.links

-- The tasks that ran, and the one in which it ended, where it ended in one. They are the first of what is run of lines that
-- the schedule may have, which are the first of the lines given; and those that ran are within the limits
pub record Reached (w : RunMode) (p : Plan) (x y : Devices) : Type 0 where
  pub lines : List (List ℕ)
  pub rest : List (List ℕ)
  pub place : p.lines ≡ lines ++ rest
  pub allowed : AreAllowed w p lines
  pub before : List Task
  pub stop : Stop
  pub more : List Task
  pub all : tasks w lines ≡ before ++ (under_way stop ++ more)
  pub within : AreTasksWithin (origin p) before
  pub cause : ErrorHasCause w p before stop x y

-- it ended after all that is run of these lines
pub record RanAll {w : RunMode} {p : Plan} {x y : Devices} (r : Reached w p x y) (lines : List (List ℕ)) : Type 0 where
  pub before : r.before ≡ tasks w lines
  pub stop : r.stop ≡ After

-- where each end came: after all lines given, or those before the bad one; in a task that found the error; and a failed
-- write or no memory after any, or in a task with an error, a failed write in none that found no memory
abbrev pub RunEnds : Ended → {w : RunMode} {p : Plan} {x y : Devices} → Reached w p x y → Type 0
RunEnds (Ok e) {w} {p} r = RanAll r p.lines
RunEnds (Err (fault.BadLine n)) {w} {p} r = RanAll r (take (n - 1) p.lines)
RunEnds (Err (fault.World e)) r = (t : Task) × (r.stop ≡ In t e)
RunEnds (Err fault.Write) r = (t : Task) → r.stop ≡ In t error.NoMemory → ⊥
RunEnds (Err fault.NoMemory) r = ⊤

-- ---- what it leaves

-- all of these bytes are written, and a prefix of them where a write failed or memory ran out
abbrev pub Written : Ended → Option (List ℕ) → Option (List ℕ) → List ℕ → Type 0
Written (Err fault.Write) old new all = AppendsPart old new all
Written (Err fault.NoMemory) old new all = AppendsPart old new all
Written e old new all = Appends old new all

-- the disks of each node, at its position, tell what they hold, and that stands for what it keeps after these tasks: what a read
-- gives of them, and whatever a crash leaves
abbrev pub HoldAfter : Plan → List Task → List Images → Type 0
HoldAfter p ts is = (k : ℕ) (n : Node) → node_at p.nodes k ≡ Some n
    → Tell (images_at is k) × HoldFor n (cells_after_lines (origin p) (ran_by ts) n) (images_at is k)

-- where a task ended with an error after these, they hold what is kept after some of its events, those of one node maybe with one event
-- of its own more; a line of a watcher changes nothing of it
abbrev pub EndsInTask : Plan → List Task → Said → WorldFault → List Images → Type 0
EndsInTask p before (say.Line l) e is = LineEnds (λ c. whole_world (origin p) c (ran_by before)) l e (ids p) (places_in p.nodes) is
EndsInTask p before (say.Watch l) e is = HoldAfter p before is

-- what they hold where it ended after these, or in a task
abbrev pub HeldAtEnd : Plan → List Task → Stop → List Images → Type 0
HeldAtEnd p before After is = HoldAfter p before is
HeldAtEnd p before (In t e) is = EndsInTask p before t.line e is

abbrev pub StopsNode : Node → Said → Type 0
StopsNode n (say.Line l) = stops_at n l ≡ true
StopsNode n (say.Watch l) = ⊥

-- the line under way was to stop this node, and found no memory
abbrev pub IsShortOf : Node → Stop → Type 0
IsShortOf n (In t error.NoMemory) = StopsNode n t.line
IsShortOf n stop = ⊥

-- the disks of each node picked at each of these lines that stopped it, and nowhere else; and at most once more where the line
-- under way was to stop it, and found no memory. Over links no disk is picked from
abbrev pub PickedAtStops : Bool → Plan → List Task → Stop → List PairView → List PairView → Type 0
PickedAtStops true p before stop start now = AllGoOn start now
PickedAtStops false p before stop start now = EachSeat (λ k n s q. HasPicked (origin p) (ran_by before) n s q
    ⊎ (IsShortOf n stop × (until : PairView) × HasPicked (origin p) (ran_by before) n s until × BothPickAtMostOnce until q)) p.nodes start now

-- pairs of disks that no node has stay as they were
abbrev pub Spared : Plan → List PairView → List PairView → Type 0
Spared p start now = (k : ℕ) → length p.nodes ≤ k → slice_get now k ≡ slice_get start k

-- on each pair all of the first bytes were put, and a prefix of what the second ones have after those
abbrev pub PutsBetween : (ℕ → ℕ → List ℕ) → (ℕ → ℕ → List ℕ) → Streams → Streams → Type 0
PutsBetween least most old new = (a b : ℕ) → a < 256 → b < 256 → (done : List ℕ) × (more : List ℕ)
    × (most a b ≡ (least a b ++ done) ++ more) × (new a b ≡ append_known (old a b) (least a b ++ done))

-- on each link the bytes of the messages of these tasks were put, and a prefix of those of the task under way
abbrev pub SentOverLinks : Plan → List Task → Stop → LinkView → LinkView → Type 0
SentOverLinks p before stop x y = PutsBetween (x.wire (carried p before)) (x.wire (carried p (before ++ under_way stop))) x.put y.put

-- the messages of the task under way
abbrev pub under_way_messages : Plan → List Task → Stop → List Carried
under_way_messages p before After = []
under_way_messages p before (In t e) = task_carried p before t.line

-- the other bytes that came last: there are none but where a task ended since the links are at fault, or memory ran out
abbrev pub MayComeAt : Stop → List ℕ → Type 0
MayComeAt After last = last ≡ []
MayComeAt (In t e) last = MayComeLast e last

-- on each link the bytes of the messages of these tasks were taken, and a prefix of those of the task under way; and on one link then
-- others that came in place of the next of this task
pub record LinksHeard (p : Plan) (before : List Task) (stop : Stop) (x y : LinkView) : Type 0 where
  pub taken : TakesBetween (IsDueIn x.hello (under_way_messages p before stop)) (x.wire (carried p before)) (x.wire (carried p (before ++ under_way stop)))
      x.taken y.taken
  pub others : MayComeAt stop taken.last

-- ---- the run

-- a run of a plan, from x to y
pub record PlanRun (e : Ended) (w : RunMode) (p : Plan) (x y : Devices) : Type 0 where
  -- the disks of each node were blank or a journal
  pub readable : AllReadable p.nodes (held_on x.disks)
  -- how far it came, and why it ended there
  pub reached : Reached w p x y
  pub ends : RunEnds e reached
  -- what is told of the tasks that ran
  pub written : Written e x.sink.written y.sink.written (texts p reached.before)
  -- what the disks hold
  pub held : HeldAtEnd p reached.before reached.stop (held_on y.disks)
  pub picked : PickedAtStops w.linked p reached.before reached.stop x.disks y.disks
  pub spared : Spared p x.disks y.disks
  -- what went over the links
  pub sent : SentOverLinks p reached.before reached.stop x.links y.links
  pub heard : LinksHeard p reached.before reached.stop x.links y.links

-- an error with which the making or the opening of nodes ended, and what the disks held and hold then
abbrev pub AreUnmade : Ended → Plan → List Images → List Images → Type 0
AreUnmade (Err (fault.World (error.Disk k))) p start now = AreOpenedBut p.nodes (error.Disk k) start now
AreUnmade (Err (fault.World (error.NotAJournal k at))) p start now =
    IsFirstUnread k at p.nodes start × AreOpenedBut p.nodes (error.NotAJournal k at) start now
AreUnmade (Err fault.NoMemory) p start now = AreOpenedBut p.nodes error.NoMemory start now
AreUnmade e p start now = ⊥

-- not all nodes were made, or not all opened: the schedule wasn't read, and nothing was picked, written or put on the links
pub record Unmade (e : Ended) (w : RunMode) (p : Plan) (s t : SourceView) (x y : Devices) : Type 0 where
  pub unread : t ≡ s
  pub disks : AreUnmade e p (held_on x.disks) (held_on y.disks)
  pub picked : PickedAtStops w.linked p [] After x.disks y.disks
  pub spared : Spared p x.disks y.disks
  pub written : Appends x.sink.written y.sink.written []
  pub links : y.links ≡ x.links

-- what came of a plan: the cause of its end, and, over disks that report what they hold, what was done
pub record PlanOutcome (e : Ended) (w : RunMode) (p : Plan) (s t : SourceView) (x y : Devices) : Type 0 where
  pub why : Why e w p x y
  pub done : AllTell (length p.nodes) (held_on x.disks) → Unmade e w p s t x y ⊎ PlanRun e w p x y

-- whatever the disks report: over links all went on, none picked from; and else no fault is forgotten, and none is armed but
-- where memory ran out
abbrev pub DisksGoOn : Ended → Bool → List PairView → List PairView → Type 0
DisksGoOn e true old new = AllGoOn old new
DisksGoOn e false old new = NoneForgotten old new × ((e ≡ Err fault.NoMemory → ⊥) → AllUnarmed new)

-- What a command asks for, the devices that it uses, and how it ends (docs/RULES.md, Statuses, Disks, Links).
use Rattle.std.specs.{Io.KnownBytes.Appends, Prelude.{◌≡◌, ◌-◌, ℕ, Bool, true, false, List, [], length, Option, Some, None, Result, Ok, Err, ⊤, ◌⊎◌, ◌<◌}}
use Rattle.std.specs.Prelude.{◌≤◌, take}
use Rattle.spl_cli.specs.{Command.is_linked, declared.{command.Command.Command, status.Status.Status}}
use Rattle.spl_cli.specs.declared.command.Command.TheVariants as command
use Rattle.spl_cli.specs.declared.status.Status.TheVariants as status
use Rattle.spl_edge.specs.{Devices.{DiskView, FabricView, PairView, SinkView, bench as bench_of, Rose, SourceView}, Sources.{limit, given}}
use Rattle.spl_edge.specs.declared.bench.{Bench.Bench, Shelf.Shelf}
use Rattle.spl_gen.specs.{Circuits.nodes as gen_nodes, Generated.generated_text}
use Rattle.spl_lines.specs.Lines.{run_of, lines_of, IsShort, rest_of, IsWholeText}
use Rattle.spl_pump.specs.Wires.{hand, wire_of, LiesOf}
use Rattle.spl_pump.specs.declared.fault.PumpFault.TheVariants as pump
use Rattle.spl_registry.specs.{Nodes.{Entry, local_entries, registry_of, node_at}, declared.fault.RegistryFault.RegistryFault}
use Rattle.spl_runs.specs.{Run.{Plan, RunMode, run_plan, Devices, held_on, AreAllowed, Ended, HasFailed, IsBadLine, IsBadRest}, declared.mode.Mode.Mode}
use Rattle.spl_runs.specs.declared.mode.Beginning.TheVariants as beginning
use Rattle.spl_runs.specs.declared.mode.Writing.TheVariants as writing
use Rattle.spl_runs.specs.declared.fault.RunEnd.TheVariants as end
use Rattle.spl_runs.specs.declared.fault.RunFault.TheVariants as fault
use Rattle.spl_node.specs.Benches.{AllTell, Images}
use Rattle.spl_world.specs.Links.{LinkView, MayBeDue}
use Rattle.spl_world.specs.declared.fault.WorldFault.TheVariants as error
use Rattle.spl_circuit.specs.Nodes.{Node}

-- it runs circuits: all do but an audit, which reads what nodes keep, and Paxos Commit, which has processes of its own
abbrev pub runs_circuits : Command → Bool
runs_circuits command.Audit = false
runs_circuits (command.Paxos g) = false
runs_circuits m = true

-- the lines of the schedule of n batches that is made from the seed
abbrev pub generated_lines : ℕ → ℕ → List (List ℕ)
generated_lines n seed = lines_of (generated_text n seed)

-- how a run begins, and what it writes; of a generated schedule only the last nine lines are answered
abbrev pub mode_of : Command → Mode
mode_of command.Trace = record { beginning = beginning.Blank; writing = writing.Trace; unanswered = 0 }
mode_of command.Resume = record { beginning = beginning.Resumed; writing = writing.Answers; unanswered = 0 }
mode_of (command.Gen n seed) = record { beginning = beginning.Blank; writing = writing.Answers; unanswered = length (generated_lines n seed) - 9 }
mode_of m = record { beginning = beginning.Blank; writing = writing.Answers; unanswered = 0 }

-- how its lines are run
abbrev pub way_of : Command → RunMode
way_of m = record { linked = is_linked m; unanswered = (mode_of m).unanswered }

abbrev pub plan_over : Mode → List Images → Result (List Entry) RegistryFault → List (List ℕ) → Option Plan
plan_over mode is (Ok es) lines = Some (run_plan mode es is lines)
plan_over mode is (Err fault) lines = None

-- what the bytes of a registry and of a schedule spell, over files that hold this; none where the first are no registry, or no
-- lines of circuits are run
abbrev pub command_plan : Command → List Images → List ℕ → List ℕ → Option Plan
command_plan (command.Gen n seed) is registry schedule = Some (run_plan (mode_of (command.Gen n seed)) (local_entries gen_nodes) is (generated_lines n seed))
command_plan (command.Paxos g) is registry schedule = None
command_plan command.Audit is registry schedule = None
command_plan m is registry schedule = plan_over (mode_of m) is (registry_of registry) (run_of schedule)

-- what the devices report: the sink, the bench of disks in memory, the shelf of files, and the fabric of links
pub record Outside : Type 0 where
  pub sink : SinkView
  pub bench : List PairView
  pub shelf : List PairView
  pub fabric : FabricView

abbrev pub outside : SinkView → List PairView → List PairView → FabricView → Outside
outside sink bench shelf fabric = record { sink = sink; bench = bench; shelf = shelf; fabric = fabric }

-- that of a sink, of disks and of a fabric that report so
abbrev pub outside_of : {W D E F : Type 0} → (W → SinkView) → (D → DiskView) → (E → DiskView) → (F → FabricView) → W → Bench D → Shelf E → F → Outside
outside_of sink disk file links w b s f = outside (sink w) (bench_of disk b.pairs.items) (bench_of file s.pairs.items) (links f)

-- nothing was written, and a schedule, the disks in memory, the files and the fabric are as they were
abbrev pub Untouched : {S D E F : Type 0} → SinkView → SinkView → S → S → Bench D → Bench D → Shelf E → Shelf E → F → F → Type 0
Untouched w x c d a b e f g h = Appends w.written x.written [] × (d ≡ c) × (b ≡ a) × (f ≡ e) × (h ≡ g)

-- a link that carries the frames of messages between the nodes of a registry
abbrev pub links_over : List Entry → FabricView → LinkView
links_over es f = record { slots = length es; failed = false; wire = wire_of es; hello = hand es; put = f.put; taken = f.taken; faults = f.faults }

-- none, where messages are handed over in memory
abbrev pub no_links : LinkView
no_links = record { slots = 16; failed = false; wire = λ sent a b. []; hello = λ a b. []; put = λ a b. Some []; taken = λ a b. Some []; faults = 0 }

-- those that a run uses, by whether it is over files and links
abbrev pub devices_by : Bool → Plan → Outside → Devices
devices_by true p o = record { sink = o.sink; disks = o.shelf; links = links_over p.nodes o.fabric }
devices_by false p o = record { sink = o.sink; disks = o.bench; links = no_links }

abbrev pub devices_of : Command → Plan → Outside → Devices
devices_of m p o = devices_by (is_linked m) p o

-- its files report what they hold, as disks in memory do
abbrev pub Report : Bool → Plan → Outside → Type 0
Report true p x = AllTell (length p.nodes) (held_on x.shelf)
Report false p x = ⊤

-- the status of an end; a node is named by its position
abbrev pub IsStatusOf : List Entry → Ended → Status → Type 0
IsStatusOf es (Ok end.Whole) s = s ≡ status.Ok
IsStatusOf es (Ok end.Read) s = s ≡ status.ReadFault
IsStatusOf es (Ok end.TooLong) s = s ≡ status.TooLong
IsStatusOf es (Err (fault.BadLine n)) s = s ≡ status.BadSchedule n
IsStatusOf es (Err (fault.World (error.TooMany which))) s = s ≡ status.TooMany which
IsStatusOf es (Err (fault.World (error.Disk k))) s = (n : Node) × (node_at es k ≡ Some n) × (s ≡ status.DiskFault n)
IsStatusOf es (Err (fault.World (error.NotAJournal k at))) s = (n : Node) × (node_at es k ≡ Some n) × (s ≡ status.NotAJournal n at)
IsStatusOf es (Err (fault.World error.Link)) s = s ≡ status.LinkFault
IsStatusOf es (Err (fault.World (error.Lied from to sent got))) s =
    (a : Node) × (b : Node) × (node_at es from ≡ Some a) × (node_at es to ≡ Some b) × (s ≡ status.Lied a b sent got)
IsStatusOf es (Err (fault.World error.NoMemory)) s = s ≡ status.NoMemory
IsStatusOf es (Err fault.Write) s = s ≡ status.WriteFault
IsStatusOf es (Err fault.NoMemory) s = s ≡ status.NoMemory

-- The cause of an end. The text of a schedule is one only where that is read: the whole of it, where the run came to its end; what
-- its source gave, where that failed or gave too much; and the first line that the schedule may not have, or one that is no line
abbrev pub Because : Ended → RunMode → Plan → Bool → SourceView → SourceView → Devices → Devices → Type 0
Because (Ok end.Whole) w p read c d x y = AreAllowed w p p.lines × (read ≡ true → IsWholeText (given c d) d.left)
Because (Ok end.Read) w p read c d x y =
    AreAllowed w p p.lines × (read ≡ true) × Rose c.faults d.faults × (length (given c d) ≤ limit) × IsShort (rest_of (given c d))
Because (Ok end.TooLong) w p read c d x y =
    AreAllowed w p p.lines × (read ≡ true) × (limit < length (given c d)) × IsShort (rest_of (take limit (given c d)))
Because (Err (fault.BadLine n)) w p read c d x y =
    AreAllowed w p (take (n - 1) p.lines) × (read ≡ true) × (IsBadLine w p n ⊎ IsBadRest p (given c d) d.left n)
Because (Err (fault.World (error.TooMany which))) w p read c d x y = ⊤
Because (Err (fault.World (error.Disk k))) w p read c d x y = (k < length p.nodes) × HasFailed w.linked k x.disks y.disks
Because (Err (fault.World (error.NotAJournal k at))) w p read c d x y = k < length p.nodes
Because (Err (fault.World error.Link)) w p read c d x y = Rose x.links.faults y.links.faults
Because (Err (fault.World (error.Lied from to sent got))) w p read c d x y =
    (from < x.links.slots) × (to < x.links.slots) × LiesOf (MayBeDue x.links.hello from to) (pump.Lied sent got) y.links.put y.links.taken
Because (Err (fault.World error.NoMemory)) w p read c d x y = ⊥
Because (Err fault.Write) w p read c d x y = Rose x.sink.faults y.sink.faults
Because (Err fault.NoMemory) w p read c d x y = ⊤

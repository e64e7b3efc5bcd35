-- Any number of runs over the disks of one folder, and the one history that they are (docs/RULES.md, Resuming).
use Rattle.std.specs.Prelude.{◌≡◌, ◌<◌, ℕ, true, List, [], ◌++◌, length}
use Rattle.spl_circuit_safety.specs.Agreement.{IsAgreed}
use Rattle.spl_node.specs.{Blank.AllEmpty, Benches.{AllTell, AreBlank, Images, images_at, AreSettled}}
use Rattle.spl_circuit.specs.{Nodes.CircuitId, declared.definition.Definition.Definition}
use Rattle.spl_edge.specs.Devices.{SourceView}
use Rattle.spl_circuit_world.specs.Worlds.{Occurrence}
use Rattle.spl_registry.specs.Nodes.{Entry}
use Rattle.spl_runs.specs.{Run.{Plan, nodes_in, origin, run_plan, run_way, Devices, Ended, PlanRun, Unmade, held_on}, declared.mode.Mode.Mode}
use Rattle.spl_runs.specs.declared.mode.Beginning.TheVariants as beginning
use Rattle.spl_world.specs.Held.{origin_on}
use Rattle.spl_app.specs.{Found.AllFound, Left.{HasLeftCells, history_on}, Runs.{IsOneHistory, happened_by}}

-- A run over links of the nodes of a registry and their disks, however it ended: one that begins with nothing, where these hold no
-- bytes, or one that goes on from what they hold. And what is found on them after it, also after a crash; they report it
pub record FolderRun (es : List Entry) : Type 0 where
  pub mode : Mode
  pub lines : List (List ℕ)
  pub ended : Ended
  pub first : Devices
  pub last : Devices
  pub blank : mode.beginning ≡ beginning.Blank → AllEmpty (length es) (held_on first.disks)
  pub run : PlanRun ended (run_way true mode.unanswered) (run_plan mode es (held_on first.disks) lines) first last
  pub found : List Images
  pub left : AllFound (length es) (held_on last.disks) found
  pub told : AllTell (length es) found

-- One that didn't begin, over disks that all held bytes, of which nothing was pending; and what is found after it
pub record UnmadeRun (es : List Entry) : Type 0 where
  pub mode : Mode
  pub lines : List (List ℕ)
  pub ended : Ended
  pub source : SourceView
  pub rest : SourceView
  pub first : Devices
  pub last : Devices
  pub settled : (k : ℕ) → k < length es → AreSettled (images_at (held_on first.disks) k)
  pub bytes : (k : ℕ) → k < length es → AreBlank (images_at (held_on first.disks) k) → ⊥
  pub unmade : Unmade ended (run_way true mode.unanswered) (run_plan mode es (held_on first.disks) lines) source rest first last
  pub found : List Images
  pub left : AllFound (length es) (held_on last.disks) found
  pub told : AllTell (length es) (held_on first.disks) × AllTell (length es) found

-- what such runs left on the disks, one after another; before the first they held no bytes
pub data Folder (es : List Entry) : List Images → Type 0 where
  New : (is : List Images) → AllEmpty (length es) is → Folder es is
  AfterRun : (r : FolderRun es) → Folder es (held_on r.first.disks) → Folder es r.found
  AfterUnmade : (r : UnmadeRun es) → Folder es (held_on r.first.disks) → Folder es r.found

-- the plan of such a run
abbrev pub plan_in : {es : List Entry} → FolderRun es → Plan
plan_in {es} r = run_plan r.mode es (held_on r.first.disks) r.lines

-- this happened in each circuit in a run and those before it, which left what it began with
pub record HistoryHasGrown {es : List Entry} (r : FolderRun es) (before happened : CircuitId → List Occurrence) : Type 0 where
  pub one : IsOneHistory (plan_in r) before r.run.reached.before r.run.reached.stop r.found
  pub is : (c : CircuitId) → happened c ≡ history_on (nodes_in es) before (happened_by (origin (plan_in r)) r.run.reached.before one.part) c

-- and in all runs over a folder
abbrev pub HasHappened : {es : List Entry} {is : List Images} → Folder es is → (CircuitId → List Occurrence) → Type 0
HasHappened (New is empty) happened = (c : CircuitId) → happened c ≡ []
HasHappened (AfterRun r folder) happened = (before : CircuitId → List Occurrence) × HasHappened folder before × HistoryHasGrown r before happened
HasHappened (AfterUnmade r folder) happened = HasHappened folder happened

-- All runs over a folder are one history: its disks are the cells that this leaves once each node stops, and at each moment of it the
-- members of each circuit agree
pub record OneHistory {es : List Entry} {is : List Images} (folder : Folder es is) : Type 0 where
  pub happened : CircuitId → List Occurrence
  pub grown : HasHappened folder happened
  pub cells : HasLeftCells (origin_on es is) happened
  pub agreed : (c : CircuitId) (d : Definition) (past later : List Occurrence) → past ++ later ≡ happened c → IsAgreed (nodes_in es) past d

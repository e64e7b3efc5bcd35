-- The audit of nodes that are read from their disks (docs/RULES.md, Audit).
use Rattle.std.specs.{Prelude.{◌≡◌, ◌⊎◌, ◌<◌, ℕ, List, [], length, slice_get, Some, Result, Ok, Err, IsOk}, Io.KnownBytes.Appends}
use Rattle.spl_circuit.specs.Nodes.{CircuitId}
use Rattle.spl_edge.specs.Devices.{AppendsPart, Rose, PairView, SinkView, image_now}
use Rattle.spl_registry.specs.Nodes.{Entry, node_at}
use Rattle.spl_snapshot.specs.Counting.{HasRisen, IfBoth, PairOnward, PairStays}
use Rattle.spl_cell_rules.specs.{Valid.IsKept, Cells.site_at}
use Rattle.spl_node.specs.{Kept.{CellsView, cell_at}, Stands.{IsPeeked, disk_records}}
use Rattle.spl_audit.specs.{Audited.AreOne, Clashes.{IsLeastClash, Keeper, NoClash}, Keepers.keepers, Reporting.report, Texts.{clash_text, report_text}}
use Rattle.spl_audit.specs.declared.{clash.Clash.Clash, verdict.{AuditRunFault.AuditRunFault, Verdict.Verdict}}
use Rattle.spl_audit.specs.declared.verdict.AuditRunFault.TheVariants as fault
use Rattle.spl_audit.specs.declared.verdict.Verdict.TheVariants as verdict

-- ---- the disks

-- what the disks of the node at a position hold has P, where both report
abbrev pub HoldAt : List PairView → ℕ → (List ℕ → List ℕ → Type 0) → Type 0
HoldAt ps position P = (p : PairView) → slice_get ps position ≡ Some p → IfBoth (image_now p.first) (image_now p.second) (λ i j. P i.bytes j.bytes)

-- two disks are blank, or a journal
abbrev pub HaveReadableRecords : List ℕ → List ℕ → Type 0
HaveReadableRecords first second = IsOk (disk_records first second)

-- or neither, and this is the place where they are no journal
abbrev pub HaveNone : ℕ → List ℕ → List ℕ → Type 0
HaveNone at first second = disk_records first second ≡ Err at

-- the disks at this position are the first that are neither blank nor a journal
pub record IsFirstUnreadable (es : List Entry) (ps : List PairView) (slot at : ℕ) : Type 0 where
  pub known : slot < length es
  pub here : HoldAt ps slot (HaveNone at)
  pub before : (k : ℕ) → k < slot → HoldAt ps k HaveReadableRecords

-- a disk of the node at this position has failed more often
pub record RoseHere (es : List Entry) (slot : ℕ) (ps qs : List PairView) : Type 0 where
  pub known : slot < length es
  pub rose : (p q : PairView) → slice_get ps slot ≡ Some p → slice_get qs slot ≡ Some q → HasRisen p q

-- each disk holds what it held, and no fault of one is forgotten
pub record AllStay (ps qs : List PairView) : Type 0 where
  pub as_many : length qs ≡ length ps
  pub stays : (k : ℕ) (p q : PairView) → slice_get ps k ≡ Some p → slice_get qs k ≡ Some q → PairStays p q
  pub onward : (k : ℕ) (p q : PairView) → slice_get ps k ≡ Some p → slice_get qs k ≡ Some q → PairOnward p q

-- ---- the nodes

-- the node of this position with the cells for which its disks stand, which the rules of cells keep
pub record StandsAt (es : List Entry) (ps : List PairView) (position : ℕ) (v : CellsView) : Type 0 where
  pub node : node_at es position ≡ Some v.here
  pub cells : HoldAt ps position (IsPeeked v)
  pub kept : (c : CircuitId) → IsKept (site_at v.here c) (cell_at v.entries c)

-- all nodes of a registry, in its order
pub record AllStand (es : List Entry) (ps : List PairView) (vs : List CellsView) : Type 0 where
  pub as_many : length vs ≡ length es
  pub each : (position : ℕ) (v : CellsView) → slice_get vs position ≡ Some v → StandsAt es ps position v

-- ---- what is said of them

-- no two nodes clash, so they agree; the text is their report
pub record SaysReport (ns : List Keeper) (text : List ℕ) : Type 0 where
  pub none : NoClash ns
  pub one : (c : CircuitId) → AreOne ns c
  pub report : text ≡ report_text (report ns)

-- this is the least clash of two, and the text is its line
pub record SaysClash (ns : List Keeper) (s : Clash) (text : List ℕ) : Type 0 where
  pub least : IsLeastClash ns s
  pub one : Keeper
  pub other : Keeper
  pub first : slice_get ns s.first ≡ Some one
  pub second : slice_get ns s.second ≡ Some other
  pub line : text ≡ clash_text s one.here other.here

abbrev pub SaysVerdict : Verdict → List Keeper → List ℕ → Type 0
SaysVerdict verdict.Agreed ns text = SaysReport ns text
SaysVerdict verdict.Disagreed ns text = (s : Clash) × SaysClash ns s text

-- what is said of the nodes for which these disks stand
pub record IsAudited (es : List Entry) (ps : List PairView) (v : Verdict) (text : List ℕ) : Type 0 where
  pub nodes : List CellsView
  pub stand : AllStand es ps nodes
  pub says : SaysVerdict v (keepers nodes) text

-- ---- what came of an audit over disks

-- why not all nodes were read
abbrev pub EndsPeeking : AuditRunFault → List Entry → List PairView → List PairView → Type 0
EndsPeeking (fault.Disk slot) es ps qs = RoseHere es slot ps qs
EndsPeeking (fault.NotAJournal slot at) es ps qs = IsFirstUnreadable es ps slot at
EndsPeeking fault.NoMemory es ps qs = Unit {0}
EndsPeeking fault.Write es ps qs = ⊥

-- it was written whole
pub record Writes (es : List Entry) (ps : List PairView) (v : Verdict) (w x : SinkView) : Type 0 where
  pub text : List ℕ
  pub audited : IsAudited es ps v text
  pub written : Appends w.written x.written text

-- or a part of it was
pub record WritesPart (es : List Entry) (ps : List PairView) (w x : SinkView) : Type 0 where
  pub verdict : Verdict
  pub text : List ℕ
  pub audited : IsAudited es ps verdict text
  pub part : AppendsPart w.written x.written text

-- or nothing
abbrev pub WritesNothing : SinkView → SinkView → Type 0
WritesNothing w x = Appends w.written x.written []

-- why it ended, and what was written then
abbrev pub CameOf : Result Verdict AuditRunFault → List Entry → List PairView → List PairView → SinkView → SinkView → Type 0
CameOf (Ok v) es ps qs w x = Writes es ps v w x
CameOf (Err (fault.Disk slot)) es ps qs w x = RoseHere es slot ps qs × WritesNothing w x
CameOf (Err (fault.NotAJournal slot at)) es ps qs w x = IsFirstUnreadable es ps slot at × WritesNothing w x
CameOf (Err fault.Write) es ps qs w x = Rose w.faults x.faults × WritesPart es ps w x
CameOf (Err fault.NoMemory) es ps qs w x = WritesNothing w x ⊎ WritesPart es ps w x

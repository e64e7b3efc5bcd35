-- What comes of an audit (docs/RULES.md, Audit, Statuses).
use Rattle.std.specs.Prelude.{◌≡◌, ◌<◌, ◌≤◌, ℕ, List, length, map, slice_get, Some, Result, Ok, Err}
use Rattle.spl_audit.specs.{Runs.{AllStay, CameOf}, declared.verdict.{AuditRunFault.AuditRunFault, Verdict.Verdict}}
use Rattle.spl_audit.specs.declared.verdict.AuditRunFault.TheVariants as fault
use Rattle.spl_audit.specs.declared.verdict.Verdict.TheVariants as verdict
use Rattle.spl_circuit.specs.Nodes.{Node}
use Rattle.spl_edge.specs.{Devices.{Rose, PairView, SinkView, SourceView}, Sources.{limit, given}}
use Rattle.spl_cli.specs.{Registered.IsRegistryRead, declared.status.Status.Status}
use Rattle.spl_cli.specs.declared.status.Status.TheVariants as status
use Rattle.spl_registry.specs.Nodes.{Entry, node_at, registry_of}
use Rattle.spl_node.specs.Benches.{AllTell, RoseAt, images_now, AllReadableTo}

-- the status of an end; a node is named by its position
abbrev pub IsAuditStatus : List Entry → Result Verdict AuditRunFault → Status → Type 0
IsAuditStatus es (Ok verdict.Agreed) s = s ≡ status.Ok
IsAuditStatus es (Ok verdict.Disagreed) s = s ≡ status.Disagreed
IsAuditStatus es (Err (fault.Disk slot)) s = (n : Node) × (node_at es slot ≡ Some n) × (s ≡ status.DiskFault n)
IsAuditStatus es (Err (fault.NotAJournal slot at)) s = (n : Node) × (node_at es slot ≡ Some n) × (s ≡ status.NotAJournal n at)
IsAuditStatus es (Err fault.Write) s = s ≡ status.WriteFault
IsAuditStatus es (Err fault.NoMemory) s = s ≡ status.NoMemory

-- a node that an end names is of the registry
abbrev pub EndNamesNode : List Entry → Result Verdict AuditRunFault → Type 0
EndNamesNode es (Err (fault.Disk slot)) = slot < length es
EndNamesNode es (Err (fault.NotAJournal slot at)) = slot < length es
EndNamesNode es ended = Unit {0}

-- What came of an audit of these nodes: how it ended, which the status names, why, and what was written. The disks hold what
-- they held, and no others were asked
pub record Audited (s : Status) (es : List Entry) (ps qs : List PairView) (w x : SinkView) : Type 0 where
  pub ended : Result Verdict AuditRunFault
  pub status : IsAuditStatus es ended s
  pub came : CameOf ended es ps qs w x
  pub stays : AllStay ps qs
  pub spared : (k : ℕ) → length es ≤ k → slice_get qs k ≡ slice_get ps k

-- the bytes given spell the nodes of a registry that was read, and this came of their audit
pub record CameOfAudit (s : Status) (r q : SourceView) (ps qs : List PairView) (w x : SinkView) : Type 0 where
  pub nodes : List Entry
  pub spelled : registry_of (given r q) ≡ Ok nodes
  pub read : IsRegistryRead (given r q) q.left
  pub audited : Audited s nodes ps qs w x

-- the bytes that the registry's source had spell nodes, whose disks report that they are blank or a journal; and nothing failed
pub record AuditIsSound (registry : List ℕ) (r q : SourceView) (ps qs : List PairView) (w x : SinkView) : Type 0 where
  pub nodes : List Entry
  pub spelled : registry_of registry ≡ Ok nodes
  pub short : length registry ≤ limit
  pub source : Rose r.faults q.faults → ⊥
  pub sink : Rose w.faults x.faults → ⊥
  pub disks : (k : ℕ) → RoseAt k ps qs → ⊥
  pub told : AllTell (length nodes) (map images_now ps)
  pub kept : AllReadableTo (length nodes) (map images_now ps)

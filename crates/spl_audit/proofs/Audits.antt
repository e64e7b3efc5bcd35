-- What comes of an audit: its disks, its status, and that it doesn't give up by itself.
use Rattle.std.{specs.{Prelude.IfSome, Io.KnownBytes.Consumes}, proofs.Common.{◌≡◌, ◌⊎◌, inl, inr, ⊎_elim, ℕ, List, length, map, slice_get, Some, Result, Ok}}
use Rattle.std.proofs.{Common.{Err, ap, sym, subst, ◌∙◌}, lemmas.Option.slice_get_within}
use Rattle.spl_audit.specs.{Runs.{AllStay, CameOf, HaveNone, HoldAt, RoseHere}, Audit.{AuditIsSound, CameOfAudit, EndNamesNode, IsAuditStatus}}
use Rattle.spl_audit.specs.declared.verdict.{AuditRunFault.AuditRunFault, Verdict.Verdict}
use Rattle.spl_audit.specs.declared.verdict.AuditRunFault.TheVariants as fault
use Rattle.spl_audit.specs.declared.verdict.Verdict.TheVariants as verdict
use Rattle.spl_node.specs.Benches.{AllGoOn, AllTell, Images, RoseAt, Tell, images_at, images_now, AreReadable, AreSettled, images, AllReadableTo}
use Rattle.spl_node.proofs.{Holding.{held_at, pair_at}, Journals.never, Benches.told_images}
use Rattle.spl_edge.specs.{Devices.{Rose, IsSettled, DiskView, PairView, SinkView, SourceView, bench, image_now}, Sources.{had, given}}
use Rattle.spl_edge.{specs.declared.bench.Pair.Pair, proofs.Sources.all_had}
use Rattle.spl_cli.{specs.{Registered.EndsReading, declared.status.Status.Status}, proofs.Reading.read_ends}
use Rattle.spl_cli.specs.declared.status.Status.TheVariants as status
use Rattle.spl_registry.specs.Nodes.{Entry, registry_of}
use Rattle.spl_snapshot.specs.Counting.{IfBoth}

-- ---- its disks

pub goes_on : (ps qs : List PairView) → AllStay ps qs → AllGoOn ps qs
goes_on ps qs h = record { as_many = h.as_many; each = h.onward }

-- nothing is pending on the pair at a place
pub settled_at : {D : Type 0} (view : D → DiskView) (ps : List (Pair D)) (k : ℕ) (p : PairView) → slice_get (bench view ps) k ≡ Some p
    → AreSettled (images_at (images view ps) k) → IfSome (image_now p.first) IsSettled × IfSome (image_now p.second) IsSettled
settled_at view ps k p at h = let settled = subst AreSettled (told_images view ps k p at) h in (settled.first, settled.second)

-- ---- how it ends

-- the node that an end names is of the registry
pub names_node : (e : Result Verdict AuditRunFault) (es : List Entry) (ps qs : List PairView) (w x : SinkView) → CameOf e es ps qs w x → EndNamesNode es e
names_node (Ok v) es ps qs w x came = tt
names_node (Err (fault.Disk slot)) es ps qs w x came = came.0.known
names_node (Err (fault.NotAJournal slot at)) es ps qs w x came = came.0.known
names_node (Err fault.Write) es ps qs w x came = tt
names_node (Err fault.NoMemory) es ps qs w x came = tt

-- disks that report are not both a journal and none
no_none : (ps : List PairView) (k at : ℕ) → Tell (images_at (map images_now ps) k) → AreReadable (images_at (map images_now ps) k)
    → HoldAt ps k (HaveNone at) → ⊥
no_none ps k at told have none =
    let p = pair_at ps k told in
    let is = images_at (map images_now ps) k in
    never at is.0 is.1 told have (subst (λ (js : Images). IfBoth js.0 js.1 (λ i j. HaveNone at i.bytes j.bytes)) (sym (held_at ps k p.0 p.1)) (none p.0 p.1))

abbrev Ends : Status → Type 0
Ends s = ((s ≡ status.Ok) ⊎ (s ≡ status.Disagreed)) ⊎ (s ≡ status.NoMemory)

module _ (s : Status) (es : List Entry) (ps qs : List PairView) (w x : SinkView) (sink : Rose w.faults x.faults → ⊥) (disks : (k : ℕ) → RoseAt k ps qs → ⊥)
    (told : AllTell (length es) (map images_now ps)) (kept : AllReadableTo (length es) (map images_now ps)) where
  rose_at : (slot : ℕ) → RoseHere es slot ps qs → RoseAt slot ps qs
  rose_at slot h = (let p = pair_at ps slot (told slot h.known) in record { below = slice_get_within ps slot p.0 p.1; rose = h.rose })

  ends_well : (e : Result Verdict AuditRunFault) → IsAuditStatus es e s → CameOf e es ps qs w x → Ends s
  ends_well (Ok verdict.Agreed) is came = inl (inl is)
  ends_well (Ok verdict.Disagreed) is came = inl (inr is)
  ends_well (Err (fault.Disk slot)) is came = absurd (disks slot (rose_at slot came.0))
  ends_well (Err (fault.NotAJournal slot at)) is came = absurd (no_none ps slot at (told slot came.0.known) (kept slot came.0.known) came.0.here)
  ends_well (Err fault.Write) is came = absurd (sink came.0)
  ends_well (Err fault.NoMemory) is came = inr is

pub audit_complete : (s : Status) (r q : SourceView) (ps qs : List PairView) (w x : SinkView) → Consumes r.left q.left (given r q)
    → EndsReading s r q ⊎ CameOfAudit s r q ps qs w x → AuditIsSound (had r.left (given r q)) r q ps qs w x → Ends s
audit_complete s r q ps qs w x consumed (inl ends) h =
    ⊎_elim (λ (is : s ≡ status.Ok). inl (inl is)) (λ (is : s ≡ status.NoMemory). inr is) (read_ends r q consumed h.source h.nodes h.spelled h.short s ends)
audit_complete s r q ps qs w x consumed (inr came) h =
    let both : Ok h.nodes ≡ Ok came.nodes = sym h.spelled ∙ ap registry_of (all_had r.left q.left (given r q) consumed came.read.ended) ∙ came.spelled in
    let same : h.nodes ≡ came.nodes = cc in
    ends_well s came.nodes ps qs w x h.sink h.disks
    (subst (λ (es : List Entry). AllTell (length es) (map images_now ps)) same h.told)
    (subst (λ (es : List Entry). AllReadableTo (length es) (map images_now ps)) same h.kept)
    came.audited.ended came.audited.status came.audited.came

-- an audit never ends as words that are no command do
pub audit_usage : (es : List Entry) (e : Result Verdict AuditRunFault) → IsAuditStatus es e status.Usage → ⊥
audit_usage es (Ok verdict.Agreed) h = cc
audit_usage es (Ok verdict.Disagreed) h = cc
audit_usage es (Err (fault.Disk slot)) (n, at, h) = cc
audit_usage es (Err (fault.NotAJournal slot at)) (n, there, h) = cc
audit_usage es (Err fault.Write) h = cc
audit_usage es (Err fault.NoMemory) h = cc

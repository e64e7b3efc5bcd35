-- Nodes over disks that a former run left.
use Rattle.std.{specs.Prelude.{IsOk, Result}, proofs.Common.{◌≡◌, ℕ, List, [], Option, Some, None, IfSome, refl, sym, ◌∙◌, ap, subst}}
use Rattle.spl_circuit.specs.Nodes.{NodeId, CircuitId}
use Rattle.spl_edge.specs.Devices.{Image, IsSettled}
use Rattle.spl_journal.specs.Records.{IsBlank}
use Rattle.spl_cell_rules.specs.Cells.{Empty}
use Rattle.spl_snapshot.specs.Counting.{pair_records, pair_records_of, IfBoth}
use Rattle.spl_node.specs.{Stands.{made_cell, HasBytes, IsMade, IsRead, disk_records}, Records.{is_record, recorded_cell}, Kept.CellsView}
use Rattle.spl_node.proofs.{Hosting.ok_of, Peeking.kept_has}

pub blank_of : (o : Option Image) → IfSome o IsSettled → IfSome o (λ i. i.bytes ≡ []) → IfSome o IsBlank
blank_of None settled none = tt
blank_of (Some i) settled none = record { bytes = none; settled = settled }

-- blank disks make no cell
pub made_blank : (n : NodeId) (c : CircuitId) (o p : Option Image) → IfSome o IsBlank → IfSome p IsBlank → made_cell n c o p ≡ Empty
made_blank n c None p h k = refl
made_blank n c (Some i) None h k = refl
made_blank n c (Some i) (Some j) h k =
    ap (λ (b : List ℕ). recorded_cell n c (pair_records_of is_record b j.bytes)) h.bytes
    ∙ ap (λ (b : List ℕ). recorded_cell n c (pair_records_of is_record [] b)) k.bytes

-- they can be read
pub blank_read : (o p : Option Image) → IfSome o IsBlank → IfSome p IsBlank → IfBoth o p (λ i j. IsOk (disk_records i.bytes j.bytes))
blank_read None p h k = tt
blank_read (Some i) None h k = tt
blank_read (Some i) (Some j) h k =
    subst (λ (b : List ℕ). IsOk (disk_records b j.bytes)) (sym h.bytes)
    (subst (λ (b : List ℕ). IsOk (disk_records [] b)) (sym k.bytes) refl)

-- and so can those whose cells were read
pub bytes_read : (v : CellsView) (o p : Option Image) → IfBoth o p (λ i j. HasBytes i.bytes j.bytes) → IfBoth o p (λ i j. IsRead v i.bytes j.bytes)
    → IfBoth o p (λ i j. IsOk (disk_records i.bytes j.bytes))
bytes_read v None p h read = tt
bytes_read v (Some i) None h read = tt
bytes_read v (Some i) (Some j) h read =
    subst (λ (r : Result (List (List ℕ)) ℕ). IsOk r) (sym (kept_has i.bytes j.bytes h)) (ok_of (pair_records is_record i.bytes j.bytes) (IsMade v) read)

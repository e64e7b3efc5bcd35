-- Records that are read one after the other.
use Rattle.std.{specs.{Prelude.{IsErr, IsErrAnd, IsErrOf}, Result.IsOkAnd}, proofs.Common.{◌≡◌, ◌⊎◌, inl, inr, ⊎_elim, ℕ, ◌<◌, ◌≤◌, List, [], ◌∷◌, ◌++◌}}
use Rattle.std.proofs.Common.{Option, None, Some, Result, Ok, Err, sym, ◌∙◌, ap, subst, arith}
use Rattle.spl_circuit.specs.Nodes.{NodeId, CircuitId}
use Rattle.spl_edge.specs.Devices.{Rose, Image, DiskView, image_now}
use Rattle.spl_journal.specs.Reads.{Stays}
use Rattle.spl_snapshot.specs.{Counting.{IfBoth, HaveRecords, pair_records}, Pairs.PairWalks, declared.walking.PairWalk.PairWalk}
use Rattle.spl_wire.specs.declared.record.Record.{Record}
use Rattle.spl_cell_rules.specs.{Changes.stopped_cell, Cells.site_at}
use Rattle.spl_node.specs.{Kept.{CellsView, cell_at, cells_with}, Stands.{IsMade, IsRead, Make, StandFor}, Records.{is_record, record_in, recorded_cell}}
use Rattle.spl_node.{specs.Records.changes_in, proofs.{Standing.more_read, Stops.applied-still}}

pub made_more : (v w : CellsView) (rs : List (List ℕ)) (bytes : List ℕ) (r : Record) → record_in bytes ≡ Some r → w.here ≡ v.here
    → ((c : CircuitId) → cell_at w.entries c ≡ cells_with v.here (cell_at v.entries) r.circuit r.changes c) → IsMade v rs → IsMade w (rs ++ bytes ∷ [])
made_more v w rs bytes r is same cells made c =
    cells c ∙ (more_read v.here (cell_at v.entries) rs bytes r is made c ∙ ap (λ (n : NodeId). recorded_cell n c (rs ++ bytes ∷ [])) (sym same))

pub both_more : (o p : Option Image) (v w : CellsView) (given now : Image → Image → List (List ℕ)) (bytes : List ℕ) (r : Record) → record_in bytes ≡ Some r
    → w.here ≡ v.here → ((c : CircuitId) → cell_at w.entries c ≡ cells_with v.here (cell_at v.entries) r.circuit r.changes c)
    → IfBoth o p (λ i j. IsMade v (given i j)) → IfBoth o p (λ i j. now i j ≡ given i j ++ bytes ∷ []) → IfBoth o p (λ i j. IsMade w (now i j))
both_more None p v w given now bytes r is same cells made more = tt
both_more (Some i) None v w given now bytes r is same cells made more = tt
both_more (Some i) (Some j) v w given now bytes r is same cells made more =
    subst (λ (rs : List (List ℕ)). IsMade w rs) (sym more) (made_more v w (given i j) bytes r is same cells made)

pub read_all : (o p : Option Image) (v : CellsView) (given : Image → Image → List (List ℕ)) → IfBoth o p (λ i j. IsMade v (given i j))
    → IfBoth o p (λ i j. HaveRecords is_record (given i j) i.bytes j.bytes) → IfBoth o p (λ i j. IsRead v i.bytes j.bytes)
read_all None p v given made have = tt
read_all (Some i) None v given made have = tt
read_all (Some i) (Some j) v given made have = subst (λ (r : Result (List (List ℕ)) ℕ). IsOkAnd r (IsMade v)) (sym have) made

-- a disk that stays holds what it held
pub still_holds : (x y : DiskView) → Stays x y → image_now y ≡ image_now x
still_holds x y stays = stays.still y.moment stays.later (omega arith)

pub walks_still : {R : Type 0} (w : PairWalk R) (o p x y : Option Image) → x ≡ o → y ≡ p → PairWalks is_record w o p → PairWalks is_record w x y
walks_still w o p x y first second walks =
    subst (λ (a : Option Image). PairWalks is_record w a y) (sym first) (subst (λ (b : Option Image). PairWalks is_record w o b) (sym second) walks)

pub both_still : (P : Image → Image → Type 0) (o p x y : Option Image) → x ≡ o → y ≡ p → IfBoth x y P → IfBoth o p P
both_still P o p x y first second h = subst (λ (a : Option Image). IfBoth a p P) first (subst (λ (b : Option Image). IfBoth x b P) second h)

pub rose_later : (a b c d x y : ℕ) → a ≤ b → c ≤ d → Rose b x ⊎ Rose d y → Rose a x ⊎ Rose c y
rose_later a b c d x y first second = ⊎_elim (λ (r : b < x). inl (omega arith)) (λ (r : d < y). inr (omega arith))

-- the error of a call, handed on by `?`
pub handed_on : {A B E : Type 0} (r : Result B E) (e x : E) → IsErr r × IsErrAnd r (λ y. y ≡ e) → IsErrOf r x → IsErrOf {T = A} (Err e) x
handed_on (Ok v) e x h is = absurd h.1
handed_on (Err y) e x h is = let same : y ≡ x = cc in ap Err (sym h.1 ∙ same)

-- ---- the node that was read

made_stands : (v : CellsView) (r : Result (List (List ℕ)) ℕ) → IsOkAnd r (IsMade v) → IsOkAnd r (Make v.here (cell_at v.entries))
made_stands v (Ok rs) made = λ c. sym (applied-still (site_at v.here c) (changes_in c rs)) ∙ ap stopped_cell (sym (made c))
made_stands v (Err at) made = made

-- the disks stand for the cells that were read of them
pub read_stands : (v : CellsView) (first second : List ℕ) → IsRead v first second → StandFor v.here (cell_at v.entries) first second
read_stands v first second read = made_stands v (pair_records is_record first second) read

-- What a stop in an event leaves of a node (docs/RULES.md, Stops in an event).
use Rattle.std.specs.Prelude.{◌≡◌, ◌≢◌, ◌⊎◌, ◌≤◌, ◌<◌, ◌-◌, ◌++◌, ◌∷◌, [], ℕ, length, nat_le, List, Bool, true, false, Option, Some, None, if◌then◌else◌}
use Rattle.std.specs.{Result.IsOkAnd, Str.bytes_eq}
use Rattle.spl_circuit.specs.Nodes.{NodeId, CircuitId}
use Rattle.spl_edge.specs.Devices.{SamePast, armed_with, Image, MayLeave, settled_at, Picked, picked_bytes, DiskView, PairView, image_now}
use Rattle.spl_edge.specs.declared.{disk.Arming.{Arming, TheVariants.{Off, After, At}}, fill.Fill.{Fill, TheVariants.Old}}
use Rattle.spl_journal.specs.{Journals.IsFilledBy, Records.is_kept}
use Rattle.spl_snapshot.specs.{Counting.pair_records, Pairs.journal_in}
use Rattle.spl_cell_rules.specs.{Cells.{Cell, site_at}, Changes.{changes_made, stopped_cell}, Plans.plan_of}
use Rattle.spl_wire.specs.{Grouping.record_of, declared.{change.Change.Change, event.Event.Event}}
use Rattle.spl_node.specs.{Records.{is_record, record_bytes, recorded_cell}, Stands.StandFor, declared.{host.Host.Host, node.Node.Node}}
use Rattle.spl_node.specs.declared.stopping.Stopping.{Stopping, TheVariants.{Cut, Fail}}

-- what the disk that counts is armed with: it has the first four calls of an event
abbrev pub counting_arming : Stopping → Arming
counting_arming (Cut calls fill) = After calls
counting_arming (Fail call) = if nat_le call 4 then At call else After 4

-- and the other, which has those after them
abbrev pub other_arming : Stopping → Arming
other_arming (Cut calls fill) = After (calls - 4)
other_arming (Fail call) = if nat_le call 4 then After 4 else At (call - 4)

-- what the disks keep of what wasn't synced
abbrev pub fill_of : Stopping → Fill
fill_of (Cut calls fill) = fill
fill_of (Fail call) = Old

-- the calls that pass
abbrev pub passing : Stopping → ℕ
passing (Cut calls fill) = calls
passing (Fail call) = call - 1

-- whether the disks have the record of the event
abbrev pub keeps : Stopping → Bool
keeps h = is_kept (passing h) (fill_of h)

-- whether the other disk may count after it: the head gate of a checkpoint, which the eleventh call opens, may be open on it
abbrev pub may_turn : Stopping → Bool
may_turn h = is_kept (passing h - 8) (fill_of h)

-- calls are numbered from 1
abbrev pub IsStopping : Stopping → Type 0
IsStopping (Cut calls fill) = Unit {0}
IsStopping (Fail call) = 1 ≤ call

-- it comes to one of the eight calls of a checkpoint, after the four of a record
pub record IsInCheckpoint (h : Stopping) : Type 0 where
  pub after : 4 ≤ passing h
  pub before : passing h < 12

-- the record of these changes leaves the journal that counts no room, so that a checkpoint follows it
abbrev pub FillsJournal : Option Node → CircuitId → List Change → Type 0
FillsJournal (Some n) c xs = (xs ≢ []) × IsFilledBy (length (record_bytes (record_of c xs))) (journal_in n.pairing)
FillsJournal None c xs = ⊥

abbrev pub FillsHost : Host → CircuitId → List Change → Type 0
FillsHost h c xs = FillsJournal h.node c xs

-- the changes of an event at the cell of a circuit; none where there is no event
abbrev pub event_changes : NodeId → (CircuitId → Cell) → CircuitId → Option Event → List Change
event_changes here cells c None = []
event_changes here cells c (Some e) = (plan_of (site_at here c) (cells c) e).changes

abbrev pub has_changes : List Change → Bool
has_changes [] = false
has_changes (x ∷ xs) = true

-- the cells after a stop in an event: open rounds are forgotten, and the changes are made where their record is kept
abbrev pub cells_stopped : NodeId → (CircuitId → Cell) → CircuitId → List Change → Bool → CircuitId → Cell
cells_stopped here cells c xs kept id =
    if bytes_eq c id then stopped_cell (if kept then changes_made here (cells c) xs else cells c) else stopped_cell (cells id)

-- the records of two disks make these cells
abbrev pub HaveCells : NodeId → (CircuitId → Cell) → List ℕ → List ℕ → Type 0
HaveCells here cells first second = IsOkAnd (pair_records is_record first second) (λ rs. (c : CircuitId) → recorded_cell here c rs ≡ cells c)

-- what is picked of two images with this fill makes these cells
abbrev pub PicksMake : Fill → NodeId → (CircuitId → Cell) → Image → Image → Type 0
PicksMake fill here cells i j =
    MayLeave i (picked_bytes fill i) → MayLeave j (picked_bytes fill j) → HaveCells here cells (picked_bytes fill i) (picked_bytes fill j)

-- two disks stand for the cells before a stop in an event with these changes, or for those after it where their record is kept
abbrev pub StandForEither : NodeId → (CircuitId → Cell) → CircuitId → List Change → List ℕ → List ℕ → Type 0
StandForEither here cells c xs first second = StandFor here cells first second ⊎ StandFor here (cells_stopped here cells c xs true) first second

-- whatever a stop leaves of the second image it leaves of the first
abbrev pub LeavesNoMore : Image → Image → Type 0
LeavesNoMore i j = (c : List ℕ) → MayLeave j c → MayLeave i c

-- a disk was armed so, and nothing else of it changed
pub record Arms (arming : Arming) (x y : DiskView) : Type 0 where
  pub armed : y.armed ≡ armed_with arming x.moment
  pub same : (t : ℕ) → y.image_at t ≡ x.image_at t
  pub moment : y.moment ≡ x.moment
  pub faults_stay : y.faults ≡ x.faults
  pub picks_stay : y.picks ≡ x.picks

-- a disk has the picks that it had, and at most one more
abbrev pub PicksAtMostOnce : DiskView → DiskView → Type 0
PicksAtMostOnce x y = (y.picks ≡ x.picks) ⊎ ((pick : Picked) × (y.picks ≡ x.picks ++ pick ∷ []))

-- so has each of the two disks of a node
pub record BothPickAtMostOnce (p q : PairView) : Type 0 where
  pub first : PicksAtMostOnce p.first q.first
  pub second : PicksAtMostOnce p.second q.second

-- a disk that was armed so picked with this fill, and isn't armed any more; no fault is forgotten
pub record PicksArmed (fill : Fill) (arming : Arming) (x y : DiskView) : Type 0 where
  pub image : List ℕ
  pub kept : y.picks ≡ x.picks ++ record { image = image; fill = fill; arming = arming; faults = y.faults } ∷ []
  pub holds : image_now y ≡ Some (settled_at image)
  pub disarmed : y.armed.arming ≡ Off
  pub past : SamePast x y
  pub later : x.moment ≤ y.moment
  pub no_less : x.faults ≤ y.faults

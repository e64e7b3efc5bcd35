-- The records of a node, for which cells its disks stand, and how it is opened (docs/RULES.md, Journals).
use Rattle.std.specs.Prelude.{ℕ, Bool, List, [], ◌∷◌, Option, Some, None, is_some, Result, Ok, ◌≡◌, ◌||◌, ◌+◌, false, IsSome, IsOk, IfSome, IfNone, ◌≢◌, ◌⊎◌}
use Rattle.std.specs.Result.{IsOkAnd}
use Rattle.spl_circuit.specs.Nodes.{NodeId, CircuitId}
use Rattle.spl_cell_rules.specs.{Cells.{Cell, Empty}, Changes.stopped_cell}
use Rattle.spl_edge.specs.{Devices.{Image, PairView, image_now, SamePast, IsSettled, Picks, DiskView}, declared.{disk.Arming.TheVariants.Off, fill.Fill.Fill}}
use Rattle.spl_edge.specs.declared.fill.Fill.TheVariants.{Old}
use Rattle.spl_snapshot.specs.{Counting.{pair_records, IfBoth, IfPairTells, pair_records_of, counting_bytes, PairLeaves}, Pairs.PairStands}
use Rattle.spl_snapshot.specs.Pairs.{is_halted as pairing_halted, is_second}
use Rattle.spl_node.specs.{Kept.{cell_at, CellsView}, Records.{is_record, recorded_cell}, declared.{host.Host.Host, node.Node.Node}}
use Rattle.spl_journal.specs.{Records.{IsBlank, form_in}, declared.journal_form.TheConstants.WRITTEN}

-- a journal's records make each of these cells except its open rounds
abbrev pub Make : NodeId → (CircuitId → Cell) → List (List ℕ) → Type 0
Make here cells rs = (c : CircuitId) → recorded_cell here c rs ≡ stopped_cell (cells c)

-- one of two disks counts, its bytes are a journal, and its records make the cells
abbrev pub StandFor : NodeId → (CircuitId → Cell) → List ℕ → List ℕ → Type 0
StandFor here cells first second = IsOkAnd (pair_records is_record first second) (Make here cells)

-- this holds where two disks report, and stand for these cells
abbrev pub IfStand : NodeId → (CircuitId → Cell) → PairView → Type 0 → Type 0
IfStand here cells x P = IfPairTells x (λ i j. StandFor here cells i.bytes j.bytes → P)

-- ---- a node

abbrev pub here_of : Node → NodeId
here_of n = n.cells.here

-- its cell of a circuit
abbrev pub circuit_cell : Node → CircuitId → Cell
circuit_cell n c = cell_at n.cells.entries c

-- a call failed, so that the disks have to be read again
abbrev pub is_node_halted : Node → Bool
is_node_halted n = n.halted || pairing_halted n.pairing

-- the disks, where they report, are as the node takes them, and stand for its cells
pub record NodeStands (n : Node) (first second : Option Image) : Type 0 where
  pub pair : PairStands is_record n.pairing first second
  pub cells : IfBoth first second (λ i j. StandFor (here_of n) (circuit_cell n) i.bytes j.bytes)

abbrev pub NodeStandsOn : Node → PairView → Type 0
NodeStandsOn n x = NodeStands n (image_now x.first) (image_now x.second)

abbrev pub host_id : Host → NodeId
host_id h = h.id

abbrev pub is_host_up : Host → Bool
is_host_up h = is_some h.node

-- the cell that the records of two disks make, where both report
abbrev pub made_cell : NodeId → CircuitId → Option Image → Option Image → Cell
made_cell here c (Some i) (Some j) = recorded_cell here c (pair_records_of is_record i.bytes j.bytes)
made_cell here c (Some i) None = Empty
made_cell here c None second = Empty

-- the cell in memory, or that which the disks make
abbrev pub kept_cell : NodeId → Option Node → Option Image → Option Image → CircuitId → Cell
kept_cell here (Some n) first second c = circuit_cell n c
kept_cell here None first second c = made_cell here c first second

abbrev pub host_cell : Host → Option Image → Option Image → CircuitId → Cell
host_cell h first second c = kept_cell h.id h.node first second c

-- the same of two disks as they are now
abbrev pub made_cell_on : NodeId → CircuitId → PairView → Cell
made_cell_on here c x = made_cell here c (image_now x.first) (image_now x.second)

abbrev pub host_cell_on : Host → PairView → CircuitId → Cell
host_cell_on h x c = host_cell h (image_now x.first) (image_now x.second) c

-- whether the second disk counts, where it is up
abbrev pub counts_second : Option Node → Bool
counts_second (Some n) = is_second n.pairing
counts_second None = false

abbrev pub host_second : Host → Bool
host_second h = counts_second h.node

-- a node that goes on, and for whose cells the disks stand
pub record Runs (here : NodeId) (first second : Option Image) (n : Node) : Type 0 where
  pub running : is_node_halted n ≡ false
  pub here_is : here_of n ≡ here
  pub stands : NodeStands n first second

-- on neither disk is anything pending, and they are a journal
pub record Rests (first second : Option Image) : Type 0 where
  pub first_is : IfSome first IsSettled
  pub second_is : IfSome second IsSettled
  pub journal : IfBoth first second (λ i j. IsOk (pair_records is_record i.bytes j.bytes))

-- both disks report
abbrev pub BothTell : Option Image → Option Image → Type 0
BothTell first second = IsSome first × IsSome second

abbrev pub PairTells : PairView → Type 0
PairTells x = BothTell (image_now x.first) (image_now x.second)

-- the disks, where they report, are as the host takes them
pub record HostStands (h : Host) (first second : Option Image) : Type 0 where
  pub up : IfSome h.node (Runs h.id first second)
  pub down : IfNone h.node (Rests first second)

abbrev pub HostStandsOn : Host → PairView → Type 0
HostStandsOn h x = HostStands h (image_now x.first) (image_now x.second)

-- a disk picked with this fill, and isn't armed any more
pub record PicksWith (fill : Fill) (x y : DiskView) : Type 0 where
  pub picks : Picks fill x.armed.arming x.faults x.picks y.picks (image_now x) (image_now y)
  pub disarmed : y.armed.arming ≡ Off
  pub past : SamePast x y
  pub tick : y.moment ≡ x.moment + 1
  pub faults_stay : y.faults ≡ x.faults

-- it picked what it had at its last sync
abbrev pub PicksOld : DiskView → DiskView → Type 0
PicksOld x y = PicksWith Old x y

-- the cells are those that the records make
abbrev pub IsMade : CellsView → List (List ℕ) → Type 0
IsMade v rs = (c : CircuitId) → cell_at v.entries c ≡ recorded_cell v.here c rs

-- the cells are those that the records of two disks make
abbrev pub IsRead : CellsView → List ℕ → List ℕ → Type 0
IsRead v first second = IsOkAnd (pair_records is_record first second) (IsMade v)

-- the journal that counts is of the form in which journals are made
abbrev pub IsWritten : List ℕ → List ℕ → Type 0
IsWritten first second = form_in (counting_bytes first second) ≡ Some WRITTEN

-- two disks stand for the cells that the records of these make
abbrev pub StandAs : NodeId → List ℕ → List ℕ → List ℕ → List ℕ → Type 0
StandAs here first second = StandFor here (λ c. recorded_cell here c (pair_records_of is_record first second))

-- whatever a stop left of two disks meanwhile stood for the cells that they made
abbrev pub StandOn : NodeId → PairView → PairView → Type 0
StandOn here p q = IfBoth (image_now p.first) (image_now p.second) (λ i j. PairLeaves p q (StandAs here i.bytes j.bytes))

-- so it did where they were a journal
abbrev pub StandOnIfRead : NodeId → PairView → PairView → Type 0
StandOnIfRead here p q = IfBoth (image_now p.first) (image_now p.second)
    (λ i j. IsOk (pair_records is_record i.bytes j.bytes) → PairLeaves p q (StandAs here i.bytes j.bytes))

-- ---- disks that may be blank

abbrev pub AreBlank : List ℕ → List ℕ → Type 0
AreBlank first second = (first ≡ []) × (second ≡ [])

abbrev pub HasBytes : List ℕ → List ℕ → Type 0
HasBytes first second = (first ≢ []) ⊎ (second ≢ [])

-- the records of two disks, where blank ones have none, or the place where they are no journal
abbrev pub disk_records : List ℕ → List ℕ → Result (List (List ℕ)) ℕ
disk_records [] [] = Ok []
disk_records [] (b ∷ more) = pair_records is_record [] (b ∷ more)
disk_records (a ∷ more) second = pair_records is_record (a ∷ more) second

-- two disks hold what they held
pub record HoldAs (p q : PairView) : Type 0 where
  pub first : image_now q.first ≡ image_now p.first
  pub second : image_now q.second ≡ image_now p.second

-- nothing is on them, where they report
pub record WereBlank (p : PairView) : Type 0 where
  pub first : IfSome (image_now p.first) IsBlank
  pub second : IfSome (image_now p.second) IsBlank

-- the cells are those that the records of two disks make, none where both are blank
abbrev pub IsPeeked : CellsView → List ℕ → List ℕ → Type 0
IsPeeked v first second = IsOkAnd (disk_records first second) (IsMade v)

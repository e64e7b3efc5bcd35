-- What disks hold after lines, a stop or an error, and what is read of them (docs/RULES.md, Journals, Stops in an event, Resuming).
use Rattle.std.specs.Prelude.{◌≡◌, ◌<◌, ℕ, List, length, slice_get, Option, Some, None, IfSome, ◌≢◌, ◌⊎◌, ◌≤◌, Bool, false, ◌&&◌, [], ◌∷◌, ◌++◌}
use Rattle.std.specs.{Prelude.{if◌then◌else◌, true, ⊤, ◌+◌}, Str.bytes_eq, List.position_from}
use Rattle.spl_node.specs.{Benches.{last_count, Images, images_at, Tell, AreBlank, IsUnarmed, IsUnread, AllReadableTo}, Stands.{StandFor, made_cell}}
use Rattle.spl_node.specs.{Stopping.{counting_arming, other_arming, fill_of, may_turn, passing}, Records.{is_record, record_in}}
use Rattle.spl_node.specs.declared.stopping.Stopping.{Stopping}
use Rattle.spl_node.specs.declared.stopping.Stopping.TheVariants as stopping
use Rattle.spl_circuit_world.specs.{Worlds.{node_of, Origin, World as CircuitWorld, step_plan, Occurrence, Steps, Stops, Starts, Halts, occur}, Answers.is_up}
use Rattle.spl_circuit_world.specs.{Answers.{occurrences_in, events_of, stops_of}, Projection.{Ran, names}, Whole.whole_world}
use Rattle.spl_circuit_world.specs.declared.TheConstants.{MOST_EVENTS, MOST_STOPS}
use Rattle.spl_sched.specs.{Grammar.{is_calm, step_circuit, step_node}, declared.line.{Line.Line, Step.Step}}
use Rattle.spl_sched.specs.declared.line.Line.TheVariants as line
use Rattle.spl_edge.specs.{Devices.{Image, DiskView, PairView, Picked, MayLeave}, declared.{disk.Arming.{Arming, TheVariants.Off}, fill.Fill.Fill}}
use Rattle.spl_edge.specs.declared.fill.Fill.TheVariants.{Old}
use Rattle.spl_snapshot.specs.Counting.{chosen, second_counts, IfBoth, pair_records_of}
use Rattle.spl_circuit.specs.Nodes.{NodeId, CircuitId, sorted}
use Rattle.spl_cell_rules.specs.Cells.{Cell, Empty}
use Rattle.spl_registry.specs.Nodes.{Entry, node_at, entry_ids as nodes_of, is_of}
use Rattle.spl_world.specs.declared.fault.WorldFault.{WorldFault, TheVariants.{Disk, TooMany, NotAJournal}}
use Rattle.spl_wire.specs.declared.record.Record.{Record}

-- what a node keeps of each circuit after these lines
abbrev pub cells_after_lines : Origin → List Ran → NodeId → CircuitId → Cell
cells_after_lines o rs n c = (whole_world o c rs).at n

-- ---- lines that stop a node

-- the line stops this node, where it is up
abbrev pub stops_at : NodeId → Line → Bool
stops_at n (line.Stop m) = bytes_eq n m
stops_at n (line.Cut calls fill s) = bytes_eq n (step_node s)
stops_at n (line.Fail call s) = bytes_eq n (step_node s)
stops_at n _ = false

-- and finds it up after the lines before it
abbrev pub picks_at : NodeId → List Ran → Ran → Bool
picks_at n before r = stops_at n r.line && is_up n before

-- how a line stops its node in an event
abbrev pub stopping_of : Line → Option Stopping
stopping_of (line.Cut calls fill s) = Some (stopping.Cut calls fill)
stopping_of (line.Fail call s) = Some (stopping.Fail call)
stopping_of _ = None

-- what the disks keep there of what wasn't synced, and what the one that counts and the other were armed with
abbrev pub pick_fill : Option Stopping → Fill
pick_fill None = Old
pick_fill (Some h) = fill_of h

abbrev pub armed_counting : Option Stopping → Arming
armed_counting None = Off
armed_counting (Some h) = counting_arming h

abbrev pub armed_other : Option Stopping → Arming
armed_other None = Off
armed_other (Some h) = other_arming h

-- and so the first and the second disk, by whether the second counted
abbrev pub armed_first : Option Stopping → Bool → Arming
armed_first how second = chosen second (armed_counting how) (armed_other how)

abbrev pub armed_second : Option Stopping → Bool → Arming
armed_second how second = chosen second (armed_other how) (armed_counting how)

-- an event with changes in this world was stopped before its record was written
abbrev pub IsTornBy : CircuitWorld → Stopping → Step → Type 0
IsTornBy m h s = (passing h < 4) × ((step_plan m s).changes ≢ [])

abbrev pub IsTornIn : (CircuitId → CircuitWorld) → Line → Type 0
IsTornIn worlds (line.Cut calls fill s) = IsTornBy (worlds (step_circuit s)) (stopping.Cut calls fill) s
IsTornIn worlds (line.Fail call s) = IsTornBy (worlds (step_circuit s)) (stopping.Fail call) s
IsTornIn worlds _ = ⊥

-- so was that of a line after these lines
abbrev pub IsTorn : Origin → List Ran → Line → Type 0
IsTorn o before l = IsTornIn (λ c. whole_world o c before) l

-- ---- picks

-- a line, and those before it
pub record Point : Type 0 where
  pub before : List Ran
  pub ran : Ran

abbrev pub after_point : Point → List Ran
after_point t = t.before ++ t.ran ∷ []

abbrev pub point_at : NodeId → List Ran → Ran → List Point
point_at n before r = if picks_at n before r then record { before = before; ran = r } ∷ [] else []

-- the lines that stopped the node, each with those before it
abbrev pub pick_points : NodeId → List Ran → List Ran → List Point
pick_points n before [] = []
pick_points n before (r ∷ rs) = point_at n before r ++ pick_points n (before ++ r ∷ []) rs

-- a pick with this fill of a disk that was armed so, and whose count of faults had come to this number before
pub record IsPick (fill : Fill) (arming : Arming) (count : ℕ) (p : Picked) : Type 0 where
  pub fill_is : p.fill ≡ fill
  pub arming_is : p.arming ≡ arming
  pub later : count ≤ p.faults

-- two picks of the disks of a node by a line that stopped it; `second` is whether the second disk counted: it counts in the images
-- too, unless the line may have opened the head of a checkpoint. The images stand for the cells after the line
pub record ArePicksAt (o : Origin) (n : NodeId) (t : Point) (a b : ℕ) (p q : Picked) : Type 0 where
  pub second : Bool
  pub first_is : IsPick (pick_fill (stopping_of t.ran.line)) (armed_first (stopping_of t.ran.line) second) a p
  pub second_is : IsPick (pick_fill (stopping_of t.ran.line)) (armed_second (stopping_of t.ran.line) second) b q
  pub counts : IfSome (stopping_of t.ran.line) (λ h. may_turn h ≡ false → second_counts p.image q.image ≡ second)
  pub risen : IsTorn o t.before t.ran.line → (a < p.faults) ⊎ (b < q.faults)
  pub stand : StandFor n (cells_after_lines o (after_point t) n) p.image q.image

-- the picks of the two disks are one of each at each of these points, in order, and no other; at first their counts of faults were these
abbrev pub ArePickedAt : Origin → NodeId → ℕ → ℕ → List Point → List Picked → List Picked → Type 0
ArePickedAt o n a b [] [] [] = Unit {0}
ArePickedAt o n a b (t ∷ ts) (p ∷ ps) (q ∷ qs) = ArePicksAt o n t a b p q × ArePickedAt o n p.faults q.faults ts ps qs
ArePickedAt o n a b ts ps qs = ⊥

-- a disk that was so at the start isn't armed, and its count of faults isn't below the one of its last pick
pub record IsCounted (s p : DiskView) : Type 0 where
  pub off : IsUnarmed p
  pub later : last_count s.faults p.picks ≤ p.faults

-- after these lines the disks of the node, which were so at the start, picked at each line that stopped it, and nowhere else
pub record HasPicked (o : Origin) (rs : List Ran) (n : NodeId) (s p : PairView) : Type 0 where
  pub picks : ArePickedAt o n s.first.faults s.second.faults (pick_points n [] rs) p.first.picks p.second.picks
  pub first : IsCounted s.first p.first
  pub second : IsCounted s.second p.second

-- ---- how disks are picked from

-- a disk of the pair has failed since it was last picked from
abbrev pub HasFailedSince : PairView → PairView → Type 0
HasFailedSince s p = (last_count s.first.faults p.first.picks < p.first.faults) ⊎ (last_count s.second.faults p.second.picks < p.second.faults)

-- and that at this place
pub record FailedSince (i : ℕ) (start now : List PairView) : Type 0 where
  pub below : i < length now
  pub failed : (s p : PairView) → slice_get start i ≡ Some s → slice_get now i ≡ Some p → HasFailedSince s p

-- ---- all nodes

-- ---- a line

-- this holds of each node of a registry, by its position, and of the pair there, as it was at the start and as it is
abbrev pub EachSeat : (ℕ → NodeId → PairView → PairView → Type 0) → List Entry → List PairView → List PairView → Type 0
EachSeat P es start now = (k : ℕ) (n : NodeId) (s p : PairView) → node_at es k ≡ Some n → slice_get start k ≡ Some s → slice_get now k ≡ Some p → P k n s p

-- disks that hold what a node keeps where nothing happened
abbrev pub HoldNothing : NodeId → Images → Type 0
HoldNothing n is = IfBoth is.0 is.1 (λ i j. StandFor n (λ c. Empty) i.bytes j.bytes)

-- whatever a stop leaves of two disks now has P
abbrev pub LeaveNow : (List ℕ → List ℕ → Type 0) → Images → Type 0
LeaveNow P is = IfBoth is.0 is.1 (λ i j. (c d : List ℕ) → MayLeave i c → MayLeave j d → P c d)

-- and so has what a read gives of them
pub record Hold (P : List ℕ → List ℕ → Type 0) (is : Images) : Type 0 where
  pub read : IfBoth is.0 is.1 (λ i j. P i.bytes j.bytes)
  pub left : LeaveNow P is

-- both stand for these cells of a node
abbrev pub HoldFor : NodeId → (CircuitId → Cell) → Images → Type 0
HoldFor n cells is = Hold (StandFor n cells) is

-- or for these or those
abbrev pub LeaveEither : NodeId → (CircuitId → Cell) → (CircuitId → Cell) → Images → Type 0
LeaveEither n before after is = Hold (λ c d. StandFor n before c d ⊎ StandFor n after c d) is

-- this holds of each of these nodes, by its index, and what the pair at its place holds
abbrev pub EachAt : (ℕ → NodeId → Images → Type 0) → List NodeId → List ℕ → List Images → Type 0
EachAt P ids places is = (i : ℕ) (n : NodeId) (k : ℕ) → slice_get ids i ≡ Some n → slice_get places i ≡ Some k → P i n (images_at is k)

-- what a node keeps of each circuit where these worlds stood before a line, and so much of it happened: of the circuit that the line names
abbrev pub cells_so_far : (CircuitId → CircuitWorld) → Line → List Occurrence → NodeId → CircuitId → Cell
cells_so_far own l es n c = if names c l then (occur (own c) es).at n else (own c).at n

-- nothing, or one event of the node of this index
abbrev pub IsEventOf : List NodeId → ℕ → List Occurrence → Type 0
IsEventOf ids i [] = ⊤
IsEventOf ids i (e ∷ []) = slice_get ids i ≡ Some (node_of e)
IsEventOf ids i es = ⊥

-- A line ended with an error, and before it the nodes kept what these worlds have. It ended in one event of one node, or before one: the
-- disks of every other node stand for what it keeps after the events done so far, and what a stop leaves of those of that node for
-- this, or for this with the changes of the event. Only of a calm events are done before; and where the error is a limit no
-- node is left out. The node is that whose disk the error names
pub record LineEnds (own : CircuitId → CircuitWorld) (l : Line) (e : WorldFault) (ids : List NodeId) (places : List ℕ) (is : List Images) : Type 0 where
  pub done : List Occurrence
  pub next : List Occurrence
  pub rest : List Occurrence
  pub all : (c : CircuitId) → names c l ≡ true → done ++ (next ++ rest) ≡ occurrences_in (own c) l true
  pub first : is_calm l ≡ false → done ≡ []
  pub one : ℕ
  pub event : IsEventOf ids one next
  pub one_place : (k : ℕ) → e ≡ Disk k → slice_get places one ≡ Some k
  pub limit : (which : ℕ) → e ≡ TooMany which → EachAt (λ i n p. HoldFor n (cells_so_far own l done n) p) ids places is
  pub others : EachAt (λ i n p. (i ≡ one → ⊥) → HoldFor n (cells_so_far own l done n) p) ids places is
  pub own_disks : EachAt (λ i n p. i ≡ one → LeaveEither n (cells_so_far own l done n) (cells_so_far own l (done ++ next) n) p) ids places is

-- the circuit of a record, where bytes are one
abbrev pub circuit_in : Option Record → List CircuitId
circuit_in None = []
circuit_in (Some r) = r.circuit ∷ []

-- those of records, in order
abbrev pub circuits_of : List (List ℕ) → List CircuitId
circuits_of [] = []
circuits_of (bytes ∷ rs) = circuit_in (record_in bytes) ++ circuits_of rs

-- those of the records of two disks, where both report
abbrev pub circuits_at : Option Image → Option Image → List CircuitId
circuits_at (Some i) (Some j) = circuits_of (pair_records_of is_record i.bytes j.bytes)
circuits_at (Some i) None = []
circuits_at None second = []

-- and those of the pairs of a registry
abbrev pub circuits_on : List Entry → List Images → List CircuitId
circuits_on (e ∷ es) (p ∷ is) = circuits_at p.0 p.1 ++ circuits_on es is
circuits_on es is = []

-- what a node keeps of a circuit whose disks are at this position; nothing where it has none
abbrev pub kept_at : List Images → CircuitId → NodeId → Option ℕ → Cell
kept_at is c n None = Empty
kept_at is c n (Some k) = made_cell n c (images_at is k).0 (images_at is k).1

-- each node keeps what the disks at its position make
abbrev pub origin_on : List Entry → List Images → Origin
origin_on es is = record {
  nodes = sorted (nodes_of es);
  kept = λ c n. kept_at is c n (position_from (is_of n) 0 es);
  circuits = circuits_on es is;
}

-- those of all nodes of a registry can
abbrev pub AllReadable : List Entry → List Images → Type 0
AllReadable es is = AllReadableTo (length es) is

-- the pair of the node at this position is the first that can't, at this place
pub record IsFirstUnread (slot at : ℕ) (es : List Entry) (is : List Images) : Type 0 where
  pub below : slot < length es
  pub here : IsUnread at (images_at is slot)
  pub before : AllReadableTo slot is

-- two disks hold what they held, or, where they reported, what stands for the cells that they made
abbrev pub AreKept : NodeId → Images → Images → Type 0
AreKept n start now = (now ≡ start) ⊎ (Tell start → HoldFor n (λ c. made_cell n c start.0 start.1) now)

-- or they were blank, and hold what the node keeps where nothing happened
abbrev pub AreDisksLeft : NodeId → Images → Images → Type 0
AreDisksLeft n start now = AreKept n start now ⊎ (AreBlank start × HoldNothing n now)

-- The opening ended with an error at one node, whose disks the error names where it names disks: they were blank, or stand for
-- what they stood for. Where they are no journal they hold what they held, and so do those after them. Those of any other node
-- are left so
pub record AreOpenedBut (es : List Entry) (e : WorldFault) (start now : List Images) : Type 0 where
  pub one : ℕ
  pub named : (k : ℕ) → e ≡ Disk k → k ≡ one
  pub unread : (k at : ℕ) → e ≡ NotAJournal k at → (k ≡ one) × ((j : ℕ) → one ≤ j → images_at now j ≡ images_at start j)
  pub own : (n : NodeId) → node_at es one ≡ Some n → AreKept n (images_at start one) (images_at now one) ⊎ AreBlank (images_at start one)
  pub others : (k : ℕ) (n : NodeId) → node_at es k ≡ Some n → (k ≡ one → ⊥) → AreDisksLeft n (images_at start k) (images_at now k)

-- lines, and so many events beside them, have more events than a run may, which is limit 1; or no more, and the lines stop more often than
-- it may, which is limit 2
abbrev pub IsOverLimit : Origin → ℕ → List Ran → ℕ → Type 0
IsOverLimit o others rs which =
    ((which ≡ 1) × (MOST_EVENTS < events_of o rs + others))
    ⊎ ((which ≡ 2) × (events_of o rs + others ≤ MOST_EVENTS) × (MOST_STOPS < stops_of rs))

-- lines that stop a node
abbrev pub stops : Line → Bool
stops (line.Stop n) = true
stops (line.Cut calls fill s) = true
stops (line.Fail call s) = true
stops _ = false

-- lines that start one
abbrev pub starts : Line → Bool
starts (line.Start n) = true
starts _ = false

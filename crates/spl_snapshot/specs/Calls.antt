-- What a call of a pairing did: what a stop leaves, which calls of the two disks were made, and how it ended.
use Rattle.std.specs.Prelude.{◌≡◌, ◌⊎◌, ◌≤◌, ◌<◌, ◌+◌, ◌-◌, ◌*◌, ◌^◌, ◌++◌, ℕ, List, Bool, true, false, not, ⊤, length, IsTrue, OnOk, OnErr, IsOk, IsErrOf}
use Rattle.std.specs.Prelude.{Result}
use Rattle.spl_edge.specs.{Devices.{fails_at, IsArmed, Rose, DiskView, PairView, pair_view}, declared.{bench.Pair.Pair, fill.Fill.Fill}}
use Rattle.spl_journal.specs.{Gate.{ByCalls, NamesOne, opened}, Journals.{end_of, len_of, base_of, epoch_of, has_room}, Records.blocks}
use Rattle.spl_journal.specs.declared.{form.JournalFault.JournalFault, journal.{Journal.Journal, TheConstants.SLACK}}
use Rattle.spl_journal.specs.declared.form.JournalFault.TheVariants as fault
use Rattle.spl_snapshot.specs.Counting.{counting_disk, other_disk, second_counts, pair_records_of, HaveRecords, HaveEither, HaveOneOf, IfPairTells}
use Rattle.spl_snapshot.specs.{Counting.{PairLeaves, PairLeavesInTurn, PairOnward, PairTellsAs}, Pairs.{PairStandsOn, is_second, journal_in}}
use Rattle.spl_snapshot.specs.{Stopped.{PairPicksCount, StopsShut}, declared.pairing.Pairing.Pairing}

-- an error halts what made the call; the disks hold what they are taken for, a disk that is named has failed, and both went on
pub record Ends {A : Type 0} (q : Result A JournalFault) (is_halted : Bool) (Failed : Type 0) (x y : PairView) : Type 0 where
  pub halted : OnErr q (is_halted ≡ true)
  pub running : OnOk q (is_halted ≡ false)
  pub not : (at : ℕ) → IsErrOf q (fault.NotAJournal at) → ⊥
  pub failed : IsErrOf q fault.Disk → Failed
  pub onward : PairOnward x y

-- the disk that counts has failed
abbrev pub CountingRose : {D : Type 0} → (D → DiskView) → Bool → Pair D → Pair D → Type 0
CountingRose view second x y = Rose (view (counting_disk second x)).faults (view (counting_disk second y)).faults

-- the other has
abbrev pub OtherRose : {D : Type 0} → (D → DiskView) → Bool → Pair D → Pair D → Type 0
OtherRose view second x y = Rose (view (other_disk second x)).faults (view (other_disk second y)).faults

-- ---- an append

-- by four calls of the disk that counts a piece was put after its closed gate, which was then opened
abbrev pub AppendsPiece : {R D : Type 0} → (D → DiskView) → List ℕ → (ok failed : Type 0) → Pairing R → Pair D → Pair D → Type 0
AppendsPiece view piece ok failed p x y =
    ByCalls 4 (view (counting_disk (is_second p) x)) (view (counting_disk (is_second p) y)) (opened (end_of (journal_in p)) piece) ok failed

-- what a stop leaves of records that were added
pub record LeavesAppended {R A : Type 0} (fits : List ℕ → Bool) (more : List (List ℕ)) (q : Result A JournalFault)
    (p r : Pairing R) (x y : PairView) : Type 0 where
  -- at any moment the records from before the call, or those and all of these
  pub any_moment : IfPairTells x (λ i j. PairLeaves x y (HaveEither fits (pair_records_of fits i.bytes j.bytes) (pair_records_of fits i.bytes j.bytes ++ more)))
  -- after Ok those and all of these
  pub after : OnOk q (IfPairTells x (λ i j. PairLeaves y y (HaveRecords fits (pair_records_of fits i.bytes j.bytes ++ more))))
  -- at any moment the same disk as the one that counts
  pub counts : IfPairTells x (λ i j. PairLeaves x y (λ c d. second_counts c d ≡ is_second p))
  pub told : OnOk q (PairTellsAs x y)
  pub stands : OnOk q (PairStandsOn fits r y)

-- only the disk that counts was called, four times where it went well
pub record CallsCounting {R D A : Type 0} (view : D → DiskView) (piece : List ℕ) (q : Result A JournalFault) (p : Pairing R) (x y : Pair D) : Type 0 where
  pub by_calls : AppendsPiece view piece (IsOk q) (IsErrOf q fault.Disk) p x y
  pub other : other_disk (is_second p) y ≡ other_disk (is_second p) x
  pub four : OnOk q ((view (counting_disk (is_second p) y)).moment ≡ (view (counting_disk (is_second p) x)).moment + 4)

-- the journal that counts has this length, and is otherwise the same
pub record HasGrown {R A : Type 0} (to : ℕ) (q : Result A JournalFault) (p r : Pairing R) : Type 0 where
  pub len : OnOk q (len_of (journal_in r) ≡ to)
  pub same : (is_second r ≡ is_second p) × (base_of (journal_in r) ≡ base_of (journal_in p)) × (epoch_of (journal_in r) ≡ epoch_of (journal_in p))

-- ---- a checkpoint

-- none of the eight calls of a checkpoint is one that the other disk is armed for
abbrev pub PassesEight : {R D : Type 0} → (D → DiskView) → Pairing R → Pair D → Type 0
PassesEight view p x = (n : ℕ) → n < 8 → IsTrue (fails_at (view (other_disk (is_second p) x)).armed ((view (other_disk (is_second p) x)).moment + n)) → ⊥

-- where the other disk stops a checkpoint at a call after which a fill doesn't leave the new head open, the disk that counted counts in what
-- that fill picks
abbrev pub CountsIfShut : {R D A : Type 0} → (D → DiskView) → Result A JournalFault → Pairing R → Pair D → Pair D → Type 0
CountsIfShut view q p x y = IsErrOf q fault.Disk → (fill : Fill)
    → StopsShut fill (view (other_disk (is_second p) x)).armed (view (other_disk (is_second p) x)).moment
    → PairPicksCount (pair_view view x) (pair_view view y) fill (is_second p)

-- what a stop leaves of records that were written again
pub record LeavesRewritten {R A : Type 0} (fits : List ℕ → Bool) (contents : List (List ℕ)) (q : Result A JournalFault)
    (r : Pairing R) (x y : PairView) : Type 0 where
  -- at any moment the records from before the call, or these; after Ok these
  pub any_moment : IfPairTells x (λ i j. PairLeaves x y (HaveEither fits (pair_records_of fits i.bytes j.bytes) contents))
  pub after : OnOk q (IfPairTells x (λ i j. PairLeaves y y (HaveRecords fits contents)))
  pub told : OnOk q (PairTellsAs x y)
  pub stands : OnOk q (PairStandsOn fits r y)

-- only the disk that doesn't count was called, eight times where it went well
pub record CallsOther {R D A : Type 0} (view : D → DiskView) (q : Result A JournalFault) (p : Pairing R) (x y : Pair D) : Type 0 where
  pub counts : CountsIfShut view q p x y
  pub counting : counting_disk (is_second p) y ≡ counting_disk (is_second p) x
  pub eight : OnOk q ((view (other_disk (is_second p) y)).moment ≡ (view (other_disk (is_second p) x)).moment + 8)
  pub passed : OnOk q (PassesEight view p x)

-- after Ok the other disk counts, with a journal of the next epoch that has these records alone; after an error all is as it was
pub record HasTurned {R A : Type 0} (contents : List (List ℕ)) (q : Result A JournalFault) (p r : Pairing R) : Type 0 where
  pub turned : OnOk q (is_second r ≡ not (is_second p))
  pub epoch : OnOk q (epoch_of (journal_in r) ≡ epoch_of (journal_in p) + 1)
  pub base : OnOk q ((base_of (journal_in r) ≡ 18 + length (blocks contents)) × (len_of (journal_in r) ≡ base_of (journal_in r)))
  pub same : OnErr q ((journal_in r ≡ journal_in p) × (is_second r ≡ is_second p))

-- ---- an append, and a checkpoint where it leaves no room for more

-- with this length a journal has no room left
abbrev pub IsFullAt : {R : Type 0} → ℕ → Journal R → Type 0
IsFullAt len j = 2 * base_of j + SLACK < len

-- two disks that had records have them with these after them, or the packed ones, whatever a stop leaves
abbrev pub LeavesNew : (List ℕ → Bool) → (more packed : List (List ℕ)) → PairView → PairView → Type 0
LeavesNew fits more packed x y = IfPairTells x (λ i j. PairLeaves y y (HaveEither fits (pair_records_of fits i.bytes j.bytes ++ more) packed))

-- what a stop leaves of records that were added, and of what they were packed into
pub record LeavesKept {R A : Type 0} (fits : List ℕ → Bool) (more packed : List (List ℕ)) (q : Result A JournalFault)
    (p r : Pairing R) (x y : PairView) : Type 0 where
  -- at any moment the records from before the call, those and all of these, or the packed ones; after Ok one of the last two
  pub any_moment : IfPairTells x (λ i j. PairLeavesInTurn (is_second p) x y
      (HaveOneOf fits (pair_records_of fits i.bytes j.bytes) (pair_records_of fits i.bytes j.bytes ++ more) packed))
  pub after : OnOk q (LeavesNew fits more packed x y)
  pub told : OnOk q (PairTellsAs x y)
  pub stands : OnOk q (PairStandsOn fits r y)

-- the journal that counts is within its bound: it has room, and its base is what it was or the length of the packed records
pub record IsBounded {R A : Type 0} (packed : List (List ℕ)) (q : Result A JournalFault) (p r : Pairing R) : Type 0 where
  pub room : OnOk q (epoch_of (journal_in r) < 2 ^ 64 - 1 → has_room (journal_in r) ≡ true)
  pub base : OnOk q ((base_of (journal_in r) ≡ base_of (journal_in p)) ⊎ (base_of (journal_in r) ≡ 18 + length (blocks packed)))

-- the append came first: it ended the call, and the other disk is as it was; or each of its four calls succeeded, and a stop now leaves this
abbrev pub AppendsFirst : {R D A : Type 0} → (D → DiskView) → List ℕ → Type 0 → Result A JournalFault → Pairing R → Pair D → Pair D → Type 0
AppendsFirst view piece Left q p x y =
    (AppendsPiece view piece (IsOk q) (IsErrOf q fault.Disk) p x y × (other_disk (is_second p) y ≡ other_disk (is_second p) x))
    ⊎ (AppendsPiece view piece ⊤ ⊥ p x y × Left)

-- the disk that counts is armed for none of the four calls of an append, and the other for one of the eight of a checkpoint
pub record ArmsCheckpoint {R D : Type 0} (view : D → DiskView) (p : Pairing R) (x : Pair D) : Type 0 where
  pub armed : IsArmed (view (counting_disk (is_second p) x)).armed
  pub none : NamesOne (view (counting_disk (is_second p) x)).armed (view (counting_disk (is_second p) x)).moment 4 → ⊥
  pub one : NamesOne (view (other_disk (is_second p) x)).armed (view (other_disk (is_second p) x)).moment 8

-- which calls of the two disks were made to keep records: as this piece, which gives the journal that counts this length
pub record CallsToKeep {R D A : Type 0} (fits : List ℕ → Bool) (more packed : List (List ℕ)) (piece : List ℕ) (len : ℕ) (view : D → DiskView)
    (q : Result A JournalFault) (p r : Pairing R) (x y : Pair D) : Type 0 where
  pub by_calls : AppendsFirst view piece (LeavesNew fits more packed (pair_view view x) (pair_view view y)) q p x y
  -- where it leaves no room the other disk counts after Ok
  pub turned : OnOk q (IsFullAt len (journal_in p) → epoch_of (journal_in p) < 2 ^ 64 - 1 → is_second r ≡ not (is_second p))
  pub passed : OnOk q ((is_second r ≡ is_second p) ⊎ PassesEight view p x)
  pub counts : CountsIfShut view q p x y
  -- where it leaves room no checkpoint is made: the other disk is as it was, and doesn't count
  pub no_checkpoint : len ≤ 2 * base_of (journal_in p) + SLACK
      → (other_disk (is_second p) y ≡ other_disk (is_second p) x) × (is_second r ≡ is_second p)
  -- where it leaves no room, and a call of the checkpoint is armed, the other disk has failed, unless memory ran out
  pub risen : IsFullAt len (journal_in p) → epoch_of (journal_in p) < 2 ^ 64 - 1 → ArmsCheckpoint view p x
      → IsErrOf q fault.NoMemory ⊎ OtherRose view (is_second p) x y

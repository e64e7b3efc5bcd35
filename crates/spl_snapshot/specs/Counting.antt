-- Which of two disks counts, and what a stop may leave of both (docs/RULES.md, Journals).
use Rattle.std.specs.Prelude.{◌≡◌, ◌⊎◌, ◌≤◌, ℕ, List, Bool, true, false, not, ◌&&◌, ◌||◌, nat_lt, if◌then◌else◌, Option, is_some, IfSome, Result, Ok}
use Rattle.spl_edge.specs.{Devices.{Image, MayLeave, Onward, Rose, PairView, image_now}, declared.bench.Pair.Pair}
use Rattle.spl_journal.specs.{Reads.Stays, Records.{is_open, epoch_in, records, records_of}}

-- the second is open, and the first isn't or has a lower epoch
abbrev pub is_above : Bool → ℕ → Bool → ℕ → Bool
is_above first_open first_epoch second_open second_epoch = second_open && (not first_open || nat_lt first_epoch second_epoch)

-- whether the second of two disks counts
abbrev pub second_counts : List ℕ → List ℕ → Bool
second_counts first second = is_above (is_open first) (epoch_in first) (is_open second) (epoch_in second)

-- the second of two where this is true, and the first otherwise
abbrev pub chosen : {T : Type 0} → Bool → T → T → T
chosen second a b = if second then b else a

-- the disk of a node that counts, where the second does exactly where this is true
abbrev pub counting_disk : {D : Type 0} → Bool → Pair D → D
counting_disk second disks = chosen second disks.first disks.second

-- and the other
abbrev pub other_disk : {D : Type 0} → Bool → Pair D → D
other_disk second disks = chosen second disks.second disks.first

-- what they hold, where they report
abbrev pub counting_image : Bool → PairView → Option Image
counting_image second x = chosen second (image_now x.first) (image_now x.second)

abbrev pub other_image : Bool → PairView → Option Image
other_image second x = chosen second (image_now x.second) (image_now x.first)

-- the bytes of the disk that counts
abbrev pub counting_bytes : List ℕ → List ℕ → List ℕ
counting_bytes first second = chosen (second_counts first second) first second

-- the records of two disks, or the place where they are no journal
abbrev pub pair_records : (List ℕ → Bool) → List ℕ → List ℕ → Result (List (List ℕ)) ℕ
pair_records fits first second = records fits (counting_bytes first second)

-- and none where they are no journal
abbrev pub pair_records_of : (List ℕ → Bool) → List ℕ → List ℕ → List (List ℕ)
pair_records_of fits first second = records_of fits (counting_bytes first second)

-- where both disks report
abbrev pub IfBoth : Option Image → Option Image → (Image → Image → Type 0) → Type 0
IfBoth first second P = IfSome first (λ i. IfSome second (λ j. P i j))

abbrev pub IfPairTells : PairView → (Image → Image → Type 0) → Type 0
IfPairTells x P = IfBoth (image_now x.first) (image_now x.second) P

-- a disk reports exactly where it did
abbrev pub TellsAs : Option Image → Option Image → Type 0
TellsAs old new = is_some new ≡ is_some old

-- a stop that leaves any image of the first disk at one of these moments, and any of the second at one of those, leaves what has P
abbrev pub PairLeavesBetween : (ℕ → Option Image) → ℕ → ℕ → (ℕ → Option Image) → ℕ → ℕ → (List ℕ → List ℕ → Type 0) → Type 0
PairLeavesBetween first_at first_from first_to second_at second_from second_to P = (k l : ℕ) → first_from ≤ k → k ≤ first_to → second_from ≤ l → l ≤ second_to
    → IfBoth (first_at k) (second_at l) (λ i j. (c d : List ℕ) → MayLeave i c → MayLeave j d → P c d)

-- so it did while two disks went from p to q
abbrev pub PairLeaves : PairView → PairView → (List ℕ → List ℕ → Type 0) → Type 0
PairLeaves p q P = PairLeavesBetween q.first.image_at p.first.moment q.first.moment q.second.image_at p.second.moment q.second.moment P

-- the disk that counts goes on first, and then the other: the second first where this is true
abbrev pub IsInTurn : Bool → (k first_from first_to l second_from second_to : ℕ) → Type 0
IsInTurn false k first_from first_to l second_from second_to = (l ≡ second_from) ⊎ (k ≡ first_to)
IsInTurn true k first_from first_to l second_from second_to = (k ≡ first_from) ⊎ (l ≡ second_to)

-- the same where one disk is called after the other, as in an append and then a checkpoint
abbrev pub PairLeavesBetweenInTurn : Bool → (ℕ → Option Image) → ℕ → ℕ → (ℕ → Option Image) → ℕ → ℕ → (List ℕ → List ℕ → Type 0) → Type 0
PairLeavesBetweenInTurn second first_at first_from first_to second_at second_from second_to P = (k l : ℕ)
    → first_from ≤ k → k ≤ first_to → second_from ≤ l → l ≤ second_to → IsInTurn second k first_from first_to l second_from second_to
    → IfBoth (first_at k) (second_at l) (λ i j. (c d : List ℕ) → MayLeave i c → MayLeave j d → P c d)

abbrev pub PairLeavesInTurn : Bool → PairView → PairView → (List ℕ → List ℕ → Type 0) → Type 0
PairLeavesInTurn second p q P =
    PairLeavesBetweenInTurn second q.first.image_at p.first.moment q.first.moment q.second.image_at p.second.moment q.second.moment P

-- they are these records
abbrev pub HaveRecords : (List ℕ → Bool) → List (List ℕ) → List ℕ → List ℕ → Type 0
HaveRecords fits rs first second = pair_records fits first second ≡ Ok rs

-- they are these records or those
abbrev pub HaveEither : (List ℕ → Bool) → List (List ℕ) → List (List ℕ) → List ℕ → List ℕ → Type 0
HaveEither fits before after first second = HaveRecords fits before first second ⊎ HaveRecords fits after first second

-- or others again
abbrev pub HaveOneOf : (List ℕ → Bool) → List (List ℕ) → List (List ℕ) → List (List ℕ) → List ℕ → List ℕ → Type 0
HaveOneOf fits before after packed first second =
    HaveRecords fits before first second ⊎ (HaveRecords fits after first second ⊎ HaveRecords fits packed first second)

-- both disks of a node went on
pub record PairOnward (p q : PairView) : Type 0 where
  pub first : Onward p.first q.first
  pub second : Onward p.second q.second

-- both hold what they held
pub record PairStays (p q : PairView) : Type 0 where
  pub first : Stays p.first q.first
  pub second : Stays p.second q.second

-- each of the two reports exactly where it did
abbrev pub PairTellsAs : PairView → PairView → Type 0
PairTellsAs p q = TellsAs (image_now p.first) (image_now q.first) × TellsAs (image_now p.second) (image_now q.second)

-- one of the two has failed more often
abbrev pub HasRisen : PairView → PairView → Type 0
HasRisen p q = Rose p.first.faults q.first.faults ⊎ Rose p.second.faults q.second.faults

-- What a pairing, and a walk over one, say of the two disks.
use Rattle.std.specs.Prelude.{◌≡◌, ℕ, List, Bool, false, Option, IfSome}
use Rattle.spl_edge.specs.Devices.{Image, PairView, image_now}
use Rattle.spl_journal.specs.{Clear.IsAtRest, Journals.{is_halted as journal_halted, Stands, Walks, given_by}, declared.journal.Journal.Journal}
use Rattle.spl_journal.specs.declared.walk.Walk.{Walk}
use Rattle.spl_snapshot.specs.{Counting.{second_counts, chosen, IfBoth}, declared.{pairing.Pairing.Pairing, walking.PairWalk.PairWalk}}

-- whether the second disk counts
abbrev pub is_second : {R : Type 0} → Pairing R → Bool
is_second p = p.second

-- the journal on the disk that counts
abbrev pub journal_in : {R : Type 0} → Pairing R → Journal R
journal_in p = p.journal

abbrev pub is_halted : {R : Type 0} → Pairing R → Bool
is_halted p = p.halted

-- the journal isn't halted, the disk that counts is what it takes it for, the other has the length that is known, on
-- neither is anything pending, and the right one of them counts
pub record PairStands {R : Type 0} (fits : List ℕ → Bool) (p : Pairing R) (first second : Option Image) : Type 0 where
  pub running : journal_halted p.journal ≡ false
  pub counting : IfSome (chosen p.second first second) (Stands fits p.journal)
  pub other : IfSome (chosen p.second second first) (IsAtRest p.other)
  pub counts : IfBoth first second (λ i j. second_counts i.bytes j.bytes ≡ p.second)

abbrev pub PairStandsOn : {R : Type 0} → (List ℕ → Bool) → Pairing R → PairView → Type 0
PairStandsOn fits p x = PairStands fits p (image_now x.first) (image_now x.second)

-- the same of a walk
abbrev pub walks_second : {R : Type 0} → PairWalk R → Bool
walks_second w = w.second

abbrev pub walk_in : {R : Type 0} → PairWalk R → Walk R
walk_in w = w.walk

pub record PairWalks {R : Type 0} (fits : List ℕ → Bool) (w : PairWalk R) (first second : Option Image) : Type 0 where
  pub counting : IfSome (chosen w.second first second) (Walks fits w.walk)
  pub other : IfSome (chosen w.second second first) (IsAtRest w.other)
  pub counts : IfBoth first second (λ i j. second_counts i.bytes j.bytes ≡ w.second)

abbrev pub PairWalksOn : {R : Type 0} → (List ℕ → Bool) → PairWalk R → PairView → Type 0
PairWalksOn fits w x = PairWalks fits w (image_now x.first) (image_now x.second)

-- the records that it has given
abbrev pub pair_given : {R : Type 0} → (List ℕ → Bool) → PairWalk R → List ℕ → List ℕ → List (List ℕ)
pair_given fits w first second = given_by fits w.walk (chosen w.second first second)

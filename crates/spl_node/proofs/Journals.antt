-- Disks that are blank, hold no bytes, or are a journal.
use Rattle.std.{specs.Prelude.{IfSome, IsOk}, proofs.Common.{◌≡◌, inl, inr, ℕ, List, [], Option, Some, None, Result, Ok, Err, refl, sym, subst}}
use Rattle.spl_edge.specs.Devices.{Image, IsSettled}
use Rattle.spl_journal.specs.Records.{IsBlank}
use Rattle.spl_node.specs.{Stands.{BothTell, disk_records}, Benches.{AreBlank, Images, Tell, AreReadable, AreSettled}, Blank.{AreEmpty, HaveBytes}}
use Rattle.spl_snapshot.specs.Counting.{IfBoth}

-- ---- disks that are a journal

ok_not : {A : Type 0} (r : Result A ℕ) (at : ℕ) → IsOk r → r ≡ Err at → ⊥
ok_not (Ok x) at ok is = cc
ok_not (Err e) at ok is = cc

-- disks that report are not both a journal and none
pub never : (at : ℕ) (o p : Option Image) → BothTell o p → IfBoth o p (λ i j. IsOk (disk_records i.bytes j.bytes))
    → IfBoth o p (λ i j. disk_records i.bytes j.bytes ≡ Err at) → ⊥
never at None p told have none = let no = told.0 in cc
never at (Some i) None told have none = let no = told.1 in cc
never at (Some i) (Some j) told have none = ok_not (disk_records i.bytes j.bytes) at have none

-- ---- disks without bytes

empty_has : (o p : Option Image) → IfSome o (λ i. i.bytes ≡ []) → IfSome p (λ i. i.bytes ≡ []) → IfBoth o p (λ i j. IsOk (disk_records i.bytes j.bytes))
empty_has None p first second = tt
empty_has (Some i) None first second = tt
empty_has (Some i) (Some j) first second =
    subst (λ (a : List ℕ). IsOk (disk_records a j.bytes)) (sym first) (subst (λ (b : List ℕ). IsOk (disk_records [] b)) (sym second) refl)

pub readable_empty : (is : Images) → AreEmpty is → AreReadable is
readable_empty is empty = empty_has is.0 is.1 empty.first empty.second

pub no_bytes : (is : Images) → Tell is → AreEmpty is → HaveBytes is → ⊥
no_bytes (Some i, Some j) told empty (inl some) = some empty.first
no_bytes (Some i, Some j) told empty (inr some) = some empty.second
no_bytes (None, second) told empty bytes = let no = told.0 in cc
no_bytes (Some i, None) told empty bytes = let no = told.1 in cc

-- ---- blank disks

blank_of : (o : Option Image) → IfSome o (λ i. i.bytes ≡ []) → IfSome o IsSettled → IfSome o IsBlank
blank_of None empty settled = tt
blank_of (Some i) empty settled = record { bytes = empty; settled = settled }

blank_is : (o : Option Image) → IfSome o IsBlank → IfSome o (λ i. i.bytes ≡ []) × IfSome o IsSettled
blank_is None blank = (tt, tt)
blank_is (Some i) blank = (blank.bytes, blank.settled)

-- they are those without bytes, on which nothing is pending
pub blank_pair : (is : Images) → AreEmpty is → AreSettled is → AreBlank is
blank_pair is empty settled = record { first = blank_of is.0 empty.first settled.first; second = blank_of is.1 empty.second settled.second }

pub empty_blank : (is : Images) → AreBlank is → AreEmpty is
empty_blank is blank = record { first = (blank_is is.0 blank.first).0; second = (blank_is is.1 blank.second).0 }

pub settled_pair : (is : Images) → AreBlank is → AreSettled is
settled_pair is blank = record { first = (blank_is is.0 blank.first).1; second = (blank_is is.1 blank.second).1 }

-- A call that reads the disks of a node and changes nothing (docs/RULES.md, Questions to a folder).
use Rattle.std.specs.Prelude.{◌≡◌, ℕ, List, Result, Err, IsErrOf}
use Rattle.spl_edge.specs.Devices.{PairView}
use Rattle.spl_journal.specs.declared.form.JournalFault.{JournalFault}
use Rattle.spl_journal.specs.declared.form.JournalFault.TheVariants as fault
use Rattle.spl_snapshot.specs.Counting.{HasRisen, IfPairTells, PairOnward, PairStays}

-- it ends with no journal where these records say so, with a disk only where one failed, and the disks hold what they held
pub record OnlyReads {A : Type 0} (records : List ℕ → List ℕ → Result (List (List ℕ)) ℕ) (x y : PairView) (result : Result A JournalFault) : Type 0 where
  pub not : (at : ℕ) → IsErrOf result (fault.NotAJournal at) → IfPairTells x (λ i j. records i.bytes j.bytes ≡ Err at)
  pub failed : IsErrOf result fault.Disk → HasRisen x y
  pub stays : PairStays x y
  pub onward : PairOnward x y

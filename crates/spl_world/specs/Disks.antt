-- What the disks of the nodes report, and how a call leaves them.
use Rattle.std.specs.Prelude.{ℕ, Bool, true, false, List, Result, IsErrOf}
use Rattle.spl_edge.specs.Devices.{PairView}
use Rattle.spl_world.specs.declared.fault.WorldFault.{WorldFault, TheVariants.{Disk, NotAJournal}}
use Rattle.spl_node.specs.Benches.{AllGoOn, RoseAt}

-- ---- how a disk goes on

-- bytes that were read from disks are no journal
abbrev pub is_of_journal : WorldFault → Bool
is_of_journal (NotAJournal slot at) = true
is_of_journal _ = false

-- a call lets all pairs go on, and one that ends because the disks of a node failed reports the position of a pair of which one
-- failed more often
pub record LeavesDisks {A : Type 0} (r : Result A WorldFault) (old new : List PairView) : Type 0 where
  pub onward : AllGoOn old new
  pub failed : (slot : ℕ) → IsErrOf r (Disk slot) → RoseAt slot old new

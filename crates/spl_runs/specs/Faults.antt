-- What an error of a part is to a run, how a run ends where no line comes, and the causes of faults.
use Rattle.std.specs.Prelude.{◌≡◌, ◌<◌, ℕ, Bool, true, false, List, slice_get, Result, Ok, Err, IsErrOf}
use Rattle.spl_edge.specs.{Devices.{Rose, PairView}, declared.fault.DeviceError.DeviceError}
use Rattle.spl_edge.specs.declared.fault.DeviceError.TheVariants as device
use Rattle.spl_lines.specs.declared.feed.FeedFault.{FeedFault}
use Rattle.spl_lines.specs.declared.feed.FeedFault.TheVariants as feed
use Rattle.spl_pump.specs.Wires.{LiesOf}
use Rattle.spl_pump.specs.declared.fault.PumpFault.TheVariants as pump
use Rattle.spl_runs.specs.{Run.Ended, declared.fault.RunFault.RunFault}
use Rattle.spl_runs.specs.declared.fault.RunEnd.TheVariants as end
use Rattle.spl_runs.specs.declared.fault.RunFault.TheVariants as fault
use Rattle.spl_node.specs.Benches.{AllGoOn, RoseAt, AllUnarmed, NoneForgotten}
use Rattle.spl_world.specs.{Links.{LinkView, LinksGoOn, MayBeDue}, declared.fault.WorldFault.WorldFault}
use Rattle.spl_world.specs.declared.fault.WorldFault.TheVariants as error

abbrev pub world_fault : WorldFault → RunFault
world_fault error.NoMemory = fault.NoMemory
world_fault e = fault.World e

abbrev pub run_fault : DeviceError → RunFault
run_fault device.Failed = fault.Write
run_fault device.NoMemory = fault.NoMemory

-- so it ends where the next line has this number, and doesn't come
abbrev pub feed_end : FeedFault → ℕ → Ended
feed_end feed.Unfinished n = Err (fault.BadLine n)
feed_end feed.Overlong n = Err (fault.BadLine n)
feed_end feed.TooLong n = Ok end.TooLong
feed_end feed.Read n = Ok end.Read
feed_end feed.NoMemory n = Err fault.NoMemory

-- ---- why a call fails, and how it leaves the disks and the links, whatever they report

-- how a call leaves the disks: over links all go on, none picked from; and else no fault is forgotten, and none is armed that
-- wasn't before, but where memory ran out
abbrev pub PairsGoOn : Bool → Type 0 → List PairView → List PairView → Type 0
PairsGoOn true Short old new = AllGoOn old new
PairsGoOn false Short old new = NoneForgotten old new × (AllUnarmed old → (Short → ⊥) → AllUnarmed new)

-- a call ended with an error that is this fault of the run
abbrev pub FailsAs : {A : Type 0} → Result A WorldFault → RunFault → Type 0
FailsAs r f = (e : WorldFault) × (world_fault e ≡ f) × IsErrOf r e

-- How a call leaves the disks and the links, and the cause of a fault with which it ends, where that blames one of them. A node
-- that it blames has such a position, and pairs of disks at no such position stay as they were
pub record HaveCauses (linked : Bool) (Fails : RunFault → Type 0) (Seat : ℕ → Type 0) (old new : List PairView) (x y : LinkView) : Type 0 where
  pub onward : PairsGoOn linked (Fails fault.NoMemory) old new
  pub spared : (k : ℕ) → (Seat k → ⊥) → slice_get new k ≡ slice_get old k
  pub links : LinksGoOn x y
  pub room : Fails (fault.World error.NoMemory) → ⊥
  pub disk : (k : ℕ) → Fails (fault.World (error.Disk k)) → Seat k × RoseAt k old new
  pub journal : (k at : ℕ) → Fails (fault.World (error.NotAJournal k at)) → Seat k
  pub link : Fails (fault.World error.Link) → Rose x.faults y.faults
  pub lied : (from to : ℕ) (sent got : List ℕ) → Fails (fault.World (error.Lied from to sent got))
      → (from < x.slots) × (to < x.slots) × LiesOf (MayBeDue x.hello from to) (pump.Lied sent got) y.put y.taken

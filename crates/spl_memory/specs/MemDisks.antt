-- What a disk in memory reports.
use Rattle.std.specs.Prelude.{◌≡◌, ℕ, List, [], Some}
use Rattle.spl_edge.specs.{Devices.{armed_with, settled_at, DiskView, image_now}, declared.disk.Arming.TheVariants.Off}
use Rattle.spl_memory.specs.{Histories.calls_in, Replay.{replayed, until, picks_of}, declared.{calls.Calls.Calls, mem_disk.MemDisk.MemDisk}}

-- at each moment it held what the changes up to then make, done again; each call and each pick is a moment
abbrev pub disk_view : MemDisk → DiskView
disk_view d = record {
  image_at = λ t. Some (replayed (settled_at d.first.items) (until t (calls_in d.history)));
  moment = d.calls.moment;
  faults = d.calls.faults;
  armed = d.calls.armed;
  picks = picks_of (settled_at d.first.items) (calls_in d.history);
}

-- the numbers of its calls, from 1 on, that fail by themselves while it isn't armed
abbrev pub failing_of : MemDisk → List ℕ
failing_of d = d.calls.failing.items

-- no call came yet
pub record NoneCame (c : Calls) : Type 0 where
  pub moment : c.moment ≡ 0
  pub faults : c.faults ≡ 0
  pub armed : c.armed ≡ armed_with Off 0

-- a disk that has no bytes, and was neither called nor armed
pub record IsFreshDisk (d : MemDisk) : Type 0 where
  pub blank : image_now (disk_view d) ≡ Some (settled_at [])
  pub moment : (disk_view d).moment ≡ 0
  pub faults : (disk_view d).faults ≡ 0
  pub armed : (disk_view d).armed ≡ armed_with Off 0
  pub picks : (disk_view d).picks ≡ []

-- What the disks of the nodes hold where a line ends with an error (docs/RULES.md, Journals).
use Rattle.std.specs.{Prelude.{◌≡◌, ◌⊎◌, ℕ, List, slice_get, Some, if◌then◌else◌}, Str.bytes_eq}
use Rattle.spl_circuit.specs.Nodes.{NodeId, CircuitId}
use Rattle.spl_circuit_world.specs.Worlds.{World as CircuitWorld}
use Rattle.spl_cell_rules.specs.Cells.{Cell}
use Rattle.spl_node.specs.Benches.{Images, images_at}
use Rattle.spl_world.specs.{Views.{Nodes, slot_id, view_in}, Held.LeaveEither, declared.fault.WorldFault.{WorldFault, TheVariants.{Disk, TooMany}}}
use Rattle.spl_world.specs.declared.slot.Slot.{Slot}

-- ---- an event

-- these cells, but of one circuit what its world has there
abbrev pub cells_in : CircuitId → CircuitWorld → NodeId → (CircuitId → Cell) → CircuitId → Cell
cells_in c m n cells d = if bytes_eq c d then m.at n else cells d

-- what a stop leaves of the disks of one node stands for its cells, or for those that it has in this world of a circuit; all
-- other disks hold what they held. An error that names disks names those
pub record IsLeftAtOne (c : CircuitId) (after : CircuitWorld) (e : WorldFault) (xs : Nodes) (is : List Images) : Type 0 where
  pub index : ℕ
  pub slot : Slot
  pub there : slice_get xs.slots index ≡ Some slot
  pub place : (k : ℕ) → e ≡ Disk k → k ≡ slot.position
  pub others : (k : ℕ) → (k ≡ slot.position → ⊥) → images_at is k ≡ images_at xs.disks k
  pub own : LeaveEither (slot_id slot) (view_in xs slot).cells (cells_in c after (slot_id slot) (view_in xs slot).cells) (images_at is slot.position)

-- an event that leads to this world of a circuit ended with an error, and before it the nodes stood so: a limit leaves all
-- disks as they were
pub record EventEnds (c : CircuitId) (after : CircuitWorld) (e : WorldFault) (xs : Nodes) (is : List Images) : Type 0 where
  pub limit : (which : ℕ) → e ≡ TooMany which → is ≡ xs.disks
  pub others : (is ≡ xs.disks) ⊎ IsLeftAtOne c after e xs is

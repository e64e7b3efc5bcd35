-- When a run goes to its end: its lines can, and nothing outside fails (docs/RULES.md, Statuses).
use Rattle.std.specs.Prelude.{◌≡◌, ℕ, true, List, [], length, Some, ◌≤◌}
use Rattle.spl_cli.specs.{Command.{is_linked, reads}, declared.command.Command.Command}
use Rattle.spl_cli.specs.declared.command.Command.TheVariants as command
use Rattle.spl_edge.specs.{Devices.{Rose, SourceView, IsHonest}, Sources.limit}
use Rattle.spl_lines.specs.{Lines.rest_of, Tasks.AreTasksWithin}
use Rattle.spl_pump.specs.Wires.{AreTold}
use Rattle.spl_runs.specs.Run.{Plan, origin, tasks, held_on, AreAllowed, HasFailed}
use Rattle.spl_node.specs.{Benches.AllTell, Blank.AllEmpty}
use Rattle.spl_world.specs.Held.{AllReadable}
use Rattle.spl_app.specs.Asked.{Outside, devices_of, command_plan, way_of}

-- the lines of a plan, and the text that they come of
pub record CanEnd (m : Command) (p : Plan) (text : List ℕ) : Type 0 where
  pub allowed : AreAllowed (way_of m) p p.lines
  pub within : AreTasksWithin (origin p) (tasks (way_of m) p.lines)
  pub short : reads m ≡ true → length text ≤ limit
  pub whole : reads m ≡ true → rest_of text ≡ []

-- No device failed. Over links the disks reported what they hold, which is nothing, or where the run goes on from it what a node
-- has left; and the fabric that it gave what was put on it
pub record NothingFailed (m : Command) (p : Plan) (r q c d : SourceView) (x y : Outside) : Type 0 where
  pub registry : Rose r.faults q.faults → ⊥
  pub schedule : Rose c.faults d.faults → ⊥
  pub sink : Rose x.sink.faults y.sink.faults → ⊥
  pub disks : (k : ℕ) → HasFailed (is_linked m) k (devices_of m p x).disks (devices_of m p y).disks → ⊥
  pub told : is_linked m ≡ true → AllTell (length p.nodes) (held_on x.shelf)
  pub blank : m ≡ command.Links → AllEmpty (length p.nodes) (held_on x.shelf)
  pub kept : m ≡ command.Resume → AllReadable p.nodes (held_on x.shelf)
  pub links : is_linked m ≡ true
      → (Rose x.fabric.faults y.fabric.faults → ⊥) × AreTold y.fabric.put y.fabric.taken × IsHonest y.fabric.put y.fabric.taken

-- the bytes that the sources of registry and schedule had spell a run that can go to its end, and nothing failed
pub record PlanIsSound (m : Command) (registry schedule : List ℕ) (r q c d : SourceView) (x y : Outside) : Type 0 where
  pub plan : Plan
  pub spelled : command_plan m (held_on x.shelf) registry schedule ≡ Some plan
  pub short : reads m ≡ true → length registry ≤ limit
  pub ends : CanEnd m plan schedule
  pub sound : NothingFailed m plan r q c d x y

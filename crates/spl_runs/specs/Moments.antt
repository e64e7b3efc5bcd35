-- Where a run stands.
use Rattle.std.specs.{List.AllPairs, Prelude.{◌≡◌, ◌≢◌, ◌≤◌, Bool, true, false, List, length}}
use Rattle.spl_circuit.specs.Nodes.{CircuitId, Node}
use Rattle.spl_edge.specs.Devices.{PairView}
use Rattle.spl_lines.specs.{Due.IsOutputDue, Tasks.{AreTasksWithin, Task, asked_by, ran_by, watches_in}}
use Rattle.spl_delta.specs.{Kept.{Groups, watchers_of}, Watches.circuit_watched}
use Rattle.spl_circuit_world.specs.{Projection.Ran, Worlds.Origin}
use Rattle.spl_pump.specs.Wires.{AllBytesTaken}
use Rattle.spl_registry.specs.Nodes.{Entry, entry_ids as registered}
use Rattle.spl_runs.specs.{Run.{Plan, carried, ids, origin, texts, Devices, held_on}, declared.run.Run.Run}
use Rattle.spl_node.specs.Benches.{AllGoOn}
use Rattle.spl_world.specs.{Picks.AllHeld, Links.{Carries, AreLinksReady, LinkView}, Views.{ArePlaced, Sits, StandsAfterLines, world_node_ids}}
use Rattle.spl_world.specs.{Views.{is_world_halted, nodes_over, places_of}, declared.world.World.World}

-- a carrier between the nodes of a registry, and a fabric of which all bytes put were taken
pub record CanCarry (es : List Entry) (y : LinkView) : Type 0 where
  pub slots : length es ≤ y.slots
  pub going : y.failed ≡ false
  pub taken : AllBytesTaken y.put y.taken

-- a world of these nodes that may go on, over these disks and links
pub record MayGoOn (ns : List Node) (w : World) (disks : List PairView) (links : LinkView) : Type 0 where
  pub nodes : world_node_ids w ≡ ns
  pub running : is_world_halted w ≡ false
  pub sits : Sits (nodes_over w (held_on disks))
  pub ready : AreLinksReady (places_of w) links

-- what was picked from the disks of a world after these lines: nothing over links, and else at each line that stopped a node
abbrev pub WorldPicked : Bool → Origin → List Ran → World → List PairView → List PairView → Type 0
WorldPicked true o rs w start now = AllGoOn start now
WorldPicked false o rs w start now = AllHeld o start rs w now

-- these tasks ran over the nodes of a plan, within the limits, from x to y
pub record AreRun (linked : Bool) (p : Plan) (ts : List Task) (w : World) (x y : Devices) : Type 0 where
  pub nodes : world_node_ids w ≡ ids p
  pub apart : AllPairs (λ a b. a ≢ b) (registered p.nodes)
  pub placed : ArePlaced p.nodes w
  pub stands : StandsAfterLines (origin p) (watches_in ts) (ran_by ts) w (held_on y.disks)
  pub within : AreTasksWithin (origin p) ts
  pub picked : WorldPicked linked (origin p) (ran_by ts) w x.disks y.disks
  pub sent : Carries (carried p ts) x.links y.links

-- the watchers of each circuit are as these tasks left them
abbrev pub AreWatchersKept : Origin → List Task → Groups → Type 0
AreWatchersKept o ts ws = (c : CircuitId) → watchers_of ws c ≡ (circuit_watched o c (asked_by ts)).watchers

-- a run of this plan stands so after these tasks, and what is told of them was written since, or waits
pub record AreDone (linked : Bool) (p : Plan) (ts : List Task) (r : Run) (x y : Devices) : Type 0 where
  pub ran : AreRun linked p ts r.world x y
  pub kept : AreWatchersKept (origin p) ts r.watchers
  pub traced : p.traced ≡ r.tracer.on
  pub due : IsOutputDue x.sink.written y.sink.written r.output (texts p ts)

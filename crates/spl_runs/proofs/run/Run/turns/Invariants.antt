use Rattle.std.{specs.Prelude.IsTrue, proofs.Common.{◌≡◌, ◌-◌, ℕ, length}}
use Rattle.spl_circuit_world.specs.declared.TheConstants.{MOST_EVENTS}
use Rattle.spl_sched.specs.Grammar.{is_line}
use Rattle.spl_world.specs.{Calls.around, Calms.IsSquare, Links.{Places, link_view}, Views.{world_node_ids, places_of}}
use Rattle.spl_node.specs.Benches.{images}
use Rattle.spl_runs.{specs.{Calms.{CalmAfter, IsUnderWay, NodesGoOn, calm_line}, Steps.KeepsRest}, proofs.Causes.done}
use Rattle.spl_runs.proofs.run.Run.turns.Given as goal

-- so far the nodes went on, and where the calm was under way, it is
abbrev pub invariant-turns : goal.invariant-turns
invariant-turns g l = record {
  about : l.calm.circuit ≡ l.circuit;
  whole : l.calm.whole ≡ l.initial.calm.whole;
  square : IsSquare (length l.self.world.slots.items) l.calm.rows.items;
  rest : KeepsRest l.initial.self l.self;
  on : NodesGoOn (done ℕ 0) l.initial.self.world l.self.world
      (around g.D.Disk.view g.C.Carry.view g.F.Fabric.view l.initial.pairs.items l.initial.carrier l.initial.fabric)
      (around g.D.Disk.view g.C.Carry.view g.F.Fabric.view l.pairs.items l.carrier l.fabric);
  comes : (d : CalmAfter) → d.circuit ≡ l.circuit → IsTrue (is_line (calm_line d))
      → Places d.past.place (world_node_ids l.initial.self.world) (places_of l.initial.self.world)
      → IsUnderWay d l.initial.calm l.initial.self.world (images g.D.Disk.view l.initial.pairs.items)
      (link_view (g.C.Carry.view l.initial.carrier) (g.F.Fabric.view l.initial.fabric))
      (link_view (g.C.Carry.view l.initial.carrier) (g.F.Fabric.view l.initial.fabric)) l.initial.self.tracer
      → IsUnderWay d l.calm l.self.world (images g.D.Disk.view l.pairs.items)
      (link_view (g.C.Carry.view l.initial.carrier) (g.F.Fabric.view l.initial.fabric))
      (link_view (g.C.Carry.view l.carrier) (g.F.Fabric.view l.fabric)) l.self.tracer;
}

abbrev pub decreases-turns : goal.decreases-turns
decreases-turns g l = MOST_EVENTS - l.self.world.events

use Rattle.std.proofs.Common.{◌≡◌, false, Option}
use Rattle.spl_node.specs.Stands.{is_node_halted}
use Rattle.spl_serve.specs.{Outside.PortsView, Processes.TakesAll}
use Rattle.spl_serve.proofs.process.tick_all.Given as goal

abbrev pub invariant-loop : goal.invariant-loop
invariant-loop l = record {
  running : is_node_halted l.turn.turn.node ≡ false;
  takes : (v : Option PortsView) → TakesAll l.nodes false v v l.fn.turn l.turn;
}

use Rattle.spl_serve.specs.Processes.{TakesAll}
use Rattle.spl_serve.proofs.process.take_all.Given as goal

abbrev pub invariant-loop : goal.invariant-loop
invariant-loop g l = TakesAll l.nodes l.stops (g.P.Ports.view l.fn.ports) (g.P.Ports.view l.ports) l.fn.turn l.turn

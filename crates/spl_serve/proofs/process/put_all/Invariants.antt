use Rattle.std.proofs.Common.{◌≡◌, [], take}
use Rattle.spl_serve.specs.Outside.{grown_by}
use Rattle.spl_serve.proofs.process.put_all.Given as goal

abbrev pub invariant-loop-departure : goal.invariant-loop-departure
invariant-loop-departure g l = g.P.Ports.view l.ports ≡ grown_by [] (take l.departure-index l.departures) (g.P.Ports.view l.fn.ports)

use Rattle.std.proofs.Common.{◌≡◌, drop}
use Rattle.spl_circuit.specs.Rules.{node_of_service}
use Rattle.spl_router.proofs.way.node_of_service.Given as goal

-- the answer for what is left is the answer for all
abbrev pub invariant-loop-service : goal.invariant-loop-service
invariant-loop-service l = node_of_service (drop l.service-index l.services) l.id ≡ node_of_service l.fn.services l.fn.id

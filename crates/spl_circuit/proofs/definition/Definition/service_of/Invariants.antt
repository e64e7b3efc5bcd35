use Rattle.std.proofs.Common.{◌≡◌, drop}
use Rattle.spl_circuit.specs.Rules.{service_of_node}
use Rattle.spl_circuit.proofs.definition.Definition.service_of.Given as goal

-- the answer for what is left is the answer for all
abbrev pub invariant-loop-service : goal.invariant-loop-service
invariant-loop-service l = service_of_node (drop l.service-index l.service-items) l.node ≡ service_of_node l.fn.self.services l.fn.node

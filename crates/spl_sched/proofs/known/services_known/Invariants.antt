use Rattle.std.{specs.List.list_all, proofs.Common.{◌≡◌, drop}}
use Rattle.spl_circuit.specs.{Nodes.has_node, Rules.nodes_of as service_nodes}
use Rattle.spl_sched.proofs.known.services_known.Given as goal

abbrev pub invariant-loop-service : goal.invariant-loop-service
invariant-loop-service l =
    list_all (has_node l.known) (service_nodes (drop l.service-index l.services)) ≡ list_all (has_node l.known) (service_nodes l.services)

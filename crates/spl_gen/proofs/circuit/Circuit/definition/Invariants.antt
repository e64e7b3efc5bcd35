use Rattle.std.proofs.Common.{◌≡◌, map, take}
use Rattle.spl_gen.specs.Circuits.{generated_node, generated_service}
use Rattle.spl_gen.proofs.circuit.Circuit.definition.Given as goal

abbrev pub invariant-loop-number : goal.invariant-loop-number
invariant-loop-number l = record {
  members : l.members ≡ map generated_node (take l.number-index l.number-items);
  services : l.services ≡ map generated_service (take l.number-index l.number-items);
}

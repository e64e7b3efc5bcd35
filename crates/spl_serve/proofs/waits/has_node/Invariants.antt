use Rattle.std.proofs.Common.{◌≡◌, drop}
use Rattle.spl_circuit.specs.Nodes.{has_node}
use Rattle.spl_serve.proofs.waits.has_node.Given as goal

abbrev pub invariant-loop-other : goal.invariant-loop-other
invariant-loop-other l = has_node (drop l.other-index l.nodes) l.node ≡ has_node l.nodes l.node

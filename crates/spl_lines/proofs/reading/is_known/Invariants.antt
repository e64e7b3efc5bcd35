use Rattle.std.proofs.Common.{◌≡◌, drop}
use Rattle.spl_circuit.specs.Nodes.{has_node}
use Rattle.spl_lines.proofs.reading.is_known.Given as goal

abbrev pub invariant-loop-known : goal.invariant-loop-known
invariant-loop-known l = has_node (drop l.known-index l.nodes) l.node ≡ has_node l.nodes l.node

use Rattle.std.proofs.Common.{◌≡◌, drop}
use Rattle.spl_circuit.specs.Nodes.{has_node}
use Rattle.spl_sched.proofs.known.is_known.Given as goal

abbrev pub invariant-loop-k : goal.invariant-loop-k
invariant-loop-k l = has_node (drop l.k-index l.known) l.node ≡ has_node l.known l.node

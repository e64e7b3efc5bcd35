use Rattle.std.proofs.Common.{◌≡◌, drop}
use Rattle.spl_circuit.{specs.Nodes.position, proofs.Places.position_from}
use Rattle.spl_circuit.proofs.members.position.Given as goal

-- the position among what is left is that among all
abbrev pub invariant-loop-i : goal.invariant-loop-i
invariant-loop-i l = position_from l.i (drop l.i l.members) l.node ≡ position l.members l.node

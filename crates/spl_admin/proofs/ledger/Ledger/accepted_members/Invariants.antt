use Rattle.std.{specs.List.filter, proofs.Common.{◌≡◌, take}}
use Rattle.spl_circuit.specs.{Nodes.has_node, Lifecycle.{life, current}}
use Rattle.spl_admin.proofs.ledger.Ledger.accepted_members.Given as goal

-- those of the members so far
abbrev pub invariant-loop-member : goal.invariant-loop-member
invariant-loop-member l = l.members ≡ filter (has_node (current (life l.self.definition l.self.acts)).accepted) (take l.member-index l.member-items)

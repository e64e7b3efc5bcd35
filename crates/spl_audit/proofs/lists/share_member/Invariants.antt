use Rattle.std.proofs.Common.{◌≡◌, ℕ, ◌<◌, false, get_or, []}
use Rattle.spl_circuit.specs.Nodes.{has_node}
use Rattle.spl_audit.proofs.lists.share_member.Given as goal

abbrev pub invariant-members : goal.invariant-members
invariant-members l = (k : ℕ) → k < l.member-index → has_node l.other.members (get_or l.member-items k []) ≡ false

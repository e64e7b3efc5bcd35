-- Members that have one position are one.
use Rattle.std.proofs.Common.{◌≡◌, ◌<◌, ◌≤◌, true, List, length, sym, ◌∙◌, arith}
use Rattle.spl_circuit.specs.{Nodes.{NodeId, has_node, position}, Positions.{before_same, position_member, member_below}}

pub position-apart : (ms : List NodeId) (a b : NodeId) → length ms ≤ 8 → position ms a < length ms → position ms a ≡ position ms b → a ≡ b
position-apart ms a b few l e =
    let p : has_node ms a ≡ true = member_below ms a few l in
    let q : has_node ms b ≡ true = member_below ms b few (omega arith) in
    before_same ms a b p q (sym (position_member ms a p) ∙ (e ∙ position_member ms b q))

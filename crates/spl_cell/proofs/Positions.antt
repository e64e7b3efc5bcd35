-- Positions of nodes among members.
use Rattle.std.{specs.{Prelude.None, Str.bytes_eq}, proofs.Common.{◌≡◌, ◌≢◌, ◌<◌, ◌≤◌, true, false, List, [], ◌∷◌, length, refl, arith}}
use Rattle.std.proofs.lemmas.Slice.Eq.{bytes_eq-Decides}
use Rattle.spl_circuit.specs.{Nodes.{NodeId, has_node, position, lowest}, Rules.{broken, admin, is_member, ascends}}
use Rattle.spl_circuit.{specs.declared.definition.Definition.Definition, proofs.{Sorting.first_is_lowest, Valid.{few_members, members_ascend}}}
use Rattle.spl_cell_rules.proofs.Positions.{position_below, position_apart}

-- ---- a member's position

pub member_placed : (d : Definition) (n : NodeId) → is_member d n ≡ true → position d.members n < length d.members
member_placed d n h = position_below d.members n h

first_has : (ms : List NodeId) → ascends ms ≡ true → 2 ≤ length ms → has_node ms (lowest ms) ≡ true
first_has [] a l = absurd (omega (arith, l))
first_has (m ∷ ms) a l = rw (first_is_lowest m ms a, (bytes_eq-Decides m m).1 refl)

pub admin_placed : (d : Definition) → broken d ≡ None → position d.members (admin d) < length d.members
admin_placed d e = member_placed d (admin d) (first_has d.members (members_ascend d e) (few_members d e).0)

pub two_members : (d : Definition) → broken d ≡ None → 2 ≤ length d.members
two_members d e = (few_members d e).0

pub eight_members : (d : Definition) → broken d ≡ None → length d.members ≤ 8
eight_members d e = (few_members d e).1

-- another node has another position than a member
pub sender_other : (d : Definition) (from here : NodeId) → broken d ≡ None → is_member d here ≡ true → bytes_eq from here ≡ false
    → position d.members from ≢ position d.members here
sender_other d from here e m o = position_apart d.members here from (few_members d e).1 m o

pub ruleset sender_facts = (eight_members, sender_other)

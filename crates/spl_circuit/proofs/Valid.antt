-- What a definition that breaks no rule has.
use Rattle.std.{specs.{List.list_all, Prelude.slice_index_or}, proofs.Common.{◌≡◌, ◌≤◌, leb, ◌&&◌, IsTrue, List, [], ◌∷◌, length, None, refl, sym, ap, arith}}
use Rattle.std.proofs.lemmas.Bool.{leb-true, le-leb, and_parts, and_from}
use Rattle.spl_base.specs.{Booleans.all_pass, Rules.test_at}
use Rattle.spl_circuit.specs.{DefinitionForms.{definition, node_id, service}, Nodes.{Node, sorted, same_nodes, lowest}, Rules.{broken, rules_of, ascends}}
use Rattle.spl_circuit.specs.{Rules.{ascends_after, ids_of, nodes_of, leading_node, admin}, declared.definition.{Definition.Definition, Service.Service}}
use Rattle.spl_circuit.proofs.Sorting.{first_is_lowest, first_service_is_lowest, length_served}
use Rattle.spl_circuit.specs.Rules as rules

pub few_members : (d : Definition) → broken d ≡ None → (2 ≤ length d.members) × (length d.members ≤ 8)
few_members d e =
    let h : IsTrue (leb 2 (length d.members) && leb (length d.members) 8) = test_at 4 1 (rules_of d) e in
    let b = and_parts (leb 2 (length d.members)) (leb (length d.members) 8) h in
    (leb-true 2 (length d.members) b.0, leb-true (length d.members) 8 b.1)

pub members_ascend : (d : Definition) → broken d ≡ None → IsTrue (ascends d.members)
members_ascend d e = test_at 5 1 (rules_of d) e

pub services_ascend : (d : Definition) → broken d ≡ None → IsTrue (ascends (ids_of d.services))
services_ascend d e = test_at 7 1 (rules_of d) e

-- one service a member
pub as_many_services : (d : Definition) → broken d ≡ None → length d.services ≡ length d.members
as_many_services d e =
    let h : IsTrue (same_nodes (sorted (nodes_of d.services)) d.members) = test_at 8 1 (rules_of d) e in
    length_served d.services d.members h

first_node : (ms : List Node) (x : Node) → IsTrue (ascends ms) → 2 ≤ length ms → slice_index_or ms 0 x ≡ lowest ms
first_node [] x a l = absurd (omega (arith, l))
first_node (m ∷ ms) x a l = sym (first_is_lowest m ms a)

pub admin_is_first : (d : Definition) (x : Node) → broken d ≡ None → slice_index_or d.members 0 x ≡ admin d
admin_is_first d x e = first_node d.members x (members_ascend d e) (few_members d e).0

first_service : (ss : List Service) (s : Service) → IsTrue (ascends (ids_of ss)) → 2 ≤ length ss → (slice_index_or ss 0 s).node ≡ leading_node ss
first_service [] s a l = absurd (omega (arith, l))
first_service (t ∷ ts) s a l = ap (λ v. v.node) (sym (first_service_is_lowest t ts a))

pub service_is_first : (d : Definition) (s : Service) → broken d ≡ None → (slice_index_or d.services 0 s).node ≡ rules.service d
service_is_first d s e = first_service d.services s (services_ascend d e) (omega (arith, as_many_services d e, (few_members d e).0))

-- few members and few services have a byte form
pub bounded_by : (d : Definition) → length d.members ≤ 16 → length d.services ≤ 16 → IsTrue (definition.bounded d)
bounded_by d few same =
    and_from (leb (length d.members) 16 && list_all node_id.bounded d.members) (leb (length d.services) 16 && list_all service.bounded d.services)
    (and_from (leb (length d.members) 16) (list_all node_id.bounded d.members) (le-leb (length d.members) 16 few)
    (all_pass node_id.bounded (λ xs. refl) d.members))
    (and_from (leb (length d.services) 16) (list_all service.bounded d.services) (le-leb (length d.services) 16 same)
    (all_pass service.bounded (λ s. refl) d.services))

-- it has a byte form
pub bounded_from_valid : (d : Definition) → broken d ≡ None → IsTrue (definition.bounded d)
bounded_from_valid d e =
    let few = (few_members d e).1 in
    let same = as_many_services d e in
    bounded_by d (omega (arith, few)) (omega (arith, few, same))

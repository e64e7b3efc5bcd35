-- What a valid definition gives.
use Rattle.std.{specs.Prelude.slice_index_or, proofs.Common.{◌≡◌, ◌≤◌, true, List, [], ◌∷◌, length, None, refl, sym, ap, ◌∙◌, arith}}
use Rattle.spl_base.specs.Rules.{test_at}
use Rattle.spl_circuit.specs.{Nodes.{NodeId, has_node, sorted}, Rules.{rules_of, broken, admin, service, nodes_of}, Same.{node_same, nodes_are}}
use Rattle.spl_circuit.{specs.declared.definition.{Definition.Definition, Service.Service}, proofs.{Sorting.has_sorted, Valid.few_members}}
use Rattle.spl_circuit.proofs.Valid.{as_many_services, admin_is_first, service_is_first}

-- what follows from the rules
pub record IsRoster (d : Definition) : Type 0 where
  pub few : length d.members ≤ 8
  pub admin_in : has_node d.members (admin d) ≡ true
  pub service_in : has_node d.members (service d) ≡ true

first-has : (ms : List NodeId) (x : NodeId) → 2 ≤ length ms → has_node ms (slice_index_or ms 0 x) ≡ true
first-has [] x h = absurd (omega (arith, h))
first-has (m ∷ ms) x h = rw (node_same m) refl

first-serves : (ss : List Service) (s : Service) → 2 ≤ length ss → has_node (nodes_of ss) (slice_index_or ss 0 s).node ≡ true
first-serves [] s h = absurd (omega (arith, h))
first-serves (t ∷ ts) s h = rw (node_same t.node) refl

-- the nodes of the services are the members
pub nodes-members : (d : Definition) → broken d ≡ None → sorted (nodes_of d.services) ≡ d.members
nodes-members d ruled = nodes_are (sorted (nodes_of d.services)) d.members (test_at 8 1 (rules_of d) ruled)

-- whose node has a service is a member, and each member has one
pub members-serve : (d : Definition) (n : NodeId) → broken d ≡ None → has_node d.members n ≡ has_node (nodes_of d.services) n
members-serve d n ruled = ap (λ ms. has_node ms n) (sym (nodes-members d ruled)) ∙ has_sorted (nodes_of d.services) n

abbrev no_service : Service
no_service = record { id = []; kind = []; node = [] }

-- of a definition that breaks no rule
pub roster : (d : Definition) → broken d ≡ None → IsRoster d
roster d h = record {
  few = (few_members d h).1;
  admin_in = ap (has_node d.members) (sym (admin_is_first d [] h)) ∙ first-has d.members [] (few_members d h).0;
  service_in =
      members-serve d (service d) h ∙ ap (has_node (nodes_of d.services)) (sym (service_is_first d no_service h))
      ∙ first-serves d.services no_service (omega (arith, as_many_services d h, (few_members d h).0));
}

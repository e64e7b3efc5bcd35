-- Positions of members, and the services that stand on them.
use Rattle.std.{specs.{Prelude.{Option, Some, None, Ok, Err}, Str.bytes_eq}, proofs.Common.{◌≡◌, ℕ, zero, suc, ◌<◌, ◌≤◌, ◌⊎◌, true, false, List, [], ◌∷◌}}
use Rattle.std.proofs.Common.{length, refl, sym, ap, subst, ◌∙◌, inl, inr, arith}
use Rattle.spl_agree.proofs.Tests.{if_holds, bool_cases, and_left, and_right, or_true}
use Rattle.spl_circuit.specs.{Nodes.{NodeId, CircuitId, ServiceId, has_node, before_node, position, node_or, is_below}, Rules.{broken, ascends}}
use Rattle.spl_circuit.specs.{Rules.{ascends_after, nodes_of, ids_of, service_of_node, node_of_service}, Routing.{Way, way_between, route}, Same.node_is}
use Rattle.spl_circuit.specs.{Same.node_same, Positions.position_member, declared.definition.{Definition.Definition, Service.Service}}
use Rattle.spl_circuit.proofs.{Order.below_trans, Sorting.{weaken, differ, ascends_on}, Valid.{members_ascend, services_ascend, few_members}}
use Rattle.spl_circuit.specs.declared.lifecycle.RouteFault.TheVariants as fault
use Rattle.spl_cell_rules.specs.Plans.{or_none, service_on}
use Rattle.spl_circuit_safety.proofs.Rosters.{members-serve}

-- ---- positions

-- what stands after is above
pub above-after : (m : NodeId) (ms : List NodeId) (back : NodeId) (q : ℕ) → ascends_after m ms ≡ true → q < length ms → is_below m (node_or ms back q) ≡ true
above-after m [] back q a l = absurd (omega (arith, l))
above-after m (k ∷ ks) back zero a l = and_left (is_below m k) (ascends_after k ks) a
above-after m (k ∷ ks) back (suc q) a l =
    below_trans m k (node_or ks back q) (and_left (is_below m k) (ascends_after k ks) a)
    (above-after k ks back q (and_right (is_below m k) (ascends_after k ks) a) (omega (arith, l)))

-- the node at a position stands after so many
pub before-or : (ms : List NodeId) (back : NodeId) (q : ℕ) → ascends ms ≡ true → q < length ms → before_node ms (node_or ms back q) ≡ q
before-or [] back q a l = absurd (omega (arith, l))
before-or (m ∷ ms) back zero a l = rw (node_same m)
before-or (m ∷ ms) back (suc q) a l =
    rw (differ m (node_or ms back q) (above-after m ms back q a (omega (arith, l)))) (ap suc (before-or ms back q (ascends_on m ms a) (omega (arith, l))))

-- it is a member
pub or-member : (ms : List NodeId) (back : NodeId) (q : ℕ) → q < length ms → has_node ms (node_or ms back q) ≡ true
or-member [] back q l = absurd (omega (arith, l))
or-member (m ∷ ms) back zero l = rw (node_same m)
or-member (m ∷ ms) back (suc q) l = rw (or-member ms back q (omega (arith, l))) (or_true (bytes_eq m (node_or ms back q)))

-- the position of the node at a position
pub position-at : (d : Definition) (back : NodeId) (q : ℕ) → broken d ≡ None → q < length d.members → position d.members (node_or d.members back q) ≡ q
position-at d back q ruled l =
    position_member d.members (node_or d.members back q) (or-member d.members back q l) ∙ before-or d.members back q (members_ascend d ruled) l

-- a node that is no member has a position after all
pub outside : (d : Definition) (n : NodeId) → broken d ≡ None → has_node d.members n ≡ false → length d.members ≤ position d.members n
outside d n ruled h = let p : position d.members n ≡ 255 = rw h in omega (arith, p, (few_members d ruled).1)

-- ---- services

-- the ids after an id are others
pub id-other : (i : CircuitId) (ss : List Service) (n : NodeId) → ascends_after i (ids_of ss) ≡ true → has_node (nodes_of ss) n ≡ true
    → bytes_eq i (or_none (service_of_node ss n)) ≡ false
id-other i [] n a h = cc
id-other i (s ∷ ss) n a h = go (bool_cases (bytes_eq s.node n)) (id-other i ss n)
  where
    near : is_below i s.id ≡ true
    near = and_left (is_below i s.id) (ascends_after s.id (ids_of ss)) a

    go : (bytes_eq s.node n ≡ true) ⊎ (bytes_eq s.node n ≡ false)
        → (ascends_after i (ids_of ss) ≡ true → has_node (nodes_of ss) n ≡ true → bytes_eq i (or_none (service_of_node ss n)) ≡ false)
        → bytes_eq i (or_none (service_of_node (s ∷ ss) n)) ≡ false
    go (inl q) hyp = rw q (differ i s.id near)
    go (inr q) hyp = rw q (hyp (weaken i s.id (ids_of ss) near (and_right (is_below i s.id) (ascends_after s.id (ids_of ss)) a)) (rw q at h))

-- the service on a node stands on it
pub service-stands : (ss : List Service) (n : NodeId) → ascends (ids_of ss) ≡ true → has_node (nodes_of ss) n ≡ true
    → node_of_service ss (or_none (service_of_node ss n)) ≡ Some n
service-stands [] n a h = cc
service-stands (s ∷ ss) n a h = go (bool_cases (bytes_eq s.node n)) (service-stands ss n)
  where
    go : (bytes_eq s.node n ≡ true) ⊎ (bytes_eq s.node n ≡ false)
        → (ascends (ids_of ss) ≡ true → has_node (nodes_of ss) n ≡ true → node_of_service ss (or_none (service_of_node ss n)) ≡ Some n)
        → node_of_service (s ∷ ss) (or_none (service_of_node (s ∷ ss) n)) ≡ Some n
    go (inl q) hyp = rw (q, node_same s.id) (ap (λ (z : NodeId). Some z) (node_is s.node n q))
    go (inr q) hyp = let k : has_node (nodes_of ss) n ≡ true = rw q at h in rw (q, id-other s.id ss n a k) (hyp (ascends_on s.id (ids_of ss) a) k)

-- a service stands on one of the nodes
pub service-node : (ss : List Service) (i n : NodeId) → node_of_service ss i ≡ Some n → has_node (nodes_of ss) n ≡ true
service-node [] i n h = cc
service-node (s ∷ ss) i n h = go (bool_cases (bytes_eq s.id i)) (service-node ss i n)
  where
    mine : Some s.node ≡ Some n → bytes_eq s.node n ≡ true
    mine e = subst (λ (z : NodeId). bytes_eq s.node z ≡ true) (let q : s.node ≡ n = cc in q) (node_same s.node)

    go : (bytes_eq s.id i ≡ true) ⊎ (bytes_eq s.id i ≡ false) → (node_of_service ss i ≡ Some n → has_node (nodes_of ss) n ≡ true)
        → has_node (nodes_of (s ∷ ss)) n ≡ true
    go (inl q) hyp = rw (mine (rw q at h))
    go (inr q) hyp = rw (hyp (rw q at h)) (or_true (bytes_eq s.node n))

pub member-served : (d : Definition) (n : NodeId) → broken d ≡ None → has_node d.members n ≡ true → has_node (nodes_of d.services) n ≡ true
member-served d n ruled h = sym (members-serve d n ruled) ∙ h

pub served-member : (d : Definition) (n : NodeId) → broken d ≡ None → has_node (nodes_of d.services) n ≡ true → has_node d.members n ≡ true
served-member d n ruled h = members-serve d n ruled ∙ h

-- a message between the services of two members is routed
pub route-members : (d : Definition) (n y : NodeId) → broken d ≡ None → has_node d.members n ≡ true → has_node d.members y ≡ true
    → route (Some d) true n (service_on d n) (service_on d y) y ≡ Ok tt
route-members d n y ruled h k =
    rw (
      service-stands d.services n (services_ascend d ruled) (member-served d n ruled h),
      service-stands d.services y (services_ascend d ruled) (member-served d y ruled k),
    ) (rw (node_same n, node_same y))

-- what is routed comes from a member
pub route-from : (d : Definition) (from : NodeId) (s t : ServiceId) (here : NodeId) → broken d ≡ None → route (Some d) true from s t here ≡ Ok tt
    → has_node d.members from ≡ true
route-from d from s t here ruled h = served-member d from ruled (go (node_of_service d.services s) (node_of_service d.services t) refl h)
  where
    go : (x y : Option NodeId) → node_of_service d.services s ≡ x → way_between from x y here ≡ Ok tt → has_node (nodes_of d.services) from ≡ true
    go (Some m) (Some r) e w =
        if_holds (λ (z : Way). z ≡ Ok tt → has_node (nodes_of d.services) from ≡ true) (bytes_eq m from) _ _
        (λ q k. service-node d.services s from (e ∙ ap (λ (z : NodeId). Some z) (node_is m from q)))
        (λ q k. absurd (let z : Err fault.SenderNotOnNode ≡ Ok tt = k in cc)) w
    go _ _ e w = cc

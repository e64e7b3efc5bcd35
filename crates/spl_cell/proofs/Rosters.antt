-- Services and the members that they stand on.
use Rattle.std.{specs.{Prelude.{Option, Some, None, IsSome, Ok, Err, if◌then◌else◌}, Str.bytes_eq}, proofs.Common.{◌≡◌, ◌⊎◌, ℕ, zero, suc, ◌+◌, ◌<◌, ◌≤◌}}
use Rattle.std.proofs.{Common.{Bool, true, false, ◌||◌, List, [], ◌∷◌, length, get_or, refl, sym, ap, ◌∙◌, inl, inr, arith}, lemmas.Slice.Eq.bytes_eq-Decides}
use Rattle.spl_agree.proofs.{Booleans.or_true, Tests.{bool_cases, and_left, and_right}}
use Rattle.spl_circuit.specs.{Nodes.{ServiceId, NodeId, has_node, is_below, inserted, sorted, same_nodes, node_or, position}, Rules.{first_false, rules_of}}
use Rattle.spl_circuit.specs.Rules.{broken, ascends, ids_of, nodes_of, serves, service, is_member, service_of_node, node_of_service, leading_node}
use Rattle.spl_circuit.{proofs.Sorting.or_swap, specs.{Routing.{way_between, route}, declared.definition.{Definition.Definition, Service.Service}}}
use Rattle.spl_circuit.proofs.{Sorting.first_service_is_lowest, Valid.{services_ascend, as_many_services, few_members}}
use Rattle.spl_circuit.specs.declared.lifecycle.RouteFault.TheVariants as fault
use Rattle.spl_cell.{specs.Lanes.{LaneKind, reaches}, proofs.Positions.{member_placed, admin_placed, two_members, eight_members}}

-- ---- a node is a member exactly where some service stands on it

has_inserted : (x : NodeId) (ys : List NodeId) (n : NodeId) → has_node (inserted x ys) n ≡ (bytes_eq x n || has_node ys n)
has_inserted x [] n = refl
has_inserted x (y ∷ ys) n = go (bool_cases (is_below y x)) (has_inserted x ys n)
  where
    go : (is_below y x ≡ true) ⊎ (is_below y x ≡ false) → has_node (inserted x ys) n ≡ (bytes_eq x n || has_node ys n)
        → has_node (inserted x (y ∷ ys)) n ≡ (bytes_eq x n || has_node (y ∷ ys) n)
    go (inl e) h = rw (e, h) (or_swap (bytes_eq y n) (bytes_eq x n) (has_node ys n))
    go (inr e) h = rw e refl

has_sorted : (xs : List NodeId) (n : NodeId) → has_node (sorted xs) n ≡ has_node xs n
has_sorted [] n = refl
has_sorted (x ∷ xs) n = has_inserted x (sorted xs) n ∙ ap (λ b. bytes_eq x n || b) (has_sorted xs n)

has_same : (xs ys : List NodeId) (n : NodeId) → same_nodes xs ys ≡ true → has_node xs n ≡ has_node ys n
has_same [] [] n h = refl
has_same [] (y ∷ ys) n h = absurd cc
has_same (x ∷ xs) [] n h = absurd cc
has_same (x ∷ xs) (y ∷ ys) n h =
    rw ((bytes_eq-Decides x y).0 (and_left (bytes_eq x y) (same_nodes xs ys) h), has_same xs ys n (and_right (bytes_eq x y) (same_nodes xs ys) h)) refl

any_node : (ss : List Service) (n : NodeId) → has_node (nodes_of ss) n ≡ serves ss n
any_node [] n = refl
any_node (s ∷ ss) n = ap (λ b. bytes_eq s.node n || b) (any_node ss n)

test_at : (k n : ℕ) (bs : List Bool) → first_false n bs ≡ None → get_or bs k true ≡ true
test_at k n [] e = refl
test_at zero n (true ∷ bs) e = refl
test_at (suc k) n (true ∷ bs) e = test_at k (n + 1) bs e
test_at k n (false ∷ bs) e = absurd cc

pub member_serves : (d : Definition) (n : NodeId) → broken d ≡ None → is_member d n ≡ serves d.services n
member_serves d n e =
    sym (has_same (sorted (nodes_of d.services)) d.members n (test_at 8 1 (rules_of d) e)) ∙ has_sorted (nodes_of d.services) n ∙ any_node d.services n

-- ---- the service on a member

found_service : (ss : List Service) (n : NodeId) → serves ss n ≡ true → IsSome (service_of_node ss n)
found_service [] n h = absurd cc
found_service (s ∷ ss) n h = go (bool_cases (bytes_eq s.node n)) (found_service ss n)
  where
    go : (bytes_eq s.node n ≡ true) ⊎ (bytes_eq s.node n ≡ false) → (serves ss n ≡ true → IsSome (service_of_node ss n)) → IsSome (service_of_node (s ∷ ss) n)
    go (inl e) f = rw e refl
    go (inr e) f = rw e (f (rw e at h))

pub member_served : (d : Definition) (n : NodeId) → broken d ≡ None → is_member d n ≡ true → IsSome (service_of_node d.services n)
member_served d n e m = found_service d.services n (sym (member_serves d n e) ∙ m)

-- ---- the node of a service is a member

node_serves : (ss : List Service) (i : ServiceId) (n : NodeId) → node_of_service ss i ≡ Some n → serves ss n ≡ true
node_serves [] i n h = absurd cc
node_serves (s ∷ ss) i n h = go (bool_cases (bytes_eq s.id i)) (bool_cases (bytes_eq s.node n)) (node_serves ss i n)
  where
    go : (bytes_eq s.id i ≡ true) ⊎ (bytes_eq s.id i ≡ false) → (bytes_eq s.node n ≡ true) ⊎ (bytes_eq s.node n ≡ false)
        → (node_of_service ss i ≡ Some n → serves ss n ≡ true) → serves (s ∷ ss) n ≡ true
    go (inl e) (inl k) f = rw k refl
    go (inl e) (inr k) f =
        let q : Some s.node ≡ Some n = rw e at h in let z : s.node ≡ n = cc in let t : bytes_eq s.node n ≡ true = (bytes_eq-Decides s.node n).1 z in absurd cc
    go (inr e) (inl k) f = rw k refl
    go (inr e) (inr k) f = rw k (f (rw e at h))

-- a message that goes on comes from a node with a service
way_from : (ss : List Service) (n : NodeId) (i : ServiceId) (r : Option NodeId) (here : NodeId) (s : Option NodeId) → node_of_service ss i ≡ s
    → way_between n s r here ≡ Ok tt → serves ss n ≡ true
way_from ss n i r here None e w = absurd cc
way_from ss n i None here (Some m) e w = absurd cc
way_from ss n i (Some k) here (Some m) e w = go (bool_cases (bytes_eq m n))
  where
    go : (bytes_eq m n ≡ true) ⊎ (bytes_eq m n ≡ false) → serves ss n ≡ true
    go (inl p) = node_serves ss i n (e ∙ ap (λ x. Some x) ((bytes_eq-Decides m n).0 p))
    go (inr p) = absurd (let q : Err fault.SenderNotOnNode ≡ Ok tt = rw p at w in cc)

pub sender_is_member : (d : Definition) (active : Bool) (n : NodeId) (from to : ServiceId) (here : NodeId) → broken d ≡ None
    → route (Some d) active n from to here ≡ Ok tt → is_member d n ≡ true
sender_is_member d true n from to here e w =
    member_serves d n e ∙ way_from d.services n from (node_of_service d.services to) here (node_of_service d.services from) refl w
sender_is_member d false n from to here e w = absurd cc

-- ---- positions

has_node_or : (ms : List NodeId) (back : NodeId) (p : ℕ) → has_node ms (node_or ms back p) ≡ true ⊎ (node_or ms back p ≡ back)
has_node_or [] back p = inr refl
has_node_or (m ∷ ms) back zero = inl (rw ((bytes_eq-Decides m m).1 refl) refl)
has_node_or (m ∷ ms) back (suc p) = go (has_node_or ms back p)
  where
    go : (has_node ms (node_or ms back p) ≡ true) ⊎ (node_or ms back p ≡ back) → (has_node (m ∷ ms) (node_or ms back p) ≡ true) ⊎ (node_or ms back p ≡ back)
    go (inl h) = inl (rw h (or_true (bytes_eq m (node_or ms back p))))
    go (inr e) = inr e

-- who is at a position is a member where the other one is
node_or_member : (d : Definition) (back : NodeId) (p : ℕ) → is_member d back ≡ true → is_member d (node_or d.members back p) ≡ true
node_or_member d back p h = go (has_node_or d.members back p)
  where
    go : (has_node d.members (node_or d.members back p) ≡ true) ⊎ (node_or d.members back p ≡ back) → has_node d.members (node_or d.members back p) ≡ true
    go (inl k) = k
    go (inr e) = ap (has_node d.members) e ∙ h

among_at : (among : Bool) (d : Definition) (back : NodeId) (p : ℕ) → (if among then is_member d back else true) ≡ true
    → (if among then is_member d (node_or d.members back p) else true) ≡ true
among_at true d back p h = node_or_member d back p h
among_at false d back p h = refl

-- a group's messages can go to who is at a position where they can go back
pub reaches_at : {V : Type 0} (kind : LaneKind V) (d : Definition) (back : NodeId) (p : ℕ) (to : NodeId) → to ≡ node_or d.members back p
    → reaches kind d back ≡ true → reaches kind d to ≡ true
reaches_at kind d back p to e h = rw e (among_at kind.among d back p h)

-- the node of the service that leads
service_serves : (ss : List Service) → ascends (ids_of ss) ≡ true → 1 ≤ length ss → serves ss (leading_node ss) ≡ true
service_serves [] a l = absurd (omega (arith, l))
service_serves (s ∷ ss) a l = ap (λ (t : Service). serves (s ∷ ss) t.node) (first_service_is_lowest s ss a) ∙ rw ((bytes_eq-Decides s.node s.node).1 refl) refl

pub service_placed : (d : Definition) → broken d ≡ None → position d.members (service d) < length d.members
service_placed d e =
    let two = (few_members d e).0 in
    let same = as_many_services d e in
    member_placed d (service d) (member_serves d (service d) e ∙ service_serves d.services (services_ascend d e) (omega (arith, two, same)))

pub ruleset seat_facts = (member_placed, admin_placed, service_placed, two_members, eight_members)

-- What a line within its bounds names: its definition has a byte form, its event comes to a cell, its nodes are known.
use Rattle.std.{specs.{Prelude.{◌||◌, ◌==◌, nat_le, nat_lt}, List.list_all, Str.bytes_eq}, proofs.Common.{◌≡◌, ◌⊎◌, ℕ, ◌^◌, ◌≤◌, Bool, true, ◌&&◌, IsTrue}}
use Rattle.std.proofs.{Common.{List, [], ◌∷◌, length, refl, sym, subst, inl, inr, arith, not, zero, suc, ◌+◌, ◌-◌}, lemmas.Bool.{leb-true, le-leb}}
use Rattle.std.proofs.Common.{false}
use Rattle.spl_agree.proofs.Tests.{or_cases, eqb_is}
use Rattle.spl_base.specs.{FormLaws.{both_true, and_true}, Ids.{is_lower, is_digit, is_node_byte, is_graphic, is_node_id, is_circuit_id, is_service_id}}
use Rattle.spl_base.specs.Ids.{is_label}
use Rattle.spl_circuit.specs.{Forms.{node_id, label, service_id, circuit_id, byte, word, service, definition}, Nodes.{NodeId, CircuitId, has_node}}
use Rattle.spl_circuit.specs.declared.definition.{Definition.Definition, Service.Service}
use Rattle.spl_words.specs.Words.{is_name}
use Rattle.spl_sched.specs.{Grammar.{is_type, is_service, is_definition, is_event, is_step, event_nodes, step_nodes, step_node}, declared.line.Step.Step}
use Rattle.spl_cell_rules.{proofs.{Named.{named_node, named_circuit, named_service}, Positions.node_is}, specs.{Cells.site_at, Valid.IsFor}}
use Rattle.spl_wire.specs.declared.event.Event.{Event}
use Rattle.spl_wire.specs.declared.event.Event.TheVariants as event
use Rattle.spl_sched.specs.declared.line.Step.TheVariants as step

all_by : {A : Type 0} (p q : A → Bool) → ((x : A) → IsTrue (p x) → IsTrue (q x)) → (xs : List A) → IsTrue (list_all p xs) → IsTrue (list_all q xs)
all_by p q f [] h = refl
all_by p q f (x ∷ xs) h = let b = both_true (p x) (list_all p xs) h in and_true (q x) (list_all q xs) (f x b.0) (all_by p q f xs b.1)

graphic : (b : ℕ) → IsTrue (is_node_byte b) → IsTrue (is_graphic b)
graphic b h = go (or_cases (is_lower b || is_digit b) (b == 45) h)
  where
    between : (low high : ℕ) → 33 ≤ low → high ≤ 126 → IsTrue (nat_le low b && nat_le b high) → IsTrue (is_graphic b)
    between low high l m k =
        let p = both_true (nat_le low b) (nat_le b high) k in
        and_true (nat_le 33 b) (nat_le b 126) (le-leb 33 b (omega (arith, l, leb-true low b p.0))) (le-leb b 126 (omega (arith, m, leb-true b high p.1)))

    letters : (is_lower b ≡ true) ⊎ (is_digit b ≡ true) → IsTrue (is_graphic b)
    letters (inl q) = between 97 122 (omega arith) (omega arith) q
    letters (inr q) = between 48 57 (omega arith) (omega arith) q

    go : ((is_lower b || is_digit b) ≡ true) ⊎ ((b == 45) ≡ true) → IsTrue (is_graphic b)
    go (inl q) = letters (or_cases (is_lower b) (is_digit b) q)
    go (inr q) = subst (λ (n : ℕ). IsTrue (is_graphic n)) (sym (eqb_is b 45 q)) refl

within_128 : (n : ℕ) → n ≤ 32 → IsTrue (nat_le n 128)
within_128 n h = le-leb n 128 (omega arith)

label_of_name : (xs : List ℕ) → IsTrue (is_name xs) → IsTrue (label.fits xs)
label_of_name xs h =
    let b = both_true (nat_le 1 (length xs)) (is_label xs) h in
    and_true (nat_le (length xs) 128) (is_label xs) (both_true (nat_le (length xs) 128) _ b.1).0 b.1

label_of_type : (xs : List ℕ) → IsTrue (is_type xs) → IsTrue (label.fits xs)
label_of_type xs h =
    let b = both_true (nat_le 1 (length xs) && nat_le (length xs) 32) (list_all is_node_byte xs) h in
    let short = within_128 (length xs) (leb-true (length xs) 32 (both_true (nat_le 1 (length xs)) (nat_le (length xs) 32) b.0).1) in
    and_true (nat_le (length xs) 128) (is_label xs) short
    (and_true (nat_le (length xs) 128) (list_all is_graphic xs) short (all_by is_node_byte is_graphic graphic xs b.1))

service_form : (s : Service) → IsTrue (is_service s) → IsTrue (service.fits s)
service_form s h =
    let b = both_true (is_service_id s.id && is_type s.kind) (is_node_id s.node) h in
    let c = both_true (is_service_id s.id) (is_type s.kind) b.0 in
    and_true (service_id.fits s.id) _ (named_service s.id c.0)
    (and_true (label.fits s.kind) (node_id.fits s.node) (label_of_type s.kind c.1) (named_node s.node b.1))

defined_by : (c : CircuitId) (d : Definition) → IsTrue (is_circuit_id c) → bytes_eq d.id c ≡ true → is_definition d ≡ true → IsTrue (definition.fits d)
defined_by c d k own h =
    let id : IsTrue (circuit_id.fits d.id) = subst (λ (n : NodeId). IsTrue (circuit_id.fits n)) (sym (node_is d.id c own)) (named_circuit c k) in
    let f = both_true _ ((nat_le 1 (length d.services) && nat_le (length d.services) 16) && list_all is_service d.services) h in
    let e = both_true _ ((nat_le 1 (length d.members) && nat_le (length d.members) 16) && list_all is_node_id d.members) f.0 in
    let name = both_true _ (is_name d.name) e.0 in
    let management = both_true _ (is_name d.management) name.0 in
    let numbers = both_true (nat_lt d.generation (2 ^ 32)) (nat_lt d.version (2 ^ 8)) management.0 in
    let members = both_true (nat_le 1 (length d.members) && nat_le (length d.members) 16) (list_all is_node_id d.members) e.1 in
    let services = both_true (nat_le 1 (length d.services) && nat_le (length d.services) 16) (list_all is_service d.services) f.1 in
    and_true (circuit_id.fits d.id) _ id
    (and_true (word.fits d.generation) _ numbers.0
    (and_true (byte.fits d.version) _ numbers.1
    (and_true (label.fits d.management) _ (label_of_name d.management management.1)
    (and_true (label.fits d.name) _ (label_of_name d.name name.1)
    (and_true (nat_le (length d.members) 16 && list_all node_id.fits d.members) (nat_le (length d.services) 16 && list_all service.fits d.services)
    (and_true (nat_le (length d.members) 16) (list_all node_id.fits d.members)
    (both_true (nat_le 1 (length d.members)) (nat_le (length d.members) 16) members.0).1 (all_by is_node_id node_id.fits named_node d.members members.1))
    (and_true (nat_le (length d.services) 16) (list_all service.fits d.services)
    (both_true (nat_le 1 (length d.services)) (nat_le (length d.services) 16) services.0).1
    (all_by is_service service.fits service_form d.services services.1)))))))

-- ---- an event that a line may name comes to a cell

event_for : (n : NodeId) (c : CircuitId) (e : Event) → IsTrue (is_circuit_id c) → is_event c e ≡ true → IsFor (site_at n c) e
event_for n c (event.Propose d) k h = let b = both_true (bytes_eq d.id c) (is_definition d) h in (b.0, defined_by c d k b.0 b.1)
event_for n c (event.Deliver from x) k h = absurd cc
event_for n c _ k h = tt

pub step_for : (n node : NodeId) (c : CircuitId) (e : Event) → is_step (step.At node c e) ≡ true → IsFor (site_at n c) e
step_for n node c e h =
    let b = both_true (is_node_id node && is_circuit_id c) (is_event c e) h in
    event_for n c e (both_true (is_node_id node) (is_circuit_id c) b.0).1 b.1

-- ---- the nodes and the number that it names

tests : (a b c d e : Bool) → (a && b && c && d && e) ≡ true → (d ≡ true) × (e ≡ true)
tests true true true true true h = (refl, refl)
tests _ _ _ _ _ h = absurd cc

not_true : (b : Bool) → not b ≡ true → b ≡ false
not_true true h = absurd cc
not_true false h = refl

pub pair_apart : (from to : NodeId) (c : CircuitId) (k : ℕ) → is_step (step.Deliver from to c k) ≡ true → bytes_eq from to ≡ false
pair_apart from to c k h =
    not_true (bytes_eq from to) (tests (is_node_id from) (is_node_id to) (is_circuit_id c) (nat_le 1 k && nat_lt k (2 ^ 32)) (not (bytes_eq from to)) h).1

back : (k : ℕ) → nat_le 1 k ≡ true → (k - 1) + 1 ≡ k
back zero h = absurd cc
back (suc k) h = omega arith

pub number_back : (from to : NodeId) (c : CircuitId) (k : ℕ) → is_step (step.Deliver from to c k) ≡ true → (k - 1) + 1 ≡ k
number_back from to c k h =
    back k (both_true (nat_le 1 k) (nat_lt k (2 ^ 32))
    (tests (is_node_id from) (is_node_id to) (is_circuit_id c) (nat_le 1 k && nat_lt k (2 ^ 32)) (not (bytes_eq from to)) h).0).0

pub second_known : (ns : List NodeId) (from to : NodeId) (c : CircuitId) (k : ℕ) → list_all (has_node ns) (step_nodes (step.Deliver from to c k)) ≡ true
    → has_node ns to ≡ true
second_known ns from to c k h = (both_true (has_node ns to) true (both_true (has_node ns from) (list_all (has_node ns) (to ∷ [])) h).1).0

-- the node at which a step takes place is known
pub node_known : (ns : List NodeId) (s : Step) → list_all (has_node ns) (step_nodes s) ≡ true → has_node ns (step_node s) ≡ true
node_known ns (step.At n c e) h = (both_true (has_node ns n) (list_all (has_node ns) (event_nodes e)) h).0
node_known ns (step.Deliver from to c k) h = second_known ns from to c k h

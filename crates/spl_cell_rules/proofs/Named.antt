-- Ids that are within their grammars have byte forms.
use Rattle.std.{specs.Prelude.{◌==◌, nat_le}, proofs.{Common.{◌≡◌, ℕ, true, ◌&&◌, IsTrue, length, arith}, lemmas.Bool.Decides.nat_tests}}
use Rattle.spl_base.specs.{Ids.{is_node_id, is_circuit_id, is_service_id}, FormLaws.{both_true, and_true}}
use Rattle.spl_agree.proofs.Tests.{eqb_is}
use Rattle.spl_circuit.specs.{Forms.{node_id, circuit_id, service_id, kind}, Nodes.{ServiceId, CircuitId, NodeId}, declared.act.Act.Act}
use Rattle.spl_wire.specs.Bounds.{has_form}
use Rattle.spl_cell_rules.specs.{Cells.Site, Valid.IsNamed}

pub named_node : (n : NodeId) → IsTrue (is_node_id n) → IsTrue (node_id.fits n)
named_node n h =
    let b = both_true (nat_le 1 (length n) && nat_le (length n) 32) _ h in
    and_true (nat_le (length n) 32) (is_node_id n) (both_true (nat_le 1 (length n)) (nat_le (length n) 32) b.0).1 h

same_le : (a b : ℕ) → a ≡ b → (nat_le b a && nat_le a b) ≡ true
same_le a b e = grind (arith, nat_tests)

pub named_circuit : (c : CircuitId) → IsTrue (is_circuit_id c) → IsTrue (circuit_id.fits c)
named_circuit c h =
    let most = both_true _ _ (both_true _ _ h).0 in
    let b = both_true (length c == 11) _ most.0 in
    and_true (nat_le 11 (length c) && nat_le (length c) 11) (is_circuit_id c) (same_le (length c) 11 (eqb_is (length c) 11 b.0)) h

pub named_service : (s : ServiceId) → IsTrue (is_service_id s) → IsTrue (service_id.fits s)
named_service s h =
    let b = both_true (length s == 4) _ h in
    and_true (nat_le 4 (length s) && nat_le (length s) 4) (is_service_id s) (same_le (length s) 4 (eqb_is (length s) 4 b.0)) h

pub named_by : (site : Site) → IsTrue (is_node_id site.here) → IsTrue (is_circuit_id site.circuit) → IsNamed site
named_by site h k = record { node = named_node site.here h; circuit = named_circuit site.circuit k }

pub formed_act : (v : Act) → IsTrue (is_node_id v.node) → IsTrue (kind.fits v.kind) → has_form v ≡ true
formed_act v h k = and_true (node_id.fits v.node) (kind.fits v.kind) (named_node v.node h) k

-- lengths of ids as a message has them
pub short_circuit : (c : CircuitId) → IsTrue (is_circuit_id c) → nat_le (length c) 11 ≡ true
short_circuit c h = (both_true (nat_le 11 (length c)) (nat_le (length c) 11) (both_true _ (is_circuit_id c) (named_circuit c h)).0).1

pub short_service : (s : ServiceId) → IsTrue (is_service_id s) → nat_le (length s) 4 ≡ true
short_service s h = (both_true (nat_le 4 (length s)) (nat_le (length s) 4) (both_true _ (is_service_id s) (named_service s h)).0).1

-- The services of a definition that has a byte form have short ids.
use Rattle.std.{specs.{Prelude.nat_le, List.list_all, Str.bytes_eq}, proofs.Common.{◌≡◌, ◌⊎◌, true, false, ◌&&◌, IsTrue, List, [], ◌∷◌, length, refl, inl}}
use Rattle.std.proofs.Common.{inr}
use Rattle.spl_base.specs.FormLaws.{both_true}
use Rattle.spl_agree.proofs.Tests.{bool_cases}
use Rattle.spl_circuit.specs.{Forms.{node_id, label, byte, word, circuit_id, service_id, service, definition}, Nodes.NodeId, Rules.service_of_node}
use Rattle.spl_circuit.specs.declared.definition.{Definition.Definition, Service.Service}
use Rattle.spl_cell_rules.specs.Plans.{or_none, service_on}

short-service : (s : Service) → IsTrue (service.fits s) → nat_le (length s.id) 4 ≡ true
short-service s h =
    let b = both_true (service_id.fits s.id) _ h in
    (both_true (nat_le 4 (length s.id)) (nat_le (length s.id) 4) (both_true (nat_le 4 (length s.id) && nat_le (length s.id) 4) _ b.0).0).1

short-among : (ss : List Service) (n : NodeId) → IsTrue (list_all service.fits ss) → nat_le (length (or_none (service_of_node ss n))) 4 ≡ true
short-among [] n h = refl
short-among (s ∷ ss) n h = let b = both_true (service.fits s) (list_all service.fits ss) h in go (bool_cases (bytes_eq s.node n)) b.0 (short-among ss n b.1)
  where
    go : (bytes_eq s.node n ≡ true) ⊎ (bytes_eq s.node n ≡ false) → IsTrue (service.fits s) → nat_le (length (or_none (service_of_node ss n))) 4 ≡ true
        → nat_le (length (or_none (service_of_node (s ∷ ss) n))) 4 ≡ true
    go (inl q) own rest = rw (q, short-service s own)
    go (inr q) own rest = rw (q, rest)

services-form : (d : Definition) → IsTrue (definition.fits d) → IsTrue (list_all service.fits d.services)
services-form d h =
    let a = both_true (circuit_id.fits d.id) _ h in
    let b = both_true (word.fits d.generation) _ a.1 in
    let c = both_true (byte.fits d.version) _ b.1 in
    let e = both_true (label.fits d.management) _ c.1 in
    let f = both_true (label.fits d.name) _ e.1 in
    let g = both_true (nat_le (length d.members) 16 && list_all node_id.fits d.members) _ f.1 in
    (both_true (nat_le (length d.services) 16) (list_all service.fits d.services) g.1).1

pub short-service_on : (d : Definition) (n : NodeId) → IsTrue (definition.fits d) → nat_le (length (service_on d n)) 4 ≡ true
short-service_on d n h = short-among d.services n (services-form d h)

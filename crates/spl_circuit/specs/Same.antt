-- Ids, definitions and acts that are equal are identical, and each is equal to itself.
use Rattle.std.{specs.{Prelude.◌↔◌, Str.bytes_eq}, proofs.{Common.{◌≡◌, ℕ, true, ◌&&◌, ◌==◌, List, [], ◌∷◌, refl, sym, ap, ◌∙◌}, lemmas.Bool.and_parts}}
use Rattle.std.proofs.lemmas.Bool.{and_from, eqb-true, eq-eqb}
pub use Rattle.spl_base.specs.Booleans.{bytes_are as node_is, bytes_same as node_same}
use Rattle.spl_agree.proofs.Booleans.{eqb_same}
use Rattle.spl_circuit.specs.{Nodes.{Node, same_nodes}, Equality.{same_service, same_services, same_definition, same_kind, same_act_key, same_act}}
use Rattle.spl_circuit.specs.declared.{act.{Act.Act, ActKind.ActKind}, definition.{Definition.Definition, Service.Service}}
use Rattle.spl_circuit.specs.declared.act.ActKind.TheVariants as kind

-- ---- nodes

pub nodes_are : (xs ys : List Node) → same_nodes xs ys ≡ true → xs ≡ ys
nodes_are [] [] e = refl
nodes_are (x ∷ xs) (y ∷ ys) e =
    let b = and_parts (bytes_eq x y) (same_nodes xs ys) e in
    ap (λ v. v ∷ xs) (node_is x y b.0) ∙ ap (λ v. y ∷ v) (nodes_are xs ys b.1)
nodes_are xs ys e = absurd cc

pub nodes_same : (xs : List Node) → same_nodes xs xs ≡ true
nodes_same [] = refl
nodes_same (x ∷ xs) = and_from (bytes_eq x x) (same_nodes xs xs) (node_same x) (nodes_same xs)

-- ---- services

abbrev service_by : List ℕ → List ℕ → Node → Service
service_by id kind node = record { id = id; kind = kind; node = node }

made_service : (a a2 b b2 c c2 : List ℕ) → a ≡ a2 → b ≡ b2 → c ≡ c2 → service_by a b c ≡ service_by a2 b2 c2
made_service a a2 b b2 c c2 p q r = cc

pub service_is : (s t : Service) → same_service s t ≡ true → s ≡ t
service_is s t e =
    let b = and_parts (bytes_eq s.id t.id) (bytes_eq s.kind t.kind && bytes_eq s.node t.node) e in
    let k = and_parts (bytes_eq s.kind t.kind) (bytes_eq s.node t.node) b.1 in
    made_service s.id t.id s.kind t.kind s.node t.node (node_is s.id t.id b.0) (node_is s.kind t.kind k.0) (node_is s.node t.node k.1)

pub service_same : (s : Service) → same_service s s ≡ true
service_same s = rw (node_same s.id, node_same s.kind, node_same s.node) refl

pub services_are : (ss ts : List Service) → same_services ss ts ≡ true → ss ≡ ts
services_are [] [] e = refl
services_are (s ∷ ss) (t ∷ ts) e =
    let b = and_parts (same_service s t) (same_services ss ts) e in
    ap (λ v. v ∷ ss) (service_is s t b.0) ∙ ap (λ v. t ∷ v) (services_are ss ts b.1)
services_are ss ts e = absurd cc

pub services_same : (ss : List Service) → same_services ss ss ≡ true
services_same [] = refl
services_same (s ∷ ss) = and_from (same_service s s) (same_services ss ss) (service_same s) (services_same ss)

-- ---- definitions

abbrev definition_by : List ℕ → ℕ → ℕ → List ℕ → List ℕ → List Node → List Service → Definition
definition_by id generation version management name members services = record {
  id = id;
  generation = generation;
  version = version;
  management = management;
  name = name;
  members = members;
  services = services;
}

made_definition : (a a2 : List ℕ) (b b2 c c2 : ℕ) (x x2 y y2 : List ℕ) (ms ms2 : List Node) (ss ss2 : List Service)
    → a ≡ a2 → b ≡ b2 → c ≡ c2 → x ≡ x2 → y ≡ y2 → ms ≡ ms2 → ss ≡ ss2
    → definition_by a b c x y ms ss ≡ definition_by a2 b2 c2 x2 y2 ms2 ss2
made_definition a a2 b b2 c c2 x x2 y y2 ms ms2 ss ss2 p q r s t u v = cc

pub definition_is : (d e : Definition) → same_definition d e ≡ true → d ≡ e
definition_is d e h =
    let id = and_parts (bytes_eq d.id e.id) _ h in
    let generation = and_parts (d.generation == e.generation) _ id.1 in
    let version = and_parts (d.version == e.version) _ generation.1 in
    let management = and_parts (bytes_eq d.management e.management) _ version.1 in
    let name = and_parts (bytes_eq d.name e.name) _ management.1 in
    let lists = and_parts (same_nodes d.members e.members) (same_services d.services e.services) name.1 in
    made_definition d.id e.id d.generation e.generation d.version e.version d.management e.management d.name e.name d.members e.members d.services e.services
    (node_is d.id e.id id.0)
    (eqb-true d.generation e.generation generation.0)
    (eqb-true d.version e.version version.0)
    (node_is d.management e.management management.0)
    (node_is d.name e.name name.0)
    (nodes_are d.members e.members lists.0)
    (services_are d.services e.services lists.1)

pub definition_same : (d : Definition) → same_definition d d ≡ true
definition_same d = rw
    (node_same d.id, eqb_same d.generation, eqb_same d.version, node_same d.management, node_same d.name, nodes_same d.members, services_same d.services)
    refl

pub same_definitions : (d e : Definition) → (same_definition d e ≡ true) ↔ (d ≡ e)
same_definitions d e = (definition_is d e, λ p. ap (same_definition d) (sym p) ∙ definition_same d)

-- ---- acts

pub kind_is : (a b : ActKind) → same_kind a b ≡ true → a ≡ b
kind_is (kind.Propose d) (kind.Propose e) h = ap kind.Propose (definition_is d e h)
kind_is kind.Accept kind.Accept h = refl
kind_is kind.Reject kind.Reject h = refl
kind_is kind.Remove kind.Remove h = refl
kind_is kind.Disband kind.Disband h = refl
kind_is (kind.DisbandAccept p) (kind.DisbandAccept q) h = ap kind.DisbandAccept (eqb-true p q h)
kind_is (kind.DisbandReject p) (kind.DisbandReject q) h = ap kind.DisbandReject (eqb-true p q h)
kind_is (kind.DisbandRemove p) (kind.DisbandRemove q) h = ap kind.DisbandRemove (eqb-true p q h)
kind_is a b h = absurd cc

pub kind_same : (a : ActKind) → same_kind a a ≡ true
kind_same (kind.Propose d) = definition_same d
kind_same (kind.DisbandAccept p) = eqb_same p
kind_same (kind.DisbandReject p) = eqb_same p
kind_same (kind.DisbandRemove p) = eqb_same p
kind_same a = refl

abbrev act_by : Node → ℕ → ActKind → Act
act_by node turn kind = record { node = node; turn = turn; kind = kind }

made_act : (n n2 : Node) (t t2 : ℕ) (k k2 : ActKind) → n ≡ n2 → t ≡ t2 → k ≡ k2 → act_by n t k ≡ act_by n2 t2 k2
made_act n n2 t t2 k k2 p q r = cc

-- one key, where node and turn are one
pub key_parts : (a b : Act) → same_act_key a b ≡ true → (a.node ≡ b.node) × (a.turn ≡ b.turn)
key_parts a b h = let both = and_parts (bytes_eq a.node b.node) (a.turn == b.turn) h in (node_is a.node b.node both.0, eqb-true a.turn b.turn both.1)

pub key_from : (a b : Act) → a.node ≡ b.node → a.turn ≡ b.turn → same_act_key a b ≡ true
key_from a b p q = rw (p, node_same b.node) (eq-eqb a.turn b.turn q)

pub act_is : (a b : Act) → same_act a b ≡ true → a ≡ b
act_is a b h =
    let both = and_parts (same_act_key a b) (same_kind a.kind b.kind) h in
    let key = key_parts a b both.0 in
    made_act a.node b.node a.turn b.turn a.kind b.kind key.0 key.1 (kind_is a.kind b.kind both.1)

pub act_same : (a : Act) → same_act a a ≡ true
act_same a = rw (node_same a.node, eqb_same a.turn, kind_same a.kind) refl

pub same_acts : (a b : Act) → (same_act a b ≡ true) ↔ (a ≡ b)
same_acts a b = (act_is a b, λ e. ap (same_act a) (sym e) ∙ act_same a)

-- Equality of definitions and of acts (docs/RULES.md, Acts).
use Rattle.std.specs.{Prelude.{Bool, true, false, ◌&&◌, ◌==◌, List, [], ◌∷◌}, Str.bytes_eq}
use Rattle.spl_circuit.specs.{Nodes.same_nodes, declared.{act.{Act.Act, ActKind.ActKind}, definition.{Definition.Definition, Service.Service}}}
use Rattle.spl_circuit.specs.declared.act.ActKind.TheVariants as kind

abbrev pub same_service : Service → Service → Bool
same_service s t = bytes_eq s.id t.id && (bytes_eq s.kind t.kind && bytes_eq s.node t.node)

abbrev pub same_services : List Service → List Service → Bool
same_services [] [] = true
same_services (s ∷ ss) (t ∷ ts) = same_service s t && same_services ss ts
same_services ss ts = false

abbrev pub same_definition : Definition → Definition → Bool
same_definition d e =
    bytes_eq d.id e.id && (d.generation == e.generation && (d.version == e.version && (bytes_eq d.management e.management
    && (bytes_eq d.name e.name && (same_nodes d.members e.members && same_services d.services e.services)))))

abbrev pub same_kind : ActKind → ActKind → Bool
same_kind (kind.Propose d) (kind.Propose e) = same_definition d e
same_kind kind.Accept kind.Accept = true
same_kind kind.Reject kind.Reject = true
same_kind kind.Remove kind.Remove = true
same_kind kind.Disband kind.Disband = true
same_kind (kind.DisbandAccept p) (kind.DisbandAccept q) = p == q
same_kind (kind.DisbandReject p) (kind.DisbandReject q) = p == q
same_kind (kind.DisbandRemove p) (kind.DisbandRemove q) = p == q
same_kind a b = false

-- the key of an act is its node and its turn
abbrev pub same_act_key : Act → Act → Bool
same_act_key a b = bytes_eq a.node b.node && a.turn == b.turn

abbrev pub same_act : Act → Act → Bool
same_act a b = same_act_key a b && same_kind a.kind b.kind

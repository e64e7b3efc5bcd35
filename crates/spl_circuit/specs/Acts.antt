-- What the admin group agrees on: the check of an act, and what becomes of a forwarded one (docs/RULES.md, Acts).
use Rattle.std.specs.{Prelude.{ℕ, Bool, true, false, not, ◌==◌, List, [], ◌∷◌, if◌then◌else◌, Option, Some, None}, Str.bytes_eq}
use Rattle.spl_agree.specs.{Member.Rules, declared.reason.{Admit.Admit, Reason.Reason, TheConstants.Reason.{NOT_A_MEMBER, WRONG_LIFECYCLE, ALREADY_ACCEPTED}}}
use Rattle.spl_agree.specs.declared.reason.TheConstants.Reason.{NOT_REQUESTER, OTHER_DEFINITION, CANNOT_BIND}
use Rattle.spl_agree.specs.declared.reason.Admit.TheVariants as admit
use Rattle.spl_circuit.specs.{Nodes.{Node, has_node, node_or}, Rules.is_member, Equality.{same_definition, same_act_key, same_act}, Lifecycle.Proposal}
use Rattle.spl_circuit.specs.{Lifecycle.{life, is_proposed, is_active, is_disbanding_at}, declared.act.{Act.Act, ActKind.ActKind}}
use Rattle.spl_circuit.specs.declared.{act.TheConstants.VERSION_TOO_LOW, definition.Definition.Definition}
use Rattle.spl_circuit.specs.declared.act.ActKind.TheVariants as kind

abbrev pub reason : ℕ → Reason
reason n = record { code = n; at = 0 }

abbrev pub is_node : Option Node → Node → Bool
is_node None n = false
is_node (Some m) n = bytes_eq m n

abbrev pub is_first : List Act → Bool
is_first [] = true
is_first (a ∷ rest) = false

-- to accept or reject a proposal: the lifecycle admits it, and the node hasn't accepted
abbrev pub misfit_vote : Bool → Proposal → Node → Option Reason
misfit_vote admitted p n =
    if not admitted then Some WRONG_LIFECYCLE
    else (if has_node p.accepted n then Some ALREADY_ACCEPTED else None)

-- to take a proposal back: the lifecycle admits it, and the node is the requester
abbrev pub misfit_removal : Bool → Proposal → Node → Option Reason
misfit_removal admitted p n =
    if not admitted then Some WRONG_LIFECYCLE
    else (if is_node p.requester n then None else Some NOT_REQUESTER)

abbrev pub misfit_kind : Definition → List Act → Node → ActKind → Option Reason
misfit_kind d acts n (kind.Propose e) =
    if not (same_definition e d) then Some OTHER_DEFINITION
    else (if is_first acts then None else Some WRONG_LIFECYCLE)
misfit_kind d acts n kind.Accept = misfit_vote (is_proposed (life d acts).state) (life d acts).circuit n
misfit_kind d acts n kind.Reject = misfit_vote (is_proposed (life d acts).state) (life d acts).circuit n
misfit_kind d acts n kind.Remove = misfit_removal (is_proposed (life d acts).state) (life d acts).circuit n
misfit_kind d acts n kind.Disband =
    if not (d.version == 2) then Some VERSION_TOO_LOW
    else (if is_active (life d acts).state then None else Some WRONG_LIFECYCLE)
misfit_kind d acts n (kind.DisbandAccept p) = misfit_vote (is_disbanding_at (life d acts) p) (life d acts).disband n
misfit_kind d acts n (kind.DisbandReject p) = misfit_vote (is_disbanding_at (life d acts) p) (life d acts).disband n
misfit_kind d acts n (kind.DisbandRemove p) = misfit_removal (is_disbanding_at (life d acts) p) (life d acts).disband n

-- the check of an act against the committed ones: the reason of the first test that fails
abbrev pub misfit : Definition → List Act → Act → Option Reason
misfit d acts a = if is_member d a.node then misfit_kind d acts a.node a.kind else Some NOT_A_MEMBER

-- a forwarded proposal goes back at a member that isn't the coordinator
abbrev pub stray_act : ActKind → Option Reason
stray_act (kind.Propose d) = Some CANNOT_BIND
stray_act _ = None

-- a forwarded proposal of another definition goes back
abbrev pub admits_kind : Definition → ActKind → Admit
admits_kind d (kind.Propose e) = if same_definition e d then admit.Take else admit.Return OTHER_DEFINITION
admits_kind d _ = admit.Take

-- an act of another node than the sender's is passed over
abbrev pub admits_act : Definition → ℕ → Act → Admit
admits_act d sender a = if bytes_eq (node_or d.members [] sender) a.node then admits_kind d a.kind else admit.Ignore

-- the rules of the admin group of a definition
abbrev pub act_rules : Definition → Rules Act
act_rules d = record {
  same_key = same_act_key;
  same = same_act;
  check = misfit d;
  stray = λ a. stray_act a.kind;
  admits = admits_act d;
}

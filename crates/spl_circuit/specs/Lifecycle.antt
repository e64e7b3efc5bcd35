-- What the committed acts have brought a circuit to (docs/RULES.md, Lifecycle).
use Rattle.std.specs.{Prelude.{ℕ, suc, Bool, true, false, ◌&&◌, ◌||◌, ◌==◌, List, [], ◌∷◌, ◌++◌, if◌then◌else◌, Option, Some, None}, List.list_all}
use Rattle.spl_circuit.specs.{Nodes.{Node, has_node}, declared.{act.{Act.Act, ActKind.ActKind}, definition.Definition.Definition}}
use Rattle.spl_circuit.specs.declared.lifecycle.Lifecycle.{Lifecycle}
use Rattle.spl_circuit.specs.declared.lifecycle.Lifecycle.TheVariants as lifecycle
use Rattle.spl_circuit.specs.declared.act.ActKind.TheVariants as kind

-- what the members are asked for: the place of the act that asks, the node of that act, and who has accepted, in their order
pub record Proposal : Type 0 where
  pub place : ℕ
  pub requester : Option Node
  pub accepted : List Node

-- where the circuit stands, the proposal of the circuit, and the last one to disband it
pub record Life : Type 0 where
  pub state : Lifecycle
  pub circuit : Proposal
  pub disband : Proposal

abbrev pub no_proposal : Proposal
no_proposal = record { place = 0; requester = None; accepted = [] }

abbrev pub no_life : Life
no_life = record { state = lifecycle.None; circuit = no_proposal; disband = no_proposal }

-- a node asks by its act at this place, and is the first that accepts
abbrev pub asked_at : ℕ → Node → Proposal
asked_at place n = record { place = place; requester = Some n; accepted = n ∷ [] }

-- one node more accepts
abbrev pub accepted_by : Proposal → Node → Proposal
accepted_by p n = record { place = p.place; requester = p.requester; accepted = p.accepted ++ n ∷ [] }

-- every member is among these
abbrev pub has_all : List Node → List Node → Bool
has_all ms ns = list_all (λ m. has_node ns m) ms

-- once every member has accepted, the circuit stands elsewhere
abbrev pub state_by : Definition → Proposal → Lifecycle → Lifecycle → Lifecycle
state_by d p before after = if has_all d.members p.accepted then after else before

-- one act more, at this place
abbrev pub life_after : Definition → ℕ → Life → Node → ActKind → Life
life_after d place l n (kind.Propose e) = record { state = lifecycle.Proposed; circuit = asked_at place n; disband = l.disband }
life_after d place l n kind.Accept =
    record { state = state_by d (accepted_by l.circuit n) l.state lifecycle.Active; circuit = accepted_by l.circuit n; disband = l.disband }
life_after d place l n kind.Reject = record { state = lifecycle.Rejected; circuit = l.circuit; disband = l.disband }
life_after d place l n kind.Remove = record { state = lifecycle.Removed; circuit = l.circuit; disband = l.disband }
life_after d place l n kind.Disband = record { state = lifecycle.Disbanding; circuit = l.circuit; disband = asked_at place n }
life_after d place l n (kind.DisbandAccept p) =
    record { state = state_by d (accepted_by l.disband n) l.state lifecycle.Disbanded; circuit = l.circuit; disband = accepted_by l.disband n }
life_after d place l n (kind.DisbandReject p) = record { state = lifecycle.Active; circuit = l.circuit; disband = l.disband }
life_after d place l n (kind.DisbandRemove p) = record { state = lifecycle.Active; circuit = l.circuit; disband = l.disband }

-- after acts that begin at this place
abbrev pub life_from : Definition → ℕ → Life → List Act → Life
life_from d place l [] = l
life_from d place l (a ∷ rest) = life_from d (suc place) (life_after d place l a.node a.kind) rest

-- after the committed acts
abbrev pub life : Definition → List Act → Life
life d acts = life_from d 0 no_life acts

abbrev pub is_proposed : Lifecycle → Bool
is_proposed lifecycle.Proposed = true
is_proposed _ = false

abbrev pub is_active : Lifecycle → Bool
is_active lifecycle.Active = true
is_active _ = false

abbrev pub is_disbanding : Lifecycle → Bool
is_disbanding lifecycle.Disbanding = true
is_disbanding _ = false

abbrev pub is_disbanded : Lifecycle → Bool
is_disbanded lifecycle.Disbanded = true
is_disbanded _ = false

-- a proposal is open: that of the circuit, or one to disband it
abbrev pub is_asked : Lifecycle → Bool
is_asked l = is_proposed l || is_disbanding l

-- batches are agreed on
abbrev pub is_running : Lifecycle → Bool
is_running l = is_active l || is_disbanding l

-- they are, or were until the circuit was disbanded
abbrev pub has_run : Lifecycle → Bool
has_run l = is_running l || is_disbanded l

-- the proposal that is reported, which is the open one where one is: the disband where the circuit is disbanding or disbanded
abbrev pub current : Life → Proposal
current l = if is_disbanding l.state || is_disbanded l.state then l.disband else l.circuit

-- the place of the disband that is open
abbrev pub disbanding_of : Life → Option ℕ
disbanding_of l = if is_disbanding l.state then Some l.disband.place else None

-- the disband at this place is the open one
abbrev pub is_disbanding_at : Life → ℕ → Bool
is_disbanding_at l place = is_disbanding l.state && l.disband.place == place

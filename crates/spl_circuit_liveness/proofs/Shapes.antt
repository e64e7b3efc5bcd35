-- One of the two groups of a definition, as it shows in cells and messages, and what an event at a cell gives it.
use Rattle.std.{specs.Prelude.{Option, Some, None}, proofs.Common.{◌≡◌, ◌≢◌, ℕ, ◌⊎◌, true, false, List, [], ◌∷◌, ◌++◌, refl, ap}}
use Rattle.spl_cell_rules.specs.{Cells.{site_at, Cell, is_open_cell}, Changes.after_plan, Plans.plan_of}
use Rattle.spl_agree.specs.{Member.Member, declared.message.CommitMsg.CommitMsg}
use Rattle.spl_agree.specs.declared.event.GroupEvent.TheVariants as group
use Rattle.spl_circuit.specs.{Nodes.{NodeId, CircuitId, has_node, position}, declared.definition.Definition.Definition}
use Rattle.spl_wire.specs.declared.{message.Message.Message, plan.Plan.Plan}
use Rattle.spl_wire.specs.declared.event.Event.TheVariants as event
use Rattle.spl_group_liveness.specs.Calm.{mail}
use Rattle.spl_circuit_safety.proofs.GroupOfDefinition.{Groups, Presence, There, after_row, plan_row}
use Rattle.spl_circuit_liveness.proofs.Pairs.{to_node}

-- its group, what it sees of a cell, and what a message from a node to another is to the group of a definition
pub record Shape (V : Type 0) : Type 0 where
  pub groups : Groups V
  pub stand : Cell → Presence V
  pub own : Definition → NodeId → NodeId → Message → Option (CommitMsg V)

abbrev pub owned : {V : Type 0} → Option (CommitMsg V) → List (CommitMsg V) → List (CommitMsg V)
owned None ms = ms
owned (Some m) ms = m ∷ ms

-- the group's own among some messages, in order
abbrev pub owns : {V : Type 0} → (Message → Option (CommitMsg V)) → List Message → List (CommitMsg V)
owns own [] = []
owns own (m ∷ ms) = owned (own m) (owns own ms)

pub owns-append : {V : Type 0} (own : Message → Option (CommitMsg V)) (xs ys : List Message) → owns own (xs ++ ys) ≡ owns own xs ++ owns own ys
owns-append own [] ys = refl
owns-append {V} own (x ∷ xs) ys = go (own x) (owns-append own xs ys)
  where
    go : (o : Option (CommitMsg V)) → owns own (xs ++ ys) ≡ owns own xs ++ owns own ys → owned o (owns own (xs ++ ys)) ≡ owned o (owns own xs) ++ owns own ys
    go None hyp = hyp
    go (Some m) hyp = ap (λ z. m ∷ z) hyp

-- after a plan the cell has this member of the group, and these messages of the group go to the other members
pub record Gives {V : Type 0} (s : Shape V) (d : Definition) (n : NodeId) (k : Cell) (p : Plan) (m : Member V) (ss : List (ℕ × CommitMsg V)) : Type 0 where
  pub stands : s.stand (after_plan n k p) ≡ There d m
  pub sends : (y : NodeId) → has_node d.members y ≡ true → y ≢ n → owns (s.own d n y) (to_node y p.sends) ≡ mail (position d.members y) ss

-- a member's cell in which the group takes part
pub record IsMet {V : Type 0} (s : Shape V) (IsOn : Definition → Cell → Type 0) (d : Definition) (n : NodeId) (k : Cell) (m : Member V) : Type 0 where
  pub member : has_node d.members n ≡ true
  pub on : IsOn d k
  pub stands : s.stand k ≡ There d m

-- what each event of a calm gives a group: a tick is a tick, a message of the group comes from the member that sent it, and
-- any other message, or one from a node that is no member, leaves the group as it is
pub record IsShaped {V : Type 0} (s : Shape V) (IsOn : Definition → Cell → Type 0) (d : Definition) : Type 0 where
  pub opens : (k : Cell) → IsOn d k → is_open_cell k ≡ true
  pub ticks : (c : CircuitId) (n : NodeId) (k : Cell) (m : Member V) → IsMet s IsOn d n k m
      → Gives s d n k (plan_of (site_at n c) k event.Tick) (after_row s.groups d n m group.Tick) (plan_row s.groups d n m group.Tick).sends
  pub hears : (c : CircuitId) (n from : NodeId) (k : Cell) (m : Member V) (x : Message) (y : CommitMsg V) → from ≢ n → has_node d.members from ≡ true
      → s.own d from n x ≡ Some y → IsMet s IsOn d n k m
      → Gives s d n k (plan_of (site_at n c) k (event.Deliver from x)) (after_row s.groups d n m (group.From (position d.members from) y))
      (plan_row s.groups d n m (group.From (position d.members from) y)).sends
  pub passes : (c : CircuitId) (n from : NodeId) (k : Cell) (m : Member V) (x : Message) → from ≢ n
      → (s.own d from n x ≡ None) ⊎ (has_node d.members from ≡ false) → IsMet s IsOn d n k m
      → Gives s d n k (plan_of (site_at n c) k (event.Deliver from x)) m []

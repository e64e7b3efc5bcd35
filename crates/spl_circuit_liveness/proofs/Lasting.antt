-- What holds of a circuit's world all through a calm.
use Rattle.std.{specs.{Prelude.{None, if◌then◌else◌}, Str.bytes_eq}, proofs.Common.{◌≡◌, ◌≢◌, ℕ, suc, ◌<◌, ◌⊎◌, true, false, ◌&&◌, length, refl, inl, inr}}
use Rattle.spl_agree.proofs.Tests.{if_holds, and_left, and_right}
use Rattle.spl_circuit.specs.{Nodes.{NodeId, CircuitId, has_node}, Rules.broken, Same.{node_is, node_same}, declared.definition.Definition.Definition}
use Rattle.spl_wire.specs.declared.event.Event.TheVariants as event
use Rattle.spl_sched.specs.declared.line.Step.TheVariants as step
use Rattle.spl_cell_rules.specs.Cells.{Cell}
use Rattle.spl_circuit_world.specs.Worlds.{World, messages, step_world}
use Rattle.spl_circuit_liveness.proofs.Shapes.{Shape, IsShaped}

-- so many are taken of a pair
abbrev pub took : (NodeId → NodeId → ℕ) → NodeId → NodeId → ℕ → NodeId → NodeId → ℕ
took taken from to n a b = if bytes_eq a from && bytes_eq b to then n else taken a b

pub took-same : (taken : NodeId → NodeId → ℕ) (from to : NodeId) (n : ℕ) → took taken from to n from to ≡ n
took-same taken from to n = rw (node_same from, node_same to)

pub took-cases : (taken : NodeId → NodeId → ℕ) (from to : NodeId) (n : ℕ) (a b : NodeId) → (took taken from to n a b ≡ taken a b) ⊎ ((a ≡ from) × (b ≡ to))
took-cases taken from to n a b =
    if_holds (λ (z : ℕ). (z ≡ taken a b) ⊎ ((a ≡ from) × (b ≡ to))) (bytes_eq a from && bytes_eq b to) _ _
    (λ q. inr (node_is a from (and_left (bytes_eq a from) (bytes_eq b to) q), node_is b to (and_right (bytes_eq a from) (bytes_eq b to) q))) (λ q. inl refl)

-- the numbers are equal on pairs of members
abbrev pub SameTaken : Definition → (NodeId → NodeId → ℕ) → (NodeId → NodeId → ℕ) → Type 0
SameTaken d taken taken2 = (x y : NodeId) → has_node d.members x ≡ true → has_node d.members y ≡ true → x ≢ y → taken2 x y ≡ taken x y

-- a fact of a world, and of how many messages of each pair are taken, that each event of a calm keeps: a tick, the delivery
-- of the next message of a pair of members, and any delivery from or to a node that is no member
pub record IsLasting (d : Definition) (Inv : World → (NodeId → NodeId → ℕ) → Type 0) : Type 0 where
  pub ticks : (c : CircuitId) (n : NodeId) (w : World) (taken : NodeId → NodeId → ℕ) → Inv w taken → Inv (step_world w (step.At n c event.Tick)) taken
  pub takes : (c : CircuitId) (from to : NodeId) (w : World) (taken : NodeId → NodeId → ℕ) (number t : ℕ) → has_node d.members from ≡ true
      → has_node d.members to ≡ true → from ≢ to → number ≡ suc t → taken from to ≡ t → t < length (messages w from to) → Inv w taken
      → Inv (step_world w (step.Deliver from to c number)) (took taken from to (suc t))
  pub apart : (c : CircuitId) (from to : NodeId) (w : World) (taken : NodeId → NodeId → ℕ) (number : ℕ) → from ≢ to
      → (has_node d.members from ≡ false) ⊎ (has_node d.members to ≡ false) → Inv w taken → Inv (step_world w (step.Deliver from to c number)) taken
  pub again : (w : World) (taken taken2 : NodeId → NodeId → ℕ) → SameTaken d taken taken2 → Inv w taken → Inv w taken2

-- a group of a definition in a calm: it has its shape, and a lasting fact by which it takes part in each member's cell
pub record IsCarried {V : Type 0} (s : Shape V) (IsOn : Definition → Cell → Type 0) (d : Definition)
    (Inv : World → (NodeId → NodeId → ℕ) → Type 0) : Type 0 where
  pub ruled : broken d ≡ None
  pub shaped : IsShaped s IsOn d
  pub lasts : IsLasting d Inv
  pub on : (w : World) (taken : NodeId → NodeId → ℕ) → Inv w taken → (n : NodeId) → has_node d.members n ≡ true → IsOn d (w.at n)

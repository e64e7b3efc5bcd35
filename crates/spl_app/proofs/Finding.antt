-- What is found on disks makes the cells for which they were left.
use Rattle.std.proofs.Common.{◌≡◌, ◌⊎◌, inl, inr, ℕ, List, Option, Some, None, IsSome, sym, subst}
use Rattle.spl_circuit.specs.Nodes.{CircuitId, Node}
use Rattle.spl_edge.specs.Devices.{Image, MayLeave}
use Rattle.spl_node.{specs.{Stands.{made_cell, StandFor}, Benches.{Images, Tell}}, proofs.Standing.makes}
use Rattle.spl_cell_rules.specs.{Cells.Cell, Changes.stopped_cell}
use Rattle.spl_snapshot.specs.Counting.{IfBoth}
use Rattle.spl_world.specs.Held.{Hold, HoldFor, LeaveEither}
use Rattle.spl_app.specs.Found.{AreFound, CrashLeaves}

by-crash : (P : List ℕ → List ℕ → Type 0) (a b c d : Option Image) → IfBoth a b (λ i j. (x y : List ℕ) → MayLeave i x → MayLeave j y → P x y)
    → CrashLeaves a c → CrashLeaves b d → IfBoth c d (λ i j. P i.bytes j.bytes)
by-crash P (Some i) (Some j) (Some k) (Some l) h one other = h k.bytes l.bytes one other
by-crash P None b c d h one other = absurd one
by-crash P (Some i) b None d h one other = absurd one
by-crash P (Some i) None (Some k) d h one other = absurd other
by-crash P (Some i) (Some j) (Some k) None h one other = absurd other

-- what a read or a crash leaves has P, and so has what is found
pub found-holds : (P : List ℕ → List ℕ → Type 0) (was now : Images) → Hold P was → AreFound was now → IfBoth now.0 now.1 (λ i j. P i.bytes j.bytes)
found-holds P was now h (inl same) = subst (λ (is : Images). IfBoth is.0 is.1 (λ i j. P i.bytes j.bytes)) (sym same) h.read
found-holds P was now h (inr crash) = by-crash P was.0 was.1 now.0 now.1 h.left crash.0 crash.1

-- disks that report make what they stand for
made-for : (n : Node) (cells : CircuitId → Cell) (a b : Option Image) → IsSome a → IsSome b → IfBoth a b (λ i j. StandFor n cells i.bytes j.bytes)
    → (c : CircuitId) → made_cell n c a b ≡ stopped_cell (cells c)
made-for n cells (Some i) (Some j) one other h c = makes n cells i.bytes j.bytes h c
made-for n cells None b one other h c = cc
made-for n cells (Some i) None one other h c = cc

-- what is found makes these cells
abbrev pub Makes : Node → (CircuitId → Cell) → Images → Type 0
Makes n cells now = (c : CircuitId) → made_cell n c now.0 now.1 ≡ stopped_cell (cells c)

pub found-makes : (n : Node) (cells : CircuitId → Cell) (was now : Images) → HoldFor n cells was → AreFound was now → Tell now → Makes n cells now
found-makes n cells was now h found told = made-for n cells now.0 now.1 told.0 told.1 (found-holds (StandFor n cells) was now h found)

either-makes : (n : Node) (before after : CircuitId → Cell) (a b : Option Image) → IsSome a → IsSome b
    → IfBoth a b (λ i j. StandFor n before i.bytes j.bytes ⊎ StandFor n after i.bytes j.bytes)
    → ((c : CircuitId) → made_cell n c a b ≡ stopped_cell (before c)) ⊎ ((c : CircuitId) → made_cell n c a b ≡ stopped_cell (after c))
either-makes n before after (Some i) (Some j) one other (inl h) = inl (makes n before i.bytes j.bytes h)
either-makes n before after (Some i) (Some j) one other (inr h) = inr (makes n after i.bytes j.bytes h)
either-makes n before after None b one other h = absurd cc
either-makes n before after (Some i) None one other h = absurd cc

-- or it makes the one or the other
pub found-either : (n : Node) (before after : CircuitId → Cell) (was now : Images) → LeaveEither n before after was → AreFound was now → Tell now
    → Makes n before now ⊎ Makes n after now
found-either n before after was now h found told =
    either-makes n before after now.0 now.1 told.0 told.1 (found-holds (λ c d. StandFor n before c d ⊎ StandFor n after c d) was now h found)

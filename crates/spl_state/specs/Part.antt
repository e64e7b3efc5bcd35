-- What contracts see of a part of the tree.
use Rattle.std.specs.Prelude.{ℕ, ◌-◌, ◌≡◌, Bool, Option, List, [], ◌∷◌}
use Rattle.spl_state.specs.{Entries.Entry, declared.address.Address.Address}

-- what leads to a lone part: an address that has the digits down to it, and how many digits stand above it
pub record Run : Type 0 where
  pub path : Address
  pub end : ℕ

-- the number of digits above, the entries in order, whether it has parts of its own, and what leads to the only one
pub record Part : Type 0 where
  pub depth : ℕ
  pub entries : List Entry
  pub inner : Bool
  pub thin : Option Run

abbrev pub digits_left : Part → ℕ
digits_left s = 71 - s.depth

-- each part in a list has this depth
abbrev pub AllAt : ℕ → List Part → Type 0
AllAt d [] = Unit {0}
AllAt d (s ∷ ss) = (s.depth ≡ d) × AllAt d ss

-- A side of a handshake.
use Rattle.std.specs.Prelude.{ℕ, Bool, List}

-- who it is, whom it expects, and whether it greets first
pub record Side : Type 0 where
  pub here : List ℕ
  pub peer : List ℕ
  pub opens : Bool

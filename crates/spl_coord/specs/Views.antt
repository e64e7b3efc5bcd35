-- An open round, as its callers see it.
use Rattle.std.specs.Prelude.{ℕ, List}

-- the round, the value that it is about, the members that it was opened for, and those of them that have not voted yes
pub record VotingView (V : Type 0) : Type 0 where
  pub round : ℕ
  pub value : V
  pub others : List ℕ
  pub missing : List ℕ

-- What is due to a sink, where some of it still waits.
use Rattle.std.specs.{Prelude.{◌≡◌, ℕ, List, ◌++◌, Option}, Io.KnownBytes.Appends}

-- what was written since, and after it what waits, are all of these bytes
pub record IsOutputDue (old new : Option (List ℕ)) (waiting all : List ℕ) : Type 0 where
  pub done : List ℕ
  pub is : all ≡ done ++ waiting
  pub written : Appends old new done

-- what was written since, and after it what waits, are a prefix of these bytes
pub record IsDuePart (old new : Option (List ℕ)) (waiting all : List ℕ) : Type 0 where
  pub due : List ℕ
  pub more : List ℕ
  pub is : all ≡ due ++ more
  pub so_far : IsOutputDue old new waiting due

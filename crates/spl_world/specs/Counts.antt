-- How a call counts the events of a line (docs/RULES.md, Limits).
use Rattle.std.specs.Prelude.{◌≡◌, ◌+◌, ◌<◌, ℕ, Bool, true, false, Result, OnOk, IsErrOf}
use Rattle.spl_circuit_world.specs.declared.TheConstants.{MOST_EVENTS}
use Rattle.spl_world.specs.declared.fault.WorldFault.{WorldFault, TheVariants.TooMany}

-- a call that takes a line with so many events to one with as many more counts these: after success they are counted, and it
-- finds no room only where there are too many
pub record Counts {A : Type 0} (r : Result A WorldFault) (old new before after : ℕ) : Type 0 where
  pub ok : OnOk r (new + before ≡ old + after)
  pub many : (which : ℕ) → IsErrOf r (TooMany which) → (which ≡ 1) × (MOST_EVENTS + before < old + after)

-- an error is that of a limit
abbrev pub is_of_limit : WorldFault → Bool
is_of_limit (TooMany which) = true
is_of_limit _ = false

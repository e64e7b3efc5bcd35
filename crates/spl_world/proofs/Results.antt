-- What follows where a call succeeded, and where it failed.
use Rattle.std.specs.Prelude.{is_err}
use Rattle.spl_world.specs.{Calls.IsHaltedBy, Counts.is_of_limit, declared.{fault.WorldFault.{WorldFault, TheVariants.TooMany}, world.World.World}}
use Rattle.spl_world.proofs.Common.{◌≡◌, Result, Ok, Err, ap, true, OnErr, IfErr, IsErrOf}
use Rattle.spl_edge.proofs.Results.{ok_is, err_is}

-- ---- counting, one call after the other

abbrev pub failed : (A : Type 0) → WorldFault → Result A WorldFault
failed A f = Err f

-- a call that fails at the limit of events alone
pub only_limit : {A : Type 0} (r : Result A WorldFault) → OnErr r (IsErrOf r (TooMany 1)) → IfErr r (λ e. is_of_limit e ≡ true)
only_limit (Ok a) h = tt
only_limit (Err f) h = let same : f ≡ TooMany 1 = cc in ap is_of_limit same

-- ---- what follows where a call succeeded, and where it failed

pub halted_by : {A : Type 0} (r : Result A WorldFault) (v : World) → v.halted ≡ is_err r → IsHaltedBy r v
halted_by r v e = record { running = ok_is r v.halted e; halted = err_is r v.halted e }

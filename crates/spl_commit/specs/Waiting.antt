-- What the queue of a member says of a value, by what is pending and refused under its key.
use Rattle.std.specs.Prelude.{◌≡◌, Option, Some, None}
use Rattle.spl_agree.specs.declared.reason.Reason.{Reason}
use Rattle.spl_queue.specs.declared.queue.Known.{Known}
use Rattle.spl_queue.specs.declared.queue.Known.TheVariants as known

abbrev pub IsWaiting : {V : Type 0} → Option V → Option (V × Reason) → Known V → Type 0
IsWaiting pending refused known.No = (pending ≡ None) × (refused ≡ None)
IsWaiting pending refused (known.Pending u) = pending ≡ Some u.now
IsWaiting pending refused (known.Refused u reason) = (pending ≡ None) × (refused ≡ Some (u.now, reason))

-- What a queue answers of a key: the pending value before the refused one.
use Rattle.std.specs.Prelude.{◌≡◌, Bool, None, Some}
use Rattle.spl_queue.specs.{Lists.{Lists, at}, declared.queue.Known.{Known, TheVariants.{No, Pending, Refused}}}

abbrev pub IsStatus : {K V : Type 0} → (K → K → Bool) → Lists K V → K → Known V → Type 0
IsStatus eq q k No = (at eq q.pending k ≡ None) × (at eq q.refused k ≡ None)
IsStatus eq q k (Pending v) = at eq q.pending k ≡ Some v.now
IsStatus eq q k (Refused v r) = (at eq q.pending k ≡ None) × (at eq q.refused k ≡ Some (v.now, r))

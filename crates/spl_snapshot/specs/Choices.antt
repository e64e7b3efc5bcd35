-- What was found on a disk.
use Rattle.std.specs.Prelude.{◌≡◌, ℕ, List, [], Bool, Some, length}
use Rattle.spl_edge.specs.Devices.{Image, IsSettled}
use Rattle.spl_journal.specs.{Journals.{Walks, given_by}, Records.head_fault}
use Rattle.spl_snapshot.specs.declared.choice.Found.{Found, TheVariants.{Open, Closed}}

-- a walk that has given nothing yet, or a head that is wrong at this place, on so many bytes
abbrev pub IsFound : {R : Type 0} → (List ℕ → Bool) → Found R → Image → Type 0
IsFound fits (Open w) i = Walks fits w i × (given_by fits w i.bytes ≡ [])
IsFound fits (Closed at len) i = (head_fault i.bytes ≡ Some at) × (len ≡ length i.bytes) × IsSettled i

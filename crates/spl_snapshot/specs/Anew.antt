-- What a journal that is written again leaves.
use Rattle.std.specs.Prelude.{◌≡◌, ◌⊎◌, ◌<◌, ℕ, List, Bool, true, Ok}
use Rattle.spl_edge.specs.Devices.{Image, IsSettled}
use Rattle.spl_journal.specs.{Clear.IsShortOrSame, Records.{epoch_in, is_open, records, records_of, IsClosedOrFilled}}

-- as short or with the head that it had, or with a closed head, or with these records
abbrev pub IsSameOrAnew : (List ℕ → Bool) → ℕ → List (List ℕ) → List ℕ → List ℕ → Type 0
IsSameOrAnew fits epoch rs bytes c = IsShortOrSame bytes c ⊎ IsClosedOrFilled fits epoch rs c

-- the disk holds a journal of any form and of a lower epoch than this, and nothing is pending
pub record IsBelow (fits : List ℕ → Bool) (epoch : ℕ) (i : Image) : Type 0 where
  pub is_opened : is_open i.bytes ≡ true
  pub lower : epoch_in i.bytes < epoch
  pub readable : records fits i.bytes ≡ Ok (records_of fits i.bytes)
  pub settled : IsSettled i

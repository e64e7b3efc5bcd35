-- The records of a journal, what a stop leaves of them, and a blank disk (docs/RULES.md, Journals).
use Rattle.std.specs.Prelude.{◌≡◌, ◌≢◌, ◌⊎◌, ◌≤◌, ◌<◌, ◌+◌, ℕ, zero, suc, List, [], ◌∷◌, ◌++◌, length, take, drop, get_or, Bool, true, false, nat_le, nat_lt}
use Rattle.std.specs.{Prelude.{nat_eq, ◌==◌, ◌&&◌, ◌-◌, ◌^◌, if◌then◌else◌, Option, None, Some, is_none, is_some, Result, Ok, Err}, Result.result_unwrap_or}
use Rattle.std.specs.{Int.{w32, w64, to_be_bytes, from_be_bytes}, List.{find, starts_with}, Option.{option_map, option_map_or}}
use Rattle.spl_edge.specs.{Devices.{Image, IsSettled, after_write, after_sync}, declared.fill.Fill.{Fill, TheVariants.{Old, New, Byte}}}
use Rattle.spl_journal.specs.declared.journal_form.{JournalForm.JournalForm, TheConstants.{FORMS, WRITTEN}}

-- the form of the journal that begins with these bytes
abbrev pub form_in : List ℕ → Option JournalForm
form_in image = find (λ f. starts_with nat_eq image f.magic) FORMS

-- its number
abbrev pub form_number : List ℕ → Option ℕ
form_number image = option_map (λ f. f.number) (form_in image)

-- a form before the one in which journals are made
abbrev pub is_older : JournalForm → Bool
is_older form = nat_lt form.number WRITTEN.number

-- a journal of an older form is written again with the next epoch, and after this one there is none
abbrev pub is_last : JournalForm → ℕ → Bool
is_last form epoch = is_older form && (epoch == 2 ^ 64 - 1)

-- how many bytes a record of it has at most
abbrev pub longest_in : List ℕ → ℕ
longest_in image = option_map_or (λ f. f.longest) (form_in image) 0

-- the bytes with which a journal begins that is made
abbrev pub magic : List ℕ
magic = WRITTEN.magic

-- a length in four bytes
unfoldable pub size_bytes : ℕ → List ℕ
size_bytes n = to_be_bytes w32 n

unfoldable pub size_from : List ℕ → ℕ
size_from bytes = from_be_bytes w32 bytes

-- an epoch in eight bytes
unfoldable pub epoch_bytes : ℕ → List ℕ
epoch_bytes n = to_be_bytes w64 n

unfoldable pub epoch_from : List ℕ → ℕ
epoch_from bytes = from_be_bytes w64 bytes

abbrev pub epoch_in : List ℕ → ℕ
epoch_in image = epoch_from (take 8 (drop 8 image))

-- where the epoch is the last one of an older form
abbrev pub epoch_fault : List ℕ → Option ℕ
epoch_fault image = if option_map_or (λ f. is_last f (epoch_in image)) (form_in image) false then Some 8 else None

-- the head of a journal, with its gate closed
abbrev pub closed_prefix : ℕ → List ℕ
closed_prefix epoch = magic ++ epoch_bytes epoch ++ 0 ∷ []

-- and the first gate after it, closed too
abbrev pub closed_head : ℕ → List ℕ
closed_head epoch = magic ++ epoch_bytes epoch ++ 0 ∷ 0 ∷ []

-- an open gate, the length and the record
abbrev pub block : List ℕ → List ℕ
block r = 1 ∷ (size_bytes (length r) ++ r)

abbrev pub blocks : List (List ℕ) → List ℕ
blocks [] = []
blocks (r ∷ rs) = block r ++ blocks rs

-- these records after open gates, and a closed gate
abbrev pub filling : List (List ℕ) → List ℕ
filling rs = blocks rs ++ 0 ∷ []

-- what stands after the gate of a record, with the next gate closed
abbrev pub sized : List ℕ → List ℕ
sized r = size_bytes (length r) ++ r ++ 0 ∷ []

-- what stands after the gate of the first of some records: all but that gate
abbrev pub following : List (List ℕ) → List ℕ
following rs = drop 1 (filling rs)

-- from an open gate on: the length, the record, and whether both and the next gate stand there
abbrev pub size_at : List ℕ → ℕ
size_at bytes = size_from (take 4 (drop 1 bytes))

abbrev pub record_at : List ℕ → List ℕ
record_at bytes = take (size_at bytes) (drop 5 bytes)

-- the first number bounds the length of the record
abbrev pub is_block : ℕ → (List ℕ → Bool) → List ℕ → Bool
is_block longest fits bytes = nat_le 1 (size_at bytes)
    && (nat_le (size_at bytes) longest && (nat_le (size_at bytes + 6) (length bytes) && fits (record_at bytes)))

abbrev pub onto : List ℕ → Result (List (List ℕ)) ℕ → Result (List (List ℕ)) ℕ
onto r (Ok rs) = Ok (r ∷ rs)
onto r (Err at) = Err at

-- the records from a gate on, or the place of the gate after which there is none; the second number bounds the steps
abbrev pub walk : ℕ → (List ℕ → Bool) → ℕ → ℕ → List ℕ → Result (List (List ℕ)) ℕ
walk longest fits zero at bytes = Err at
walk longest fits (suc n) at bytes = if get_or bytes 0 0 == 1
    then (if is_block longest fits bytes
    then onto (record_at bytes) (walk longest fits n (at + 5 + size_at bytes) (drop (5 + size_at bytes) bytes))
    else Err at)
    else Ok []

abbrev pub is_headed : List ℕ → Bool
is_headed image = nat_le 18 (length image) && is_some (form_in image)

-- where the head is wrong
abbrev pub head_fault : List ℕ → Option ℕ
head_fault image = if is_headed image then (if get_or image 16 0 == 1 then None else Some 16) else Some 0

abbrev pub walk_after : Option ℕ → Result (List (List ℕ)) ℕ → Result (List (List ℕ)) ℕ
walk_after None found = found
walk_after (Some at) found = Err at

-- the records of a disk's bytes, or the place where they are no journal
abbrev pub records : (List ℕ → Bool) → List ℕ → Result (List (List ℕ)) ℕ
records fits image = walk_after (head_fault image) (walk_after (epoch_fault image) (walk (longest_in image) fits (length image) 17 (drop 17 image)))

-- the records, or none where the bytes are no journal
abbrev pub records_of : (List ℕ → Bool) → List ℕ → List (List ℕ)
records_of fits image = result_unwrap_or (records fits image) []

-- the records before the gate at this place: those of the bytes with that gate closed and nothing after it
abbrev pub records_before : (List ℕ → Bool) → ℕ → List ℕ → List (List ℕ)
records_before fits at image = records_of fits (take at image ++ 0 ∷ [])

-- the head is whole and its gate open
abbrev pub is_open : List ℕ → Bool
is_open image = is_none (head_fault image)

-- a record of a journal whose records have at most so many bytes
pub record IsRecord (longest : ℕ) (fits : List ℕ → Bool) (r : List ℕ) : Type 0 where
  pub some : 1 ≤ length r
  pub most : length r ≤ longest
  pub fits_form : fits r ≡ true

abbrev pub AreRecords : ℕ → (List ℕ → Bool) → List (List ℕ) → Type 0
AreRecords longest fits [] = Unit {0}
AreRecords longest fits (r ∷ rs) = IsRecord longest fits r × AreRecords longest fits rs

-- a record that a journal takes which is made
abbrev pub IsGood : (List ℕ → Bool) → List ℕ → Type 0
IsGood fits r = IsRecord WRITTEN.longest fits r

abbrev pub AreGood : (List ℕ → Bool) → List (List ℕ) → Type 0
AreGood fits rs = AreRecords WRITTEN.longest fits rs

-- these records stand before the gate at this place
pub record IsPrefix (fits : List ℕ → Bool) (at : ℕ) (rs : List (List ℕ)) (bytes : List ℕ) : Type 0 where
  pub head : head_fault bytes ≡ None
  pub epoch : epoch_fault bytes ≡ None
  pub good : AreRecords (longest_in bytes) fits rs
  pub prefix : take at bytes ≡ take 17 bytes ++ blocks rs
  pub place : at ≡ 17 + length (blocks rs)
  pub room : at < length bytes

-- the disk holds these records, the gate after them is closed, and nothing is pending
pub record Holds (fits : List ℕ → Bool) (at : ℕ) (rs : List (List ℕ)) (i : Image) : Type 0 where
  pub prefix : IsPrefix fits at rs i.bytes
  pub shut : get_or i.bytes at 0 ≢ 1
  pub settled : IsSettled i

-- the records from before, with all of these or without any of them
abbrev pub IsBeforeOrAll : (List ℕ → Bool) → List (List ℕ) → List (List ℕ) → List ℕ → Type 0
IsBeforeOrAll fits rs more c = (records fits c ≡ Ok rs) ⊎ (records fits c ≡ Ok (rs ++ more))

-- the records from before, with one more or without it
abbrev pub IsBeforeOrAfter : (List ℕ → Bool) → List (List ℕ) → List ℕ → List ℕ → Type 0
IsBeforeOrAfter fits rs r c = IsBeforeOrAll fits rs (r ∷ []) c

-- the head isn't open, or it is and has this epoch, and these are the records
abbrev pub IsClosedOrFilled : (List ℕ → Bool) → ℕ → List (List ℕ) → List ℕ → Type 0
IsClosedOrFilled fits epoch rs c = (is_open c ≡ false) ⊎ ((is_open c ≡ true) × (epoch_in c ≡ epoch) × (records fits c ≡ Ok rs))

-- the head is the one of these bytes
pub record SameHead (bytes c : List ℕ) : Type 0 where
  pub same : take 17 c ≡ take 17 bytes
  pub room : 17 < length c

-- the disk holds a journal in the form in which they are made: its records end before the closed gate at this
-- place, it has so many bytes and this epoch
pub record Standing (fits : List ℕ → Bool) (end extent epoch : ℕ) (i : Image) : Type 0 where
  pub holds : Holds fits end (records_of fits i.bytes) i
  pub extent_is : length i.bytes ≡ extent
  pub epoch_is : epoch_in i.bytes ≡ epoch
  pub form_is : form_in i.bytes ≡ Some WRITTEN

-- the disk, whose open head is of this form, is read up to the gate at this place, which is closed where the reading has
-- ended; where it has the last epoch of an older form it is no journal
pub record Walking (fits : List ℕ → Bool) (at extent epoch : ℕ) (form : JournalForm) (ended : Bool) (i : Image) : Type 0 where
  pub form_is : form_in i.bytes ≡ Some form
  pub head : head_fault i.bytes ≡ None
  pub prefix : is_last form epoch ≡ false → IsPrefix fits at (records_before fits at i.bytes) i.bytes
  pub shut : ended ≡ true → get_or i.bytes at 0 ≢ 1
  pub extent_is : length i.bytes ≡ extent
  pub epoch_is : epoch_in i.bytes ≡ epoch
  pub settled : IsSettled i

-- whether it leaves a gate open that was written and not synced
abbrev pub opens : Fill → Bool
opens Old = false
opens New = true
opens (Byte b) = b == 1

-- whether the record is kept
abbrev pub is_kept : ℕ → Fill → Bool
is_kept zero fill = false
is_kept (suc zero) fill = false
is_kept (suc (suc zero)) fill = false
is_kept (suc (suc (suc zero))) fill = opens fill
is_kept (suc (suc (suc (suc n)))) fill = true

-- with these records more where they are kept
abbrev pub kept_all : Bool → List (List ℕ) → List (List ℕ) → List (List ℕ)
kept_all kept rs more = if kept then rs ++ more else rs

-- with one record more where it is kept
abbrev pub kept_records : Bool → List (List ℕ) → List ℕ → List (List ℕ)
kept_records kept rs r = kept_all kept rs (r ∷ [])

-- it holds nothing, and nothing is pending
pub record IsBlank (i : Image) : Type 0 where
  pub bytes : i.bytes ≡ []
  pub settled : IsSettled i

-- a head was written, and then its gate opened
abbrev pub made : List ℕ → Image → Image
made head i = after_sync (after_write 16 (1 ∷ []) (after_sync (after_write 0 head i)))

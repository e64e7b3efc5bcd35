-- What a journal, and a walk over one, say of the disk.
use Rattle.std.specs.Prelude.{ℕ, ◌+◌, ◌-◌, ◌*◌, ◌^◌, ◌<◌, nat_le, Bool, List}
use Rattle.spl_edge.specs.Devices.{Image}
use Rattle.spl_journal.specs.{Records.{records_before, Standing, Walking}, declared.{clearing.Cleared.Cleared, journal.{Journal.Journal, TheConstants.SLACK}}}
use Rattle.spl_journal.specs.declared.{journal_form.JournalForm.JournalForm, walk.Walk.Walk}

-- the place of the closed gate after the records
abbrev pub end_of : {R : Type 0} → Journal R → ℕ
end_of j = j.end

-- how many bytes the journal has, that gate included
abbrev pub len_of : {R : Type 0} → Journal R → ℕ
len_of j = j.end + 1

-- the length from which its growth is counted
abbrev pub base_of : {R : Type 0} → Journal R → ℕ
base_of j = j.base

abbrev pub epoch_of : {R : Type 0} → Journal R → ℕ
epoch_of j = j.epoch

-- how many bytes the disk has
abbrev pub extent_of : {R : Type 0} → Journal R → ℕ
extent_of j = j.extent

abbrev pub is_halted : {R : Type 0} → Journal R → Bool
is_halted j = j.halted

abbrev pub has_room : {R : Type 0} → Journal R → Bool
has_room j = nat_le (j.end + 1) (2 * j.base + SLACK)

-- a record of so many bytes leaves it no room, and there is an epoch above its own
pub record IsFilledBy {R : Type 0} (n : ℕ) (j : Journal R) : Type 0 where
  pub room : 2 * base_of j + SLACK < len_of j + 5 + n
  pub epoch : epoch_of j < 2 ^ 64 - 1

-- so many bytes more leave it no room, and there is an epoch above its own
pub record IsOutgrownBy {R : Type 0} (n : ℕ) (j : Journal R) : Type 0 where
  pub room : 2 * base_of j + SLACK < len_of j + n
  pub epoch : epoch_of j < 2 ^ 64 - 1

-- the disk is what the journal takes it for, and nothing is pending
abbrev pub Stands : {R : Type 0} → (List ℕ → Bool) → Journal R → Image → Type 0
Stands fits j i = Standing fits j.end j.extent j.epoch i

-- the records that a walk has given
abbrev pub given_by : {R : Type 0} → (List ℕ → Bool) → Walk R → List ℕ → List (List ℕ)
given_by fits w bytes = records_before fits w.at bytes

abbrev pub has_ended : {R : Type 0} → Walk R → Bool
has_ended w = w.ended

-- how many bytes it has still to read at most
abbrev pub left_of : {R : Type 0} → Walk R → ℕ
left_of w = w.extent - w.at

abbrev pub epoch_walked : {R : Type 0} → Walk R → ℕ
epoch_walked w = w.epoch

abbrev pub extent_walked : {R : Type 0} → Walk R → ℕ
extent_walked w = w.extent

-- the form of the journal that it reads
abbrev pub form_walked : {R : Type 0} → Walk R → JournalForm
form_walked w = w.form

abbrev pub number_walked : {R : Type 0} → Walk R → ℕ
number_walked w = w.form.number

-- how many bytes a record of that journal has at most
abbrev pub longest_walked : {R : Type 0} → Walk R → ℕ
longest_walked w = w.form.longest

-- the disk is what the walk takes it for, and nothing is pending
abbrev pub Walks : {R : Type 0} → (List ℕ → Bool) → Walk R → Image → Type 0
Walks fits w i = Walking fits w.at w.extent w.epoch w.form w.ended i

abbrev pub epoch_cleared : Cleared → ℕ
epoch_cleared c = c.epoch

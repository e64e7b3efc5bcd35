-- The records of a packed cell (docs/RULES.md, Byte forms).
use Rattle.std.specs.Prelude.{ℕ, Bool, true, ◌&&◌, nat_lt, nat_le, List, [], ◌∷◌, ◌++◌, length, if◌then◌else◌, Option, Some, None, is_none}
use Rattle.spl_base.specs.declared.limit.TheConstants.{LONGEST_RECORD}
use Rattle.spl_agree.specs.declared.event.GroupChange.{GroupChange, TheVariants.{Queue, Refuse, Promise, Commit, Kept}}
use Rattle.spl_command.specs.{Rules.broken_batch, declared.batch.Batch.Batch}
use Rattle.spl_wire.specs.{Forms.record_form, declared.change.Change.{Change, TheVariants.Service}}
use Rattle.spl_wire.specs.declared.record.Record.{Record}
use Rattle.spl_wire.specs.declared.record.TheConstants.{MOST_CHANGES}

-- how many bytes a record has at most
abbrev pub most_bytes : ℕ
most_bytes = LONGEST_RECORD

abbrev pub record_of : List ℕ → List Change → Record
record_of c xs = record { circuit = c; changes = xs }

-- how many bytes the record of these changes has
abbrev pub record_size : List ℕ → List Change → ℕ
record_size c xs = length (record_form.spell (record_of c xs))

-- one more change has a place in the record of these
abbrev pub has_place : List ℕ → List Change → Change → Bool
has_place c xs x = nat_lt (length xs) MOST_CHANGES && nat_le (record_size c (xs ++ x ∷ [])) most_bytes

-- the changes in groups, the first of which has some already: a new group begins where the next change has no place
abbrev pub grouped_after : List ℕ → List Change → List Change → List (List Change)
grouped_after c group [] = group ∷ []
grouped_after c group (x ∷ xs) = if has_place c group x then grouped_after c (group ++ x ∷ []) xs else group ∷ grouped_after c (x ∷ []) xs

abbrev pub grouped : List ℕ → List Change → List (List Change)
grouped c [] = []
grouped c (x ∷ xs) = grouped_after c (x ∷ []) xs

-- a record for each of these groups
abbrev pub grouped_records : List ℕ → List (List Change) → List Record
grouped_records c [] = []
grouped_records c (xs ∷ xss) = record_of c xs ∷ grouped_records c xss

-- the byte form of each record
abbrev pub spelled : List Record → List (List ℕ)
spelled [] = []
spelled (r ∷ rs) = record_form.spell r ∷ spelled rs

-- the changes of all groups
abbrev pub together : List (List Change) → List Change
together [] = []
together (xs ∷ xss) = xs ++ together xss

-- a group has a change, and its record is within the bounds
abbrev pub is_sized : List ℕ → List Change → Bool
is_sized c xs = nat_le 1 (length xs) && (nat_le (length xs) MOST_CHANGES && nat_le (record_size c xs) most_bytes)

-- a change by itself makes such a record
abbrev pub is_small : List ℕ → Change → Bool
is_small c x = nat_le (record_size c (x ∷ [])) most_bytes

-- ---- what a change carries

abbrev pub value_in : {V : Type 0} → GroupChange V → Option V
value_in (Queue v) = Some v
value_in (Refuse v why) = Some v
value_in (Promise r v) = Some v
value_in (Commit r v) = Some v
value_in (Kept v why) = Some v
value_in _ = None

-- the value, if there is one, meets a test
abbrev pub meets : {V : Type 0} → (V → Bool) → Option V → Bool
meets may None = true
meets may (Some v) = may v

abbrev pub breaks_no_rule : Option Batch → Bool
breaks_no_rule o = meets (λ b. is_none (broken_batch b)) o

-- the batch in it, if there is one, breaks no rule
abbrev pub is_lawful : Change → Bool
is_lawful (Service x) = breaks_no_rule (value_in x)
is_lawful _ = true

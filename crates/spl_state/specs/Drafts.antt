-- What a draft of a state is seen as, and what gives it up (docs/RULES.md, State).
use Rattle.std.specs.{Prelude.{ℕ, List, [], ◌∷◌, fold, Option, Some, None, is_some, if◌then◌else◌}, Map.{lookup, remove_entry}, BTreeMap.insert_entry}
use Rattle.std.specs.BTreeMap.{is_at}
use Rattle.spl_state.specs.{Entries.{Entry, address_cmp}, declared.{address.Address.Address, state.Replaced.Replaced}}

-- the entries before the changes, and those after them
pub record Drafted : Type 0 where
  pub before : List Entry
  pub entries : List Entry

-- the entries with a value put back over the one at an address
abbrev pub over : List Entry → Address → List ℕ → List Entry
over es a v = if is_some (lookup (is_at (address_cmp a)) es) then insert_entry address_cmp es a v else es

-- the entries with what stood at an address put back, if anything did
abbrev pub with_former : List Entry → Address → Option (List ℕ) → List Entry
with_former es a None = remove_entry (is_at (address_cmp a)) es
with_former es a (Some v) = over es a v

abbrev pub put_back : List Entry → Replaced → List Entry
put_back es r = with_former es r.address r.value

-- the entries before writes that replaced these, in their order
abbrev pub undone : List Entry → List Replaced → List Entry
undone es [] = es
undone es (r ∷ rs) = put_back (undone es rs) r

-- the entries except that at an address
abbrev pub without_one : List Entry → Address → List Entry
without_one es a = remove_entry (is_at (address_cmp a)) es

-- the entries except those at some addresses
abbrev pub without : List Entry → List Address → List Entry
without es addresses = fold without_one es addresses

-- What a part of the tree keeps.
use Rattle.std.specs.Prelude.{ℕ, ◌+◌, ◌-◌, ◌≡◌, ◌<◌, ◌≤◌, is_some, List, [], ◌∷◌, length, min, Bool, true, false, Option, Some, None, IfSome, IsTrue}
use Rattle.std.specs.{FinMap.Entries.is_sorted, List.flat_map, Ordering.is_eq}
use Rattle.spl_state.specs.{Entries.{Entry, address_cmp}, Root.digit_of, Levels.node_of, Part.{Part, Run, AllAt}, Digits.{tail_cmp, same_digits}}
use Rattle.spl_state.specs.{Runs.{AllAlong, IsFirstApart}, declared.{address.Address.Address, tree.Body.{Body, TheVariants.{Empty, Leaf, Thin, Inner}}}}

-- the entries of some parts, in order
abbrev pub all_entries : List Part → List Entry
all_entries ss = flat_map (λ s. s.entries) ss

-- the entries of a part, in order
abbrev pub entries_of : Body → List Entry
entries_of Empty = []
entries_of (Leaf a v) = (a, v) ∷ []
entries_of (Thin path part) = part.value.entries
entries_of (Inner kids) = all_entries kids.items

-- whether a part has parts of its own
abbrev pub is_inner : Body → Bool
is_inner Empty = false
is_inner (Leaf a v) = false
is_inner (Thin path part) = true
is_inner (Inner kids) = true

-- what leads to a lone part
abbrev pub thin_run : Body → Option Run
thin_run Empty = None
thin_run (Leaf a v) = None
thin_run (Thin path part) = Some (record { path = path; end = part.value.depth })
thin_run (Inner kids) = None

-- each entry has the digit j at depth d
abbrev pub AllDigit : ℕ → ℕ → List Entry → Type 0
AllDigit d j [] = Unit {0}
AllDigit d j (e ∷ es) = (digit_of e.0.0 d ≡ j) × AllDigit d j es

-- the parts from the k-th digit value on have entries of that digit at depth d
abbrev pub Sorted : ℕ → ℕ → List Part → Type 0
Sorted d k [] = Unit {0}
Sorted d k (s ∷ ss) = AllDigit d k s.entries × Sorted d (k + 1) ss

-- sixteen parts, one for each value of the digit
pub record IsInner (d : ℕ) (parts : List Part) : Type 0 where
  pub low : d < 70
  pub sixteen : length parts ≡ 16
  pub below : AllAt (d + 1) parts
  pub sorted : Sorted d 0 parts

-- one part, whose entries have the digits of an address down to it
pub record IsThin (d : ℕ) (path : Address) (part : Part) : Type 0 where
  pub low : d < part.depth
  pub high : part.depth ≤ 70
  pub digits : AllAlong part.depth d path part.entries

abbrev pub IsShaped : ℕ → Body → Type 0
IsShaped d Empty = Unit {0}
IsShaped d (Leaf a v) = Unit {0}
IsShaped d (Thin path part) = IsThin d path part.value
IsShaped d (Inner kids) = IsInner d kids.items

pub record IsKept (d : ℕ) (size : ℕ) (fresh : Bool) (digest : List ℕ) (body : Body) : Type 0 where
  pub sized : size ≡ min (length (entries_of body)) 2
  pub digested : fresh ≡ true → digest ≡ node_of (70 - d) d (entries_of body)
  pub shaped : IsShaped d body

-- a part with no entry
abbrev pub empty_part : ℕ → Part
empty_part d = record { depth = d; entries = []; inner = false; thin = None }

-- each entry has the digits of a from the d-th on
abbrev pub AllSame : ℕ → Address → List Entry → Type 0
AllSame d a [] = Unit {0}
AllSame d a (e ∷ es) = (is_eq (tail_cmp d a e.0) ≡ true) × AllSame d a es

-- an entry that stands here alone is the address's, and a lone part stands below its digits
abbrev pub IsRoom : Address → Part → Type 0
IsRoom a s = (s.inner ≡ false → AllSame s.depth a s.entries) × IfSome s.thin (λ r. same_digits (r.end - s.depth) s.depth a r.path ≡ true)

-- a lone part that stands at digit m or above it has other digits down to it than the address
abbrev pub IsLeft : ℕ → Address → Part → Type 0
IsLeft m a s = IfSome s.thin (λ r. r.end ≤ m → same_digits (r.end - s.depth) s.depth a r.path ≡ false)

-- what stands here could stand at digit k: there aren't sixteen parts, and a lone part stands no higher
pub record CanStand (k : ℕ) (s : Part) : Type 0 where
  pub few : s.inner ≡ true → is_some s.thin ≡ true
  pub above : IfSome s.thin (λ r. k ≤ r.end)

-- the entries have the digits of `path` down to the k-th one, where the address differs first
pub record IsParting (a path : Address) (k : ℕ) (s : Part) : Type 0 where
  pub apart : IsFirstApart s.depth 70 a path k
  pub along : AllAlong (k + 1) s.depth path s.entries
  pub stands : CanStand (k + 1) s

-- each address has 35 bytes
abbrev pub AllWhole : List Entry → Type 0
AllWhole [] = Unit {0}
AllWhole (e ∷ es) = (length e.0.0 ≡ 35) × AllWhole es

-- what a state keeps: its tree begins at the first digit, each address has 35 bytes, and they strictly rise
pub record IsState (depth : ℕ) (es : List Entry) : Type 0 where
  pub top : depth ≡ 0
  pub whole : AllWhole es
  pub rising : IsTrue (is_sorted address_cmp es)

-- How the byte forms of changes become those of records, one change at a time.
use Rattle.std.specs.{Prelude.{ℕ, ◌+◌, Bool, not, ◌&&◌, nat_lt, nat_le, List, [], ◌∷◌, ◌++◌, length, take, drop, if◌then◌else◌}, Int.w16}
use Rattle.spl_base.specs.Form.{number_bytes}
use Rattle.spl_wire.specs.Grouping.{most_bytes}
use Rattle.spl_wire.specs.declared.record.TheConstants.{MOST_CHANGES}

-- a circuit, the byte forms of the records so far, and how many changes the record has that is begun, and their bytes
pub record PackingView : Type 0 where
  pub circuit : List ℕ
  pub records : List (List ℕ)
  pub count : ℕ
  pub written : List ℕ

-- the byte form of a record of so many changes, which have these bytes
abbrev pub sealed : List ℕ → ℕ → List ℕ → List ℕ
sealed c n w = c ++ (number_bytes w16 n ++ w)

-- how many bytes it has
abbrev pub sealed_size : List ℕ → List ℕ → ℕ
sealed_size c w = length c + 2 + length w

-- a record of so many changes has no place for one more, whose bytes stand after theirs already
abbrev pub is_full : List ℕ → ℕ → List ℕ → Bool
is_full c n w = nat_lt 0 n && not (nat_lt n MOST_CHANGES && nat_le (sealed_size c w) most_bytes)

-- the record of the first bytes is the last one, and the one that is begun has those after them, and no change yet
abbrev pub closed : ℕ → PackingView → PackingView
closed start p = record {
  circuit = p.circuit;
  records = p.records ++ sealed p.circuit p.count (take start p.written) ∷ [];
  count = 0;
  written = drop start p.written;
}

-- the bytes of one more change stand in the record that is begun
abbrev pub written_after : PackingView → List ℕ → PackingView
written_after p x = record p { written = p.written ++ x }

-- a record with a place for the change whose bytes stand in it
abbrev pub placed : ℕ → PackingView → PackingView
placed start p = if is_full p.circuit p.count p.written then closed start p else p

abbrev pub packing_counted : PackingView → PackingView
packing_counted p = record p { count = p.count + 1 }

-- one change more
abbrev pub taken : PackingView → List ℕ → PackingView
taken p x = packing_counted (placed (length p.written) (written_after p x))

abbrev pub finished : PackingView → List (List ℕ)
finished p = if nat_lt 0 p.count then p.records ++ sealed p.circuit p.count p.written ∷ [] else p.records

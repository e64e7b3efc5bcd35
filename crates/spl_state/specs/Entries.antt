-- What a state is seen as: its entries, in the order of their addresses (docs/RULES.md, State).
use Rattle.std.specs.{Prelude.{ℕ, List, filter, nat_eq}, Map.keys_of, List.starts_with, Ordering.nat_cmp, Cmp.Lexicographic.slice_cmp}
use Rattle.std.specs.declared.cmp.Ordering.{Ordering}
use Rattle.spl_state.specs.declared.address.Address.{Address}

-- an address and its value
abbrev pub Entry : Type 0
Entry = Address × List ℕ

-- addresses in the order of their bytes
abbrev pub address_cmp : Address → Address → Ordering
address_cmp a b = slice_cmp nat_cmp a.0 b.0

-- the addresses that begin with p, in order
abbrev pub covered : List ℕ → List Entry → List Address
covered p es = filter (λ a. starts_with nat_eq a.0 p) (keys_of es)

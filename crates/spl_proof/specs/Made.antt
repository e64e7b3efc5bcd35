-- The proof that a state gives of an address (docs/RULES.md, Proofs).
use Rattle.std.specs.Prelude.{ℕ, zero, suc, ◌+◌, ◌-◌, Bool, true, false, List, [], ◌∷◌, ◌++◌, if◌then◌else◌}
use Rattle.spl_state.specs.{Entries.Entry, Root.{digits_of, under, node_at}, declared.address.Address.Address}
use Rattle.spl_proof.specs.{Accepted.Level, declared.proof.{End.{End, TheVariants.{Empty, Leaf}}, Proof.Proof}}

-- what `part` gives for the numbers below m, in order
unfoldable pub listed : {A : Type 0} → (ℕ → A) → ℕ → List A
listed part zero = []
listed part (suc m) = listed part m ++ part m ∷ []

-- the first number from i on that passes a test, of so many, and the one after them where none does
abbrev pub first_from : (ℕ → Bool) → ℕ → ℕ → ℕ
first_from test zero i = i
first_from test (suc k) i = if test i then i else first_from test k (i + 1)

abbrev pub at_most_one : List Entry → Bool
at_most_one [] = true
at_most_one (e ∷ []) = true
at_most_one (e ∷ f ∷ es) = false

-- the entries under the first n digits of an address
abbrev pub under_first : ℕ → Address → List Entry → List Entry
under_first n a m = under (digits_of n 0 a.0) m

-- the least number of digits of an address under which at most one entry lies
unfoldable pub depth : Address → List Entry → ℕ
depth a m = first_from (λ n. at_most_one (under_first n a m)) 70 0

-- the nodes of the first i digits of an address with each digit after them
abbrev pub level_at : ℕ → Address → List Entry → Level
level_at i a m = listed (λ d. node_at (69 - i) (digits_of i 0 a.0 ++ d ∷ []) m) 16

-- the entry, or none
abbrev pub end_of : List Entry → End
end_of [] = Empty
end_of (e ∷ es) = Leaf e.0 e.1

abbrev pub proof : List Entry → Address → Proof
proof m a = record { levels = listed (λ i. level_at i a m) (depth a m); end = end_of (under_first (depth a m) a m) }

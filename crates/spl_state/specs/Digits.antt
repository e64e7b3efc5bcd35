-- Addresses compared from one of their digits on.
use Rattle.std.specs.{Prelude.{ℕ, zero, suc, ◌+◌, ◌-◌, ◌==◌, ◌&&◌, Bool, true, List, filter}, Ordering.{nat_cmp, ordering_then}}
use Rattle.std.specs.declared.cmp.Ordering.{Ordering, TheVariants.Equal}
use Rattle.spl_state.specs.{Entries.Entry, Root.digit_of, declared.address.Address.Address}

-- the order of n digits, from the k-th on
unfoldable pub digits_cmp : ℕ → ℕ → Address → Address → Ordering
digits_cmp zero k a b = Equal
digits_cmp (suc n) k a b = ordering_then (nat_cmp (digit_of a.0 k) (digit_of b.0 k)) (digits_cmp n (k + 1) a b)

-- the order of all digits from the d-th on
abbrev pub tail_cmp : ℕ → Address → Address → Ordering
tail_cmp d = digits_cmp (70 - d) d

-- whether n digits are the same, from the k-th on
unfoldable pub same_digits : ℕ → ℕ → Address → Address → Bool
same_digits zero k a b = true
same_digits (suc n) k a b = (digit_of b.0 k == digit_of a.0 k) && same_digits n (k + 1) a b

-- the entries that have the digits of an address, from the d-th to the m-th
unfoldable pub shares : ℕ → ℕ → Address → List Entry → List Entry
shares m d a es = filter (λ e. same_digits (m - d) d a e.0) es

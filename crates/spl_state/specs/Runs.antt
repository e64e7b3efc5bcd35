-- Runs of digits that all entries of a part share.
use Rattle.std.specs.Prelude.{ℕ, zero, suc, ◌+◌, ◌-◌, ◌/◌, ◌≡◌, ◌≢◌, ◌<◌, ◌≤◌, true, List, [], ◌∷◌, length}
use Rattle.sha2.specs.Sha256.{sha256}
use Rattle.spl_state.specs.{Entries.Entry, Root.{digit_of, joined}, Levels.lone, Digits.same_digits, declared.address.Address.Address}

-- each entry has the digits of an address, from the d-th to the m-th
abbrev pub AllAlong : ℕ → ℕ → Address → List Entry → Type 0
AllAlong m d a [] = Unit {0}
AllAlong m d a (e ∷ es) = (same_digits (m - d) d a e.0 ≡ true) × AllAlong m d a es

-- the k-th digit is the first one, from the d-th to the m-th, where two addresses differ
pub record IsFirstApart (d m : ℕ) (a b : Address) (k : ℕ) : Type 0 where
  pub low : d ≤ k
  pub high : k < m
  pub same : same_digits (k - d) d a b ≡ true
  pub differ : digit_of a.0 k ≢ digit_of b.0 k

-- the k-th digit, between the d-th and the m-th, is one of a prefix, and the address has another
pub record IsOtherDigit (d m : ℕ) (p : List ℕ) (a : Address) (k : ℕ) : Type 0 where
  pub low : d ≤ k
  pub high : k < m
  pub within : k / 2 < length p
  pub differ : digit_of p k ≢ digit_of a.0 k

-- the node that lone parts make of the one below them, where they stand below n digits of an address, from the k-th on
unfoldable pub raised : ℕ → ℕ → Address → List ℕ → List ℕ
raised zero k a below = below
raised (suc n) k a below = sha256 (1 ∷ joined (lone (digit_of a.0 k) (raised n (k + 1) a below)) 16)

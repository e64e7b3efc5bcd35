-- The root of a state: the node of each list of digits, over all entries (docs/RULES.md, State).
use Rattle.std.specs.Prelude.{ℕ, zero, suc, ◌+◌, ◌/◌, ◌%◌, ◌==◌, ◌&&◌, Bool, true, List, [], ◌∷◌, ◌++◌, filter, replicate, slice_index, if◌then◌else◌}
use Rattle.sha2.specs.Sha256.{sha256}
use Rattle.spl_state.specs.Entries.{Entry}

-- the hexadecimal digit k of an address, the high half of a byte first
abbrev pub digit_of : List ℕ → ℕ → ℕ
digit_of a k = if k % 2 == 0 then slice_index a (k / 2) / 16 else slice_index a (k / 2) % 16

-- the digits of an address from the k-th on begin with p
abbrev pub agrees : ℕ → List ℕ → List ℕ → Bool
agrees k [] a = true
agrees k (d ∷ p) a = (digit_of a k == d) && agrees (k + 1) p a

-- the entries that lie under the digits p
abbrev pub under : List ℕ → List Entry → List Entry
under p es = filter (λ e. agrees 0 p e.0.0) es

-- the node of a lone entry: byte 00, the address and the value, hashed
abbrev pub leaf_of : Entry → List ℕ
leaf_of e = sha256 (0 ∷ e.0.0 ++ e.1)

-- zeros for no entry, the leaf's node for one, and else `inner`
abbrev pub by_count : List Entry → List ℕ → List ℕ
by_count [] inner = replicate 32 0
by_count (e ∷ []) inner = leaf_of e
by_count (e ∷ f ∷ es) inner = inner

-- what `part` gives for the digits below m, one after the other
unfoldable pub joined : (ℕ → List ℕ) → ℕ → List ℕ
joined part zero = []
joined part (suc d) = joined part d ++ part d

-- the node of the digits p, where n more digits make an address: the root is `node_at 70 []`
unfoldable pub node_at : ℕ → List ℕ → List Entry → List ℕ
node_at zero p es = by_count (under p es) (replicate 32 0)
node_at (suc n) p es = by_count (under p es) (sha256 (1 ∷ joined (λ d. node_at n (p ++ d ∷ []) es) 16))

-- n digits of an address, from the k-th on
abbrev pub digits_of : ℕ → ℕ → List ℕ → List ℕ
digits_of zero k a = []
digits_of (suc n) k a = digit_of a k ∷ digits_of n (k + 1) a

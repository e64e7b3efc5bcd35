-- How inner nodes begin: the byte 1, and zeros where the first parts are empty.
use Rattle.std.specs.Prelude.{ℕ, ◌≡◌, ◌*◌, List, ◌∷◌, Option, Some, replicate, slice_get}
use denote.Struct.Props as logic
use Rattle.sha2.specs.{Sha256.Holds, Hashers.Holds256, declared.Sha256.Sha256}

-- the hasher holds the byte 1 and the zeros of k empty pairs of parts
abbrev pub Begins : ℕ → Sha256 → Type 0
Begins k h = Holds256 h (1 ∷ replicate (64 * k) 0)

-- each hasher that is made holds this for its place
abbrev pub AllBegin : List (Option Sha256) → Type 0
AllBegin hs = (k : ℕ) (h : Sha256) → slice_get hs k ≡ Some (Some h) → Begins k h

-- which has one proof at most, so it may be a ghost field
pub all_begin-prop : (hs : List (Option Sha256)) → IsProp (AllBegin hs)
unfolding Holds
all_begin-prop hs = Prim.hlevel logic.props

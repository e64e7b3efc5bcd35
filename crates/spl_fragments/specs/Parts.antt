-- The bodies of a message (docs/RULES.md, Parts).
use Rattle.std.specs.Prelude.{ℕ, zero, suc, ◌≤◌, nat_lt, List, [], ◌∷◌, length, take, drop, if◌then◌else◌}
use Rattle.spl_frame.specs.declared.header.TheConstants.{LONGEST_BODY}
use Rattle.spl_fragments.specs.declared.bodies.TheConstants.{LONGEST_PART, MORE, LAST}

-- parts of n bytes while more than n remain, and one of the rest; at most so many are cut off before it
abbrev pub cut_parts : ℕ → ℕ → List ℕ → List (List ℕ)
cut_parts n zero bytes = (LAST ∷ bytes) ∷ []
cut_parts n (suc k) bytes = if nat_lt n (length bytes) then (MORE ∷ take n bytes) ∷ cut_parts n k (drop n bytes) else (LAST ∷ bytes) ∷ []

-- the parts of bytes; there are fewer that others follow than bytes
abbrev pub parts : List ℕ → List (List ℕ)
parts bytes = cut_parts LONGEST_PART (length bytes) bytes

-- the bodies of a message with these bytes
abbrev pub message_bodies : List ℕ → List (List ℕ)
message_bodies bytes = if nat_lt LONGEST_BODY (length bytes) then parts bytes else bytes ∷ []

-- a frame takes it as its body, and it isn't empty
pub record IsSized (body : List ℕ) : Type 0 where
  pub some : 1 ≤ length body
  pub most : length body ≤ LONGEST_BODY

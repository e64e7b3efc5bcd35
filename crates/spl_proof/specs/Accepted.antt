-- When a proof shows that an address has a value, or none, under a root (docs/RULES.md, Proofs).
use Rattle.std.specs.Prelude.{◌≡◌, ◌≢◌, ℕ, ◌+◌, Bool, true, false, not, ◌&&◌, List, [], ◌∷◌, length, replicate, slice_index_or, Option, Some, None}
use Rattle.std.specs.{List.flat_map, Str.bytes_eq}
use Rattle.sha2.specs.Sha256.{sha256}
use Rattle.spl_state.specs.{Root.{digit_of, digits_of, leaf_of}, declared.address.Address.Address}
use Rattle.spl_proof.specs.declared.proof.{End.{End, TheVariants.{Empty, Leaf}}, Proof.Proof}

-- sixteen digests, one for each digit
abbrev pub Level : Type 0
Level = List (List ℕ)

-- the bytes that are hashed for a level: byte 01 and its digests
abbrev pub level_bytes : Level → List ℕ
level_bytes l = 1 ∷ flat_map (λ d. d) l

abbrev pub level_digest : Level → List ℕ
level_digest l = sha256 (level_bytes l)

-- zeros for no entry, and else the entry's node
abbrev pub end_digest : End → List ℕ
end_digest Empty = replicate 32 0
end_digest (Leaf b v) = leaf_of (b, v)

-- the topmost digest of some levels and an end
abbrev pub top : List Level → End → List ℕ
top [] e = end_digest e
top (l ∷ ls) e = level_digest l

-- the levels, from the i-th on, each have at the address's digit the digest that stands below
abbrev pub AllFit : ℕ → Address → List Level → End → Type 0
AllFit i a [] e = Unit {0}
AllFit i a (l ∷ ls) e = (slice_index_or l (digit_of a.0 i) [] ≡ top ls e) × AllFit (i + 1) a ls e

-- what the end below n levels says of an address: it has this value, or it has none
abbrev pub Says : Option (List ℕ) → ℕ → Address → End → Type 0
Says (Some v) n a Empty = ⊥
Says (Some v) n a (Leaf b w) = (b ≡ a) × (w ≡ v)
Says None n a Empty = Unit {0}
Says None n a (Leaf b w) = (b ≢ a) × (digits_of n 0 b.0 ≡ digits_of n 0 a.0)

pub record IsAccepted (root : List ℕ) (a : Address) (claim : Option (List ℕ)) (p : Proof) : Type 0 where
  pub top : top p.levels p.end ≡ root
  pub fit : AllFit 0 a p.levels p.end
  pub says : Says claim (length p.levels) a p.end

-- ---- the same as tests

abbrev pub are_fit : ℕ → Address → List Level → End → Bool
are_fit i a [] e = true
are_fit i a (l ∷ ls) e = bytes_eq (slice_index_or l (digit_of a.0 i) []) (top ls e) && are_fit (i + 1) a ls e

abbrev pub is_said : Option (List ℕ) → ℕ → Address → End → Bool
is_said (Some v) n a Empty = false
is_said (Some v) n a (Leaf b w) = bytes_eq b.0 a.0 && bytes_eq w v
is_said None n a Empty = true
is_said None n a (Leaf b w) = not (bytes_eq b.0 a.0) && bytes_eq (digits_of n 0 b.0) (digits_of n 0 a.0)

abbrev pub accepts : List ℕ → Address → Option (List ℕ) → Proof → Bool
accepts root a claim p = bytes_eq (top p.levels p.end) root && are_fit 0 a p.levels p.end && is_said claim (length p.levels) a p.end

-- ---- the same from the root down: the levels lead from a digest to the end
abbrev pub Leads : List ℕ → ℕ → Address → List Level → End → Type 0
Leads digest i a [] e = end_digest e ≡ digest
Leads digest i a (l ∷ ls) e = (level_digest l ≡ digest) × Leads (slice_index_or l (digit_of a.0 i) []) (i + 1) a ls e

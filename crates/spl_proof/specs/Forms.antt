-- The byte form of proofs (docs/RULES.md, Byte forms).
use Rattle.std.specs.{Prelude.{ℕ, Bool, true, ◌&&◌, List, [], ◌∷◌, ◌++◌, length, Result, Ok, Err, nat_lt, nat_le, if◌then◌else◌}, List.{flat_map, list_all}}
use Rattle.std.specs.Int.{w8}
use Rattle.spl_base.specs.{Input.{Input, ◌>>=◌, number_at}, Form.{Form, located, number_bytes, raw, string, ◌&◌, via, items_at, nothing, Case, case, Filled}}
use Rattle.spl_base.specs.Form.{filled, sum_of}
use Rattle.spl_state.specs.declared.address.Address.{Address}
use Rattle.spl_proof.specs.{Accepted.Level, declared.proof.{End.{End, TheVariants.{Empty, Leaf}}, Proof.Proof, TheConstants.{MOST_LEVELS, LONGEST_VALUE}}}

abbrev pub any_bytes : List ℕ → Bool
any_bytes xs = true

-- 32 bytes
abbrev pub digest : Form (List ℕ)
digest = raw 32 any_bytes

-- so many values, one after the other
abbrev pub repeated : {A : Type 0} → ℕ → Form A → Form (List A)
repeated n f = record {
  spell = flat_map f.spell;
  parse = items_at f.parse n;
  fits = λ xs. (nat_le n (length xs) && nat_le (length xs) n) && list_all f.fits xs;
  bounded = λ xs. true;
}

-- one byte of count, and that many values
abbrev pub few_of : {A : Type 0} → ℕ → Form A → Form (List A)
few_of most f = record {
  spell = λ xs. number_bytes w8 (length xs) ++ flat_map f.spell xs;
  parse = λ s. located (number_at w8 s) >>= λ n. if nat_lt most n.0 then Err s.place else items_at f.parse n.0 n.1;
  fits = λ xs. nat_le (length xs) most && list_all f.fits xs;
  bounded = λ xs. true;
}

-- sixteen digests
abbrev pub level : Form Level
level = repeated 16 digest

abbrev pub levels : Form (List Level)
levels = few_of MOST_LEVELS level

-- an address and a byte string
abbrev pub leaf : Form (Address × List ℕ)
leaf = via (λ xs. record { 0 = xs }) (λ a. a.0) (raw 35 any_bytes) & string LONGEST_VALUE

abbrev pub ends : List (Case End)
ends = case 0 nothing (λ _. Empty) ∷ case 1 leaf (λ x. Leaf x.0 x.1) ∷ []

abbrev pub end_fields : End → Filled ends
end_fields Empty = filled 0 tt
end_fields (Leaf b v) = filled 1 (b, v)

abbrev pub end : Form End
end = sum_of ends end_fields

abbrev pub proof : Form Proof
proof = via (λ x. record { levels = x.0; end = x.1 }) (λ p. (p.levels, p.end)) (levels & end)

-- a value that all bytes spell, or where the first unreadable field begins, or where bytes follow
abbrev pub nothing_after : {A : Type 0} → A × Input → List ℕ → Result A ℕ
nothing_after x [] = Ok x.0
nothing_after x (b ∷ bs) = Err x.1.place

abbrev pub whole_of : {A : Type 0} → Form A → List ℕ → Result A ℕ
whole_of f bytes = f.parse (record { rest = bytes; place = 0 }) >>= λ x. nothing_after x x.1.rest

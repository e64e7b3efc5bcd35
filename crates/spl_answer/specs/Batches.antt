-- The texts of answers about batches and the state that they left (docs/RULES.md, Answers).
use Rattle.std.specs.{Prelude.{ℕ, List, ◌∷◌, ◌++◌, length, Option, Some, None, codes, decimal}, List.flat_map}
use Rattle.hex.specs.Hex.{encode_lower}
use Rattle.spl_wire.specs.declared.answer.Entry.{Entry}

-- each item after a space
abbrev pub spaced : {A : Type 0} → (A → List ℕ) → List A → List ℕ
spaced text xs = flat_map (λ x. 32 ∷ text x) xs

-- two digits of 0 to 9 and a to f for each byte
abbrev pub hex_text : List ℕ → List ℕ
hex_text bytes = encode_lower bytes

abbrev pub root_text : ℕ → List ℕ → List ℕ
root_text count root = codes "ok root " ++ (decimal count ++ (32 ∷ hex_text root))

abbrev pub proof_text : List ℕ → List ℕ → List ℕ
proof_text root bytes = codes "ok proof " ++ (hex_text root ++ (32 ∷ hex_text bytes))

abbrev pub history_text : List ℕ → List ℕ
history_text ids = codes "ok history " ++ (decimal (length ids) ++ spaced decimal ids)

abbrev pub value_text : Option (List ℕ) → List ℕ
value_text None = codes "ok none"
value_text (Some value) = codes "ok value " ++ hex_text value

abbrev pub entry_text : Entry → List ℕ
entry_text e = hex_text e.address.0 ++ (61 ∷ hex_text e.value)

abbrev pub entries_text : List Entry → List ℕ
entries_text entries = codes "ok entries " ++ (decimal (length entries) ++ spaced entry_text entries)

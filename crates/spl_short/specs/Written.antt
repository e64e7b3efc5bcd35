-- Lines with short addresses, written out (docs/RULES.md, Short addresses).
use Rattle.std.specs.Prelude.{ℕ, ◌-◌, ◌*◌, suc, Bool, ◌&&◌, ◌||◌, ◌==◌, nat_le, List, [], ◌∷◌, ◌++◌, length, take, drop, replicate, codes, Option, Some, None}
use Rattle.std.specs.{Prelude.if◌then◌else◌, List.{flat_map, list_all}}
use Rattle.spl_words.specs.Words.{after, hex_byte, read_hex_string}
use Rattle.spl_short.specs.declared.places.Place.{Place}

-- a letter, a digit or -
abbrev pub is_name_byte : ℕ → Bool
is_name_byte b = nat_le 48 b && nat_le b 57 || nat_le 65 b && nat_le b 90 || nat_le 97 b && nat_le b 122 || b == 45

-- how many of them stand at the front
abbrev pub name_length : List ℕ → ℕ
name_length [] = 0
name_length (b ∷ bs) = if is_name_byte b then suc (name_length bs) else 0

-- a name may have as many bytes as an address
abbrev pub is_long_enough : ℕ → Bool
is_long_enough n = nat_le 1 n && nat_le n 35

-- the digits of the bytes of a name, and of zeros up to an address where it is to be a whole one
abbrev pub name_digits : Bool → List ℕ → List ℕ
name_digits whole name = flat_map hex_byte name ++ replicate (if whole then 70 - 2 * length name else 0) 48

-- behind the beginning of a word that may have a name there
abbrev pub written_name : Place → List ℕ → List ℕ → List ℕ
written_name place word rest =
    if is_long_enough (name_length rest) then place.kept.now ++ (name_digits place.is_whole (take (name_length rest) rest) ++ drop (name_length rest) rest)
    else word

abbrev pub written_at : Place → List ℕ → Option (List ℕ) → List ℕ → List ℕ
written_at place word None other = other
written_at place word (Some rest) other = written_name place word rest

-- a word, by the first place whose beginning it has
abbrev pub written_word : List Place → List ℕ → List ℕ
written_word [] word = word
written_word (place ∷ places) word = written_at place word (after place.before.now word) (written_word places word)

-- each word behind a space
abbrev pub written_words : List Place → List (List ℕ) → List ℕ
written_words places words = flat_map (λ word. 32 ∷ written_word places word) words

-- a line of these words: its name, and the others
abbrev pub written_line : List Place → List (List ℕ) → List ℕ
written_line places [] = []
written_line places (name ∷ words) = name ++ written_words places words

-- ---- back again

-- the name of which these are the bytes, and zeros behind it
abbrev pub padded_name : List ℕ → Option (List ℕ)
padded_name bytes =
    if is_long_enough (name_length bytes) && list_all (λ b. b == 0) (drop (name_length bytes) bytes) then Some (take (name_length bytes) bytes) else None

abbrev pub name_read : Option (List ℕ) → Option (List ℕ)
name_read None = None
name_read (Some bytes) = if length bytes == 35 then padded_name bytes else None

-- a name behind its mark, and what stands behind its address
abbrev pub named_text : Option (List ℕ) → List ℕ → List ℕ
named_text None rest = []
named_text (Some name) rest = codes "; '" ++ (name ++ rest)

-- a word that begins with an address which has a short one, with that in its place; nothing of any other
abbrev pub long_text : List ℕ → List ℕ
long_text word = named_text (name_read (read_hex_string (take 70 word))) (drop 70 word)

abbrev pub shortened_text : List ℕ → List ℕ
shortened_text word = if nat_le 70 (length word) then long_text word else []

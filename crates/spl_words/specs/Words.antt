-- Words, and words in a row: how a value is spelled, which values have a spelling, and what is read (docs/RULES.md, Schedules).
use Rattle.std.specs.Prelude.{ℕ, ◌+◌, ◌-◌, ◌*◌, ◌/◌, ◌%◌, Bool, true, false, not, ◌&&◌, ◌||◌, ◌==◌, nat_le, nat_lt, List, [], ◌∷◌, length, map, take, drop}
use Rattle.std.specs.{Prelude.{slice_index, Option, Some, None, Result, Ok, Err, ◌≡◌, if◌then◌else◌, decimal}, List.{list_all, list_any, flat_map}}
use Rattle.std.specs.{List.{slice_split, join_with_byte}, Option.{option_map, option_and_then}, Str.bytes_eq}
use Rattle.spl_base.specs.Ids.{is_digit, is_label, within}
use Rattle.spl_words.specs.declared.fault.LineFault.{LineFault, TheVariants.{NoMemory, BadLine}}

-- how a value of A is spelled, what is read from a spelling, and which values have one
pub record Spelling (S A : Type 0) : Type 0 where
  pub spell : A → S
  pub read : S → Option A
  pub fits : A → Bool

-- one word
abbrev pub Word : Type 0 → Type 0
Word A = Spelling (List ℕ) A

-- words in a row
abbrev pub Words : Type 0 → Type 0
Words A = Spelling (List (List ℕ)) A

-- the parts between the bytes c
abbrev pub split : ℕ → List ℕ → List (List ℕ)
split c xs = slice_split (λ b. b == c) xs

infixl 10 ◌>>=◌
abbrev pub ◌>>=◌ : {A B : Type 0} → Option A → (A → Option B) → Option B
o >>= f = option_and_then f o

-- the bytes themselves, where the test passes
abbrev pub text : (List ℕ → Bool) → Word (List ℕ)
text p = record { spell = λ x. x; read = within p; fits = p }

-- 1 to 128 graphic bytes
abbrev pub is_name : List ℕ → Bool
is_name xs = nat_le 1 (length xs) && is_label xs

-- decimal digits, the first of them 0 only where it is alone
abbrev pub is_decimal : List ℕ → Bool
is_decimal xs = nat_le 1 (length xs) && list_all is_digit xs && (length xs == 1 || not (slice_index xs 0 == 48))

-- the number that digits stand for, after those of n
abbrev pub value_after : ℕ → List ℕ → ℕ
value_after n [] = n
value_after n (b ∷ bs) = value_after (n * 10 + (b - 48)) bs

abbrev pub value : List ℕ → ℕ
value xs = value_after 0 xs

-- a number below the limit
abbrev pub number : ℕ → Word ℕ
number limit = record { spell = decimal; read = λ xs. if is_decimal xs && nat_lt (value xs) limit then Some (value xs) else None; fits = λ n. nat_lt n limit }

-- one of two words
abbrev pub read_flag : List ℕ → List ℕ → List ℕ → Option Bool
read_flag on off xs = if bytes_eq xs on then Some true else if bytes_eq xs off then Some false else None

abbrev pub flag : List ℕ → List ℕ → Word Bool
flag on off = record { spell = λ b. if b then on else off; read = read_flag on off; fits = λ b. true }

-- a byte in two digits of 0 to 9 and a to f
abbrev pub hex_digit : ℕ → ℕ
hex_digit n = if nat_lt n 10 then 48 + n else 87 + n

abbrev pub hex_byte : ℕ → List ℕ
hex_byte b = hex_digit (b / 16) ∷ hex_digit (b % 16) ∷ []

abbrev pub hex_value : ℕ → Option ℕ
hex_value c = if is_digit c then Some (c - 48) else if nat_le 97 c && nat_le c 102 then Some (c - 87) else None

abbrev pub read_hex : List ℕ → Option ℕ
read_hex (a ∷ b ∷ []) = hex_value a >>= λ high. hex_value b >>= λ low. Some (high * 16 + low)
read_hex _ = None

abbrev pub hex : Word ℕ
hex = record { spell = hex_byte; read = read_hex; fits = λ b. nat_lt b 256 }

-- bytes, each of them so, with nothing between
abbrev pub read_hex_string : List ℕ → Option (List ℕ)
read_hex_string [] = Some []
read_hex_string (a ∷ []) = None
read_hex_string (a ∷ b ∷ xs) = read_hex (a ∷ b ∷ []) >>= λ first. read_hex_string xs >>= λ others. Some (first ∷ others)

abbrev pub hex_string : Word (List ℕ)
hex_string = record { spell = λ bs. flat_map hex_byte bs; read = read_hex_string; fits = list_all (λ b. nat_lt b 256) }

-- words with the byte c between them are one word
abbrev pub joined : {A : Type 0} → ℕ → Words A → Word A
joined c ws = record { spell = λ x. join_with_byte c (ws.spell x); read = λ bs. ws.read (split c bs); fits = ws.fits }

-- no more words
abbrev pub read_end : List (List ℕ) → Option (Unit {0})
read_end [] = Some tt
read_end (x ∷ xs) = None

abbrev pub end : Words (Unit {0})
end = record { spell = λ _. []; read = read_end; fits = λ _. true }

-- the first word, and the words after it
abbrev pub read_first : {A : Type 0} → Word A → List (List ℕ) → Option (A × List (List ℕ))
read_first w [] = None
read_first w (x ∷ xs) = w.read x >>= λ a. Some (a, xs)

-- a word, and then words
infixr 50 ◌&◌
abbrev pub ◌&◌ : {A B : Type 0} → Word A → Words B → Words (A × B)
w & ws = record {
  spell = λ x. w.spell x.0 ∷ ws.spell x.1;
  read = λ xs. read_first w xs >>= λ first. ws.read first.1 >>= λ b. Some (first.0, b);
  fits = λ x. w.fits x.0 && ws.fits x.1;
}

-- each word by itself
abbrev pub read_each : {A : Type 0} → (List ℕ → Option A) → List (List ℕ) → Option (List A)
read_each read [] = Some []
read_each read (x ∷ xs) = read x >>= λ a. read_each read xs >>= λ rest. Some (a ∷ rest)

-- 1 to so many words of one kind
abbrev pub up_to : {A : Type 0} → ℕ → Word A → Words (List A)
up_to most w = record {
  spell = map w.spell;
  read = λ xs. if nat_le 1 (length xs) && nat_le (length xs) most then read_each w.read xs else None;
  fits = λ xs. nat_le 1 (length xs) && nat_le (length xs) most && list_all w.fits xs;
}

-- the same spelling for another type: a value of it that passes the test stands for a value of the first
abbrev pub meaning : {S A B : Type 0} → (B → Bool) → (A → B) → (B → A) → Spelling S A → Spelling S B
meaning ok to from s = record { spell = λ x. s.spell (from x); read = λ xs. option_map to (s.read xs); fits = λ x. ok x && s.fits (from x) }

-- the values that pass the test alone
abbrev pub that : {S A : Type 0} → (A → Bool) → Spelling S A → Spelling S A
that ok s = record { spell = s.spell; read = λ x. s.read x >>= λ a. if ok a then Some a else None; fits = λ a. ok a && s.fits a }

-- words in a row after a name, and what they mean
pub record Kind (A : Type 0) : Type 0 where
  pub name : List ℕ
  pub read : List (List ℕ) → Option A

abbrev pub kind : {A B : Type 0} → List ℕ → Words A → (A → B) → Kind B
kind name ws to = record { name = name; read = λ xs. option_map to (ws.read xs) }

-- what the words after a name mean, by the first kind of that name
abbrev pub read_kind : {A : Type 0} → List (Kind A) → Option A → List ℕ → List (List ℕ) → Option A
read_kind [] other name xs = other
read_kind (k ∷ ks) other name xs = if bytes_eq name k.name then k.read xs else read_kind ks other name xs

-- one of these kinds has the name
abbrev pub has_kind : {A : Type 0} → List (Kind A) → List ℕ → Bool
has_kind ks name = list_any (λ k. bytes_eq name k.name) ks

-- what stands after these bytes, where a word begins with them
abbrev pub after : List ℕ → List ℕ → Option (List ℕ)
after keyword xs = if bytes_eq (take (length keyword) xs) keyword then Some (drop (length keyword) xs) else None

-- a word after these bytes, and what it means
pub record Keyword (A : Type 0) : Type 0 where
  pub bytes : List ℕ
  pub read : List ℕ → Option A

abbrev pub keyword : {A B : Type 0} → List ℕ → Word A → (A → B) → Keyword B
keyword bytes w to = record { bytes = bytes; read = λ xs. option_map to (w.read xs) }

abbrev pub read_after : {A : Type 0} → Option (List ℕ) → (List ℕ → Option A) → Option A → Option A
read_after None read other = other
read_after (Some xs) read other = read xs

-- what a word means, by the first of these bytes that it begins with
abbrev pub read_keyword : {A : Type 0} → List (Keyword A) → Option A → List ℕ → Option A
read_keyword [] other xs = other
read_keyword (f ∷ fs) other xs = read_after (after f.bytes xs) f.read (read_keyword fs other xs)

-- each word after a space
abbrev pub after_spaces : List (List ℕ) → List ℕ
after_spaces ws = flat_map (λ w. 32 ∷ w) ws

-- ---- what a call read

abbrev pub Fails : {A : Type 0} → LineFault → Option A → Type 0
Fails NoMemory found = Unit {0}
Fails BadLine found = found ≡ None

-- A call reads what the spelling reads, unless memory ran out.
abbrev pub Reads : {A : Type 0} → Result A LineFault → Option A → Type 0
Reads (Ok x) found = found ≡ Some x
Reads (Err e) found = Fails e found

-- The same of a call that takes words from the beginning, and these are the words after.
abbrev pub Takes : {A : Type 0} → Result A LineFault → List (List ℕ) → Option (A × List (List ℕ)) → Type 0
Takes (Ok x) after found = found ≡ Some (x, after)
Takes (Err e) after found = Fails e found

-- Forms of answers, and which row of a table an answer fits (docs/RULES.md, Answers as objects).
use Rattle.std.specs.{Prelude.{ℕ, ◌+◌, Bool, true, false, ◌||◌, ◌==◌, List, [], ◌∷◌, Option, Some, None, take, drop, if◌then◌else◌}, List.position}
use Rattle.std.specs.Str.{bytes_eq}
use Rattle.spl_words.specs.Words.{split, is_decimal}
use Rattle.spl_explain.specs.declared.rows.Row.{Row}

-- a field of one word: # a number, $ a text, `,` a list of texts, { an object, ! what a group did
abbrev pub marks_field : ℕ → Bool
marks_field mark = mark == 35 || mark == 36 || mark == 44 || mark == 123 || mark == 33

-- a field of all words that are left: * texts, + numbers
abbrev pub marks_rest : ℕ → Bool
marks_rest mark = mark == 42 || mark == 43

abbrev pub is_field : List ℕ → Bool
is_field [] = false
is_field (mark ∷ name) = marks_field mark

abbrev pub is_rest : List ℕ → Bool
is_rest [] = false
is_rest (mark ∷ name) = marks_rest mark

-- whether a word may stand in a part's place
abbrev pub fits_word : List ℕ → List ℕ → Bool
fits_word part word = is_field part || bytes_eq part word

-- the parts of a form, and the words of an answer
abbrev pub matches_form : List (List ℕ) → List (List ℕ) → Bool
matches_form [] [] = true
matches_form [] (word ∷ words) = false
matches_form (part ∷ parts) [] = is_rest part
matches_form (part ∷ parts) (word ∷ words) = if is_rest part then true else (if fits_word part word then matches_form parts words else false)

-- the first row whose form the words of an answer have
abbrev pub row_of : List Row → List ℕ → Option Row
row_of [] answer = None
row_of (row ∷ rows) answer = if matches_form (split 32 row.form.now) (split 32 answer) then Some row else row_of rows answer

-- how many bytes stand before the answer: the number of its line and a space, where there is one
abbrev pub front_at : Option ℕ → List ℕ → ℕ
front_at None line = 0
front_at (Some place) line = if is_decimal (take place line) then place + 1 else 0

abbrev pub front : List ℕ → ℕ
front line = front_at (position (λ b. b == 32) line) line

abbrev pub answer_of : List ℕ → List ℕ
answer_of line = drop (front line) line

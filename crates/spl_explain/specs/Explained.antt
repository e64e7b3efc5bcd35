-- What stands behind an answer for people (docs/RULES.md, Answers in words).
use Rattle.std.specs.{Prelude.{ℕ, ◌&&◌, ◌==◌, List, [], ◌∷◌, ◌++◌, Option, Some, None, codes, if◌then◌else◌}, List.flat_map, Str.bytes_eq}
use Rattle.spl_short.specs.Written.{shortened_text}
use Rattle.spl_words.specs.Words.{split}
use Rattle.spl_explain.specs.{Forms.{is_field, is_rest, row_of, answer_of}, declared.{rows.Row.Row, values.Value.Value}}

-- what a field is about: its name, or of what a group did `note`
abbrev pub subject : List ℕ → List ℕ
subject [] = []
subject (mark ∷ name) = if mark == 33 then codes "note" else name

-- the words of a value of a subject
abbrev pub value_words : List Value → List ℕ → List ℕ → Option (List ℕ)
value_words [] about word = None
value_words (value ∷ values) about word =
    if bytes_eq value.about.now about && bytes_eq value.text.now word then Some value.words.now else value_words values about word

abbrev pub after_semicolon : Option (List ℕ) → List ℕ
after_semicolon None = []
after_semicolon (Some words) = codes "; " ++ words

-- those of a part's word
abbrev pub said_of : List Value → List ℕ → List ℕ → List ℕ
said_of values part word = if is_field part then after_semicolon (value_words values (subject part) word) else []

-- those of all words of an answer; of words that are left the short addresses
abbrev pub answer_explained : List Value → List (List ℕ) → List (List ℕ) → List ℕ
answer_explained values [] words = []
answer_explained values (part ∷ parts) [] = []
answer_explained values (part ∷ parts) (word ∷ words) =
    if is_rest part then flat_map shortened_text (word ∷ words) else said_of values part word ++ answer_explained values parts words

abbrev pub behind_row : List Value → Option Row → List ℕ → List ℕ
behind_row values None answer = []
behind_row values (Some row) answer = codes "  (" ++ (row.words.now ++ (answer_explained values (split 32 row.form.now) (split 32 answer) ++ codes ")"))

-- what stands behind a line: nothing, where its answer has no row
abbrev pub behind : List Row → List Value → List ℕ → List ℕ
behind rows values line = behind_row values (row_of rows (answer_of line)) (answer_of line)

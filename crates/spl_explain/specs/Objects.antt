-- Answers as JSON objects (docs/RULES.md, Answers as objects).
use Rattle.std.specs.Prelude.{ℕ, ◌-◌, ◌/◌, ◌%◌, Bool, true, false, ◌||◌, ◌==◌, nat_lt, List, [], ◌∷◌, ◌++◌, Option, Some, None, take, codes, if◌then◌else◌}
use Rattle.std.specs.{List.flat_map, Str.bytes_eq}
use Rattle.spl_words.specs.Words.{split, is_decimal, hex_digit}
use Rattle.spl_explain.specs.{Forms.{marks_field, is_rest, row_of, front, answer_of}, declared.rows.Row.Row}

-- a byte within a text: those that JSON doesn't take, and those above ~, by their numbers
abbrev pub escaped : ℕ → List ℕ
escaped b =
    if b == 34 || b == 92 then 92 ∷ b ∷ []
    else if nat_lt b 32 || nat_lt 126 b then 92 ∷ 117 ∷ 48 ∷ 48 ∷ hex_digit (b / 16) ∷ hex_digit (b % 16) ∷ []
    else b ∷ []

abbrev pub quoted : List ℕ → List ℕ
quoted bytes = 34 ∷ (flat_map escaped bytes ++ (34 ∷ []))

-- a member behind others
abbrev pub key : List ℕ → List ℕ
key name = 44 ∷ (quoted name ++ (58 ∷ []))

-- a number, or the text where it is none
abbrev pub number_text : List ℕ → List ℕ
number_text word = if is_decimal word then word else quoted word

-- an object as it is, or the text where it is none
abbrev pub is_object : List ℕ → Bool
is_object [] = false
is_object (b ∷ bs) = b == 123

abbrev pub nested : List ℕ → List ℕ
nested word = if is_object word then word else quoted word

-- an item of a list of numbers, or of texts
abbrev pub item : Bool → List ℕ → List ℕ
item false word = quoted word
item true word = number_text word

abbrev pub items : Bool → List (List ℕ) → List ℕ
items are_numbers [] = []
items are_numbers (x ∷ xs) = item are_numbers x ++ flat_map (λ y. 44 ∷ item are_numbers y) xs

abbrev pub array : Bool → List (List ℕ) → List ℕ
array are_numbers xs = 91 ∷ (items are_numbers xs ++ (93 ∷ []))

-- the items between commas; none of `-`
abbrev pub listed_items : List ℕ → List ℕ
listed_items word = if bytes_eq word (codes "-") then codes "[]" else array false (split 44 word)

-- what a mark makes of a word
abbrev pub marked : ℕ → List ℕ → List ℕ
marked mark word =
    if mark == 35 then number_text word
    else if mark == 44 then listed_items word
    else if mark == 123 then nested word
    else quoted word

-- a part that isn't a field has no member
abbrev pub field_member : List ℕ → List ℕ → List ℕ
field_member [] word = []
field_member (mark ∷ name) word = if marks_field mark then key name ++ marked mark word else []

-- the member of all words that are left
abbrev pub rest_member : List ℕ → List (List ℕ) → List ℕ
rest_member [] words = []
rest_member (mark ∷ name) words = key name ++ array (mark == 43) words

-- those of the parts of a form, by the words of an answer
abbrev pub form_members : List (List ℕ) → List (List ℕ) → List ℕ
form_members [] words = []
form_members (part ∷ parts) [] = if is_rest part then rest_member part [] else []
form_members (part ∷ parts) (word ∷ words) = if is_rest part then rest_member part (word ∷ words) else field_member part word ++ form_members parts words

-- the number of the line, where it has one
abbrev pub line_member : List ℕ → List ℕ
line_member line = if front line == 0 then [] else quoted (codes "line") ++ (58 ∷ (take (front line - 1) line ++ (44 ∷ [])))

-- what it says, or the whole text of an answer that has no row
abbrev pub answer_members : Option Row → List ℕ → List ℕ
answer_members None answer = quoted (codes "text") ++ (58 ∷ quoted answer)
answer_members (Some row) answer = quoted (codes "answer") ++ (58 ∷ (quoted row.name.now ++ form_members (split 32 row.form.now) (split 32 answer)))

abbrev pub object : List Row → List ℕ → List ℕ
object rows line = 123 ∷ (line_member line ++ (answer_members (row_of rows (answer_of line)) (answer_of line) ++ (125 ∷ [])))

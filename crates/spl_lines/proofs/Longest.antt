-- How long lines may be.
use Rattle.std.{specs.{Prelude.{nat_eq, nat_le}, Cmp.Lexicographic.pointwise, List.{list_all, starts_with}}, proofs.Common.{◌≡◌, ℕ, ◌<◌, ◌≤◌, max, Bool}}
use Rattle.std.proofs.{Common.{true, false, ◌&&◌, if◌then◌else◌, List, [], ◌∷◌, ◌++◌, length, take, refl, ◌∙◌, ap, arith}, lemmas.Bool.{and_parts, leb-true}}
use Rattle.std.proofs.lemmas.List.{take-append-le}
use Rattle.spl_base.specs.declared.limit.TheConstants.{LONGEST_LINE}
use Rattle.spl_lines.specs.Lines.{IsLong, IsShort, greatest_by, greatest_line, longer_lines, longest_by, longest_line}

-- each limit is at least the one of all other lines, which is no less than how a line begins
abbrev is_longer : List ℕ × ℕ → Bool
is_longer x = nat_le (length x.0) LONGEST_LINE && nat_le LONGEST_LINE x.1

chosen_above : (n a b : ℕ) (test : Bool) → n ≤ a → n ≤ b → n ≤ (if test then a else b)
chosen_above n a b true first second = first
chosen_above n a b false first second = second

chosen_below : (n a b : ℕ) (test : Bool) → a ≤ n → b ≤ n → (if test then a else b) ≤ n
chosen_below n a b true first second = first
chosen_below n a b false first second = second

least_by : (table : List (List ℕ × ℕ)) (line : List ℕ) → list_all is_longer table ≡ true → LONGEST_LINE ≤ longest_by table line
least_by [] line longer = omega arith
least_by (x ∷ xs) line longer =
    let both = and_parts (is_longer x) (list_all is_longer xs) longer in
    let own = and_parts (nat_le (length x.0) LONGEST_LINE) (nat_le LONGEST_LINE x.1) both.0 in
    chosen_above LONGEST_LINE x.1 (longest_by xs line) (starts_with nat_eq line x.0) (leb-true LONGEST_LINE x.1 own.1) (least_by xs line both.1)

below_greatest : (table : List (List ℕ × ℕ)) (line : List ℕ) → longest_by table line ≤ greatest_by table
below_greatest [] line = omega arith
below_greatest (x ∷ xs) line =
    let rest = below_greatest xs line in
    chosen_below (max x.1 (greatest_by xs)) x.1 (longest_by xs line) (starts_with nat_eq line x.0) (omega arith) (omega (arith, rest))

same_by : (table : List (List ℕ × ℕ)) (line more : List ℕ) → list_all is_longer table ≡ true → LONGEST_LINE < length line
    → longest_by table (line ++ more) ≡ longest_by table line
same_by [] line more longer long = refl
same_by (x ∷ xs) line more longer long =
    let both = and_parts (is_longer x) (list_all is_longer xs) longer in
    let own = and_parts (nat_le (length x.0) LONGEST_LINE) (nat_le LONGEST_LINE x.1) both.0 in
    let least : length x.0 ≤ LONGEST_LINE = leb-true (length x.0) LONGEST_LINE own.0 in
    let prefix : take (length x.0) (line ++ more) ≡ take (length x.0) line = take-append-le (length x.0) line more (omega arith) in
    ap (λ (l : List ℕ). if pointwise nat_eq x.0 l then x.1 else longest_by xs (line ++ more)) prefix
    ∙ ap (λ (n : ℕ). if starts_with nat_eq line x.0 then x.1 else n) (same_by xs line more both.1 long)

are_longer : list_all is_longer longer_lines ≡ true
are_longer = refl

pub least_line : (line : List ℕ) → LONGEST_LINE ≤ longest_line line
least_line line = least_by longer_lines line are_longer

pub short_line : (line : List ℕ) → length line ≤ LONGEST_LINE → IsShort line
short_line line few = let least = least_line line in omega (arith, least, few)

pub short_greatest : (line : List ℕ) → IsShort line → length line ≤ greatest_line
short_greatest line short =
    let few : length line ≤ longest_line line = short in
    let below : longest_line line ≤ greatest_line = below_greatest longer_lines line in
    omega (arith, few, below)

-- a line that is too long already stays so
pub long_more : (line more : List ℕ) → IsLong line → longest_line (line ++ more) ≡ longest_line line
long_more line more long =
    let least = least_line line in
    let over : longest_line line < length line = long in
    same_by longer_lines line more are_longer (omega (arith, least, over))

-- Whether something is written of a line.
use Rattle.std.proofs.{Common.{◌≡◌, Bool, true, false, if◌then◌else◌, ℕ, ◌≤◌, ◌<◌, List, [], ap, ◌∙◌}, lemmas.Bool.{le-leb, lt-leb}}
use Rattle.spl_lines.specs.Tasks.{printed, shown_line, text_told}

pub not_shown : (traced : Bool) (n number : ℕ) (text : List ℕ) → number ≤ n → shown_line traced n number text ≡ []
not_shown traced n number text few = ap (λ (t : Bool). if t then [] else text_told traced number text) (le-leb number n few)

is_told : (traced : Bool) (n number : ℕ) (text : List ℕ) → n < number → shown_line traced n number text ≡ text_told traced number text
is_told traced n number text more = ap (λ (t : Bool). if t then [] else text_told traced number text) (lt-leb number n more)

pub is_answered : (traced : Bool) (n number : ℕ) (text : List ℕ) → n < number → traced ≡ false → shown_line traced n number text ≡ printed number text
is_answered traced n number text more off = is_told traced n number text more ∙ ap (λ (t : Bool). text_told t number text) off

pub is_traced : (traced : Bool) (n number : ℕ) (text : List ℕ) → n < number → traced ≡ true → shown_line traced n number text ≡ text
is_traced traced n number text more on = is_told traced n number text more ∙ ap (λ (t : Bool). text_told t number text) on

-- How a text splits at its line feeds.
use Rattle.std.{specs.List.AllByRecursion, proofs.Common.{◌≡◌, ◌≢◌, ⊎_elim, ℕ, Bool, false, if◌then◌else◌, ◌+◌, ◌<◌, List, [], ◌∷◌, ◌++◌, length, get_or}}
use Rattle.std.proofs.{Common.{take, drop, refl, sym, ◌∙◌, ap, subst, arith, take-append-drop}, lemmas.{List.{take_more, drop_more}, Bool.cases_eq}}
use Rattle.std.proofs.lemmas.Bool.Decides.{nat_tests}
use Rattle.spl_lines.specs.Lines.{lines_of, onto_line, has_feed, rest_of}

-- there is none
abbrev pub NoFeed : List ℕ → Type 0
NoFeed [] = Unit {0}
NoFeed (b ∷ bytes) = (b ≢ 10) × NoFeed bytes

pub NoFeed-push : (bytes : List ℕ) (b : ℕ) → NoFeed bytes → b ≢ 10 → NoFeed (bytes ++ b ∷ [])
NoFeed-push [] b none other = (other, tt)
NoFeed-push (a ∷ bytes) b none other = (none.0, NoFeed-push bytes b none.1 other)

pub lines-other : (b : ℕ) (bytes : List ℕ) → b ≢ 10 → lines_of (b ∷ bytes) ≡ onto_line b (lines_of bytes)
lines-other b bytes other = grind (arith, nat_tests)

pub lines_none : (bytes : List ℕ) → NoFeed bytes → lines_of bytes ≡ []
lines_none [] none = refl
lines_none (b ∷ bytes) none = lines-other b bytes none.0 ∙ ap (onto_line b) (lines_none bytes none.1)

pub lines_first : (line rest : List ℕ) → NoFeed line → lines_of (line ++ 10 ∷ rest) ≡ line ∷ lines_of rest
lines_first [] rest none = refl
lines_first (b ∷ line) rest none = lines-other b (line ++ 10 ∷ rest) none.0 ∙ ap (onto_line b) (lines_first line rest none.1)

pub no_feed : (bytes : List ℕ) → NoFeed bytes → has_feed bytes ≡ false
no_feed [] none = refl
no_feed (b ∷ bytes) none =
    let other = none.0 in
    let rest = no_feed bytes none.1 in
    grind (arith, nat_tests)

pub rest_none : (bytes : List ℕ) → NoFeed bytes → rest_of bytes ≡ bytes
rest_none [] none = refl
rest_none (b ∷ bytes) none = ap (λ (t : Bool). if t then rest_of bytes else b ∷ bytes) (no_feed (b ∷ bytes) none)

onto_more : (b : ℕ) (xs more : List (List ℕ)) → (rest : List (List ℕ)) × (onto_line b (xs ++ more) ≡ onto_line b xs ++ rest)
onto_more b [] more = (onto_line b more, refl)
onto_more b (x ∷ xs) more = (more, refl)

-- the lines of a prefix of a text are a prefix of its lines
pub lines_prefix : (a b : List ℕ) → (rest : List (List ℕ)) × (lines_of (a ++ b) ≡ lines_of a ++ rest)
lines_prefix [] b = (lines_of b, refl)
lines_prefix (c ∷ a) b = ⊎_elim
    (λ (is : c ≡ 10). let (rest, same) = lines_prefix a b in
    (rest, subst (λ (d : ℕ). lines_of (d ∷ a ++ b) ≡ lines_of (d ∷ a) ++ rest) (sym is) (ap (λ (ls : List (List ℕ)). [] ∷ ls) same)))
    (λ (other : c ≢ 10).
    let (rest, same) = lines_prefix a b in
    let (more, onto) = onto_more c (lines_of a) rest in
    (more, lines-other c (a ++ b) other ∙ ap (onto_line c) same ∙ onto ∙ ap (λ (ls : List (List ℕ)). ls ++ more) (sym (lines-other c a other))))
    (cases_eq c 10)

pub all_prefix : (P : List ℕ → Type 0) (xs ys : List (List ℕ)) → AllByRecursion P (xs ++ ys) → AllByRecursion P xs
all_prefix P [] ys all = tt
all_prefix P (x ∷ xs) ys all = (all.0, all_prefix P xs ys all.1)

-- a text is what stands before a place, the byte there and what stands after it
pub split_at : (bytes : List ℕ) (i : ℕ) → i < length bytes → get_or bytes i 0 ≡ 10 → bytes ≡ take i bytes ++ 10 ∷ drop (i + 1) bytes
split_at bytes i within feed =
    sym (take-append-drop i bytes) ∙ ap (λ (l : List ℕ). take i bytes ++ l) (drop_more bytes i 0 within ∙ ap (λ (b : ℕ). b ∷ drop (i + 1) bytes) feed)

pub NoFeed_more : (bytes : List ℕ) (i : ℕ) → i < length bytes → NoFeed (take i bytes) → get_or bytes i 0 ≢ 10 → NoFeed (take (i + 1) bytes)
NoFeed_more bytes i within none other = subst NoFeed (sym (take_more bytes i 0 within)) (NoFeed-push (take i bytes) (get_or bytes i 0) none other)

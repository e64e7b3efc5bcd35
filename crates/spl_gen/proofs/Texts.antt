-- Texts of lines after one another.
use Rattle.std.{specs.{Prelude.{Result, Ok, Err, OnOk}, List.flat_map}, proofs.Common.{◌≡◌, ℕ, ◌+◌, ◌-◌, ◌<◌, List, [], ◌∷◌, ◌++◌, length, get_or, take}}
use Rattle.std.proofs.{Common.{drop, refl, sym, ap, ◌∙◌, append_assoc}, lemmas.{List.{take_more, append-nil}, Grind.flat_map-append}}
use Rattle.spl_sched.specs.{Grammar.spelling, declared.line.Line.Line}
use Rattle.spl_gen.specs.{Circuits.circuit_members, Generated.text_of, declared.circuit.Circuit.{Circuit, TheVariants.{First, Second, Third}}}

pub text-append : (xs ys : List Line) → text_of (xs ++ ys) ≡ text_of xs ++ text_of ys
unfolding text_of
text-append xs ys = flat_map-append (λ l. spelling l ++ 10 ∷ []) xs ys

pub text_none : (w : List ℕ) → w ≡ w ++ text_of []
unfolding text_of
text_none w = sym (append-nil w)

-- some lines after a text, and then others
pub text_then : (xs ys : List Line) (w v u : List ℕ) → v ≡ w ++ text_of xs → u ≡ v ++ text_of ys → u ≡ w ++ text_of (xs ++ ys)
text_then xs ys w v u hv hu =
    hu ∙ ap (λ (z : List ℕ). z ++ text_of ys) hv ∙ append_assoc w (text_of xs) (text_of ys) ∙ ap (λ (z : List ℕ). w ++ z) (sym (text-append xs ys))

pub put_then : {E : Type 0} (result : Result (Unit {0}) E) (xs ys : List Line) (w v u : List ℕ) → v ≡ w ++ text_of xs → OnOk result (u ≡ v ++ text_of ys)
    → OnOk result (u ≡ w ++ text_of (xs ++ ys))
put_then (Ok x) xs ys w v u hv hu = text_then xs ys w v u hv hu
put_then (Err e) xs ys w v u hv hu = tt

pub put_as : {E : Type 0} (result : Result (Unit {0}) E) (xs ys : List Line) (w u : List ℕ) → OnOk result (u ≡ w ++ text_of xs) → xs ≡ ys
    → OnOk result (u ≡ w ++ text_of ys)
put_as (Ok x) xs ys w u h e = h ∙ ap (λ (ls : List Line). w ++ text_of ls) e
put_as (Err x) xs ys w u h e = tt

-- all members but the first
pub further : (c : Circuit) → take (length (circuit_members c) - 1) (drop 1 (circuit_members c)) ≡ drop 1 (circuit_members c)
further First = refl
further Second = refl
further Third = refl

-- after a text the lines of some items, and then those of one item more
pub text_more : {A : Type 0} (f : A → List Line) (w v u : List ℕ) (xs : List A) (i : ℕ) (d : A) → i < length xs → v ≡ w ++ text_of (flat_map f (take i xs))
    → u ≡ v ++ text_of (f (get_or xs i d)) → u ≡ w ++ text_of (flat_map f (take (i + 1) xs))
text_more f w v u xs i d lt hv hu =
    let x = get_or xs i d in
    let prefix : List Line = flat_map f (take i xs) in
    let lines : flat_map f (take (i + 1) xs) ≡ prefix ++ f x =
    ap (flat_map f) (take_more xs i d lt) ∙ flat_map-append f (take i xs) (x ∷ []) ∙ ap (λ (ls : List Line). prefix ++ ls) (append-nil (f x)) in
    text_then prefix (f x) w v u hv hu ∙ ap (λ (ls : List Line). w ++ text_of ls) (sym lines)

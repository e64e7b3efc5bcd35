-- How a message is cut into bodies.
use Rattle.std.{specs.List.All, proofs.Common.{◌≡◌, ℕ, zero, suc, ◌+◌, ◌≤◌, ◌<◌, ◌⊎◌, inl, inr, Bool, true, false, cond, ltb, List, [], ◌∷◌, ◌++◌, length}}
use Rattle.std.proofs.{Common.{take, drop, refl, sym, ap, subst, ◌∙◌, append_assoc, length-drop, arith}, lemmas.Bool.{ltb-true, ltb-false, lt-ltb, le-ltb}}
use Rattle.std.proofs.lemmas.{Bool.cases_Bool, List.{length-take-le, Elements.{All-nil, All-cons}}}
use Rattle.spl_base.specs.Form.{number_bytes}
use Rattle.spl_frame.specs.declared.header.TheConstants.{LONGEST_BODY}
use Rattle.spl_wire.specs.{Forms.message_form, declared.message.Message.Message}
use Rattle.spl_fragments.specs.{Parts.{IsSized, message_bodies, cut_parts, parts}, declared.bodies.TheConstants.{LONGEST_PART, MORE, LAST}}

-- a part of so many bytes, and then the others; or the last one
abbrev pub cut_by : ℕ → Bool → List ℕ → List (List ℕ) → List (List ℕ)
cut_by n true bytes others = (MORE ∷ take n bytes) ∷ others
cut_by n false bytes others = (LAST ∷ bytes) ∷ []

pub cut_step : (n k : ℕ) (bytes : List ℕ) → cut_parts n (suc k) bytes ≡ cut_by n (ltb n (length bytes)) bytes (cut_parts n k (drop n bytes))
cut_step n k bytes = by (ltb n (length bytes))
  where
    by : (b : Bool) → cond b ((MORE ∷ take n bytes) ∷ cut_parts n k (drop n bytes)) ((LAST ∷ bytes) ∷ []) ≡ cut_by n b bytes (cut_parts n k (drop n bytes))
    by true = refl
    by false = refl

same_by : (n : ℕ) (bytes : List ℕ) (xs ys : List (List ℕ)) (b : Bool) → (b ≡ true → xs ≡ ys) → cut_by n b bytes xs ≡ cut_by n b bytes ys
same_by n bytes xs ys true same = ap (λ (l : List (List ℕ)). (MORE ∷ take n bytes) ∷ l) (same refl)
same_by n bytes xs ys false same = refl

-- however many are cut off at most
same_cut : (n k m : ℕ) (bytes : List ℕ) → 0 < n → length bytes ≤ k → length bytes ≤ m → cut_parts n k bytes ≡ cut_parts n m bytes
same_cut n zero zero bytes some l r = refl
same_cut n zero (suc m) bytes some l r =
    sym (cut_step n m bytes ∙ ap (λ (b : Bool). cut_by n b bytes (cut_parts n m (drop n bytes))) (le-ltb n (length bytes) (omega arith)))
same_cut n (suc k) zero bytes some l r =
    cut_step n k bytes ∙ ap (λ (b : Bool). cut_by n b bytes (cut_parts n k (drop n bytes))) (le-ltb n (length bytes) (omega arith))
same_cut n (suc k) (suc m) bytes some l r =
    cut_step n k bytes
    ∙ same_by n bytes (cut_parts n k (drop n bytes)) (cut_parts n m (drop n bytes)) (ltb n (length bytes)) (λ e.
    let long = ltb-true n (length bytes) e in
    same_cut n k m (drop n bytes) some (omega (arith, long, l, some, length-drop n bytes)) (omega (arith, long, r, some, length-drop n bytes)))
    ∙ sym (cut_step n m bytes)

-- bytes of which more remain than a part has, and others
pub cut_more : (n : ℕ) (bytes : List ℕ) → 0 < n → n < length bytes
    → cut_parts n (length bytes) bytes ≡ (MORE ∷ take n bytes) ∷ cut_parts n (length (drop n bytes)) (drop n bytes)
cut_more n bytes some long =
    same_cut n (length bytes) (suc (length bytes)) bytes some (omega arith) (omega arith)
    ∙ cut_step n (length bytes) bytes
    ∙ ap (λ (b : Bool). cut_by n b bytes (cut_parts n (length bytes) (drop n bytes))) (lt-ltb n (length bytes) long)
    ∙ ap (λ (l : List (List ℕ)). (MORE ∷ take n bytes) ∷ l)
    (same_cut n (length bytes) (length (drop n bytes)) (drop n bytes) some (omega (arith, length-drop n bytes)) (omega arith))

pub cut_last : (n : ℕ) (bytes : List ℕ) → 0 < n → length bytes ≤ n → cut_parts n (length bytes) bytes ≡ (LAST ∷ bytes) ∷ []
cut_last n bytes some short =
    same_cut n (length bytes) (suc (length bytes)) bytes some (omega arith) (omega arith)
    ∙ cut_step n (length bytes) bytes
    ∙ ap (λ (b : Bool). cut_by n b bytes (cut_parts n (length bytes) (drop n bytes))) (le-ltb n (length bytes) short)

-- ---- how long they are

sized_part : (tag : ℕ) (bytes : List ℕ) → length bytes + 1 ≤ LONGEST_BODY → IsSized (tag ∷ bytes)
sized_part tag bytes l = record { some = omega arith; most = omega (arith, l) }

sized_by : (n : ℕ) (bytes : List ℕ) (others : List (List ℕ)) (b : Bool) → n + 1 ≤ LONGEST_BODY → (b ≡ true → (n ≤ length bytes) × All IsSized others)
    → (b ≡ false → length bytes ≤ n) → All IsSized (cut_by n b bytes others)
sized_by n bytes others true small more last =
    let it = more refl in
    let size : length (take n bytes) ≡ n = length-take-le n bytes it.0 in
    All-cons IsSized (MORE ∷ take n bytes) others (sized_part MORE (take n bytes) (omega (arith, size, small))) it.1
sized_by n bytes others false small more last = All-cons IsSized (LAST ∷ bytes) [] (sized_part LAST bytes (omega (arith, small, last refl))) (All-nil IsSized)

-- each part has its tag, and at most so many bytes besides
cut_sized : (n k : ℕ) (bytes : List ℕ) → length bytes ≤ k → n + 1 ≤ LONGEST_BODY → 0 < n → All IsSized (cut_parts n k bytes)
cut_sized n zero bytes l small some = All-cons IsSized (LAST ∷ bytes) [] (sized_part LAST bytes (omega (arith, l, small, some))) (All-nil IsSized)
cut_sized n (suc k) bytes l small some =
    subst (All IsSized) (sym (cut_step n k bytes)) (sized_by n bytes (cut_parts n k (drop n bytes)) (ltb n (length bytes)) small
    (λ e.
    let long = ltb-true n (length bytes) e in
    (omega (arith, long), cut_sized n k (drop n bytes) (omega (arith, l, some, long, length-drop n bytes)) small some))
    (λ e. ltb-false n (length bytes) e))

pub bodies_sized : (bytes : List ℕ) → 1 ≤ length bytes → All IsSized (message_bodies bytes)
bodies_sized bytes some = by (cases_Bool (ltb LONGEST_BODY (length bytes)))
  where
    by : (ltb LONGEST_BODY (length bytes) ≡ true) ⊎ (ltb LONGEST_BODY (length bytes) ≡ false) → All IsSized (message_bodies bytes)
    by (inl e) =
        subst (λ (b : Bool). All IsSized (cond b (parts bytes) (bytes ∷ []))) (sym e)
        (cut_sized LONGEST_PART (length bytes) bytes (omega arith) (omega arith) (omega arith))
    by (inr e) =
        let short = ltb-false LONGEST_BODY (length bytes) e in
        subst (λ (b : Bool). All IsSized (cond b (parts bytes) (bytes ∷ []))) (sym e)
        (All-cons IsSized bytes [] (record { some = some; most = short }) (All-nil IsSized))

-- a message has a tag
pub some_bytes : (m : Message) → 1 ≤ length (message_form.spell m)
unfolding number_bytes
some_bytes m = omega arith

-- ---- one part after another

pub cut_goes_on : (done : List (List ℕ)) (rest : List ℕ) (all : List (List ℕ)) → LONGEST_PART < length rest → done ++ parts rest ≡ all
    → (done ++ (MORE ∷ take LONGEST_PART rest) ∷ []) ++ parts (drop LONGEST_PART rest) ≡ all
cut_goes_on done rest all long is =
    append_assoc done ((MORE ∷ take LONGEST_PART rest) ∷ []) (parts (drop LONGEST_PART rest))
    ∙ ap (λ (l : List (List ℕ)). done ++ l) (sym (cut_more LONGEST_PART rest (omega arith) long)) ∙ is

pub cut_ends : (done : List (List ℕ)) (rest : List ℕ) (all : List (List ℕ)) → length rest ≤ LONGEST_PART → done ++ parts rest ≡ all
    → done ++ (LAST ∷ rest) ∷ [] ≡ all
cut_ends done rest all short is = ap (λ (l : List (List ℕ)). done ++ l) (sym (cut_last LONGEST_PART rest (omega arith) short)) ∙ is

-- The lines so far, and the next.
use Rattle.std.{specs.List.AllByRecursion, proofs.Common.{◌≡◌, ℕ, zero, suc, ◌+◌, ◌-◌, List, [], ◌∷◌, ◌++◌, length, take, drop, refl, ◌∙◌, ap, subst, arith}}
use Rattle.std.proofs.{Common.append_assoc, Math.Seq.take-append_seam, lemmas.List.{drop_at, take_all}}

-- what holds of all lines and of the next
pub all-push : (P : List ℕ → Type 0) (xs : List (List ℕ)) (x : List ℕ) → AllByRecursion P xs → P x → AllByRecursion P (xs ++ x ∷ [])
all-push P [] x all good = (good, tt)
all-push P (y ∷ xs) x all good = (all.0, all-push P xs x all.1 good)

-- what holds of all holds of the one at a place
pub all_at : (P : List ℕ → Type 0) (lines : List (List ℕ)) (n : ℕ) (line : List ℕ) (more : List (List ℕ)) → drop n lines ≡ line ∷ more
    → AllByRecursion P lines → P line
all_at P [] zero line more place good = absurd cc
all_at P [] (suc n) line more place good = absurd cc
all_at P (l ∷ lines) zero line more place good = let same : l ≡ line = cc in subst P same good.0
all_at P (l ∷ lines) (suc n) line more place good = all_at P lines n line more place good.1

-- a line more, and what stands after it
module _ (before : List (List ℕ)) (line : List ℕ) (rest all : List (List ℕ)) (is : all ≡ (before ++ line ∷ []) ++ rest) where
  pub whole : all ≡ before ++ line ∷ rest
  whole = is ∙ append_assoc before (line ∷ []) rest

  module _ (number : ℕ) (counted : number ≡ length before + 1) where
    -- the lines before the one with this number
    pub before_it : take (number - 1) all ≡ before
    before_it =
        let same : number - 1 ≡ length before = omega arith in
        rw same (ap (λ (ls : List (List ℕ)). take (length before) ls) whole ∙ take-append_seam before (line ∷ rest))

    -- and that one
    pub it_and_more : drop (number - 1) all ≡ line ∷ rest
    it_and_more =
        let same : number - 1 ≡ length before = omega arith in
        rw same (ap (λ (ls : List (List ℕ)). drop (length before) ls) whole ∙ drop_at before (line ∷ rest) (length before) refl)

-- all lines come before the one after them
pub all_before : (lines all : List (List ℕ)) (number : ℕ) → all ≡ lines → number ≡ length lines + 1 → take (number - 1) all ≡ lines
all_before lines all number same counted = ap (λ (ls : List (List ℕ)). take (number - 1) ls) same ∙ take_all (number - 1) lines (omega arith)

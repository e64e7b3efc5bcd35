-- The lines read so far, and the next.
use Rattle.std.proofs.Common.{◌≡◌, ℕ, ◌+◌, ◌-◌, List, [], ◌∷◌, ◌++◌, length, take, drop, refl, ◌∙◌, ap, arith, append_assoc}
use Rattle.std.proofs.{Math.Seq.take-append_seam, lemmas.List.{drop_at, take_all}}

-- a line more, and what stands after it
module _ (before : List (List ℕ)) (line : List ℕ) (rest all : List (List ℕ)) (is : all ≡ (before ++ line ∷ []) ++ rest) where
  pub whole : all ≡ before ++ line ∷ rest
  whole = is ∙ append_assoc before (line ∷ []) rest

  module _ (number : ℕ) (counted : number ≡ length before + 1) where
    -- the lines before the one with this number
    pub before_it : take (number - 1) all ≡ before
    before_it =
        let same : number - 1 ≡ length before = omega arith in
        rw same (ap (λ (ls : List (List ℕ)). take (length before) ls) whole ∙ take-append_seam before (line ∷ rest))

    -- and that one
    pub it_and_more : drop (number - 1) all ≡ line ∷ rest
    it_and_more =
        let same : number - 1 ≡ length before = omega arith in
        rw same (ap (λ (ls : List (List ℕ)). drop (length before) ls) whole ∙ drop_at before (line ∷ rest) (length before) refl)

-- all lines come before the one after them
pub all_before : (lines all : List (List ℕ)) (number : ℕ) → all ≡ lines → number ≡ length lines + 1 → take (number - 1) all ≡ lines
all_before lines all number same counted = ap (λ (ls : List (List ℕ)). take (number - 1) ls) same ∙ take_all (number - 1) lines (omega arith)

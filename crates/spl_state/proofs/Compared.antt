-- Bytes that were compared in the lanes of vectors.
use Rattle.std.proofs.Common.{◌≡◌, ℕ, ◌+◌, ◌-◌, ◌*◌, ◌%◌, ◌^◌, ◌≤◌, Bool, true, false, not, cond, eqb, List, [], ◌∷◌, length, map, refl, sym, ap, subst, ◌∙◌}
use Rattle.std.proofs.{Common.{arith, w8}, lemmas.{Bool.eqb-true, Simd.{tops_compared, mask_l-mod, length-zip2}}}
use lib.Lanes.{zip2, mask_l, top}
use mir.Val.{bits, hbits}

abbrev differ : ℕ → ℕ → Bool
differ x y = not (eqb x y)

one_more : (x y : ℕ) (xs ys : List ℕ) (rest : List Bool) → (mask_l rest ≡ 0 → xs ≡ ys) → mask_l (differ x y ∷ rest) ≡ 0 → x ∷ xs ≡ y ∷ ys
one_more x y xs ys rest others none = by (eqb x y) refl
  where
    by : (b : Bool) → eqb x y ≡ b → x ∷ xs ≡ y ∷ ys
    by true is =
        let later : 0 + 2 * mask_l rest ≡ 0 = subst (λ b. cond (not b) 1 0 + 2 * mask_l rest ≡ 0) is none in
        let first = eqb-true x y is in
        let same = others (omega (arith, later)) in
        λ i. first i ∷ same i
    by false is =
        let some : 1 + 2 * mask_l rest ≡ 0 = subst (λ b. cond (not b) 1 0 + 2 * mask_l rest ≡ 0) is none in
        absurd (omega (arith, some))

same_lanes : (xs ys : List ℕ) → length xs ≡ length ys → mask_l (zip2 differ xs ys) ≡ 0 → xs ≡ ys
same_lanes [] [] sized none = refl
same_lanes [] (y ∷ ys) sized none = absurd (omega (arith, sized))
same_lanes (x ∷ xs) [] sized none = absurd (omega (arith, sized))
same_lanes (x ∷ xs) (y ∷ ys) sized none =
    let alike : length xs ≡ length ys = omega (arith, sized) in
    one_more x y xs ys (zip2 differ xs ys) (same_lanes xs ys alike) none

-- where no lane differs, the vectors are the same
pub same_vectors : (xs ys : List ℕ) → length xs ≡ length ys → length xs ≤ 64
    → eqb (mask_l (map (top (hbits w8)) (zip2 (λ a b. cond (differ a b) (2 ^ bits w8 - 1) 0) xs ys)) % 2 ^ 64) 0 ≡ true → xs ≡ ys
same_vectors xs ys sized few held =
    let tests = zip2 differ xs ys in
    let all : length tests ≤ 64 = omega (arith, length-zip2 differ xs ys sized, few) in
    same_lanes xs ys sized (sym (mask_l-mod tests 64 all) ∙ ap (λ ms. mask_l ms % 2 ^ 64) (sym (tops_compared w8 differ xs ys)) ∙ eqb-true _ 0 held)

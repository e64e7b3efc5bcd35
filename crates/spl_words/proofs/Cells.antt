-- Digits that are read into cells, two for each.
use Rattle.std.{specs.List.list_all, proofs.Common.{◌≡◌, ℕ, ◌+◌, ◌*◌, ◌<◌, Bool, true, false, List, [], ◌∷◌, ◌++◌, length, take, get_or, slice_set, Option}}
use Rattle.std.proofs.{Common.{Some, None, refl, sym, ap, ◌∙◌, arith, append_assoc}, lemmas.List.{take_more, take_more_set, Folds.list_all_at}}
use Rattle.spl_words.{specs.{HexWords.is_lower_digit, Words.{hex_value, read_hex, read_hex_string, ◌>>=◌}}, proofs.WordLaws.some_is}

-- each of them is a digit
pub digit_at : (xs : List ℕ) (i : ℕ) → list_all is_lower_digit xs ≡ true → i < length xs → is_lower_digit (get_or xs i 0) ≡ true
digit_at xs i all lt = at (is_lower_digit (get_or xs i 0)) refl
  where
    at : (p : Bool) → is_lower_digit (get_or xs i 0) ≡ p → p ≡ true
    at true e = refl
    at false e = let none = list_all_at is_lower_digit xs i 0 lt e in absurd cc

-- two more digits are one more byte
two_more : (xs : List ℕ) (a b h l : ℕ) (bs : List ℕ) → hex_value a ≡ Some h → hex_value b ≡ Some l → read_hex_string xs ≡ Some bs
    → read_hex_string (xs ++ a ∷ b ∷ []) ≡ Some (bs ++ (h * 16 + l) ∷ [])
two_more [] a b h l bs va vb e = let none : [] ≡ bs = some_is [] bs e in rw (va, vb) (ap (λ (us : List ℕ). Some (us ++ (h * 16 + l) ∷ [])) none)
two_more (x ∷ []) a b h l bs va vb e = absurd cc
two_more (x ∷ y ∷ xs) a b h l bs va vb e = at (read_hex (x ∷ y ∷ [])) (read_hex_string xs) refl (λ us. two_more xs a b h l us va vb) e
  where
    more : List ℕ
    more = xs ++ a ∷ b ∷ []

    at : (p : Option ℕ) (q : Option (List ℕ)) → read_hex_string xs ≡ q
        → ((us : List ℕ) → read_hex_string xs ≡ Some us → read_hex_string more ≡ Some (us ++ (h * 16 + l) ∷ []))
        → (p >>= λ first. q >>= λ others. Some (first ∷ others)) ≡ Some bs
        → (p >>= λ first. read_hex_string more >>= λ others. Some (first ∷ others)) ≡ Some (bs ++ (h * 16 + l) ∷ [])
    at None q eq next is = absurd cc
    at (Some v) None eq next is = absurd cc
    at (Some v) (Some us) eq next is =
        rw (next us eq) (ap (λ (l' : List ℕ). Some (l' ++ (h * 16 + l) ∷ [])) (some_is (v ∷ us) bs is))

-- the next cell has the byte of the next two digits
pub cell_more : (xs cells : List ℕ) (i h l : ℕ) → length xs ≡ 2 * length cells → i < length cells
    → hex_value (get_or xs (2 * i) 0) ≡ Some h → hex_value (get_or xs (2 * i + 1) 0) ≡ Some l
    → read_hex_string (take (2 * i) xs) ≡ Some (take i cells)
    → read_hex_string (take (2 * (i + 1)) xs) ≡ Some (take (i + 1) (slice_set cells i (16 * h + l)))
cell_more xs cells i h l twice lt vh vl so_far =
    let one : take (2 * i + 1) xs ≡ take (2 * i) xs ++ get_or xs (2 * i) 0 ∷ [] = take_more xs (2 * i) 0 (omega (arith, twice, lt)) in
    let two : take (2 * i + 1 + 1) xs ≡ take (2 * i + 1) xs ++ get_or xs (2 * i + 1) 0 ∷ [] = take_more xs (2 * i + 1) 0 (omega (arith, twice, lt)) in
    let number : 2 * (i + 1) ≡ 2 * i + 1 + 1 = omega arith in
    let byte : h * 16 + l ≡ 16 * h + l = omega arith in
    let all : take (2 * (i + 1)) xs ≡ take (2 * i) xs ++ get_or xs (2 * i) 0 ∷ get_or xs (2 * i + 1) 0 ∷ [] =
    ap (λ n. take n xs) number ∙ two ∙ ap (λ (us : List ℕ). us ++ get_or xs (2 * i + 1) 0 ∷ []) one
    ∙ append_assoc (take (2 * i) xs) (get_or xs (2 * i) 0 ∷ []) (get_or xs (2 * i + 1) 0 ∷ []) in
    ap read_hex_string all
    ∙ two_more (take (2 * i) xs) (get_or xs (2 * i) 0) (get_or xs (2 * i + 1) 0) h l (take i cells) vh vl so_far
    ∙ ap (λ (us : List ℕ). Some us) (ap (λ n. take i cells ++ n ∷ []) byte ∙ sym (take_more_set cells i (16 * h + l) lt))

-- digits of another number spell as many bytes as none of the cells would hold
pub half_read : (xs bs : List ℕ) → read_hex_string xs ≡ Some bs → length xs ≡ 2 * length bs
half_read [] bs e = let none : [] ≡ bs = some_is [] bs e in ap (λ (us : List ℕ). 2 * length us) none
half_read (x ∷ []) bs e = absurd cc
half_read (x ∷ y ∷ xs) bs e = at (read_hex (x ∷ y ∷ [])) (read_hex_string xs) refl (λ us. half_read xs us) e
  where
    at : (p : Option ℕ) (q : Option (List ℕ)) → read_hex_string xs ≡ q → ((us : List ℕ) → read_hex_string xs ≡ Some us → length xs ≡ 2 * length us)
        → (p >>= λ first. q >>= λ others. Some (first ∷ others)) ≡ Some bs → length (x ∷ y ∷ xs) ≡ 2 * length bs
    at None q eq next is = absurd cc
    at (Some v) None eq next is = absurd cc
    at (Some v) (Some us) eq next is =
        let long = next us eq in
        let same : 2 * length (v ∷ us) ≡ 2 * length bs = ap (λ (l' : List ℕ). 2 * length l') (some_is (v ∷ us) bs is) in
        omega (arith, long, same)

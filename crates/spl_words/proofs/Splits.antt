-- Cutting at a byte and joining with it.
use Rattle.std.{specs.List.{All, position, position_or_len, list_all, slice_split, join_with_byte}, proofs.Common.{◌≡◌, ℕ, ◌<◌, Bool, true, false, not, cond}}
use Rattle.std.proofs.Common.{eqb, ltb, ◌+◌, ◌≤◌, take, drop, Some, None, IsTrue, List, [], ◌∷◌, ◌++◌, length, get_or, refl, ap, ◌∙◌, subst, arith}
use Rattle.std.proofs.lemmas.{Bool.{ltb-true, ltb-false, eqb-true, eq-eqb, not-true, and_parts, and_from}, List.Sums.AllPass-from_list_all}
use Rattle.std.proofs.lemmas.List.Splits.{slice_split_none, slice_split_at, slice_split_first, length-slice_split}
use Rattle.spl_words.specs.Words.{split, read_end}

-- the byte is none of these
abbrev pub lacks : ℕ → List ℕ → Bool
lacks c xs = list_all (λ b. not (eqb b c)) xs

not_false : (b : Bool) → b ≡ false → not b ≡ true
not_false true h = absurd cc
not_false false h = refl

all_other : (c : ℕ) (xs : List ℕ) → IsTrue (lacks c xs) → All (λ b. eqb b c ≡ false) xs
all_other c xs h = λ k d lt. not-true (eqb (get_or xs k d) c) (AllPass-from_list_all (λ b. not (eqb b c)) xs h k d lt)

not_same : (p : ℕ → Bool) (c x : ℕ) (b : Bool) → p c ≡ false → IsTrue (p x) → eqb x c ≡ b → IsTrue (not b)
not_same p c x true free here e = let same : x ≡ c = eqb-true x c e in absurd (let there : p c ≡ true = subst (λ n. p n ≡ true) same here in cc)
not_same p c x false free here e = refl

-- a class of bytes that lacks the byte
pub lacks_from : (p : ℕ → Bool) (c : ℕ) → p c ≡ false → (xs : List ℕ) → IsTrue (list_all p xs) → IsTrue (lacks c xs)
lacks_from p c free [] h = refl
lacks_from p c free (x ∷ xs) h =
    let b = and_parts (p x) (list_all p xs) h in
    and_from (not (eqb x c)) (lacks c xs) (not_same p c x (eqb x c) free b.0 refl) (lacks_from p c free xs b.1)

-- words that lack the byte are the parts of what joins them
pub split_join : (c : ℕ) (ws : List (List ℕ)) → 0 < length ws → IsTrue (list_all (lacks c) ws) → split c (join_with_byte c ws) ≡ ws
split_join c [] some h = absurd (omega arith)
split_join c (x ∷ []) some h = slice_split_none (λ b. eqb b c) x (all_other c x (and_parts (lacks c x) true h).0)
split_join c (x ∷ y ∷ ws) some h =
    let b = and_parts (lacks c x) (list_all (lacks c) (y ∷ ws)) h in
    slice_split_at (λ b. eqb b c) x c (join_with_byte c (y ∷ ws)) (all_other c x b.0) (eq-eqb c c refl)
    ∙ ap (λ (r : List (List ℕ)). x ∷ r) (split_join c (y ∷ ws) (omega arith) b.1)

-- what joins words that lack a byte with another byte lacks it too
pub lacks_append : (c : ℕ) (xs ys : List ℕ) → IsTrue (lacks c xs) → IsTrue (lacks c ys) → IsTrue (lacks c (xs ++ ys))
lacks_append c [] ys h k = k
lacks_append c (x ∷ xs) ys h k =
    let b = and_parts (not (eqb x c)) (lacks c xs) h in
    and_from (not (eqb x c)) (lacks c (xs ++ ys)) b.0 (lacks_append c xs ys b.1 k)

pub lacks_join : (c d : ℕ) → eqb d c ≡ false → (ws : List (List ℕ)) → IsTrue (list_all (lacks c) ws) → IsTrue (lacks c (join_with_byte d ws))
lacks_join c d other [] h = refl
lacks_join c d other (x ∷ []) h = (and_parts (lacks c x) true h).0
lacks_join c d other (x ∷ y ∷ ws) h =
    let b = and_parts (lacks c x) (list_all (lacks c) (y ∷ ws)) h in
    lacks_append c x (d ∷ join_with_byte d (y ∷ ws)) b.0
    (and_from (not (eqb d c)) (lacks c (join_with_byte d (y ∷ ws))) (not_false (eqb d c) other) (lacks_join c d other (y ∷ ws) b.1))

-- ---- the first part

whole_by : (p : ℕ → Bool) (x : ℕ) (xs : List ℕ) (b : Bool) → p x ≡ b → length (x ∷ xs) ≤ position_or_len p (x ∷ xs)
    → (length xs ≤ position_or_len p xs → slice_split p xs ≡ xs ∷ []) → slice_split p (x ∷ xs) ≡ (x ∷ xs) ∷ []
whole_by p x xs true e le more = let none : position_or_len p (x ∷ xs) ≡ 0 = rw e refl in absurd (omega (arith, none))
whole_by p x xs false e le more =
    let one : position_or_len p (x ∷ xs) ≡ 1 + position_or_len p xs = rw e refl in
    rw (e, more (omega (arith, one))) refl

whole : (p : ℕ → Bool) (xs : List ℕ) → length xs ≤ position_or_len p xs → slice_split p xs ≡ xs ∷ []
whole p [] le = refl
whole p (x ∷ xs) le = whole_by p x xs (p x) refl le (whole p xs)

cut_by : (p : ℕ → Bool) (xs : List ℕ) (i : ℕ) (b : Bool) → ltb (position_or_len p xs) (length xs) ≡ b → cond b (Some (position_or_len p xs)) None ≡ Some i
    → slice_split p xs ≡ take i xs ∷ slice_split p (drop (i + 1) xs)
cut_by p xs i true lt e =
    let same : position_or_len p xs ≡ i = cc in
    subst (λ (n : ℕ). slice_split p xs ≡ take n xs ∷ slice_split p (drop (n + 1) xs)) same (slice_split_first p xs 0 (ltb-true _ _ lt))
cut_by p xs i false lt e = absurd cc

whole_at : (p : ℕ → Bool) (xs : List ℕ) (b : Bool) → ltb (position_or_len p xs) (length xs) ≡ b → cond b (Some (position_or_len p xs)) None ≡ None
    → slice_split p xs ≡ xs ∷ []
whole_at p xs true lt e = absurd cc
whole_at p xs false lt e = whole p xs (ltb-false _ _ lt)

pub first_cut : (c : ℕ) (xs : List ℕ) (i : ℕ) → position (λ b. eqb b c) xs ≡ Some i → split c xs ≡ take i xs ∷ split c (drop (i + 1) xs)
first_cut c xs i e = cut_by (λ b. eqb b c) xs i (ltb (position_or_len (λ b. eqb b c) xs) (length xs)) refl e

pub no_cut : (c : ℕ) (xs : List ℕ) → position (λ b. eqb b c) xs ≡ None → split c xs ≡ xs ∷ []
no_cut c xs e = whole_at (λ b. eqb b c) xs (ltb (position_or_len (λ b. eqb b c) xs) (length xs)) refl e

not_end : (ws : List (List ℕ)) → 0 < length ws → read_end ws ≡ None
not_end [] some = absurd (omega arith)
not_end (w ∷ ws) some = refl

pub some_part : (c : ℕ) (xs : List ℕ) → 1 ≤ length (split c xs)
some_part c xs = omega (arith, length-slice_split (λ b. eqb b c) xs)

-- bytes have a first part
pub not_at_end : (c : ℕ) (xs : List ℕ) → read_end (split c xs) ≡ None
not_at_end c xs = not_end (split c xs) (omega (arith, some_part c xs))

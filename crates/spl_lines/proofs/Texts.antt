-- A text that is made of lines, each with its line feed.
use Rattle.std.{specs.{Prelude.nat_le, List.{list_all, flat_map}}, proofs.Common.{◌≡◌, ◌≢◌, ◌≤◌, ◌+◌, ◌*◌, ℕ, not, ◌==◌, length, length-append, List, []}}
use Rattle.std.proofs.{Common.{◌∷◌, ◌++◌, map, IsTrue, refl, ◌∙◌, ap, arith, append_assoc}, lemmas.Bool.{and_parts, leb-true, Decides.nat_tests}}
use Rattle.spl_base.specs.declared.limit.TheConstants.{LONGEST_LINE}
use Rattle.spl_lines.{specs.Lines.{lines_of, rest_of}, proofs.{Feeds.{NoFeed, lines_first}, Fed.rest_feed}}

other_byte : (b : ℕ) → IsTrue (not (b == 10)) → b ≢ 10
other_byte b test = λ is. grind (arith, nat_tests)

free_of : (bytes : List ℕ) → IsTrue (list_all (λ b. not (b == 10)) bytes) → NoFeed bytes
free_of [] test = tt
free_of (b ∷ bytes) test =
    let both = and_parts (not (b == 10)) (list_all (λ b. not (b == 10)) bytes) test in
    (other_byte b both.0, free_of bytes both.1)

module _ {A : Type 0} (f : A → List ℕ) where
  -- its lines are those
  pub lines_text : (xs : List A) → IsTrue (list_all (λ x. list_all (λ b. not (b == 10)) (f x)) xs) → lines_of (flat_map (λ x. f x ++ 10 ∷ []) xs) ≡ map f xs
  lines_text [] test = refl
  lines_text (x ∷ xs) test =
      let both = and_parts (list_all (λ b. not (b == 10)) (f x)) (list_all (λ x. list_all (λ b. not (b == 10)) (f x)) xs) test in
      let rest = flat_map (λ x. f x ++ 10 ∷ []) xs in
      ap lines_of (append_assoc (f x) (10 ∷ []) rest) ∙ lines_first (f x) rest (free_of (f x) both.0)
      ∙ ap (λ (ls : List (List ℕ)). f x ∷ ls) (lines_text xs both.1)

  -- and nothing stands after the last
  pub rest_text : (xs : List A) → rest_of (flat_map (λ x. f x ++ 10 ∷ []) xs) ≡ []
  rest_text [] = refl
  rest_text (x ∷ xs) =
      let rest = flat_map (λ x. f x ++ 10 ∷ []) xs in
      ap rest_of (append_assoc (f x) (10 ∷ []) rest) ∙ rest_feed (f x) rest ∙ rest_text xs

  -- it is short where they are
  pub short_text : (xs : List A) → IsTrue (list_all (λ x. nat_le (length (f x)) LONGEST_LINE) xs)
      → length (flat_map (λ x. f x ++ 10 ∷ []) xs) ≤ (LONGEST_LINE + 1) * length xs
  short_text [] test = omega arith
  short_text (x ∷ xs) test =
      let both = and_parts (nat_le (length (f x)) LONGEST_LINE) (list_all (λ x. nat_le (length (f x)) LONGEST_LINE) xs) test in
      let size : length (f x) ≤ LONGEST_LINE = leb-true (length (f x)) LONGEST_LINE both.0 in
      let rest = short_text xs both.1 in
      omega (arith, size, rest, length-append (f x ++ 10 ∷ []) (flat_map (λ x. f x ++ 10 ∷ []) xs), length-append (f x) (10 ∷ []))

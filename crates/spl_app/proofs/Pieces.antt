-- The part of a text that a call moves.
use Rattle.std.proofs.{Common.{◌≡◌, ℕ, ◌+◌, List, ◌++◌, length, take, drop, sym, ap, ◌∙◌, take-add, take-append-drop}, lemmas.List.{take_at, drop-drop}}

module _ (xs buf piece : List ℕ) (i n : ℕ) (long : length piece ≡ n) (is : piece ≡ take n (drop i xs)) where
  moved : take n (drop i xs) ≡ take n (piece ++ drop n buf)
  moved = sym is ∙ sym (take_at piece (drop n buf) n long)

  -- what stands after a prefix, moved to the beginning of a buffer
  pub taken_further : take (i + n) xs ≡ take i xs ++ take n (piece ++ drop n buf)
  taken_further = take-add i n xs ∙ ap (λ (l : List ℕ). take i xs ++ l) moved

  pub left_further : drop i xs ≡ take n (piece ++ drop n buf) ++ drop (i + n) xs
  left_further =
      sym (take-append-drop n (drop i xs)) ∙ ap (λ (l : List ℕ). l ++ drop n (drop i xs)) moved
      ∙ ap (λ (l : List ℕ). take n (piece ++ drop n buf) ++ l) (drop-drop n i xs)

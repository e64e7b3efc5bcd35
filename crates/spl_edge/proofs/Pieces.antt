-- The part of a list that a call moves.
use Rattle.std.{specs.Io.KnownBytes.Appends, proofs.Common.{◌≡◌, ℕ, ◌+◌, List, [], ◌++◌, Option, length, take, drop, subst, append-nil, sym, ap, ◌∙◌}}
use Rattle.std.proofs.{Common.{take-add, take-append-drop}, lemmas.List.{take_at, drop-drop}, KnownBytes.Appends-trans}
use Rattle.spl_edge.specs.Devices.{AppendsPart}

module _ (xs buf piece : List ℕ) (i n : ℕ) (long : length piece ≡ n) (is : piece ≡ take n (drop i xs)) where
  moved : take n (drop i xs) ≡ take n (piece ++ drop n buf)
  moved = sym is ∙ sym (take_at piece (drop n buf) n long)

  -- what stands after a prefix, moved to the beginning of a buffer
  pub taken_further : take (i + n) xs ≡ take i xs ++ take n (piece ++ drop n buf)
  taken_further = take-add i n xs ∙ ap (λ (l : List ℕ). take i xs ++ l) moved

  pub left_further : drop i xs ≡ take n (piece ++ drop n buf) ++ drop (i + n) xs
  left_further =
      sym (take-append-drop n (drop i xs)) ∙ ap (λ (l : List ℕ). l ++ drop n (drop i xs)) moved
      ∙ ap (λ (l : List ℕ). take n (piece ++ drop n buf) ++ l) (drop-drop n i xs)

-- a call that moved nothing leaves what was written before it
pub no_more : (a b c : Option (List ℕ)) (bs : List ℕ) → Appends a b bs → Appends b c [] → Appends a c bs
no_more a b c bs before nothing = subst (Appends a c) (append-nil bs) (Appends-trans a b c bs [] before nothing)

pub a_part : (a b : Option (List ℕ)) (all : List ℕ) (n : ℕ) → Appends a b (take n all) → AppendsPart a b all
a_part a b all n so_far = (take n all, drop n all, sym (take-append-drop n all), so_far)

-- Changes in groups are the same changes, and each group is within the bounds.
use Rattle.std.{specs.{Prelude.{nat_lt, nat_le}, List.list_all}, proofs.Common.{◌≡◌, ◌⊎◌, ℕ, ◌+◌, ◌<◌, ◌≤◌, true, false, List, [], ◌∷◌, ◌++◌, append_assoc}}
use Rattle.std.proofs.{Common.{length, length-append, refl, ap, ◌∙◌, inl, inr, arith}, lemmas.Bool.le-leb}
use Rattle.spl_agree.proofs.Tests.{bool_cases, and_left, and_right, ltb_is}
use Rattle.spl_wire.specs.{Grouping.{most_bytes, record_size, has_place, grouped_after, grouped, together, is_sized, is_small}, declared.change.Change.Change}
use Rattle.spl_wire.specs.declared.record.TheConstants.{MOST_CHANGES}

module _ (c : List ℕ) where
  together-after : (group xs : List Change) → together (grouped_after c group xs) ≡ group ++ xs
  together-after group [] = refl
  together-after group (x ∷ xs) = go (bool_cases (has_place c group x)) (together-after (group ++ x ∷ []) xs) (together-after (x ∷ []) xs)
    where
      go : (has_place c group x ≡ true) ⊎ (has_place c group x ≡ false) → together (grouped_after c (group ++ x ∷ []) xs) ≡ (group ++ x ∷ []) ++ xs
          → together (grouped_after c (x ∷ []) xs) ≡ (x ∷ []) ++ xs → together (grouped_after c group (x ∷ xs)) ≡ group ++ (x ∷ xs)
      go (inl q) h k = rw q (h ∙ append_assoc group (x ∷ []) xs)
      go (inr q) h k = rw q (ap (λ (ys : List Change). group ++ ys) k)

  pub together-grouped : (xs : List Change) → together (grouped c xs) ≡ xs
  together-grouped [] = refl
  together-grouped (x ∷ xs) = together-after (x ∷ []) xs

  sized : (xs : List Change) → 1 ≤ length xs → length xs ≤ MOST_CHANGES → nat_le (record_size c xs) most_bytes ≡ true → is_sized c xs ≡ true
  sized xs some few small = rw (le-leb 1 (length xs) some, le-leb (length xs) MOST_CHANGES few, small)

  sized-one : (x : Change) → is_small c x ≡ true → is_sized c (x ∷ []) ≡ true
  sized-one x h = sized (x ∷ []) (omega arith) (omega arith) h

  sized-more : (group : List Change) (x : Change) → has_place c group x ≡ true → is_sized c (group ++ x ∷ []) ≡ true
  sized-more group x h =
      let l : length group < MOST_CHANGES = ltb_is (length group) MOST_CHANGES (and_left (nat_lt (length group) MOST_CHANGES) _ h) in
      let one : length (group ++ x ∷ []) ≡ length group + 1 = length-append group (x ∷ []) in
      sized (group ++ x ∷ []) (omega arith) (omega arith) (and_right (nat_lt (length group) MOST_CHANGES) _ h)

  sized-after : (group xs : List Change) → is_sized c group ≡ true → list_all (is_small c) xs ≡ true → list_all (is_sized c) (grouped_after c group xs) ≡ true
  sized-after group [] h k = rw h
  sized-after group (x ∷ xs) h k =
      let rest : list_all (is_small c) xs ≡ true = and_right (is_small c x) (list_all (is_small c) xs) k in
      let one : is_sized c (x ∷ []) ≡ true = sized-one x (and_left (is_small c x) (list_all (is_small c) xs) k) in
      go (bool_cases (has_place c group x)) (λ q. sized-after (group ++ x ∷ []) xs (sized-more group x q) rest) (sized-after (x ∷ []) xs one rest)
    where
      go : (has_place c group x ≡ true) ⊎ (has_place c group x ≡ false)
          → (has_place c group x ≡ true → list_all (is_sized c) (grouped_after c (group ++ x ∷ []) xs) ≡ true)
          → list_all (is_sized c) (grouped_after c (x ∷ []) xs) ≡ true → list_all (is_sized c) (grouped_after c group (x ∷ xs)) ≡ true
      go (inl q) f g = rw q (f q)
      go (inr q) f g = rw (q, h) g

  pub sized-grouped : (xs : List Change) → list_all (is_small c) xs ≡ true → list_all (is_sized c) (grouped c xs) ≡ true
  sized-grouped [] k = refl
  sized-grouped (x ∷ xs) k =
      sized-after (x ∷ []) xs (sized-one x (and_left (is_small c x) (list_all (is_small c) xs) k)) (and_right (is_small c x) (list_all (is_small c) xs) k)

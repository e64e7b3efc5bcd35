-- Reading and writing items one after the other, as loops do.
use Rattle.std.{specs.List.flat_map, proofs.Common.{◌≡◌, ℕ, suc, ◌-◌, ◌+◌, ◌≤◌, ◌<◌, List, [], ◌∷◌, ◌++◌, length, get_or, take, Ok, Err, refl, sym, ap, ◌∙◌}}
use Rattle.std.proofs.{Common.{append_assoc, arith}, lemmas.List.{append-nil, take_more, Concat.flat_map-append}}
use Rattle.spl_base.specs.{Input.{Input, ◌>>=◌}, Form.{Parsed, items_at, Fails}, declared.fault.Malformed.Malformed}
use Rattle.spl_base.specs.declared.fault.Malformed.TheVariants as malformed

module _ {A : Type 0} where
  -- what was read before, and what is still read
  abbrev pub with_prefix : List A → Parsed (List A) → Parsed (List A)
  with_prefix prefix read = read >>= λ x. Ok (prefix ++ x.0, x.1)

  regroup : (prefix : List A) (x : A) (read : Parsed (List A)) → with_prefix prefix (read >>= λ y. Ok (x ∷ y.0, y.1)) ≡ with_prefix (prefix ++ x ∷ []) read
  regroup prefix x (Ok y) = ap (λ (xs : List A). Ok (xs, y.1)) (simp append_assoc)
  regroup prefix x (Err f) = refl

  pub goes_on : (p : Input → Parsed A) (prefix : List A) (count i : ℕ) (s : Input) (x : A) (t : Input) (total : Parsed (List A)) → i < count → p s ≡ Ok (x, t)
      → with_prefix prefix (items_at p (count - i) s) ≡ total → with_prefix (prefix ++ x ∷ []) (items_at p (count - (i + 1)) t) ≡ total
  goes_on p prefix count i s x t total lt h so_far =
      let k : count - i ≡ suc (count - (i + 1)) = omega arith in
      let one : with_prefix prefix (items_at p (count - i) s) ≡ with_prefix (prefix ++ x ∷ []) (items_at p (count - (i + 1)) t) =
      rw (k, h) (regroup prefix x (items_at p (count - (i + 1)) t)) in
      sym one ∙ so_far

  pub ends : (p : Input → Parsed A) (e : Malformed) (prefix : List A) (count i : ℕ) (s : Input) (total : Parsed (List A)) → i < count → Fails e (p s)
      → with_prefix prefix (items_at p (count - i) s) ≡ total → Fails e total
  ends p malformed.NoMemory prefix count i s total lt h so_far = tt
  ends p (malformed.At at) prefix count i s total lt h so_far =
      let k : count - i ≡ suc (count - (i + 1)) = omega arith in
      let one : with_prefix prefix (items_at p (count - i) s) ≡ Err at = rw (k, h) refl in
      sym so_far ∙ one

  pub is_done : (p : Input → Parsed A) (prefix : List A) (count i : ℕ) (s : Input) (total : Parsed (List A)) → count ≤ i
      → with_prefix prefix (items_at p (count - i) s) ≡ total → total ≡ Ok (prefix, s)
  is_done p prefix count i s total le so_far =
      let k : count - i ≡ 0 = omega arith in
      let one : with_prefix prefix (items_at p (count - i) s) ≡ Ok (prefix, s) = rw k (ap (λ (xs : List A). Ok (xs, s)) (append-nil prefix)) in
      sym so_far ∙ one

  -- one more item written
  pub flat_map_more : (f : A → List ℕ) (old count : List ℕ) (xs : List A) (i : ℕ) (d : A) → i < length xs
      → (old ++ (count ++ flat_map f (take i xs))) ++ f (get_or xs i d) ≡ old ++ (count ++ flat_map f (take (i + 1) xs))
  flat_map_more f old count xs i d lt =
      let grown : flat_map f (take (i + 1) xs) ≡ flat_map f (take i xs) ++ f (get_or xs i d) =
      ap (flat_map f) (take_more xs i d lt) ∙ flat_map-append f (take i xs) (get_or xs i d ∷ [])
      ∙ ap (λ (z : List ℕ). flat_map f (take i xs) ++ z) (append-nil (f (get_or xs i d))) in
      rw grown (simp append_assoc)

-- The laws of the byte form of proofs: it is read back, and reads nothing else.
use Rattle.std.{specs.{List.{flat_map, list_all}, Int.w8}, proofs.Common.{◌≡◌, ℕ, ◌+◌, ◌^◌, ◌<◌, ◌≤◌, false, cond, ltb, leb, ◌&&◌, IsTrue, List, [], ◌∷◌}}
use Rattle.std.proofs.{Common.{◌++◌, length, Ok, Err, refl, sym, ap, subst, ◌∙◌, append_assoc, arith, lit<}, lemmas.Bool.{and_parts, and_from, ltb-false}}
use Rattle.std.proofs.lemmas.{Bool.{le-ltb, leb-true, le-leb}, List.{length-append, append-nil}}
use Rattle.spl_base.specs.{Input.{Input, ◌>>=◌, number_at}, Form.{Form, located, IsBytes, IsReadBack, IsSpelledSo, IsExact, number_bytes, items_at}}
use Rattle.spl_base.specs.FormLaws.{wide8, bind_ok, fault_not, number_again, number_taken, items_again, items_take, exact_raw, exact_string, exact_and}
use Rattle.spl_base.specs.{FormLaws.{exact_via, exact_nothing}, SumLaws.{◌also◌, IsMade, exact_sum}}
use Rattle.spl_proof.specs.Forms.{any_bytes, digest, repeated, few_of, level, levels, leaf, ends, end_fields, end, proof, whole_of, nothing_after}
use Rattle.spl_proof.specs.declared.proof.{End.{End, TheVariants.{Empty, Leaf}}, TheConstants.{MOST_LEVELS, LONGEST_VALUE}}

-- ---- values one after the other

module _ {A : Type 0} (f : Form A) (p : IsExact f) where
  module _ (n : ℕ) where
    repeated_again : (xs : List A) (rest : List ℕ) (place : ℕ) → IsReadBack (repeated n f) xs rest place
    repeated_again xs rest place h =
        let b = and_parts (leb n (length xs) && leb (length xs) n) (list_all f.fits xs) h in
        let c = and_parts (leb n (length xs)) (leb (length xs) n) b.0 in
        let len : n ≡ length xs = omega (arith, leb-true _ _ c.0, leb-true _ _ c.1) in
        ap (λ k. items_at f.parse k (record { rest = flat_map f.spell xs ++ rest; place = place })) len ∙ items_again f p xs rest place b.1

    repeated_takes : (s : Input) (xs : List A) (t : Input) → IsSpelledSo (repeated n f) s xs t
    repeated_takes s xs t bytes e =
        let all = items_take f p n s xs t bytes e in
        let low : n ≤ length xs = omega (arith, all.1) in
        let high : length xs ≤ n = omega (arith, all.1) in
        record {
          parts = all.0.parts;
          place = all.0.place;
          is_fit = and_from (leb n (length xs) && leb (length xs) n) (list_all f.fits xs)
              (and_from (leb n (length xs)) (leb (length xs) n) (le-leb _ _ low) (le-leb _ _ high)) all.0.is_fit;
          bytes = all.0.bytes;
        }

    pub exact_repeated : IsExact (repeated n f)
    exact_repeated = record { again = repeated_again; takes = repeated_takes; bounds = λ xs h. refl }

  module _ (most : ℕ) (small : most < 2 ^ 8) where
    few_again : (xs : List A) (rest : List ℕ) (place : ℕ) → IsReadBack (few_of most f) xs rest place
    few_again xs rest place h =
        let b = and_parts (leb (length xs) most) (list_all f.fits xs) h in
        let le : length xs ≤ most = leb-true _ _ b.0 in
        let short : ltb most (length xs) ≡ false = le-ltb _ _ le in
        let count = number_bytes w8 (length xs) in
        let regrouped : (count ++ flat_map f.spell xs) ++ rest ≡ count ++ (flat_map f.spell xs ++ rest) = append_assoc count (flat_map f.spell xs) rest in
        let places : place + 1 + length (flat_map f.spell xs) ≡ place + length (count ++ flat_map f.spell xs)
        = omega (arith, length-append count (flat_map f.spell xs), wide8.len (length xs)) in
        ap (λ (r : List ℕ). (few_of most f).parse (record { rest = r; place = place })) regrouped
        ∙ rw (number_again w8 (2 ^ 8) wide8 (length xs) (flat_map f.spell xs ++ rest) place (omega arith), short, items_again f p xs rest (place + 1) b.1)
        (ap (λ (k : ℕ). Ok (xs, record { rest = rest; place = k })) places)

    few_takes : (s : Input) (xs : List A) (t : Input) → IsSpelledSo (few_of most f) s xs t
    few_takes s xs t bytes e =
        let a = bind_ok (located (number_at w8 s)) (λ n. cond (ltb most n.0) (Err s.place) (items_at f.parse n.0 n.1)) (xs, t) e in
        let g = fault_not (ltb most a.0.0) s.place (items_at f.parse a.0.0 a.0.1) (xs, t) a.2 in
        let first = number_taken w8 (2 ^ 8) wide8 s a.0.0 a.0.1 bytes a.1 in
        let others = items_take f p a.0.0 a.0.1 xs t first.bytes g.1 in
        let count = number_bytes w8 (length xs) in
        let counted : number_bytes w8 a.0.0 ≡ count = ap (number_bytes w8) (sym others.1) in
        record {
          parts = first.parts ∙ ap (λ (r : List ℕ). number_bytes w8 a.0.0 ++ r) others.0.parts
              ∙ sym (append_assoc (number_bytes w8 a.0.0) (flat_map f.spell xs) t.rest) ∙ ap (λ (c : List ℕ). (c ++ flat_map f.spell xs) ++ t.rest) counted;
          place = omega (arith, first.place, others.0.place, length-append count (flat_map f.spell xs), wide8.len (length xs), wide8.len a.0.0);
          is_fit = and_from (leb (length xs) most) (list_all f.fits xs) (le-leb _ _ (omega (arith, ltb-false _ _ g.0, others.1))) others.0.is_fit;
          bytes = others.0.bytes;
        }

    pub exact_few : IsExact (few_of most f)
    exact_few = record { again = few_again; takes = few_takes; bounds = λ xs h. refl }

-- ---- the parts of a proof

pub exact_digest : IsExact digest
exact_digest = exact_raw 32 any_bytes

pub exact_level : IsExact level
exact_level = exact_repeated digest exact_digest 16

pub exact_levels : IsExact levels
exact_levels = exact_few level exact_level MOST_LEVELS (lit< tt)

pub exact_leaf : IsExact leaf
exact_leaf = exact_and _ _ (exact_via _ _ _ (λ _. refl) (λ _. refl) (exact_raw 35 any_bytes)) (exact_string LONGEST_VALUE (lit< tt))

end_made : (e : End) → IsMade ends end_fields e
end_made Empty = record { value = refl; small = refl }
end_made (Leaf b v) = record { value = refl; small = refl }

pub exact_end : IsExact end
exact_end = exact_sum ends end_fields end_made (
    (exact_nothing, λ _. refl)
    also (exact_leaf, λ _. refl)
    also tt)

pub exact_proof : IsExact proof
exact_proof = exact_via _ _ _ (λ _. refl) (λ _. refl) (exact_and _ _ exact_levels exact_end)

-- ---- all bytes

pub whole_again : {A : Type 0} (f : Form A) → IsExact f → (x : A) → IsTrue (f.fits x) → whole_of f (f.spell x) ≡ Ok x
whole_again f p x h =
    ap (λ (r : List ℕ). f.parse (record { rest = r; place = 0 }) >>= λ y. nothing_after y y.1.rest) (sym (append-nil (f.spell x)))
    ∙ rw (p.again x [] 0 h) refl

whole_by : {A : Type 0} (found : A × Input) (rest : List ℕ) (x : A) → nothing_after found rest ≡ Ok x → (found.0 ≡ x) × (rest ≡ [])
whole_by found [] x e = (cc, refl)
whole_by found (b ∷ bs) x e = absurd cc

pub whole_takes : {A : Type 0} (f : Form A) → IsExact f → (bytes : List ℕ) (x : A) → IsBytes bytes → whole_of f bytes ≡ Ok x
    → (bytes ≡ f.spell x) × IsTrue (f.fits x)
whole_takes f p bytes x is e =
    let a = bind_ok (f.parse (record { rest = bytes; place = 0 })) (λ y. nothing_after y y.1.rest) x e in
    let b = whole_by a.0 a.0.1.rest x a.2 in
    let all = p.takes (record { rest = bytes; place = 0 }) a.0.0 a.0.1 is a.1 in
    (all.parts ∙ ap (λ (r : List ℕ). f.spell a.0.0 ++ r) b.1 ∙ append-nil (f.spell a.0.0) ∙ ap f.spell b.0, subst (λ y. IsTrue (f.fits y)) b.0 all.is_fit)

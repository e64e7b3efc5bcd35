-- What members report in any lines is of one list: it is of prefixes of the circuit's list of batches after all of the lines.
use Rattle.std.{specs.Prelude.drop, proofs.Common.{◌≡◌, ℕ, ◌⊎◌, true, List, [], ◌∷◌, ◌++◌, length, take, refl, sym, ap, subst, ◌∙◌, inl, inr, arith}}
use Rattle.std.proofs.lemmas.List.{map-append, take-append-drop}
use Rattle.spl_agree.specs.World.{IsPrefixOf}
use Rattle.spl_state.specs.Root.{node_at}
use Rattle.spl_command.specs.{Lists.state_of, declared.batch.Batch.Batch}
use Rattle.spl_scabbard.specs.Readers.{ids_of}
use Rattle.spl_circuit.specs.Nodes.{NodeId}
use Rattle.spl_wire.specs.declared.event.Event.TheVariants as event
use Rattle.spl_wire.specs.declared.answer.Answer.TheVariants as answer
use Rattle.spl_circuit_world.specs.Projection.{Ran, lines_fit}
use Rattle.spl_circuit_safety.{specs.Agreement.TellOneList, proofs.Shown.shows-prefixes}

-- ---- two beginnings of one list

prefix-cons : {A : Type 0} (x : A) (xs ys : List A) → IsPrefixOf xs ys → IsPrefixOf (x ∷ xs) (x ∷ ys)
prefix-cons {A} x xs ys p = (p.0, ap (λ (zs : List A). x ∷ zs) p.1)

prefix-both : {A : Type 0} (xs ys zs : List A) → IsPrefixOf xs zs → IsPrefixOf ys zs → IsPrefixOf xs ys ⊎ IsPrefixOf ys xs
prefix-both [] ys zs p q = inl (ys, refl)
prefix-both (x ∷ xs) [] zs p q = inr (x ∷ xs, refl)
prefix-both (x ∷ xs) (y ∷ ys) [] p q = let h : x ∷ (xs ++ p.0) ≡ [] = p.1 in cc
prefix-both {A} (x ∷ xs) (y ∷ ys) (z ∷ zs) p q =
    go (prefix-both xs ys zs (p.0, let h : x ∷ (xs ++ p.0) ≡ z ∷ zs = p.1 in cc) (q.0, let h : y ∷ (ys ++ q.0) ≡ z ∷ zs = q.1 in cc))
  where
    first : x ≡ y
    first = let h : x ∷ (xs ++ p.0) ≡ z ∷ zs = p.1 in let k : y ∷ (ys ++ q.0) ≡ z ∷ zs = q.1 in cc

    go : IsPrefixOf xs ys ⊎ IsPrefixOf ys xs → IsPrefixOf (x ∷ xs) (y ∷ ys) ⊎ IsPrefixOf (y ∷ ys) (x ∷ xs)
    go (inl r) = inl (subst (λ (u : A). IsPrefixOf (x ∷ xs) (u ∷ ys)) first (prefix-cons x xs ys r))
    go (inr r) = inr (subst (λ (u : A). IsPrefixOf (u ∷ ys) (x ∷ xs)) first (prefix-cons x ys xs r))

prefix-equal : {A : Type 0} (xs ys zs : List A) → IsPrefixOf xs zs → IsPrefixOf ys zs → length xs ≡ length ys → xs ≡ ys
prefix-equal [] [] zs p q h = refl
prefix-equal [] (y ∷ ys) zs p q h = cc
prefix-equal (x ∷ xs) [] zs p q h = cc
prefix-equal (x ∷ xs) (y ∷ ys) [] p q h = let k : x ∷ (xs ++ p.0) ≡ [] = p.1 in cc
prefix-equal {A} (x ∷ xs) (y ∷ ys) (z ∷ zs) p q h =
    let whole : x ∷ (xs ++ p.0) ≡ z ∷ zs = p.1 in
    let other : y ∷ (ys ++ q.0) ≡ z ∷ zs = q.1 in
    let left : xs ++ p.0 ≡ zs = cc in
    let right : ys ++ q.0 ≡ zs = cc in
    let first : x ≡ y = cc in
    let lengths : length xs ≡ length ys = omega (arith, h) in
    let rest : xs ≡ ys = prefix-equal xs ys zs (p.0, left) (q.0, right) lengths in
    cc

prefix-ids : (xs ys : List Batch) → IsPrefixOf xs ys → IsPrefixOf (ids_of xs) (ids_of ys)
prefix-ids xs ys p = (ids_of p.0, sym (map-append (λ (b : Batch). b.id) xs p.0) ∙ ap ids_of p.1)

-- ---- two prefixes of one list

prefix : {A : Type 0} (i : ℕ) (xs : List A) → IsPrefixOf (take i xs) xs
prefix i xs = (drop i xs, take-append-drop i xs)

one-root : (bs : List Batch) (i j count : ℕ) (x y : List ℕ) → (count ≡ length (take i bs)) × (x ≡ node_at 70 [] (state_of (take i bs)))
    → (count ≡ length (take j bs)) × (y ≡ node_at 70 [] (state_of (take j bs))) → x ≡ y
one-root bs i j count x y p q =
    p.1 ∙ (ap (λ (us : List Batch). node_at 70 [] (state_of us)) (prefix-equal (take i bs) (take j bs) bs (prefix i bs) (prefix j bs) (sym p.0 ∙ q.0))
    ∙ sym q.1)

one-history : (bs : List Batch) (i j : ℕ) (xs ys : List ℕ) → xs ≡ ids_of (take i bs) → ys ≡ ids_of (take j bs) → IsPrefixOf xs ys ⊎ IsPrefixOf ys xs
one-history bs i j xs ys p q =
    subst (λ (us : List ℕ). IsPrefixOf us ys ⊎ IsPrefixOf ys us) (sym p)
    (subst (λ (vs : List ℕ). IsPrefixOf (ids_of (take i bs)) vs ⊎ IsPrefixOf vs (ids_of (take i bs))) (sym q)
    (go (prefix-both (take i bs) (take j bs) bs (prefix i bs) (prefix j bs))))
  where
    go : IsPrefixOf (take i bs) (take j bs) ⊎ IsPrefixOf (take j bs) (take i bs)
        → IsPrefixOf (ids_of (take i bs)) (ids_of (take j bs)) ⊎ IsPrefixOf (ids_of (take j bs)) (ids_of (take i bs))
    go (inl r) = inl (prefix-ids (take i bs) (take j bs) r)
    go (inr r) = inr (prefix-ids (take j bs) (take i bs) r)

pub tell-one_list : (ns : List NodeId) (rs : List Ran) → lines_fit rs ≡ true → TellOneList ns rs
tell-one_list ns rs fit = record {
  roots = λ c d count x y t u. let p = shows-prefixes ns rs fit c d event.Root (answer.Root count x) t in
      let q = shows-prefixes ns rs fit c d event.Root (answer.Root count y) u in one-root _ p.batches_before q.batches_before count x y p.shown q.shown;
  histories =
      λ c d xs ys t u. let p = shows-prefixes ns rs fit c d event.History (answer.History xs) t in
      let q = shows-prefixes ns rs fit c d event.History (answer.History ys) u in one-history _ p.batches_before q.batches_before xs ys p.shown q.shown;
}

-- Nodes that don't clash agree.
use Rattle.std.{specs.Prelude.{Some, slice_get}, proofs.Common.{◌≡◌, ◌≢◌, ℕ, zero, suc, ◌<◌, ◌≤◌, ◌⊎◌, Bool, true, false, List, [], ◌∷◌, length, refl, sym}}
use Rattle.std.proofs.Common.{ap, subst, ◌∙◌, inl, inr, arith}
use Rattle.spl_agree.{specs.{Member.values, World.IsPrefixOf}, proofs.Tests.bool_cases}
use Rattle.spl_circuit.specs.{Equality.{same_definition, same_act}, Nodes.CircuitId, Same.{definition_is, definition_same, same_acts}, declared.act.Act.Act}
use Rattle.spl_circuit.specs.declared.definition.Definition.{Definition}
use Rattle.spl_command.specs.{Equality.same_batch, Same.same_batches, declared.batch.Batch.Batch}
use Rattle.spl_cell_rules.specs.{Cells.{Bound, Cell, Held, Site}, Valid.IsKept}
use Rattle.spl_circuit_safety.{specs.Agreement.AllDiffer, proofs.IdsDiffer.good-differ}
use Rattle.spl_audit.specs.{Clashes.{Keeper, DifferAt, ShareMember, ClashAt, IsBoundAt, NoClash}, Audited.{AreCellsKept, AreOne}, declared.clash.Kind.Kind}
use Rattle.spl_audit.specs.declared.clash.Kind.TheVariants as kind

-- ---- lists that differ nowhere

module _ {A : Type 0} (same : A → A → Bool) (is : (x y : A) → same x y ≡ true → x ≡ y) (itself : (x : A) → same x x ≡ true) where
  later : (x y : A) (xs ys : List A) (p : ℕ) → DifferAt xs ys p → DifferAt (x ∷ xs) (y ∷ ys) (suc p)
  later x y xs ys p d = record { one = d.one; other = d.other; first = d.first; second = d.second; differ = d.differ }

  here : (x y : A) (xs ys : List A) → same x y ≡ false → DifferAt (x ∷ xs) (y ∷ ys) 0
  here x y xs ys h = record { one = x; other = y; first = refl; second = refl; differ = λ e. no (subst (λ (z : A). same x z ≡ true) e (itself x)) h }
    where
      no : {b : Bool} → b ≡ true → b ≡ false → ⊥
      no p q = cc

  pub begins : (xs ys : List A) → length xs ≤ length ys → ((p : ℕ) → DifferAt xs ys p → ⊥) → IsPrefixOf xs ys
  begins [] ys h never = (ys, refl)
  begins (x ∷ xs) [] h never = absurd (none h)
    where
      none : suc (length xs) ≤ 0 → ⊥
      none k = omega (arith, k)
  begins (x ∷ xs) (y ∷ ys) h never = go (bool_cases (same x y)) (begins xs ys shorter (λ p d. never (suc p) (later x y xs ys p d)))
    where
      shorter : length xs ≤ length ys
      shorter = omega (arith, h)

      go : (same x y ≡ true) ⊎ (same x y ≡ false) → IsPrefixOf xs ys → IsPrefixOf (x ∷ xs) (y ∷ ys)
      go (inl q) rest = (rest.0, ap (λ (zs : List A). x ∷ zs) rest.1 ∙ ap (λ (z : A). z ∷ ys) (is x y q))
      go (inr q) rest = absurd (never 0 (here x y xs ys q))

  -- the other way round
  pub turned : (xs ys : List A) (p : ℕ) → DifferAt xs ys p → DifferAt ys xs p
  turned xs ys p d = record { one = d.other; other = d.one; first = d.second; second = d.first; differ = λ e. d.differ (sym e) }

begins-acts : (xs ys : List Act) → length xs ≤ length ys → ((p : ℕ) → DifferAt xs ys p → ⊥) → IsPrefixOf xs ys
begins-acts = begins same_act (λ x y. (same_acts x y).0) (λ x. (same_acts x x).1 refl)

begins-batches : (xs ys : List Batch) → length xs ≤ length ys → ((p : ℕ) → DifferAt xs ys p → ⊥) → IsPrefixOf xs ys
begins-batches = begins same_batch (λ x y. (same_batches x y).0) (λ x. (same_batches x x).1 refl)

-- ---- nodes

order : (i j : ℕ) → (i < j) ⊎ ((i ≡ j) ⊎ (j < i))
order zero zero = inr (inl refl)
order zero (suc j) = inl (omega arith)
order (suc i) zero = inr (inr (omega arith))
order (suc i) (suc j) = go (order i j)
  where
    go : (i < j) ⊎ ((i ≡ j) ⊎ (j < i)) → (suc i < suc j) ⊎ ((suc i ≡ suc j) ⊎ (suc j < suc i))
    go (inl h) = inl (omega (arith, h))
    go (inr (inl h)) = inr (inl (ap suc h))
    go (inr (inr h)) = inr (inr (omega (arith, h)))

module _ (ns : List Keeper) (none : NoClash ns) (c : CircuitId) where
  -- one cell
  one-cell : (g i : ℕ) (h k : Bound) → IsBoundAt ns c g i h → IsBoundAt ns c g i k → h ≡ k
  one-cell g i h k a b =
      let same : Some a.node ≡ Some b.node = sym a.there ∙ b.there in
      let node : a.node ≡ b.node = cc in
      let cell : Held h ≡ Held k = sym a.bound ∙ (ap (λ (n : Keeper). n.at c) node ∙ b.bound) in
      cc

  clash : (why : Kind) (g i j p : ℕ) (h k : Bound) → IsBoundAt ns c g i h → IsBoundAt ns c g j k → i < j → ClashAt why h k p → ⊥
  clash why g i j p h k a b o x =
      none (record { circuit = c; generation = g; kind = why; first = i; second = j; place = p })
      (record { one = h; other = k; first = a; second = b; ordered = o; clash = x })

  never-acts : (g i j p : ℕ) (h k : Bound) → IsBoundAt ns c g i h → IsBoundAt ns c g j k → h.definition ≡ k.definition
      → DifferAt (values h.acts.history) (values k.acts.history) p → ⊥
  never-acts g i j p h k a b e d = go (order i j)
    where
      go : (i < j) ⊎ ((i ≡ j) ⊎ (j < i)) → ⊥
      go (inl o) = clash kind.Acts g i j p h k a b o (e, d)
      go (inr (inl o)) = same (one-cell g i h k a (subst (λ (z : ℕ). IsBoundAt ns c g z k) (sym o) b))
        where
          same : h ≡ k → ⊥
          same q = let x : Some d.one ≡ Some d.other = sym d.first ∙ (ap (λ (z : Bound). slice_get (values z.acts.history) p) q ∙ d.second) in
              let y : d.one ≡ d.other = cc in d.differ y
      go (inr (inr o)) =
          clash kind.Acts g j i p k h b a o
          (sym e, turned same_act (λ x y. (same_acts x y).0) (λ x. (same_acts x x).1 refl) (values h.acts.history) (values k.acts.history) p d)

  never-batches : (g i j p : ℕ) (h k : Bound) → IsBoundAt ns c g i h → IsBoundAt ns c g j k → h.definition ≡ k.definition
      → DifferAt (values h.batches.history) (values k.batches.history) p → ⊥
  never-batches g i j p h k a b e d = go (order i j)
    where
      go : (i < j) ⊎ ((i ≡ j) ⊎ (j < i)) → ⊥
      go (inl o) = clash kind.Batches g i j p h k a b o (e, d)
      go (inr (inl o)) = same (one-cell g i h k a (subst (λ (z : ℕ). IsBoundAt ns c g z k) (sym o) b))
        where
          same : h ≡ k → ⊥
          same q = let x : Some d.one ≡ Some d.other = sym d.first ∙ (ap (λ (z : Bound). slice_get (values z.batches.history) p) q ∙ d.second) in
              let y : d.one ≡ d.other = cc in d.differ y
      go (inr (inr o)) =
          clash kind.Batches g j i p k h b a o
          (sym e, turned same_batch (λ x y. (same_batches x y).0) (λ x. (same_batches x x).1 refl) (values h.batches.history) (values k.batches.history) p d)

  -- two definitions that share a member and have acts are one
  one-definition : (g i j : ℕ) (h k : Bound) → IsBoundAt ns c g i h → IsBoundAt ns c g j k → ShareMember h.definition k.definition → h.acts.history ≢ []
      → k.acts.history ≢ [] → h.definition ≡ k.definition
  one-definition g i j h k a b share x y = go (bool_cases (same_definition h.definition k.definition))
    where
      two : (h.definition ≢ k.definition) → (i < j) ⊎ ((i ≡ j) ⊎ (j < i)) → ⊥
      two n (inl o) = clash kind.Definitions g i j 0 h k a b o (refl, (n, (share, (x, y))))
      two n (inr (inl o)) = n (ap (λ (z : Bound). z.definition) (one-cell g i h k a (subst (λ (z : ℕ). IsBoundAt ns c g z k) (sym o) b)))
      two n (inr (inr o)) =
          clash kind.Definitions g j i 0 k h b a o
          (refl, ((λ e. n (sym e)), (record { node = share.node; first = share.second; second = share.first }, (y, x))))

      other : same_definition h.definition k.definition ≡ false → h.definition ≢ k.definition
      other q e = no (subst (λ (z : Definition). same_definition h.definition z ≡ true) e (definition_same h.definition)) q
        where
          no : {b : Bool} → b ≡ true → b ≡ false → ⊥
          no p q = cc

      go : (same_definition h.definition k.definition ≡ true) ⊎ (same_definition h.definition k.definition ≡ false) → h.definition ≡ k.definition
      go (inl q) = definition_is h.definition k.definition q
      go (inr q) = absurd (two (other q) (order i j))

-- the ids of a kept history differ
ids-differ : (site : Site) (k : Cell) (h : Bound) → k ≡ Held h → IsKept site k → AllDiffer (values h.batches.history)
ids-differ site k h e kept = good-differ [] (values h.batches.history) ((subst (λ (z : Cell). IsKept site z) e kept).batches.good)

pub audited-agree : (ns : List Keeper) (c : CircuitId) → AreCellsKept ns → NoClash ns → AreOne ns c
audited-agree ns c kept none = record {
  begins = λ g i j h k a b e. record {
    acts = λ n. begins-acts (values h.acts.history) (values k.acts.history) n (λ p d. never-acts ns none c g i j p h k a b e d);
    batches = λ n. begins-batches (values h.batches.history) (values k.batches.history) n (λ p d. never-batches ns none c g i j p h k a b e d);
  };
  differ = λ g i h a. ids-differ (record { here = a.node.here; circuit = c }) (a.node.at c) h a.bound (kept i a.node c a.there);
  apart = λ g i j h k a b share x y. one-definition ns none c g i j h k a b share x y;
}

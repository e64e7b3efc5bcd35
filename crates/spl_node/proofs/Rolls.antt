-- The ids of the bound cells.
use Rattle.std.specs.{List.{AllByRecursion, list_any, Sorted.IsStrictlySortedBy}, Ordering.is_eq, BTreeMap.is_at, Map.keys_of, Str.bytes_eq}
use Rattle.std.{specs.declared.cmp.Ordering.TheVariants.Less, proofs.Common.{◌≡◌, ◌⊎◌, inl, inr, true, false, List, [], ◌∷◌, refl, sym, ◌∙◌, ap, subst}}
use Rattle.std.proofs.lemmas.Map.Text.{is_eq-slice_cmp}
use Rattle.spl_agree.proofs.Tests.{bool_cases}
use Rattle.spl_circuit.specs.Nodes.{CircuitId}
use Rattle.spl_cell_rules.specs.Cells.{is_bound}
use Rattle.spl_node.{specs.Kept.{Entries, cell_at, bound_ids}, proofs.{Booleans.{bytes_are, bytes_same}, Maps.{order, at_is}}}

-- what each key has each of these ids has
all_bound : (P : CircuitId → Type 0) (es : Entries) → AllByRecursion P (keys_of es) → AllByRecursion P (bound_ids es)
all_bound P [] all = tt
all_bound P (e ∷ es) all = by (bool_cases (is_bound e.1.state)) (all_bound P es all.1)
  where
    by : (is_bound e.1.state ≡ true) ⊎ (is_bound e.1.state ≡ false) → AllByRecursion P (bound_ids es) → AllByRecursion P (bound_ids (e ∷ es))
    by (inl h) later = rw h (all.0, later)
    by (inr h) later = rw h later

pub bound_sorted : (es : Entries) → IsStrictlySortedBy order (keys_of es) → IsStrictlySortedBy order (bound_ids es)
unfolding IsStrictlySortedBy
bound_sorted [] ordered = tt
bound_sorted (e ∷ es) ordered = by (bool_cases (is_bound e.1.state)) (bound_sorted es ordered.1)
  where
    by : (is_bound e.1.state ≡ true) ⊎ (is_bound e.1.state ≡ false) → IsStrictlySortedBy order (bound_ids es) → IsStrictlySortedBy order (bound_ids (e ∷ es))
    by (inl h) later = rw h (all_bound (λ (y : CircuitId). order e.0 y ≡ Less) es ordered.0, later)
    by (inr h) later = rw h later

-- an id that is found at a key is none of the later ones
none_later : (k c : CircuitId) (ks : List CircuitId) → is_at (order c) k ≡ true → AllByRecursion (λ (y : CircuitId). order k y ≡ Less) ks
    → list_any (λ (y : CircuitId). bytes_eq c y) ks ≡ false
none_later k c [] found below = refl
none_later k c (y ∷ ys) found below = rw (apart, none_later k c ys found below.1) refl
  where
    apart : bytes_eq c y ≡ false
    apart = by (bool_cases (bytes_eq c y))
      where
        by : (bytes_eq c y ≡ true) ⊎ (bytes_eq c y ≡ false) → bytes_eq c y ≡ false
        by (inl h) =
            let same : k ≡ y = sym (at_is c k found) ∙ bytes_are c y h in
            let eq : is_eq (order k y) ≡ true = is_eq-slice_cmp k y ∙ subst (λ (z : CircuitId). bytes_eq k z ≡ true) same (bytes_same k) in
            let never : true ≡ false = sym eq ∙ ap is_eq below.0 in
            absurd (cc)
        by (inr h) = h

pub bound_has : (c : CircuitId) (es : Entries) → IsStrictlySortedBy order (keys_of es)
    → list_any (λ (y : CircuitId). bytes_eq c y) (bound_ids es) ≡ is_bound (cell_at es c)
unfolding IsStrictlySortedBy
bound_has c [] ordered = refl
bound_has c (e ∷ es) ordered = by (bool_cases (is_at (order c) e.0)) (bool_cases (is_bound e.1.state)) (bound_has c es ordered.1)
  where
    by : (is_at (order c) e.0 ≡ true) ⊎ (is_at (order c) e.0 ≡ false) → (is_bound e.1.state ≡ true) ⊎ (is_bound e.1.state ≡ false)
        → list_any (λ (y : CircuitId). bytes_eq c y) (bound_ids es) ≡ is_bound (cell_at es c)
        → list_any (λ (y : CircuitId). bytes_eq c y) (bound_ids (e ∷ es)) ≡ is_bound (cell_at (e ∷ es) c)
    by (inl h) (inl b) later = let eq : bytes_eq c e.0 ≡ true = sym (is_eq-slice_cmp c e.0) ∙ h in rw (h, b) (rw eq refl)
    by (inl h) (inr b) later = rw (h, b) (none_later e.0 c (bound_ids es) h (all_bound (λ (y : CircuitId). order e.0 y ≡ Less) es ordered.0))
    by (inr h) (inl b) later = let eq : bytes_eq c e.0 ≡ false = sym (is_eq-slice_cmp c e.0) ∙ h in rw (h, b) (rw eq later)
    by (inr h) (inr b) later = rw (h, b) later

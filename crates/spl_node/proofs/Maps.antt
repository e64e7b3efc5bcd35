-- The cells of a map, after something was written to it.
use Rattle.std.specs.{Ordering.{nat_cmp, is_eq, match_ordering}, Cmp.Lexicographic.slice_cmp, BTreeMap.{is_at, insert_entry}, Map.{lookup, set_value}}
use Rattle.std.{specs.{Str.bytes_eq, declared.cmp.Ordering.{Ordering, TheVariants.{Less, Equal, Greater}}}, proofs.Common.{◌≡◌, ◌⊎◌, inl, inr, true, false}}
use Rattle.std.proofs.{Common.{[], ◌∷◌, Some, refl, sym, ◌∙◌, ap, subst}, lemmas.Map.{Steps.set_value_same, Text.is_eq-slice_cmp}}
use Rattle.spl_agree.proofs.Tests.{bool_cases}
use Rattle.spl_circuit.specs.Nodes.{NodeId, CircuitId}
use Rattle.spl_cell.specs.Views.{CellView}
use Rattle.spl_node.{specs.Kept.{Entries, IsOwn, AreOwn}, proofs.Booleans.{bytes_are, bytes_same}}

abbrev pub order : CircuitId → CircuitId → Ordering
order = slice_cmp nat_cmp

-- a key that is found is the one that was looked for
pub at_is : (c k : CircuitId) → is_at (order c) k ≡ true → c ≡ k
at_is c k h = bytes_are c k (sym (is_eq-slice_cmp c k) ∙ h)

pub at_same : (c : CircuitId) → is_at (order c) c ≡ true
at_same c = is_eq-slice_cmp c c ∙ bytes_same c

pub at_other : (c k : CircuitId) → bytes_eq c k ≡ false → is_at (order c) k ≡ false
at_other c k h = is_eq-slice_cmp c k ∙ h

-- what is found is the node's own
pub found_own : (here : NodeId) (c : CircuitId) (es : Entries) (v : CellView) → AreOwn here es → lookup (is_at (order c)) es ≡ Some v → IsOwn here c v
found_own here c [] v own found = cc
found_own here c (e ∷ es) v own found = by (bool_cases (is_at (order c) e.0)) (found_own here c es v own.1)
  where
    by : (is_at (order c) e.0 ≡ true) ⊎ (is_at (order c) e.0 ≡ false) → (lookup (is_at (order c)) es ≡ Some v → IsOwn here c v) → IsOwn here c v
    by (inl h) later =
        let first : lookup (is_at (order c)) (e ∷ es) ≡ Some e.1 = rw h refl in
        let same : Some e.1 ≡ Some v = sym first ∙ found in
        let is : e.1 ≡ v = cc in
        subst (λ (k : CircuitId). IsOwn here k v) (sym (at_is c e.0 h)) (subst (λ (w : CellView). IsOwn here e.0 w) is own.0)
    by (inr h) later =
        let after : lookup (is_at (order c)) (e ∷ es) ≡ lookup (is_at (order c)) es = rw h refl in
        later (sym after ∙ found)

-- a cell that is written over
pub set_own : (here : NodeId) (c : CircuitId) (es : Entries) (v : CellView) → AreOwn here es → IsOwn here c v → AreOwn here (set_value (is_at (order c)) es v)
set_own here c [] v own new = tt
set_own here c (e ∷ es) v own new = by (bool_cases (is_at (order c) e.0)) (set_own here c es v own.1 new)
  where
    by : (is_at (order c) e.0 ≡ true) ⊎ (is_at (order c) e.0 ≡ false) → AreOwn here (set_value (is_at (order c)) es v)
        → AreOwn here (set_value (is_at (order c)) (e ∷ es) v)
    by (inl h) later = rw h (subst (λ (k : CircuitId). IsOwn here k v) (at_is c e.0 h) new, own.1)
    by (inr h) later = rw h (own.0, later)

-- where it is what was there, nothing changes
pub written_same : (c : CircuitId) (old new : Entries) (v w : CellView) → lookup (is_at (order c)) old ≡ Some v → new ≡ set_value (is_at (order c)) old w
    → w ≡ v → new ≡ old
written_same c old new v w found is same = is ∙ (ap (λ (x : CellView). set_value (is_at (order c)) old x) same ∙ set_value_same (is_at (order c)) old v found)

-- a cell more
pub insert_own : (here : NodeId) (c : CircuitId) (es : Entries) (v : CellView) → AreOwn here es → IsOwn here c v → AreOwn here (insert_entry order es c v)
insert_own here c [] v own new = (new, tt)
insert_own here c (e ∷ es) v own new = by (order c e.0) refl (insert_own here c es v own.1 new)
  where
    by : (o : Ordering) → order c e.0 ≡ o → AreOwn here (insert_entry order es c v)
        → AreOwn here (match_ordering o ((c, v) ∷ e ∷ es) ((e.0, v) ∷ es) (e ∷ insert_entry order es c v))
    by Less h later = (new, own)
    by Equal h later = (subst (λ (k : CircuitId). IsOwn here k v) (at_is c e.0 (ap is_eq h)) new, own.1)
    by Greater h later = (own.0, later)

pub lookup_insert_same : (c : CircuitId) (es : Entries) (v : CellView) → lookup (is_at (order c)) (insert_entry order es c v) ≡ Some v
lookup_insert_same c [] v = rw (at_same c) refl
lookup_insert_same c (e ∷ es) v = by (order c e.0) refl (lookup_insert_same c es v)
  where
    by : (o : Ordering) → order c e.0 ≡ o → lookup (is_at (order c)) (insert_entry order es c v) ≡ Some v
        → lookup (is_at (order c)) (match_ordering o ((c, v) ∷ e ∷ es) ((e.0, v) ∷ es) (e ∷ insert_entry order es c v)) ≡ Some v
    by Less h later = rw (at_same c) refl
    by Equal h later = let here : is_at (order c) e.0 ≡ true = ap is_eq h in rw here refl
    by Greater h later = let after : is_at (order c) e.0 ≡ false = ap is_eq h in rw after later

not_both : (c d k : CircuitId) → bytes_eq c d ≡ false → is_at (order c) k ≡ true → is_at (order d) k ≡ false
not_both c d k apart h = at_other d k (by (bool_cases (bytes_eq d k)))
  where
    by : (bytes_eq d k ≡ true) ⊎ (bytes_eq d k ≡ false) → bytes_eq d k ≡ false
    by (inl e) =
        absurd (let a : true ≡ false = sym (bytes_same c)
        ∙ subst (λ (x : CircuitId). bytes_eq c x ≡ false) (bytes_are d k e ∙ sym (at_is c k h)) apart in (cc))
    by (inr e) = e

pub lookup_insert_other : (c d : CircuitId) (es : Entries) (v : CellView) → bytes_eq c d ≡ false
    → lookup (is_at (order d)) (insert_entry order es c v) ≡ lookup (is_at (order d)) es
lookup_insert_other c d [] v apart = rw (not_both c d c apart (at_same c)) refl
lookup_insert_other c d (e ∷ es) v apart = by (order c e.0) refl (lookup_insert_other c d es v apart)
  where
    by : (o : Ordering) → order c e.0 ≡ o → lookup (is_at (order d)) (insert_entry order es c v) ≡ lookup (is_at (order d)) es
        → lookup (is_at (order d)) (match_ordering o ((c, v) ∷ e ∷ es) ((e.0, v) ∷ es) (e ∷ insert_entry order es c v)) ≡ lookup (is_at (order d)) (e ∷ es)
    by Less h later = rw (not_both c d c apart (at_same c)) refl
    by Equal h later = rw (not_both c d e.0 apart (ap is_eq h)) refl
    by Greater h later = next (bool_cases (is_at (order d) e.0))
      where
        next : (is_at (order d) e.0 ≡ true) ⊎ (is_at (order d) e.0 ≡ false)
            → lookup (is_at (order d)) (e ∷ insert_entry order es c v) ≡ lookup (is_at (order d)) (e ∷ es)
        next (inl a) = rw a refl
        next (inr a) = rw a later

pub lookup_set_same : (c : CircuitId) (es : Entries) (u v : CellView) → lookup (is_at (order c)) es ≡ Some u
    → lookup (is_at (order c)) (set_value (is_at (order c)) es v) ≡ Some v
lookup_set_same c [] u v found = cc
lookup_set_same c (e ∷ es) u v found = by (bool_cases (is_at (order c) e.0)) (lookup_set_same c es u v)
  where
    by : (is_at (order c) e.0 ≡ true) ⊎ (is_at (order c) e.0 ≡ false)
        → (lookup (is_at (order c)) es ≡ Some u → lookup (is_at (order c)) (set_value (is_at (order c)) es v) ≡ Some v)
        → lookup (is_at (order c)) (set_value (is_at (order c)) (e ∷ es) v) ≡ Some v
    by (inl h) later = simp h refl
    by (inr h) later =
        let after : lookup (is_at (order c)) (e ∷ es) ≡ lookup (is_at (order c)) es = rw h refl in
        simp h (later (sym after ∙ found))

pub lookup_set_other : (c d : CircuitId) (es : Entries) (v : CellView) → bytes_eq c d ≡ false
    → lookup (is_at (order d)) (set_value (is_at (order c)) es v) ≡ lookup (is_at (order d)) es
lookup_set_other c d [] v apart = refl
lookup_set_other c d (e ∷ es) v apart = by (bool_cases (is_at (order c) e.0)) (lookup_set_other c d es v apart)
  where
    by : (is_at (order c) e.0 ≡ true) ⊎ (is_at (order c) e.0 ≡ false)
        → lookup (is_at (order d)) (set_value (is_at (order c)) es v) ≡ lookup (is_at (order d)) es
        → lookup (is_at (order d)) (set_value (is_at (order c)) (e ∷ es) v) ≡ lookup (is_at (order d)) (e ∷ es)
    by (inl h) later = rw (h, not_both c d e.0 apart h) refl
    by (inr h) later = next (bool_cases (is_at (order d) e.0))
      where
        next : (is_at (order d) e.0 ≡ true) ⊎ (is_at (order d) e.0 ≡ false)
            → lookup (is_at (order d)) (set_value (is_at (order c)) (e ∷ es) v) ≡ lookup (is_at (order d)) (e ∷ es)
        next (inl a) = simp (h, a) refl
        next (inr a) = simp (h, a) later

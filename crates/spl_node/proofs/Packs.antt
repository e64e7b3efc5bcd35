-- The packed records of a node make its cells again.
use Rattle.std.specs.{List.{AllByRecursion, Sorted.IsStrictlySortedBy}, Ordering.is_eq, BTreeMap.is_at, Map.{lookup, keys_of, values_of}, Str.bytes_eq}
use Rattle.std.{specs.declared.cmp.Ordering.TheVariants.Less, proofs.Common.{◌≡◌, ◌⊎◌, inl, inr, ℕ, true, false, List, [], ◌∷◌, ◌++◌, Option, Some, None}}
use Rattle.std.proofs.{Common.{refl, sym, ◌∙◌, ap, subst, append-nil}, lemmas.Map.Text.is_eq-slice_cmp}
use Rattle.spl_agree.proofs.Tests.{bool_cases}
use Rattle.spl_circuit.specs.Nodes.{NodeId, CircuitId}
use Rattle.spl_journal.specs.Records.{AreGood}
use Rattle.spl_wire.specs.declared.change.Change.{Change}
use Rattle.spl_cell.specs.Views.{CellView}
use Rattle.spl_cell_rules.specs.{Cells.{Empty, Site, site_at}, Changes.{applied, stopped_cell}, Pack.packed}
use Rattle.spl_node.specs.{Records.{is_record, changes_in, recorded_cell}, Kept.{Entries, IsOwn, AreOwn, AreSound, cell_at, state_or_empty, packed_cell}}
use Rattle.spl_node.{specs.Kept.{packed_cells, packed_node}, proofs.{Booleans.{bytes_are, bytes_same}, Reading.changes_in-append, Groups.packed_good}}
use Rattle.spl_node.proofs.{Groups.{packed_own, packed_other}, Maps.{order, at_is, found_own}}

pub sound_of : (here : NodeId) (es : Entries) → AreOwn here es → AreSound (values_of es)
sound_of here [] own = tt
sound_of here (e ∷ es) own = (own.0.sound, sound_of here es own.1)

good_append : (xs ys : List (List ℕ)) → AreGood is_record xs → AreGood is_record ys → AreGood is_record (xs ++ ys)
good_append [] ys a b = b
good_append (x ∷ xs) ys a b = (a.0, good_append xs ys a.1 b)

good_cells : (vs : List CellView) → AreSound vs → AreGood is_record (packed_cells vs)
good_cells [] sound = tt
good_cells (v ∷ vs) sound = good_append (packed_cell v) (packed_cells vs) (packed_good v sound.0) (good_cells vs sound.1)

-- they are good ones
pub good_node : (here : NodeId) (es : Entries) → AreOwn here es → AreGood is_record (packed_node es)
good_node here es own = good_cells (values_of es) (sound_of here es own)

-- ---- the cell of one circuit among them

-- after a key that is found in an ordered list no other is
later_apart : (k c : CircuitId) (ks : List CircuitId) → is_at (order c) k ≡ true → AllByRecursion (λ (y : CircuitId). order k y ≡ Less) ks
    → AllByRecursion (λ (y : CircuitId). bytes_eq y c ≡ false) ks
later_apart k c [] found below = tt
later_apart k c (y ∷ ys) found below = (by (bool_cases (bytes_eq y c)), later_apart k c ys found below.1)
  where
    by : (bytes_eq y c ≡ true) ⊎ (bytes_eq y c ≡ false) → bytes_eq y c ≡ false
    by (inl e) =
        let same : k ≡ y = sym (at_is c k found) ∙ sym (bytes_are y c e) in
        let eq : is_eq (order k y) ≡ true = is_eq-slice_cmp k y ∙ subst (λ (z : CircuitId). bytes_eq k z ≡ true) same (bytes_same k) in
        let never : true ≡ false = sym eq ∙ ap is_eq below.0 in
        absurd (cc)
    by (inr e) = e

none_about : (here : NodeId) (c : CircuitId) (es : Entries) → AreOwn here es → AllByRecursion (λ (y : CircuitId). bytes_eq y c ≡ false) (keys_of es)
    → changes_in c (packed_node es) ≡ []
none_about here c [] own apart = refl
none_about here c (e ∷ es) own apart =
    changes_in-append c (packed_cell e.1) (packed_node es)
    ∙ (ap (λ (l : List Change). l ++ changes_in c (packed_node es))
    (packed_other e.1 c (subst (λ (k : CircuitId). bytes_eq k c ≡ false) (ap (λ (s : Site). s.circuit) (sym own.0.site_is)) apart.0) own.0.sound)
    ∙ none_about here c es own.1 apart.1)

pub changes_packed : (here : NodeId) (c : CircuitId) (es : Entries) → IsStrictlySortedBy order (keys_of es) → AreOwn here es
    → changes_in c (packed_node es) ≡ packed (cell_at es c)
unfolding IsStrictlySortedBy
changes_packed here c [] ordered own = refl
changes_packed here c (e ∷ es) ordered own = by (bool_cases (is_at (order c) e.0)) (changes_packed here c es ordered.1 own.1)
  where
    by : (is_at (order c) e.0 ≡ true) ⊎ (is_at (order c) e.0 ≡ false) → changes_in c (packed_node es) ≡ packed (cell_at es c)
        → changes_in c (packed_node (e ∷ es)) ≡ packed (cell_at (e ∷ es) c)
    by (inl h) later =
        let first : cell_at (e ∷ es) c ≡ e.1.state = rw h refl in
        changes_in-append c (packed_cell e.1) (packed_node es)
        ∙ (ap (λ (l : List Change). changes_in c (packed_cell e.1) ++ l) (none_about here c es own.1 (later_apart e.0 c (keys_of es) h ordered.0))
        ∙ (append-nil (changes_in c (packed_cell e.1))
        ∙ (subst (λ (k : CircuitId). changes_in k (packed_cell e.1) ≡ packed e.1.state) (ap (λ (s : Site). s.circuit) own.0.site_is ∙ sym (at_is c e.0 h))
        (packed_own e.1 own.0.sound)
        ∙ sym (ap packed first))))
    by (inr h) later =
        let after : cell_at (e ∷ es) c ≡ cell_at es c = rw h refl in
        changes_in-append c (packed_cell e.1) (packed_node es)
        ∙ (ap (λ (l : List Change). l ++ changes_in c (packed_node es))
        (packed_other e.1 c (subst (λ (k : CircuitId). bytes_eq k c ≡ false) (ap (λ (s : Site). s.circuit) (sym own.0.site_is))
        (apart e.0 c h)) own.0.sound)
        ∙ (later
        ∙ sym (ap packed after)))
      where
        apart : (k d : CircuitId) → is_at (order d) k ≡ false → bytes_eq k d ≡ false
        apart k d unlike = over (bool_cases (bytes_eq k d))
          where
            over : (bytes_eq k d ≡ true) ⊎ (bytes_eq k d ≡ false) → bytes_eq k d ≡ false
            over (inl q) =
                absurd (let x : true ≡ false = sym
                (is_eq-slice_cmp d k ∙ subst (λ (z : CircuitId). bytes_eq d z ≡ true) (sym (bytes_are k d q)) (bytes_same d)) ∙ unlike in (cc))
            over (inr q) = q

-- and they make it again except its open rounds
pub made_again : (here : NodeId) (c : CircuitId) (es : Entries) → IsStrictlySortedBy order (keys_of es) → AreOwn here es
    → recorded_cell here c (packed_node es) ≡ stopped_cell (cell_at es c)
made_again here c es ordered own =
    ap (λ (xs : List Change). applied (site_at here c) Empty xs) (changes_packed here c es ordered own) ∙ by (lookup (is_at (order c)) es) refl
  where
    by : (o : Option CellView) → lookup (is_at (order c)) es ≡ o → applied (site_at here c) Empty (packed (cell_at es c)) ≡ stopped_cell (cell_at es c)
    by None e =
        ap (λ (o : Option CellView). applied (site_at here c) Empty (packed (state_or_empty o))) e
        ∙ sym (ap (λ (o : Option CellView). stopped_cell (state_or_empty o)) e)
    by (Some v) e =
        let own_v : IsOwn here c v = found_own here c es v own e in
        ap (λ (o : Option CellView). applied (site_at here c) Empty (packed (state_or_empty o))) e
        ∙ (subst (λ (site : Site). applied site Empty (packed v.state) ≡ stopped_cell v.state) own_v.site_is own_v.sound.again
        ∙ sym (ap (λ (o : Option CellView). stopped_cell (state_or_empty o)) e))

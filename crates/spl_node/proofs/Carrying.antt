-- A cell at which a plan was carried out, or a record was read.
use Rattle.std.{specs.{Prelude.{IsTrue, if◌then◌else◌}, List.list_all, BTreeMap.is_at, Map.lookup, Str.bytes_eq}, proofs.Common.{◌≡◌, ◌⊎◌, inl, inr, Bool}}
use Rattle.std.proofs.{Common.{true, false, List, [], ◌++◌, refl, sym, ◌∙◌, ap, subst}, lemmas.List.Folds.list_all-append}
use Rattle.spl_base.specs.FormLaws.{and_true}
use Rattle.spl_agree.{specs.declared.event.OpenMove.OpenMove, proofs.Tests.bool_cases}
use Rattle.spl_circuit.specs.{Forms.circuit_id, Nodes.CircuitId}
use Rattle.spl_wire.specs.{Changes.change_form, declared.change.Change.Change}
use Rattle.spl_cell.specs.Views.{CellView}
use Rattle.spl_cell_rules.{specs.{Cells.{Cell, Empty, Site}, Changes.{applied, moved_cell, stopped_cell}, Pack.packed}, proofs.Bounded.packed-written}
use Rattle.spl_cell_rules.proofs.{Packed.{packed-stopped, packed-leads, made-applied}, Plans.applied-append}
use Rattle.spl_node.{proofs.{Booleans.bytes_are, Stops.stopped-moved}, specs.Kept.{Entries, IsCellSound, cell_at, state_or_empty}}
use Rattle.spl_node.proofs.{Stops.applied-stopped, Maps.order}

all_both : (p : Change → Bool) (xs ys : List Change) → IsTrue (list_all p xs) → IsTrue (list_all p ys) → IsTrue (list_all p (xs ++ ys))
all_both p xs ys a b = list_all-append p xs ys ∙ and_true (list_all p xs) (list_all p ys) a b

-- a cell that stands except its open rounds where these changes lead
sound_where : (v : CellView) (ys : List Change) → v.halted ≡ false → IsTrue (circuit_id.fits v.site.circuit) → IsTrue (list_all change_form.fits ys)
    → stopped_cell v.state ≡ applied v.site Empty ys → IsCellSound v
sound_where v ys running named fit is =
    let same : packed v.state ≡ packed (applied v.site Empty ys) = sym (packed-stopped v.state) ∙ ap packed is in
    record {
      running = running;
      named = named;
      written = subst (λ (xs : List Change). IsTrue (list_all change_form.fits xs)) (sym same) (packed-written v.site ys fit);
      again = ap (λ (xs : List Change). applied v.site Empty xs) same
          ∙ (packed-leads v.site (applied v.site Empty ys) (made-applied v.site Empty ys tt) ∙ sym is);
    }

-- an empty cell is sound
pub sound_empty : (v : CellView) → v.state ≡ Empty → v.halted ≡ false → IsTrue (circuit_id.fits v.site.circuit) → IsCellSound v
sound_empty v empty running named = sound_where v [] running named refl (ap stopped_cell empty)

-- changes and moves after a sound cell
pub sound_moved : (v w : CellView) (xs : List Change) (x y : OpenMove) → IsCellSound v → w.site ≡ v.site → w.halted ≡ false
    → IsTrue (list_all change_form.fits xs)
    → w.state ≡ moved_cell v.site.here (applied v.site v.state xs) x y → IsCellSound w
sound_moved v w xs x y sound same running fit is =
    sound_where w (packed v.state ++ xs) running (subst (λ (s : Site). IsTrue (circuit_id.fits s.circuit)) (sym same) sound.named)
    (all_both change_form.fits (packed v.state) xs sound.written fit)
    (subst (λ (s : Site). stopped_cell w.state ≡ applied s Empty (packed v.state ++ xs)) (sym same) leads)
  where
    leads : stopped_cell w.state ≡ applied v.site Empty (packed v.state ++ xs)
    leads =
        ap stopped_cell is
        ∙ (stopped-moved v.site.here (applied v.site v.state xs) x y
        ∙ (sym (applied-stopped v.site v.state xs)
        ∙ (ap (λ (k : Cell). applied v.site k xs) (sym sound.again)
        ∙ sym (applied-append v.site Empty (packed v.state) xs))))

pub sound_applied : (v w : CellView) (xs : List Change) → IsCellSound v → w.site ≡ v.site → w.halted ≡ false → IsTrue (list_all change_form.fits xs)
    → w.state ≡ applied v.site v.state xs → IsCellSound w
sound_applied v w xs sound same running fit is =
    sound_where w (packed v.state ++ xs) running (subst (λ (s : Site). IsTrue (circuit_id.fits s.circuit)) (sym same) sound.named)
    (all_both change_form.fits (packed v.state) xs sound.written fit)
    (subst (λ (s : Site). stopped_cell w.state ≡ applied s Empty (packed v.state ++ xs)) (sym same) leads)
  where
    leads : stopped_cell w.state ≡ applied v.site Empty (packed v.state ++ xs)
    leads =
        ap stopped_cell is
        ∙ (sym (applied-stopped v.site v.state xs)
        ∙ (ap (λ (k : Cell). applied v.site k xs) (sym sound.again)
        ∙ sym (applied-append v.site Empty (packed v.state) xs)))

-- ---- in a map

-- one cell changed, by a function of it, and the others stayed
pub changed_at : (f : Cell → Cell) (c : CircuitId) (old new : Entries) → cell_at new c ≡ f (cell_at old c)
    → ((d : CircuitId) → bytes_eq c d ≡ false → lookup (is_at (order d)) new ≡ lookup (is_at (order d)) old)
    → (d : CircuitId) → cell_at new d ≡ (if bytes_eq c d then f (cell_at old c) else cell_at old d)
changed_at f c old new here others d = by (bool_cases (bytes_eq c d))
  where
    by : (bytes_eq c d ≡ true) ⊎ (bytes_eq c d ≡ false) → cell_at new d ≡ (if bytes_eq c d then f (cell_at old c) else cell_at old d)
    by (inl e) = subst (λ (k : CircuitId). cell_at new k ≡ f (cell_at old c)) (bytes_are c d e) here ∙ sym (rw e refl)
    by (inr e) = ap state_or_empty (others d e) ∙ sym (rw e refl)

-- The bytes of a record that was written.
use Rattle.std.{specs.Prelude.IsTrue, proofs.Common.{◌≡◌, ℕ, ◌≤◌, List, [], ◌∷◌, length, Some, refl, sym, ◌∙◌, ap, subst}}
use Rattle.spl_circuit.specs.Nodes.{CircuitId}
use Rattle.spl_journal.specs.Records.{IsGood}
use Rattle.spl_wire.specs.{Forms.record_form, Grouping.{most_bytes, record_of, record_size}, declared.change.Change.Change}
use Rattle.spl_wire.specs.declared.record.Record.{Record}
use Rattle.spl_node.{specs.{Done.record_of_changes, Records.{is_record, record_in, record_bytes}}, proofs.{Groups.good_record, Reading.record_again}}

pub record_some : (c : CircuitId) (xs : List Change) (bytes : List ℕ) → (length xs ≡ 0 → ⊥) → bytes ≡ record_form.spell (record_of c xs)
    → Some bytes ≡ record_of_changes c xs
unfolding record_bytes
record_some c [] bytes some is = absurd (some refl)
record_some c (x ∷ xs) bytes some is = ap (λ (b : List ℕ). Some b) is

pub recorded_good : (c : CircuitId) (xs : List Change) (bytes : List ℕ) → bytes ≡ record_form.spell (record_of c xs)
    → IsTrue (record_form.fits (record_of c xs)) → record_size c xs ≤ most_bytes → IsGood is_record bytes
unfolding record_bytes
recorded_good c xs bytes is fits short = subst (λ (b : List ℕ). IsGood is_record b) (sym is) (good_record c xs fits short)

pub recorded_read : (r : Record) (bytes : List ℕ) → bytes ≡ record_form.spell r → IsTrue (record_form.fits r) → record_in bytes ≡ Some r
unfolding record_bytes
recorded_read r bytes is fits = ap (λ (b : List ℕ). record_in b) is ∙ record_again r fits

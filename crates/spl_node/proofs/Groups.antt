-- The records of a packed cell.
use Rattle.std.{specs.{Prelude.IsTrue, List.list_all, Str.bytes_eq}, proofs.Common.{◌≡◌, ℕ, ◌≤◌, List, [], ◌∷◌, ◌++◌, length, Bool, true, false, ◌&&◌}}
use Rattle.std.proofs.{Common.{nat_le, Option, Some, refl, sym, ◌∙◌, ap, subst, arith}, lemmas.List.Folds.list_all-append}
use Rattle.spl_agree.proofs.Tests.{and_left, and_right}
use Rattle.spl_circuit.specs.{Forms.circuit_id, Nodes.CircuitId}
use Rattle.spl_journal.specs.Records.{IsGood, AreGood}
use Rattle.spl_wire.specs.{Changes.change_form, Forms.record_form, Grouping.{most_bytes, record_of, record_size, grouped, grouped_records, spelled, together}}
use Rattle.spl_wire.{specs.{Grouping.is_sized, declared.change.Change.Change}, proofs.{Sizes.size-of, Groups.together-grouped}}
use Rattle.spl_wire.specs.declared.record.Record.{Record}
use Rattle.spl_cell_rules.{specs.Pack.packed, proofs.{Bounded.packed-sized, Packed.packed-stopped}}
use Rattle.spl_cell.specs.Views.{CellView}
use Rattle.spl_node.{specs.{Records.{is_record, record_bytes, changes_about, changes_in}, Kept.{packed_cell, IsCellSound}}, proofs.Booleans.bytes_same}
use Rattle.spl_node.proofs.{Booleans.{le_is, is_le}, Reading.{record_again, is_record_again}}

-- a record of so few changes that have byte forms has one
pub record_fits : (c : CircuitId) (xs : List Change) → IsTrue (circuit_id.fits c) → length xs ≤ 64 → IsTrue (list_all change_form.fits xs)
    → IsTrue (record_form.fits (record_of c xs))
record_fits c xs named few fit = rw (named, le_is (length xs) 64 few, fit) refl

pub id_fits : (r : Record) → IsTrue (record_form.fits r) → IsTrue (circuit_id.fits r.circuit)
id_fits r fits = and_left (circuit_id.fits r.circuit) (nat_le (length r.changes) 64 && list_all change_form.fits r.changes) fits

pub changes_fit : (r : Record) → IsTrue (record_form.fits r) → IsTrue (list_all change_form.fits r.changes)
changes_fit r fits =
    and_right (nat_le (length r.changes) 64) (list_all change_form.fits r.changes)
    (and_right (circuit_id.fits r.circuit) (nat_le (length r.changes) 64 && list_all change_form.fits r.changes) fits)

-- a record that fits, and whose byte form is no longer than a record may be, is a good one
pub good_record : (c : CircuitId) (xs : List Change) → IsTrue (record_form.fits (record_of c xs)) → record_size c xs ≤ most_bytes
    → IsGood is_record (record_bytes (record_of c xs))
unfolding record_bytes
good_record c xs fits short =
    record { some = subst (λ (n : ℕ). 1 ≤ n) (sym (size-of c xs)) (omega arith); most = short; fits_form = is_record_again (record_of c xs) fits }

-- each group is within the bounds, and its changes have byte forms
record IsGroup (c : CircuitId) (xs : List Change) : Type 0 where
  few : length xs ≤ 64
  short : record_size c xs ≤ most_bytes
  fit : IsTrue (list_all change_form.fits xs)

abbrev AreGroups : CircuitId → List (List Change) → Type 0
AreGroups c [] = Unit {0}
AreGroups c (xs ∷ xss) = IsGroup c xs × AreGroups c xss

all_parts : (p : Change → Bool) (xs ys : List Change) → IsTrue (list_all p (xs ++ ys)) → IsTrue (list_all p xs) × IsTrue (list_all p ys)
all_parts p xs ys h =
    let two : (list_all p xs && list_all p ys) ≡ true = sym (list_all-append p xs ys) ∙ h in
    (and_left (list_all p xs) (list_all p ys) two, and_right (list_all p xs) (list_all p ys) two)

groups_of : (c : CircuitId) (xss : List (List Change)) → list_all (is_sized c) xss ≡ true → IsTrue (list_all change_form.fits (together xss)) → AreGroups c xss
groups_of c [] sized fit = tt
groups_of c (xs ∷ xss) sized fit =
    let one : is_sized c xs ≡ true = and_left (is_sized c xs) (list_all (is_sized c) xss) sized in
    let two : (nat_le (length xs) 64 && nat_le (record_size c xs) most_bytes) ≡ true =
    and_right (nat_le 1 (length xs)) (nat_le (length xs) 64 && nat_le (record_size c xs) most_bytes) one in
    let parts : IsTrue (list_all change_form.fits xs) × IsTrue (list_all change_form.fits (together xss)) =
    all_parts change_form.fits xs (together xss) fit in (
      record {
        few = is_le (length xs) 64 (and_left (nat_le (length xs) 64) (nat_le (record_size c xs) most_bytes) two);
        short = is_le (record_size c xs) most_bytes (and_right (nat_le (length xs) 64) (nat_le (record_size c xs) most_bytes) two);
        fit = parts.0;
      },
      groups_of c xss (and_right (is_sized c xs) (list_all (is_sized c) xss) sized) parts.1,
    )

-- the groups of a sound cell
groups : (v : CellView) → IsCellSound v → AreGroups v.site.circuit (grouped v.site.circuit (packed v.state))
groups v sound = groups_of v.site.circuit (grouped v.site.circuit (packed v.state))
    (subst (λ (xs : List Change). list_all (is_sized v.site.circuit) (grouped v.site.circuit xs) ≡ true) (ap packed sound.again ∙ packed-stopped v.state)
    (packed-sized v.site (packed v.state) sound.named sound.written))
    (subst (λ (xs : List Change). IsTrue (list_all change_form.fits xs)) (sym (together-grouped v.site.circuit (packed v.state))) sound.written)

group_fits : (c : CircuitId) (xs : List Change) → IsTrue (circuit_id.fits c) → IsGroup c xs → IsTrue (record_form.fits (record_of c xs))
group_fits c xs named g = record_fits c xs named g.few g.fit

good_of : (c : CircuitId) (xss : List (List Change)) → IsTrue (circuit_id.fits c) → AreGroups c xss → AreGood is_record (spelled (grouped_records c xss))
unfolding record_bytes
good_of c [] named gs = tt
good_of c (xs ∷ xss) named gs = (good_record c xs (group_fits c xs named gs.0) gs.0.short, good_of c xss named gs.1)

-- its records are good ones
pub packed_good : (v : CellView) → IsCellSound v → AreGood is_record (packed_cell v)
packed_good v sound = good_of v.site.circuit (grouped v.site.circuit (packed v.state)) sound.named (groups v sound)

-- the changes of its own circuit in them are its packed form, and there are none of another
own_changes : (c : CircuitId) (xss : List (List Change)) → IsTrue (circuit_id.fits c) → AreGroups c xss
    → changes_in c (spelled (grouped_records c xss)) ≡ together xss
unfolding record_bytes
own_changes c [] named gs = refl
own_changes c (xs ∷ xss) named gs =
    let all : changes_about c (Some (record_of c xs)) ≡ xs = rw (bytes_same c) refl in
    ap (λ (l : List Change). l ++ changes_in c (spelled (grouped_records c xss)))
    (ap (λ (o : Option Record). changes_about c o) (record_again (record_of c xs) (group_fits c xs named gs.0)) ∙ all)
    ∙ ap (λ (l : List Change). xs ++ l) (own_changes c xss named gs.1)

other_changes : (c other : CircuitId) (xss : List (List Change)) → bytes_eq c other ≡ false → IsTrue (circuit_id.fits c) → AreGroups c xss
    → changes_in other (spelled (grouped_records c xss)) ≡ []
unfolding record_bytes
other_changes c other [] apart named gs = refl
other_changes c other (xs ∷ xss) apart named gs =
    let none : changes_about other (Some (record_of c xs)) ≡ [] = rw apart refl in
    ap (λ (l : List Change). l ++ changes_in other (spelled (grouped_records c xss)))
    (ap (λ (o : Option Record). changes_about other o) (record_again (record_of c xs) (group_fits c xs named gs.0)) ∙ none)
    ∙ other_changes c other xss apart named gs.1

pub packed_own : (v : CellView) → IsCellSound v → changes_in v.site.circuit (packed_cell v) ≡ packed v.state
packed_own v sound =
    own_changes v.site.circuit (grouped v.site.circuit (packed v.state)) sound.named (groups v sound) ∙ together-grouped v.site.circuit (packed v.state)

pub packed_other : (v : CellView) (other : CircuitId) → bytes_eq v.site.circuit other ≡ false → IsCellSound v → changes_in other (packed_cell v) ≡ []
packed_other v other apart sound = other_changes v.site.circuit other (grouped v.site.circuit (packed v.state)) apart sound.named (groups v sound)

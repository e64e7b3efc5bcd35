-- Changes that are read from bytes have byte forms.
use Rattle.std.{specs.{Prelude.nat_le, List.list_all}, proofs.Common.{◌≡◌, true, IsTrue, List, [], ◌∷◌, length, refl}}
use Rattle.spl_base.specs.FormLaws.{both_true, and_true}
use Rattle.spl_agree.specs.declared.event.GroupChange.{GroupChange}
use Rattle.spl_agree.specs.declared.event.GroupChange.TheVariants as change
use Rattle.spl_circuit.specs.{Forms.{circuit_id, node_id, word, kind, act}, declared.act.Act.Act}
use Rattle.spl_wire.specs.{Bodies.{long, reason_form}, Changes.change_form, Forms.record_form, Grouping.{value_in, meets}, Bounds.{has_form, is_formed}}
use Rattle.spl_wire.specs.declared.change.Change.{Change}
use Rattle.spl_wire.specs.declared.record.Record.{Record}
use Rattle.spl_wire.specs.declared.change.Change.TheVariants as durable
use Rattle.spl_cell_rules.specs.Valid.{are_formed}

pub form-act : (v : Act) → IsTrue (act.fits v) → has_form v ≡ true
form-act v h =
    let b = both_true (node_id.fits v.node) _ h in
    and_true (node_id.fits v.node) (kind.fits v.kind) b.0 (both_true (word.fits v.turn) (kind.fits v.kind) b.1).1

form-admin : (x : GroupChange Act) → IsTrue (change_form.fits (durable.Admin x)) → meets has_form (value_in x) ≡ true
form-admin (change.Queue v) h = form-act v h
form-admin (change.Refuse v why) h = form-act v (both_true (act.fits v) (reason_form.fits why) h).0
form-admin (change.Promise r v) h = form-act v (both_true (long.fits r) (act.fits v) h).1
form-admin (change.Commit r v) h = form-act v (both_true (long.fits r) (act.fits v) h).1
form-admin (change.Kept v why) h = form-act v (both_true (act.fits v) (reason_form.fits why) h).0
form-admin _ h = refl

form-one : (x : Change) → IsTrue (change_form.fits x) → is_formed x ≡ true
form-one (durable.Bind d) h = h
form-one (durable.Admin x) h = form-admin x h
form-one _ h = refl

read-formed : (xs : List Change) → IsTrue (list_all change_form.fits xs) → are_formed xs ≡ true
read-formed [] h = refl
read-formed (x ∷ xs) h =
    let b = both_true (change_form.fits x) (list_all change_form.fits xs) h in and_true (is_formed x) (are_formed xs) (form-one x b.0) (read-formed xs b.1)

pub read-record : (r : Record) → IsTrue (record_form.fits r) → are_formed r.changes ≡ true
read-record r h =
    read-formed r.changes (both_true (nat_le (length r.changes) 64) (list_all change_form.fits r.changes) (both_true (circuit_id.fits r.circuit) _ h).1).1

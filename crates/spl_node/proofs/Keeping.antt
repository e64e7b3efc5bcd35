-- What cells keep that records make.
use Rattle.std.{specs.{Prelude.{IsTrue, nat_le}, List.list_all, BTreeMap.is_at, Map.lookup, Str.bytes_eq}, proofs.Common.{◌≡◌, true, false, ℕ, Bool, ◌&&◌}}
use Rattle.std.proofs.Common.{List, [], ◌∷◌, ◌++◌, length, ◌==◌, if◌then◌else◌, Option, Some, None, Ok, Err, refl, subst}
use Rattle.spl_base.specs.{Form.{IsBytes, Parsed}, FormLaws.{both_true, and_true}, Input.{Input, ◌>>=◌}}
use Rattle.spl_agree.specs.Member.{Rules, Member, restarted}
use Rattle.spl_circuit.specs.{Forms.circuit_id, Nodes.{NodeId, CircuitId}, Acts.act_rules}
use Rattle.spl_scabbard.specs.Checks.{batch_rules}
use Rattle.spl_wire.specs.{Bounds.{has_form, is_formed}, Changes.change_form, Forms.{record_form, exact_record}, declared.change.Change.Change}
use Rattle.spl_wire.specs.declared.record.Record.{Record}
use Rattle.spl_cell_rules.specs.{Cells.{Cell, Empty, Held, Purged, Site, site_at}, Changes.{applied_one, may_serve, stopped_cell}, Pack.packed, Valid.AllMeet}
use Rattle.spl_cell_rules.specs.Valid.{IsKept, IsKeptMember, are_formed}
use Rattle.spl_cell.{specs.Views.CellView, proofs.Lists.kept_list}
use Rattle.spl_node.specs.{Kept.{AreOwn, Entries, IsOwn, cell_at, state_or_empty}, Records.{AreBytes, changes_about, changes_in, record_in, recorded_cell}}
use Rattle.spl_node.{specs.Records.whole, proofs.Maps.{found_own, order}}

-- a change that has a form keeps what a cell keeps; the changes of a record that has a form have forms
abbrev pub ChangesKeep : Type 0
ChangesKeep = (site : Site) (k : Cell) (x : Change) → is_formed x ≡ true → IsKept site k → IsKept site (applied_one site k x)

abbrev pub RecordsAreFormed : Type 0
RecordsAreFormed = (r : Record) → IsTrue (record_form.fits r) → are_formed r.changes ≡ true

-- ---- records that are bytes

-- what was read of bytes has a byte form
some_of : (b : Bool) (x r : Record) → (if b then Some x else None) ≡ Some r → x ≡ r
some_of true x r is = cc
some_of false x r is = absurd cc

read_fits : (bytes : List ℕ) (r : Record) → IsBytes bytes → record_in bytes ≡ Some r → IsTrue (record_form.fits r)
unfolding record_in
read_fits bytes r good = by (record_form.parse start) refl
  where
    start : Input
    start = record { rest = bytes; place = 0 }

    by : (p : Parsed Record) → record_form.parse start ≡ p → whole (length bytes) (p >>= λ x. Ok (x.0, x.1.place)) ≡ Some r → IsTrue (record_form.fits r)
    by (Ok x) parsed is =
        subst (λ (s : Record). IsTrue (record_form.fits s)) (some_of (x.1.place == length bytes) x.0 r is)
        (exact_record.takes start x.0 x.1 good parsed).is_fit
    by (Err at) parsed is = absurd cc

formed_append : (xs ys : List Change) → are_formed xs ≡ true → are_formed ys ≡ true → are_formed (xs ++ ys) ≡ true
formed_append [] ys a b = b
formed_append (x ∷ xs) ys a b =
    let h = both_true (is_formed x) (are_formed xs) a in and_true (is_formed x) (are_formed (xs ++ ys)) h.0 (formed_append xs ys h.1 b)

formed_about : (c : CircuitId) (o : Option Record) → ((r : Record) → o ≡ Some r → are_formed r.changes ≡ true) → are_formed (changes_about c o) ≡ true
formed_about c None h = refl
formed_about c (Some r) h = by (bytes_eq r.circuit c)
  where
    by : (b : Bool) → are_formed (if b then r.changes else []) ≡ true
    by true = h r refl
    by false = refl

formed_in : RecordsAreFormed → (c : CircuitId) (rs : List (List ℕ)) → AreBytes rs → are_formed (changes_in c rs) ≡ true
formed_in law c [] good = refl
formed_in law c (bytes ∷ rs) good =
    formed_append (changes_about c (record_in bytes)) (changes_in c rs) (formed_about c (record_in bytes) (λ r is. law r (read_fits bytes r good.0 is)))
    (formed_in law c rs good.1)

pub recorded_kept : ChangesKeep → RecordsAreFormed → (here : NodeId) (c : CircuitId) (rs : List (List ℕ)) → AreBytes rs
    → IsKept (site_at here c) (recorded_cell here c rs)
recorded_kept step law here c rs good = kept_list (site_at here c) step Empty (changes_in c rs) (formed_in law c rs good) tt

-- ---- cells that a node has

-- a change that has a byte form stands in a record that has one
formed_one : RecordsAreFormed → (c : CircuitId) → IsTrue (circuit_id.fits c) → (x : Change) → IsTrue (change_form.fits x) → is_formed x ≡ true
formed_one law c named x fits =
    (both_true (is_formed x) true
    (law (record { circuit = c; changes = x ∷ [] })
    (and_true (circuit_id.fits c) (nat_le 1 64 && (change_form.fits x && true)) named (and_true (change_form.fits x) true fits refl)))).0

formed_all : RecordsAreFormed → (c : CircuitId) → IsTrue (circuit_id.fits c) → (xs : List Change) → IsTrue (list_all change_form.fits xs) → are_formed xs ≡ true
formed_all law c named [] fits = refl
formed_all law c named (x ∷ xs) fits =
    let b = both_true (change_form.fits x) (list_all change_form.fits xs) fits in
    and_true (is_formed x) (are_formed xs) (formed_one law c named x b.0) (formed_all law c named xs b.1)

-- what is kept hangs on no open round
member_kept : {V : Type 0} (rules : Rules V) (a : Member V) → IsKeptMember rules (restarted a) → IsKeptMember rules a
member_kept rules a h =
    record {
      good = h.good;
      promised = h.promised;
      roomy = record { few = h.roomy.few; rounds = h.roomy.rounds; room = h.roomy.room; while_promised = h.roomy.while_promised };
    }

member_meets : {V : Type 0} (may : V → Bool) (a : Member V) → AllMeet may (restarted a) → AllMeet may a
member_meets may a h = record { history = h.history; pending = h.pending; refused = h.refused; promise = h.promise }

stopped_kept : (site : Site) (k : Cell) → IsKept site (stopped_cell k) → IsKept site k
stopped_kept site (Held h) kept = record {
  ruled = kept.ruled;
  defined = kept.defined;
  own = kept.own;
  member = kept.member;
  acts = member_kept (act_rules h.definition) h.acts kept.acts;
  batches = member_kept batch_rules h.batches kept.batches;
  formed = member_meets has_form h.acts kept.formed;
  lawful = member_meets may_serve h.batches kept.lawful;
  closed = kept.closed;
}
stopped_kept site Empty kept = tt
stopped_kept site (Purged old) kept = tt

own_kept : ChangesKeep → RecordsAreFormed → (here : NodeId) (c : CircuitId) (v : CellView) → IsOwn here c v → IsKept (site_at here c) v.state
own_kept step law here c v own =
    let formed = formed_all law v.site.circuit own.sound.named (packed v.state) own.sound.written in
    let kept = subst (IsKept v.site) own.sound.again (kept_list v.site step Empty (packed v.state) formed tt) in
    subst (λ (site : Site). IsKept site v.state) own.site_is (stopped_kept v.site v.state kept)

pub cells_kept : ChangesKeep → RecordsAreFormed → (here : NodeId) (es : Entries) → AreOwn here es → (c : CircuitId) → IsKept (site_at here c) (cell_at es c)
cells_kept step law here es own c = by (lookup (is_at (order c)) es) refl
  where
    by : (o : Option CellView) → lookup (is_at (order c)) es ≡ o → IsKept (site_at here c) (state_or_empty o)
    by None found = tt
    by (Some v) found = own_kept step law here c v (found_own here c es v own found)

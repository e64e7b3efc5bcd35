-- The changes of records, after one another.
use Rattle.std.{specs.{Prelude.{IsTrue, is_some, drop}, Str.bytes_eq}, proofs.Common.{◌≡◌, ◌≢◌, ℕ, ◌+◌, List, [], ◌∷◌, ◌++◌, length, true, false, ◌==◌}}
use Rattle.std.proofs.Common.{if◌then◌else◌, Option, Some, Result, Ok, Err, refl, sym, ◌∙◌, ap, subst, inl, inr, ◌⊎◌, append_assoc, append-nil, zero-add}
use Rattle.std.proofs.{Common.arith, lemmas.{List.drop_all, Bool.Decides.nat_tests}}
use Rattle.spl_base.specs.{Input.{Input, ◌>>=◌}, Prefix.prefix_of}
use Rattle.spl_circuit.specs.Nodes.{NodeId, CircuitId}
use Rattle.spl_wire.specs.{Forms.{record_form, exact_record}, declared.change.Change.Change}
use Rattle.spl_wire.specs.declared.record.Record.{Record}
use Rattle.spl_cell_rules.{proofs.Plans.applied-append, specs.{Cells.{Empty, site_at}, Changes.applied}}
use Rattle.spl_node.specs.Records.{whole, record_in, is_record, record_bytes, changes_about, changes_in, recorded_cell}
use Rattle.spl_agree.proofs.Tests.{bool_cases}

same_size : (n : ℕ) (r : Record) → whole n (Ok (r, n)) ≡ Some r
same_size n r = rw (let e : (n == n) ≡ true = grind arith in e) refl

-- a record that was written is read
pub record_again : (r : Record) → IsTrue (record_form.fits r) → record_in (record_bytes r) ≡ Some r
unfolding record_in record_bytes
record_again r fits =
    ap (λ (x : Result (Record × ℕ) ℕ). whole (length (record_form.spell r)) x) (prefix) ∙ same_size (length (record_form.spell r)) r
  where
    read : record_form.parse (record { rest = record_form.spell r; place = 0 }) ≡ Ok (r, record { rest = []; place = 0 + length (record_form.spell r) })
    read = subst (λ (bs : List ℕ). record_form.parse (record { rest = bs; place = 0 })
        ≡ Ok (r, record { rest = []; place = 0 + length (record_form.spell r) })) (append-nil (record_form.spell r)) (exact_record.again r [] 0 fits)

    prefix : prefix_of record_form (record_form.spell r) ≡ Ok (r, length (record_form.spell r))
    prefix = ap (λ (x : Result (Record × Input) ℕ). x >>= λ y. Ok (y.0, y.1.place)) read ∙ ap (λ (n : ℕ). Ok (r, n)) (zero-add (length (record_form.spell r)))

pub is_record_again : (r : Record) → IsTrue (record_form.fits r) → is_record (record_bytes r) ≡ true
is_record_again r fits = ap (λ (o : Option Record). is_some o) (record_again r fits)

-- ---- changes after changes

pub changes_in-append : (c : CircuitId) (xs ys : List (List ℕ)) → changes_in c (xs ++ ys) ≡ changes_in c xs ++ changes_in c ys
changes_in-append c [] ys = refl
changes_in-append c (x ∷ xs) ys =
    ap (λ (l : List Change). changes_about c (record_in x) ++ l) (changes_in-append c xs ys)
    ∙ sym (append_assoc (changes_about c (record_in x)) (changes_in c xs) (changes_in c ys))

pub recorded-append : (here : NodeId) (c : CircuitId) (xs ys : List (List ℕ))
    → recorded_cell here c (xs ++ ys) ≡ applied (site_at here c) (recorded_cell here c xs) (changes_in c ys)
recorded-append here c xs ys =
    ap (λ (l : List Change). applied (site_at here c) Empty l) (changes_in-append c xs ys)
    ∙ applied-append (site_at here c) Empty (changes_in c xs) (changes_in c ys)

-- one record more
pub changes_one : (c : CircuitId) (bytes : List ℕ) (r : Record) → record_in bytes ≡ Some r
    → changes_in c (bytes ∷ []) ≡ (if bytes_eq r.circuit c then r.changes else [])
changes_one c bytes r is = append-nil (changes_about c (record_in bytes)) ∙ ap (λ (o : Option Record). changes_about c o) is

pub recorded_more : (here : NodeId) (c : CircuitId) (rs : List (List ℕ)) (bytes : List ℕ) (r : Record) → record_in bytes ≡ Some r
    → recorded_cell here c (rs ++ bytes ∷ [])
    ≡ (if bytes_eq r.circuit c then applied (site_at here c) (recorded_cell here c rs) r.changes else recorded_cell here c rs)
recorded_more here c rs bytes r is =
    recorded-append here c rs (bytes ∷ [])
    ∙ (ap (λ (l : List Change). applied (site_at here c) (recorded_cell here c rs) l) (changes_one c bytes r is) ∙ by (bool_cases (bytes_eq r.circuit c)))
  where
    by : (bytes_eq r.circuit c ≡ true) ⊎ (bytes_eq r.circuit c ≡ false)
        → applied (site_at here c) (recorded_cell here c rs) (if bytes_eq r.circuit c then r.changes else [])
        ≡ (if bytes_eq r.circuit c then applied (site_at here c) (recorded_cell here c rs) r.changes else recorded_cell here c rs)
    by (inl e) = rw e refl
    by (inr e) = rw e refl

-- bytes of which all were read are those of the record
pub whole_spelled : (bytes : List ℕ) (r : Record) (n : ℕ) → n ≡ length bytes → bytes ≡ record_form.spell r ++ drop n bytes → record_bytes r ≡ bytes
unfolding record_bytes
whole_spelled bytes r n whole is =
    sym (is ∙ ap (λ (l : List ℕ). record_form.spell r ++ l) (drop_all n bytes (omega (arith, whole))) ∙ append-nil (record_form.spell r))

pub is_record_by : (bytes : List ℕ) (r : Record) (n : ℕ) → prefix_of record_form bytes ≡ Ok (r, n) → is_record bytes ≡ (n == length bytes)
unfolding record_in
is_record_by bytes r n is = ap (λ (x : Result (Record × ℕ) ℕ). is_some (whole (length bytes) x)) is ∙ by (bool_cases (n == length bytes))
  where
    by : ((n == length bytes) ≡ true) ⊎ ((n == length bytes) ≡ false) → is_some (whole (length bytes) (Ok (r, n))) ≡ (n == length bytes)
    by (inl h) = rw h refl
    by (inr h) = rw h refl

yes_same : (m n : ℕ) → m ≡ n → (m == n) ≡ true
yes_same m n same = grind (arith, nat_tests)

no_same : (m n : ℕ) → m ≢ n → (m == n) ≡ false
no_same m n other = grind (arith, nat_tests)

pub whole_record : (bytes : List ℕ) (r : Record) (n : ℕ) → n ≡ length bytes → prefix_of record_form bytes ≡ Ok (r, n) → is_record bytes ≡ true
whole_record bytes r n whole is = is_record_by bytes r n is ∙ yes_same n (length bytes) whole

pub part_record : (bytes : List ℕ) (r : Record) (n : ℕ) → n ≢ length bytes → prefix_of record_form bytes ≡ Ok (r, n) → is_record bytes ≡ false
part_record bytes r n part is = is_record_by bytes r n is ∙ no_same n (length bytes) part

pub no_record_by : (bytes : List ℕ) (at : ℕ) → prefix_of record_form bytes ≡ Err at → is_record bytes ≡ false
unfolding record_in
no_record_by bytes at is = ap (λ (x : Result (Record × ℕ) ℕ). is_some (whole (length bytes) x)) is

-- A record that was written is read.
use Rattle.std.{specs.{Prelude.{IsTrue, is_some, drop, nat_lt, nat_le}, Int.{w8, w64}}, proofs.Common.{◌≡◌, ◌≢◌, ◌⊎◌, inl, inr, ℕ, ◌+◌, ◌≤◌, List, [], ◌++◌}}
use Rattle.std.proofs.Common.{length, true, false, ◌==◌, if◌then◌else◌, Option, None, Some, Result, Ok, Err, IfSome, refl, sym, ◌∙◌, ap, subst, append-nil}
use Rattle.std.proofs.{Common.{zero-add, arith}, lemmas.{List.{drop_all, length-append}, Bool.Decides.nat_tests}}
use Rattle.spl_agree.proofs.Tests.{bool_cases, and_left, and_right}
use Rattle.spl_base.specs.{Form.number_bytes, FormLaws.{wide8, wide64}, Input.{Input, ◌>>=◌}, Prefix.prefix_of}
use Rattle.spl_journal.specs.Records.{IsGood}
use Rattle.spl_acceptor.specs.{Forms.{paxos_record_form, exact_paxos_record}, Logs.{whole_paxos_record, paxos_record_in, is_paxos_record, paxos_record_bytes}}
use Rattle.spl_acceptor.specs.Records.{is_own, round_kept}
use Rattle.spl_acceptor.specs.declared.record.PaxosRecord.{PaxosRecord}
use Rattle.spl_acceptor.specs.declared.record.PaxosRecord.TheVariants as kept

same_size : (n : ℕ) (x : PaxosRecord) → whole_paxos_record n (Ok (x, n)) ≡ Some x
same_size n x = rw (let e : (n == n) ≡ true = grind arith in e) refl

-- a record that was written is read
pub record_again : (x : PaxosRecord) → IsTrue (paxos_record_form.fits x) → paxos_record_in (paxos_record_bytes x) ≡ Some x
unfolding paxos_record_in paxos_record_bytes
record_again x fits =
    ap (λ (r : Result (PaxosRecord × ℕ) ℕ). whole_paxos_record (length (paxos_record_form.spell x)) r) (prefix)
    ∙ same_size (length (paxos_record_form.spell x)) x
  where
    read : paxos_record_form.parse (record { rest = paxos_record_form.spell x; place = 0 })
        ≡ Ok (x, record { rest = []; place = 0 + length (paxos_record_form.spell x) })
    read = subst (λ (bs : List ℕ). paxos_record_form.parse (record { rest = bs; place = 0 })
        ≡ Ok (x, record { rest = []; place = 0 + length (paxos_record_form.spell x) })) (append-nil (paxos_record_form.spell x))
        (exact_paxos_record.again x [] 0 fits)

    prefix : prefix_of paxos_record_form (paxos_record_form.spell x) ≡ Ok (x, length (paxos_record_form.spell x))
    prefix = ap (λ (r : Result (PaxosRecord × Input) ℕ). r >>= λ y. Ok (y.0, y.1.place)) read
        ∙ ap (λ (n : ℕ). Ok (x, n)) (zero-add (length (paxos_record_form.spell x)))

pub is_record_again : (x : PaxosRecord) → IsTrue (paxos_record_form.fits x) → is_paxos_record (paxos_record_bytes x) ≡ true
is_record_again x fits = ap (λ (o : Option PaxosRecord). is_some o) (record_again x fits)

-- bytes of which all were read are those of the record
pub whole_spelled : (bytes : List ℕ) (x : PaxosRecord) (n : ℕ) → n ≡ length bytes → bytes ≡ paxos_record_form.spell x ++ drop n bytes
    → paxos_record_bytes x ≡ bytes
unfolding paxos_record_bytes
whole_spelled bytes x n whole_paxos_record is =
    sym (is ∙ ap (λ (l : List ℕ). paxos_record_form.spell x ++ l) (drop_all n bytes (omega (arith, whole_paxos_record)))
    ∙ append-nil (paxos_record_form.spell x))

is_record_by : (bytes : List ℕ) (x : PaxosRecord) (n : ℕ) → prefix_of paxos_record_form bytes ≡ Ok (x, n) → is_paxos_record bytes ≡ (n == length bytes)
unfolding paxos_record_in
is_record_by bytes x n is = ap (λ (r : Result (PaxosRecord × ℕ) ℕ). is_some (whole_paxos_record (length bytes) r)) is ∙ by (bool_cases (n == length bytes))
  where
    by : ((n == length bytes) ≡ true) ⊎ ((n == length bytes) ≡ false) → is_some (whole_paxos_record (length bytes) (Ok (x, n))) ≡ (n == length bytes)
    by (inl h) = rw h refl
    by (inr h) = rw h refl

yes_same : (m n : ℕ) → m ≡ n → (m == n) ≡ true
yes_same m n same = grind (arith, nat_tests)

no_same : (m n : ℕ) → m ≢ n → (m == n) ≡ false
no_same m n other = grind (arith, nat_tests)

pub whole_record : (bytes : List ℕ) (x : PaxosRecord) (n : ℕ) → n ≡ length bytes → prefix_of paxos_record_form bytes ≡ Ok (x, n) → is_paxos_record bytes ≡ true
whole_record bytes x n whole_paxos_record is = is_record_by bytes x n is ∙ yes_same n (length bytes) whole_paxos_record

pub part_record : (bytes : List ℕ) (x : PaxosRecord) (n : ℕ) → n ≢ length bytes → prefix_of paxos_record_form bytes ≡ Ok (x, n) → is_paxos_record bytes ≡ false
part_record bytes x n part is = is_record_by bytes x n is ∙ no_same n (length bytes) part

pub no_record_by : (bytes : List ℕ) (at : ℕ) → prefix_of paxos_record_form bytes ≡ Err at → is_paxos_record bytes ≡ false
unfolding paxos_record_in
no_record_by bytes at is = ap (λ (r : Result (PaxosRecord × ℕ) ℕ). is_some (whole_paxos_record (length bytes) r)) is

-- ---- a record that can be kept

record IsShort (bytes : List ℕ) : Type 0 where
  some : 1 ≤ length bytes
  most : length bytes ≤ 19

ballot_short : (t r b : ℕ) → IsShort (number_bytes w8 t ++ (number_bytes w64 r ++ number_bytes w64 b))
ballot_short t r b =
    let all : length (number_bytes w8 t ++ (number_bytes w64 r ++ number_bytes w64 b)) ≡ 17 =
    omega (
      arith,
      length-append (number_bytes w8 t) (number_bytes w64 r ++ number_bytes w64 b),
      length-append (number_bytes w64 r) (number_bytes w64 b),
      wide8.len t,
      wide64.len r,
      wide64.len b,
    ) in
    record { some = omega (arith, all); most = omega (arith, all) }

answer_short : (t r b : ℕ) → IsShort (number_bytes w8 t ++ (number_bytes w64 r ++ number_bytes w8 b))
answer_short t r b =
    let all : length (number_bytes w8 t ++ (number_bytes w64 r ++ number_bytes w8 b)) ≡ 10 =
    omega (
      arith,
      length-append (number_bytes w8 t) (number_bytes w64 r ++ number_bytes w8 b),
      length-append (number_bytes w64 r) (number_bytes w8 b),
      wide8.len t,
      wide64.len r,
      wide8.len b,
    ) in
    record { some = omega (arith, all); most = omega (arith, all) }

order_short : (t r i b p : ℕ) → IsShort (number_bytes w8 t ++ (number_bytes w64 r ++ (number_bytes w8 i ++ (number_bytes w64 b ++ number_bytes w8 p))))
order_short t r i b p =
    let last : length (number_bytes w64 b ++ number_bytes w8 p) ≡ 9 =
    omega (arith, length-append (number_bytes w64 b) (number_bytes w8 p), wide64.len b, wide8.len p) in
    let more : length (number_bytes w8 i ++ (number_bytes w64 b ++ number_bytes w8 p)) ≡ 10 =
    omega (arith, last, length-append (number_bytes w8 i) (number_bytes w64 b ++ number_bytes w8 p), wide8.len i) in
    let all : length (number_bytes w8 t ++ (number_bytes w64 r ++ (number_bytes w8 i ++ (number_bytes w64 b ++ number_bytes w8 p)))) ≡ 19
    = omega (
      arith,
      more,
      length-append (number_bytes w8 t) (number_bytes w64 r ++ (number_bytes w8 i ++ (number_bytes w64 b ++ number_bytes w8 p))),
      length-append (number_bytes w64 r) (number_bytes w8 i ++ (number_bytes w64 b ++ number_bytes w8 p)),
      wide8.len t,
      wide64.len r,
    ) in
    record { some = omega (arith, all); most = omega (arith, all) }

record_short : (x : PaxosRecord) → IsShort (paxos_record_form.spell x)
record_short (kept.Promised r b) = ballot_short 1 r b
record_short (kept.Accepted r i b p) = order_short 2 r i b (if p then 1 else 0)
record_short (kept.Voted r aye) = answer_short 3 r (if aye then 1 else 0)
record_short (kept.Used r b) = ballot_short 4 r b
record_short (kept.Decided r commit) = answer_short 5 r (if commit then 1 else 0)

pub good_record : (x : PaxosRecord) (bytes : List ℕ) → bytes ≡ paxos_record_form.spell x → IsTrue (paxos_record_form.fits x) → IsGood is_paxos_record bytes
unfolding paxos_record_bytes
good_record x bytes is fits =
    let short = record_short x in
    let size : length bytes ≡ length (paxos_record_form.spell x) = ap length is in
    let read : is_paxos_record bytes ≡ true = ap (λ (b : List ℕ). is_paxos_record b) is ∙ is_record_again x fits in
    record { some = omega (arith, size, short.some); most = omega (arith, size, short.most); fits_form = read }

pub good_read : (x : PaxosRecord) (bytes : List ℕ) → bytes ≡ paxos_record_form.spell x → IsTrue (paxos_record_form.fits x) → paxos_record_in bytes ≡ Some x
unfolding paxos_record_bytes
good_read x bytes is fits = ap (λ (b : List ℕ). paxos_record_in b) is ∙ record_again x fits

-- a record of one of at most 8 members
pub own_bounded : (n : ℕ) (x : PaxosRecord) → n ≤ 8 → IsTrue (is_own n x) → IsTrue (paxos_record_form.bounded x)
own_bounded n (kept.Accepted r i b p) few h =
    let some : nat_lt 0 i ≡ true = and_left (nat_lt 0 i) (nat_le i n) h in
    let most : nat_le i 8 ≡ true = within i n few (and_right (nat_lt 0 i) (nat_le i n) h) in
    rw (some, most) refl
  where
    within : (i n : ℕ) → n ≤ 8 → nat_le i n ≡ true → nat_le i 8 ≡ true
    within i n few h = grind (arith, nat_tests)
own_bounded n (kept.Promised r b) few h = refl
own_bounded n (kept.Voted r aye) few h = refl
own_bounded n (kept.Used r b) few h = refl
own_bounded n (kept.Decided r commit) few h = refl

pub change_bounded : (n here : ℕ) (o : Option PaxosRecord) → n ≤ 8 → IfSome o (λ x. (round_kept x ≡ here) × IsTrue (is_own n x))
    → IfSome o (λ x. IsTrue (paxos_record_form.bounded x))
change_bounded n here None few fits = tt
change_bounded n here (Some x) few fits = own_bounded n x few fits.1

-- The records of a log, with one more or without it.
use Rattle.std.{specs.{Prelude.{IsErr, IsErrAnd, IsErrOf}, Option.option_map_or, Result.{IsOkAnd, result_map_both}}, proofs.Common.{◌≡◌, ◌⊎◌, inl, inr}}
use Rattle.std.proofs.Common.{⊎_elim, ℕ, ◌≤◌, ◌<◌, List, [], ◌∷◌, ◌++◌, length, drop, Bool, true, false, ◌&&◌, if◌then◌else◌, is_none, Option, None, Some}
use Rattle.std.proofs.{Common.{Result, Ok, Err, IfSome, refl, sym, ◌∙◌, ap, subst, append_assoc, append-nil, arith}, lemmas.Bool.cases_lt}
use Rattle.spl_edge.specs.Devices.{Onward, Image, IsSettled, DiskView, image_now}
use Rattle.spl_journal.specs.{Gate.{LeavesBetween, LeavesSince}, Reads.Stays, Records.{Standing, Walking, SameHead, form_in, is_older, is_open, records}}
use Rattle.spl_journal.{proofs.Pieces.{lift1, lift2}, specs.Records.{records_of, epoch_fault, head_fault, walk, walk_after, longest_in, IsBeforeOrAfter}}
use Rattle.spl_journal.{specs.declared.journal_form.{JournalForm.JournalForm, TheConstants.WRITTEN}, proofs.{Gates.started, Heads.kept_form}}
use Rattle.spl_journal.proofs.{Heads.standing_records, Images.{Safe, only_settled}}
use Rattle.spl_acceptor.specs.Logs.{paxos_record_in, is_paxos_record, older_fault, one_or_none, records_read, records_on, paxos_records, IsKeptOrNot}
use Rattle.spl_acceptor.specs.Logs.{JournalMakes}
use Rattle.spl_acceptor.specs.declared.record.PaxosRecord.{PaxosRecord}

abbrev read_result : Result (List (List ℕ)) ℕ → Result (List PaxosRecord) ℕ
read_result r = result_map_both records_read (λ (at : ℕ). at) r

-- ---- records

pub read-more : (rs : List (List ℕ)) (bytes : List ℕ) (x : PaxosRecord) → paxos_record_in bytes ≡ Some x
    → records_read (rs ++ bytes ∷ []) ≡ records_read rs ++ x ∷ []
read-more [] bytes x is = append-nil (one_or_none (paxos_record_in bytes)) ∙ ap one_or_none is
read-more (r ∷ rs) bytes x is =
    ap (λ (l : List PaxosRecord). one_or_none (paxos_record_in r) ++ l) (read-more rs bytes x is)
    ∙ sym (append_assoc (one_or_none (paxos_record_in r)) (records_read rs) (x ∷ []))

abbrev fault_if : Bool → Option ℕ
fault_if b = if b then Some 0 else None

-- a form that isn't older
pub new_form : (bytes : List ℕ) (form : JournalForm) → form_in bytes ≡ Some form → is_older form ≡ false → older_fault bytes ≡ None
new_form bytes form is new =
    ap (λ (o : Option JournalForm). fault_if (is_open bytes && option_map_or is_older o false)) is
    ∙ ap (λ (b : Bool). fault_if (is_open bytes && b)) new ∙ no_more (is_open bytes)
  where
    no_more : (b : Bool) → fault_if (b && false) ≡ None
    no_more true = refl
    no_more false = refl

pub old_form : (bytes : List ℕ) (form : JournalForm) → form_in bytes ≡ Some form → head_fault bytes ≡ None → is_older form ≡ true → older_fault bytes ≡ Some 0
old_form bytes form is head old =
    ap (λ (o : Option JournalForm). fault_if (is_open bytes && option_map_or is_older o false)) is
    ∙ ap (λ (b : Bool). fault_if (is_open bytes && b)) old ∙ ap (λ (h : Option ℕ). fault_if (is_none h && true)) head

pub on_these : (bytes : List ℕ) (rs : List (List ℕ)) → older_fault bytes ≡ None → records is_paxos_record bytes ≡ Ok rs
    → records_on bytes ≡ Ok (records_read rs)
on_these bytes rs new is = ap (λ (h : Option ℕ). read_result (walk_after h (records is_paxos_record bytes))) new ∙ ap read_result is

pub on_fault : (bytes : List ℕ) (at : ℕ) → older_fault bytes ≡ None → records is_paxos_record bytes ≡ Err at → records_on bytes ≡ Err at
on_fault bytes at new is = ap (λ (h : Option ℕ). read_result (walk_after h (records is_paxos_record bytes))) new ∙ ap read_result is

standing_new : (end extent epoch : ℕ) (i : Image) → Standing is_paxos_record end extent epoch i → older_fault i.bytes ≡ None
standing_new end extent epoch i s = new_form i.bytes WRITTEN s.form_is refl

pub standing_on : (end extent epoch : ℕ) (i : Image) → Standing is_paxos_record end extent epoch i → records_on i.bytes ≡ Ok (paxos_records i.bytes)
standing_on end extent epoch i s =
    on_these i.bytes (records_of is_paxos_record i.bytes) (standing_new end extent epoch i s) (standing_records is_paxos_record end extent epoch i s)

kept_or_not : (rs : List (List ℕ)) (bytes : List ℕ) (x : PaxosRecord) → paxos_record_in bytes ≡ Some x → (c : List ℕ) → older_fault c ≡ None
    → IsBeforeOrAfter is_paxos_record rs bytes c → IsKeptOrNot (records_read rs) (x ∷ []) c
kept_or_not rs bytes x is c new = ⊎_elim
    (λ (e : records is_paxos_record c ≡ Ok rs). inl (on_these c rs new e))
    (λ (e : records is_paxos_record c ≡ Ok (rs ++ bytes ∷ [])). inr
    (on_these c (rs ++ bytes ∷ []) new e ∙ ap (λ (xs : List PaxosRecord). Ok xs) (read-more rs bytes x is)))

-- ---- images

-- what a stop leaves of a disk on which nothing is pending
begun : (v : DiskView) (i : Image) (Q : List ℕ → Type 0) → IsSettled i → image_now v ≡ Some i → Q i.bytes → LeavesSince v v Q
begun v i Q settled here q =
    started v.image_at v.moment Q (subst (λ (o : Option Image). IfSome o (Safe Q)) (sym here) (λ c left. subst Q (sym (only_settled i c settled left)) q))

pub still_leaves : (v : DiskView) (o : Option Image) (S : Image → Type 0) (Q : Image → List ℕ → Type 0) → image_now v ≡ o → IfSome o S
    → ((i : Image) → S i → IsSettled i) → ((i : Image) → S i → Q i i.bytes) → IfSome o (λ i. LeavesSince v v (Q i))
still_leaves v None S Q here s settled q = tt
still_leaves v (Some i) S Q here s settled q = begun v i (Q i) (settled i s) here (q i s)

leaves_both : (at : ℕ → Option Image) (first last : ℕ) (P Q R : List ℕ → Type 0) → ((c : List ℕ) → P c → Q c → R c) → LeavesBetween at first last P
    → LeavesBetween at first last Q → LeavesBetween at first last R
leaves_both at first last P Q R f p q k low high =
    lift2 (at k) (Safe P) (Safe Q) (Safe R) (p k low high) (q k low high) (λ i a b c may. f c (a c may) (b c may))

module _ (x y : DiskView) (o : Option Image) (bytes : List ℕ) (change : PaxosRecord) (is : paxos_record_in bytes ≡ Some change) (end extent epoch : ℕ) where
  pub append_leaves : IfSome o (Standing is_paxos_record end extent epoch) → IfSome o (λ i. LeavesSince x y (SameHead i.bytes))
      → IfSome o (λ i. LeavesSince x y (IsBeforeOrAfter is_paxos_record (records_of is_paxos_record i.bytes) bytes))
      → IfSome o (λ i. LeavesSince x y (IsKeptOrNot (paxos_records i.bytes) (change ∷ [])))
  append_leaves stands head left = by o stands head left
    where
      by : (p : Option Image) → IfSome p (Standing is_paxos_record end extent epoch) → IfSome p (λ i. LeavesSince x y (SameHead i.bytes))
          → IfSome p (λ i. LeavesSince x y (IsBeforeOrAfter is_paxos_record (records_of is_paxos_record i.bytes) bytes))
          → IfSome p (λ i. LeavesSince x y (IsKeptOrNot (paxos_records i.bytes) (change ∷ [])))
      by None s h l = tt
      by (Some i) s h l =
          leaves_both y.image_at x.moment y.moment (SameHead i.bytes) (IsBeforeOrAfter is_paxos_record (records_of is_paxos_record i.bytes) bytes)
          (IsKeptOrNot (paxos_records i.bytes) (change ∷ []))
          (λ c kept more. kept_or_not (records_of is_paxos_record i.bytes) bytes change is c
          (new_form c WRITTEN (kept_form i.bytes c kept ∙ s.form_is) refl) more) h l

  pub append_keeps : (p : Option Image)
      → IfSome p (Standing is_paxos_record end extent epoch)
      × IfSome o (λ i. IfSome p (λ j. records is_paxos_record j.bytes ≡ Ok (records_of is_paxos_record i.bytes ++ bytes ∷ [])))
      → IfSome o (λ i. IfSome p (λ j. records_on j.bytes ≡ Ok (paxos_records i.bytes ++ change ∷ [])))
  append_keeps p (stands, kept) =
      lift1 o (λ i. IfSome p (λ j. records is_paxos_record j.bytes ≡ Ok (records_of is_paxos_record i.bytes ++ bytes ∷ [])))
      (λ i. IfSome p (λ j. records_on j.bytes ≡ Ok (paxos_records i.bytes ++ change ∷ []))) kept
      (λ i k. lift2 p (Standing is_paxos_record end extent epoch)
      (λ j. records is_paxos_record j.bytes ≡ Ok (records_of is_paxos_record i.bytes ++ bytes ∷ []))
      (λ j. records_on j.bytes ≡ Ok (paxos_records i.bytes ++ change ∷ [])) stands k
      (λ j s e. on_these j.bytes (records_of is_paxos_record i.bytes ++ bytes ∷ []) (standing_new end extent epoch j s) e
      ∙ ap (λ (xs : List PaxosRecord). Ok xs) (read-more (records_of is_paxos_record i.bytes) bytes change is)))

-- nothing is kept more
pub none_kept : (end extent epoch : ℕ) (o : Option Image) → IfSome o (Standing is_paxos_record end extent epoch)
    → IfSome o (λ i. IfSome o (λ j. records_on j.bytes ≡ Ok (paxos_records i.bytes ++ [])))
none_kept end extent epoch None s = tt
none_kept end extent epoch (Some i) s = standing_on end extent epoch i s ∙ ap (λ (xs : List PaxosRecord). Ok xs) (sym (append-nil (paxos_records i.bytes)))

-- the disk that nothing was written to, as an append would have left it
pub none_leaves : (end extent epoch : ℕ) (v : DiskView) (more : List PaxosRecord) → IfSome (image_now v) (Standing is_paxos_record end extent epoch)
    → IfSome (image_now v) (λ i. LeavesSince v v (IsKeptOrNot (paxos_records i.bytes) more))
none_leaves end extent epoch v more s =
    still_leaves v (image_now v) (Standing is_paxos_record end extent epoch) (λ i. IsKeptOrNot (paxos_records i.bytes) more) refl s
    (λ i t. t.holds.settled) (λ i t. inl (standing_on end extent epoch i t))

-- ---- what the records make

pub stand_for : (Made : List PaxosRecord → Type 0) (xs : List PaxosRecord) (bytes : List ℕ) → records_on bytes ≡ Ok xs → Made xs → JournalMakes Made bytes
stand_for Made xs bytes is made = subst (λ (r : Result (List PaxosRecord) ℕ). IsOkAnd r Made) (sym is) made

pub made_of : (Made : List PaxosRecord → Type 0) (xs : List PaxosRecord) (bytes : List ℕ) → records_on bytes ≡ Ok xs → JournalMakes Made bytes → Made xs
made_of Made xs bytes is stands = subst (λ (r : Result (List PaxosRecord) ℕ). IsOkAnd r Made) is stands

pub stand_map : (P Q : List PaxosRecord → Type 0) (bytes : List ℕ) → ((xs : List PaxosRecord) → P xs → Q xs) → JournalMakes P bytes → JournalMakes Q bytes
stand_map P Q bytes f = by (records_on bytes)
  where
    by : (r : Result (List PaxosRecord) ℕ) → IsOkAnd r P → IsOkAnd r Q
    by (Ok xs) h = f xs h
    by (Err at) h = h

-- ---- a journal that is read

pub given_more : (Old Now : List PaxosRecord → Type 0) (o : Option Image) (given now : Image → List (List ℕ)) (bytes : List ℕ) (x : PaxosRecord)
    → paxos_record_in bytes ≡ Some x → ((xs : List PaxosRecord) → Old xs → Now (xs ++ x ∷ []))
    → IfSome o (λ i. Old (records_read (given i))) → IfSome o (λ i. now i ≡ given i ++ bytes ∷ []) → IfSome o (λ i. Now (records_read (now i)))
given_more Old Now o given now bytes x is more made grown =
    lift2 o (λ i. Old (records_read (given i))) (λ i. now i ≡ given i ++ bytes ∷ []) (λ i. Now (records_read (now i))) made grown
    (λ i m e. subst Now (sym (ap records_read e ∙ read-more (given i) bytes x is)) (more (records_read (given i)) m))

module _ (at extent epoch : ℕ) (form : JournalForm) (ended : Bool) (o : Option Image)
    (walks : IfSome o (Walking is_paxos_record at extent epoch form ended)) where
  pub fault_on : is_older form ≡ false → (k : ℕ) → IfSome o (λ i. records is_paxos_record i.bytes ≡ Err k) → IfSome o (λ i. records_on i.bytes ≡ Err k)
  fault_on new k fault =
      lift2 o (Walking is_paxos_record at extent epoch form ended) (λ i. records is_paxos_record i.bytes ≡ Err k)
      (λ i. records_on i.bytes ≡ Err k) walks fault
      (λ i w e. on_fault i.bytes k (new_form i.bytes form w.form_is new) e)

  pub older_on : is_older form ≡ true → IfSome o (λ i. records_on i.bytes ≡ Err 0)
  older_on old = lift1 o (Walking is_paxos_record at extent epoch form ended) (λ i. records_on i.bytes ≡ Err 0) walks
      (λ i w. ap (λ (h : Option ℕ). read_result (walk_after h (records is_paxos_record i.bytes))) (old_form i.bytes form w.form_is w.head old))

  pub read_on : is_older form ≡ false → (given : Image → List (List ℕ)) (Made : List PaxosRecord → Type 0)
      → IfSome o (λ i. records is_paxos_record i.bytes ≡ Ok (given i)) → IfSome o (λ i. Made (records_read (given i)))
      → IfSome o (λ i. JournalMakes Made i.bytes)
  read_on new given Made all made = by o walks all made
    where
      by : (p : Option Image) → IfSome p (Walking is_paxos_record at extent epoch form ended)
          → IfSome p (λ i. records is_paxos_record i.bytes ≡ Ok (given i)) → IfSome p (λ i. Made (records_read (given i)))
          → IfSome p (λ i. JournalMakes Made i.bytes)
      by None w a m = tt
      by (Some i) w a m = stand_for Made (records_read (given i)) i.bytes (on_these i.bytes (given i) (new_form i.bytes form w.form_is new) a) m

-- a head that is shut is of no form
shut_new : (bytes : List ℕ) (at : ℕ) → head_fault bytes ≡ Some at → older_fault bytes ≡ None
shut_new bytes at head = ap (λ (h : Option ℕ). fault_if (is_none h && option_map_or is_older (form_in bytes) false)) head

pub head_on : (o : Option Image) (at : ℕ) → IfSome o (λ i. head_fault i.bytes ≡ Some at) → IfSome o (λ i. records_on i.bytes ≡ Err at)
head_on o at fault = lift1 o (λ i. head_fault i.bytes ≡ Some at) (λ i. records_on i.bytes ≡ Err at) fault
    (λ i f. on_fault i.bytes at (shut_new i.bytes at f)
    (ap (λ (h : Option ℕ). walk_after h
    (walk_after (epoch_fault i.bytes) (walk (longest_in i.bytes) is_paxos_record (length i.bytes) 17 (drop 17 i.bytes)))) f))

-- a disk that stays holds what it held
pub still_holds : (x y : DiskView) → Stays x y → image_now y ≡ image_now x
still_holds x y stays = stays.still y.moment stays.later (omega arith)

pub stays_join : (x y z : DiskView) → Stays x y → Stays y z → Stays x z
stays_join x y z f g = record {
  past = λ k h. g.past k (let le : x.moment ≤ y.moment = f.later in omega arith) ∙ f.past k h;
  still = λ k low high. by k low high (cases_lt k y.moment);
  later = let one : x.moment ≤ y.moment = f.later in let two : y.moment ≤ z.moment = g.later in omega arith;
}
  where
    by : (k : ℕ) → x.moment ≤ k → k ≤ z.moment → (k < y.moment) ⊎ (y.moment ≤ k) → z.image_at k ≡ image_now x
    by k low high (inl h) = g.past k (omega arith) ∙ f.still k low (omega arith)
    by k low high (inr h) = g.still k h high ∙ f.still y.moment f.later (omega arith)

pub onward_join : (x y z : DiskView) → Onward x y → Onward y z → Onward x z
onward_join x y z f g = record {
  past = λ k h. g.past k (let le : x.moment ≤ y.moment = f.later in omega arith) ∙ f.past k h;
  later = let one : x.moment ≤ y.moment = f.later in let two : y.moment ≤ z.moment = g.later in omega arith;
  no_less = let one : x.faults ≤ y.faults = f.no_less in let two : y.faults ≤ z.faults = g.no_less in omega arith;
  armed = g.armed ∙ f.armed;
  picks = g.picks ∙ f.picks;
}

-- the error of a call, handed on by `?`
pub handed_on : {A B E : Type 0} (r : Result B E) (e x : E) → IsErr r × IsErrAnd r (λ y. y ≡ e) → IsErrOf r x → IsErrOf {T = A} (Err e) x
handed_on (Ok v) e x h is = absurd h.1
handed_on (Err y) e x h is = let same : y ≡ x = cc in ap Err (sym h.1 ∙ same)

-- Which bytes have an open head, and what a disk that stands reports.
use Rattle.std.{specs.Option.option_map, proofs.Common.{◌≡◌, ◌⊎◌, inl, inr, ⊎_elim, ℕ, ◌+◌, ◌<◌, ◌≤◌, List, length, get_or, take, Bool, true, false, nat_le}}
use Rattle.std.proofs.Common.{◌==◌, ◌&&◌, if◌then◌else◌, is_none, is_some, IsTrue, Option, None, Some, IfSome, Ok, refl, sym, ◌∙◌, ap, subst, arith}
use Rattle.std.proofs.lemmas.Bool.{cases_lt, Decides.nat_tests}
use Rattle.spl_edge.specs.Devices.{Image, fails_at, DiskView, image_now}
use Rattle.spl_journal.specs.{Clear.IsShortOrSame, Gate.{ByCalls, LeavesBetween}, Records.{form_in, head_fault, is_last, is_open, epoch_in, records}}
use Rattle.spl_journal.{specs.{Records.{records_of, Standing, Walking, SameHead}, declared.journal_form.JournalForm.JournalForm}, proofs.Forms.same_fault}
use Rattle.spl_journal.proofs.{Forms.same_form, Images.Safe, Sizes.same_epoch, Walks.closed, Readings.walk_holds, Pieces.head_room}

le_true : (a b : ℕ) → a ≤ b → nat_le a b ≡ true
le_true a b le = grind (arith, nat_tests)

-- a disk that keeps its open head
pub same_open : (bytes c : List ℕ) → head_fault bytes ≡ None → SameHead bytes c → is_open c ≡ true
same_open bytes c head kept =
    ap (λ (h : Option ℕ). is_none h)
    (same_fault bytes c kept.same (le_true 18 (length c) kept.room ∙ sym (le_true 18 (length bytes) (head_room bytes head))) ∙ head)

pub kept_epoch : (bytes c : List ℕ) → SameHead bytes c → epoch_in c ≡ epoch_in bytes
kept_epoch bytes c kept = same_epoch bytes c kept.same

pub kept_form : (bytes c : List ℕ) → SameHead bytes c → form_in c ≡ form_in bytes
kept_form bytes c kept = same_form bytes c kept.same

le_false : (a b : ℕ) → b < a → nat_le a b ≡ false
le_false a b lt = grind (arith, nat_tests)

-- fewer than 18 bytes are no open head
pub short_shut : (c : List ℕ) → length c < 18 → is_open c ≡ false
short_shut c short =
    ap (λ (b : Bool). is_none {T = ℕ} (if (b && is_some (form_in c)) then (if get_or c 16 0 == 1 then None else Some 16) else Some 0))
    (le_false 18 (length c) short)

-- the same first 17 bytes, of 18 or more, are the same head
long_same : (bytes c : List ℕ) → take 17 c ≡ take 17 bytes → 18 ≤ length c → 18 ≤ length bytes → is_open c ≡ is_open bytes
long_same bytes c same long room =
    ap (λ (h : Option ℕ). is_none h) (same_fault bytes c same (le_true 18 (length c) long ∙ sym (le_true 18 (length bytes) room)))

-- a disk that is being cleared isn't open, or as open as it was
pub shut_or_same : (bytes c : List ℕ) → IsShortOrSame bytes c → (is_open c ≡ false) ⊎ ((is_open c ≡ is_open bytes) × (epoch_in c ≡ epoch_in bytes))
shut_or_same bytes c = ⊎_elim
    (λ (short : length c < 18). inl (short_shut c short))
    (λ (same, room). ⊎_elim
    (λ (short : length c < 18). inl (short_shut c short))
    (λ (long : 18 ≤ length c). inr (long_same bytes c same long (omega (arith, long, room)), same_epoch bytes c same))
    (cases_lt (length c) 18))

module _ (fits : List ℕ → Bool) (end extent epoch : ℕ) (i : Image) (s : Standing fits end extent epoch i) where
  pub standing_open : is_open i.bytes ≡ true
  standing_open = ap (λ (h : Option ℕ). is_none h) s.holds.prefix.head

  pub standing_records : records fits i.bytes ≡ Ok (records_of fits i.bytes)
  standing_records = closed fits end (records_of fits i.bytes) i.bytes s.holds.prefix s.holds.shut

-- a journal of any form that was read whole
module _ (fits : List ℕ → Bool) (at extent epoch : ℕ) (form : JournalForm) (i : Image) (w : Walking fits at extent epoch form true i) where
  pub walking_open : is_open i.bytes ≡ true
  walking_open = ap (λ (h : Option ℕ). is_none h) w.head

  pub walking_records : is_last form epoch ≡ false → records fits i.bytes ≡ Ok (records_of fits i.bytes)
  walking_records more =
      let holds = walk_holds fits at extent epoch form true refl i w more in closed fits at (records_of fits i.bytes) i.bytes holds.prefix holds.shut

-- what may be left at these moments and at those
pub leaves_join : (at later : ℕ → Option Image) (first m last : ℕ) (P : List ℕ → Type 0) → LeavesBetween at first m P → ((t : ℕ) → t ≤ m → later t ≡ at t)
    → LeavesBetween later m last P → LeavesBetween later first last P
leaves_join at later first m last P before past after k low high = ⊎_elim
    (λ (lt : k < m). subst (λ (o : Option Image). IfSome o (Safe P)) (sym (past k (omega (arith, lt)))) (before k low (omega (arith, lt))))
    (λ (le : m ≤ k). after k le high)
    (cases_lt k m)

-- a call that made all its calls of a disk
module _ (most : ℕ) (x y : DiskView) (f : ℕ → Image → Image) (ok failed : Type 0) (calls : ByCalls most x y f ok failed) (is_ok : ok) where
  pub all_passed : (n : ℕ) → n < most → IsTrue (fails_at x.armed (x.moment + n)) → ⊥
  all_passed n lt due = let all = calls.whole is_ok in calls.passed n (omega (arith, lt, all)) due

  pub told_then : y.moment ≡ x.moment + most → image_now y ≡ option_map (f most) (image_now x)
  told_then is = let all = calls.whole is_ok in
      ap y.image_at is ∙ ap (λ (n : ℕ). y.image_at (x.moment + n)) (sym all) ∙ calls.stands ∙ ap (λ (n : ℕ). option_map (f n) (image_now x)) all

-- In which form a journal is written.
use Rattle.std.{specs.{Cmp.Lexicographic.pointwise, List.{find, list_all, starts_with}, Option.option_map_or}, proofs.Common.{◌≡◌, ℕ, ◌-◌, ◌<◌, ◌≤◌, ◌^◌}}
use Rattle.std.proofs.Common.{◌==◌, Bool, true, false, ◌&&◌, cond, if◌then◌else◌, List, [], ◌∷◌, ◌++◌, length, get_or, take, nat_eq, nat_le, nat_lt, is_some}
use Rattle.std.proofs.{Common.{Option, None, Some, refl, sym, ◌∙◌, ap, arith}, lemmas.{Bool.{and_parts, leb-true, ltb-true}, List.{take-take, get_or-take}}}
use Rattle.spl_journal.specs.Records.{epoch_fault, epoch_in, form_in, head_fault, is_headed, is_last, is_older, longest_in, magic}
use Rattle.spl_journal.{specs.declared.journal_form.{JournalForm.JournalForm, TheConstants.{FORMS, OLD, WRITTEN}}, proofs.Sizes.same_epoch}

-- a form shows in the first 17 bytes, and four bytes report the length of a record
abbrev is_told : JournalForm → Bool
is_told f = nat_le (length f.magic) 17

abbrev is_counted : JournalForm → Bool
is_counted f = nat_lt f.longest (2 ^ 32)

found_alike : (forms : List JournalForm) (bytes c : List ℕ) → list_all is_told forms ≡ true → take 17 c ≡ take 17 bytes
    → find (λ f. starts_with nat_eq c f.magic) forms ≡ find (λ f. starts_with nat_eq bytes f.magic) forms
found_alike [] bytes c told same = refl
found_alike (f ∷ forms) bytes c told same =
    let both = and_parts (is_told f) (list_all is_told forms) told in
    let few : length f.magic ≤ 17 = leb-true (length f.magic) 17 both.0 in
    let prefix : take (length f.magic) c ≡ take (length f.magic) bytes =
    sym (take-take (length f.magic) 17 c few) ∙ ap (take (length f.magic)) same ∙ take-take (length f.magic) 17 bytes few in
    ap (λ (l : List ℕ). cond (pointwise nat_eq f.magic l) (Some f) (find (λ g. starts_with nat_eq c g.magic) forms)) prefix
    ∙ ap (λ (o : Option JournalForm). cond (starts_with nat_eq bytes f.magic) (Some f) o) (found_alike forms bytes c both.1 same)

pub same_form : (bytes c : List ℕ) → take 17 c ≡ take 17 bytes → form_in c ≡ form_in bytes
same_form bytes c same = found_alike FORMS bytes c refl same

pub same_longest : (bytes c : List ℕ) → take 17 c ≡ take 17 bytes → longest_in c ≡ longest_in bytes
same_longest bytes c same = ap (λ (o : Option JournalForm). option_map_or (λ f. f.longest) o 0) (same_form bytes c same)

-- the same first bytes have the same fault, if they have one, where neither head is cut off or both are
pub same_fault : (bytes c : List ℕ) → take 17 c ≡ take 17 bytes → nat_le 18 (length c) ≡ nat_le 18 (length bytes) → head_fault c ≡ head_fault bytes
same_fault bytes c same long =
    ap (λ (b : Bool). if (b && is_some (form_in c)) then (if get_or c 16 0 == 1 then None else Some 16) else Some 0) long
    ∙ ap (λ (o : Option JournalForm). if (nat_le 18 (length bytes) && is_some o) then (if get_or c 16 0 == 1 then None else Some 16) else Some 0)
    (same_form bytes c same)
    ∙ ap (λ (n : ℕ). if is_headed bytes then (if n == 1 then None else Some 16) else Some 0) gate
  where
    gate : get_or c 16 0 ≡ get_or bytes 16 0
    gate = sym (get_or-take 17 c 16 0 (omega arith)) ∙ ap (λ (l : List ℕ). get_or l 16 0) same ∙ get_or-take 17 bytes 16 0 (omega arith)

chosen_small : (f : JournalForm) (test : Bool) (o : Option JournalForm) → f.longest < 2 ^ 32 → option_map_or (λ g. g.longest) o 0 < 2 ^ 32
    → option_map_or (λ g. g.longest) (cond test (Some f) o) 0 < 2 ^ 32
chosen_small f true o own other = own
chosen_small f false o own other = other

found_small : (forms : List JournalForm) (test : JournalForm → Bool) → list_all is_counted forms ≡ true
    → option_map_or (λ f. f.longest) (find test forms) 0 < 2 ^ 32
found_small [] test counted = omega arith
found_small (f ∷ forms) test counted =
    let both = and_parts (is_counted f) (list_all is_counted forms) counted in
    chosen_small f (test f) (find test forms) (ltb-true f.longest (2 ^ 32) both.0) (found_small forms test both.1)

pub longest_small : (bytes : List ℕ) → longest_in bytes < 2 ^ 32
longest_small bytes = found_small FORMS (λ f. starts_with nat_eq bytes f.magic) refl

pub longest_of : (bytes : List ℕ) (form : JournalForm) → form_in bytes ≡ Some form → longest_in bytes ≡ form.longest
longest_of bytes form is = ap (λ (o : Option JournalForm). option_map_or (λ f. f.longest) o 0) is

-- what is made is read in the form in which it is made
pub made_form : (more : List ℕ) → form_in (magic ++ more) ≡ Some WRITTEN
made_form more = refl

-- a form that isn't older is the one in which journals are made
chosen_one : (test next : Bool) (form : JournalForm) → cond test (Some WRITTEN) (cond next (Some OLD) None) ≡ Some form → is_older form ≡ false → form ≡ WRITTEN
chosen_one true next form is new = cc
chosen_one false true form is new = let same : form ≡ OLD = cc in absurd (true_false (sym (ap is_older same) ∙ new))
  where
    true_false : true ≡ false → ⊥
    true_false e = cc
chosen_one false false form is new = cc

pub written_form : (bytes : List ℕ) (form : JournalForm) → form_in bytes ≡ Some form → is_older form ≡ false → form ≡ WRITTEN
written_form bytes form is new = chosen_one (starts_with nat_eq bytes WRITTEN.magic) (starts_with nat_eq bytes OLD.magic) form is new

-- ---- the last epoch of an older form

pub not_last : (form : JournalForm) (epoch : ℕ) → is_older form ≡ false → is_last form epoch ≡ false
not_last form epoch new = ap (λ (b : Bool). b && (epoch == 2 ^ 64 - 1)) new

module _ (bytes : List ℕ) (form : JournalForm) (epoch : ℕ) (is_form : form_in bytes ≡ Some form) (is_epoch : epoch_in bytes ≡ epoch) where
  fault_by : epoch_fault bytes ≡ (if is_last form epoch then Some 8 else None)
  fault_by = ap (λ (o : Option JournalForm). if option_map_or (λ f. is_last f (epoch_in bytes)) o false then Some 8 else None) is_form
      ∙ ap (λ (n : ℕ). if is_last form n then Some 8 else None) is_epoch

  pub goes_on : is_last form epoch ≡ false → epoch_fault bytes ≡ None
  goes_on more = fault_by ∙ ap (λ (b : Bool). if b then Some 8 else None) more

  pub ends_here : is_last form epoch ≡ true → epoch_fault bytes ≡ Some 8
  ends_here last = fault_by ∙ ap (λ (b : Bool). if b then Some 8 else None) last

pub written_goes_on : (bytes : List ℕ) → form_in bytes ≡ Some WRITTEN → epoch_fault bytes ≡ None
written_goes_on bytes is = goes_on bytes WRITTEN (epoch_in bytes) is refl (not_last WRITTEN (epoch_in bytes) refl)

pub same_epoch_fault : (bytes c : List ℕ) → take 17 c ≡ take 17 bytes → epoch_fault c ≡ epoch_fault bytes
same_epoch_fault bytes c same =
    ap (λ (o : Option JournalForm). if option_map_or (λ f. is_last f (epoch_in c)) o false then Some 8 else None) (same_form bytes c same)
    ∙ ap (λ (n : ℕ). if option_map_or (λ f. is_last f n) (form_in bytes) false then Some 8 else None) (same_epoch bytes c same)

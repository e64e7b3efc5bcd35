-- Which of two disks counts once one of them has changed.
use Rattle.std.proofs.Common.{◌≡◌, inl, inr, ⊎_elim, ℕ, ◌<◌, ◌≤◌, List, ◌++◌, Bool, true, false, nat_lt, is_none, Option, None, Ok, sym, ◌∙◌, ap, arith}
use Rattle.std.proofs.lemmas.Bool.Decides.{nat_tests}
use Rattle.spl_journal.{specs.Records.{is_open, epoch_in, head_fault, records, records_of, IsBeforeOrAll, SameHead}, proofs.Heads.{same_open, kept_epoch}}
use Rattle.spl_journal.proofs.Heads.{shut_or_same}
use Rattle.spl_snapshot.specs.{Anew.IsSameOrAnew, Counting.{is_above, second_counts, chosen, pair_records, pair_records_of, HaveEither}}

lt_true : (a b : ℕ) → a < b → nat_lt a b ≡ true
lt_true a b lt = grind (arith, nat_tests)

lt_false : (a b : ℕ) → b ≤ a → nat_lt a b ≡ false
lt_false a b le = grind (arith, nat_tests)

-- by what is open
pub second_shut : (a b : List ℕ) → is_open b ≡ false → second_counts a b ≡ false
second_shut a b shut = ap (λ (o : Bool). is_above (is_open a) (epoch_in a) o (epoch_in b)) shut

pub first_shut : (a b : List ℕ) → is_open a ≡ false → is_open b ≡ true → second_counts a b ≡ true
first_shut a b shut open_b =
    ap (λ (o : Bool). is_above o (epoch_in a) (is_open b) (epoch_in b)) shut ∙ ap (λ (o : Bool). is_above false (epoch_in a) o (epoch_in b)) open_b

both_open : (a b : List ℕ) → is_open a ≡ true → is_open b ≡ true → second_counts a b ≡ nat_lt (epoch_in a) (epoch_in b)
both_open a b open_a open_b =
    ap (λ (o : Bool). is_above o (epoch_in a) (is_open b) (epoch_in b)) open_a ∙ ap (λ (o : Bool). is_above true (epoch_in a) o (epoch_in b)) open_b

pub second_above : (a b : List ℕ) → is_open a ≡ true → is_open b ≡ true → epoch_in a < epoch_in b → second_counts a b ≡ true
second_above a b open_a open_b lt = both_open a b open_a open_b ∙ lt_true (epoch_in a) (epoch_in b) lt

pub first_above : (a b : List ℕ) → is_open a ≡ true → is_open b ≡ true → epoch_in b ≤ epoch_in a → second_counts a b ≡ false
first_above a b open_a open_b le = both_open a b open_a open_b ∙ lt_false (epoch_in a) (epoch_in b) le

pub same_first : (a b c : List ℕ) → is_open c ≡ is_open a → epoch_in c ≡ epoch_in a → second_counts c b ≡ second_counts a b
same_first a b c opens epochs =
    ap (λ (o : Bool). is_above o (epoch_in c) (is_open b) (epoch_in b)) opens ∙ ap (λ (n : ℕ). is_above (is_open a) n (is_open b) (epoch_in b)) epochs

pub same_second : (a b d : List ℕ) → is_open d ≡ is_open b → epoch_in d ≡ epoch_in b → second_counts a d ≡ second_counts a b
same_second a b d opens epochs =
    ap (λ (o : Bool). is_above (is_open a) (epoch_in a) o (epoch_in d)) opens ∙ ap (λ (n : ℕ). is_above (is_open a) (epoch_in a) (is_open b) n) epochs

-- the records of the one that counts
pub of_first : (fits : List ℕ → Bool) (a b : List ℕ) → second_counts a b ≡ false → pair_records fits a b ≡ records fits a
of_first fits a b is = ap (λ (s : Bool). records fits (chosen s a b)) is

pub of_second : (fits : List ℕ → Bool) (a b : List ℕ) → second_counts a b ≡ true → pair_records fits a b ≡ records fits b
of_second fits a b is = ap (λ (s : Bool). records fits (chosen s a b)) is

pub those_of_first : (fits : List ℕ → Bool) (a b : List ℕ) → second_counts a b ≡ false → pair_records_of fits a b ≡ records_of fits a
those_of_first fits a b is = ap (λ (s : Bool). records_of fits (chosen s a b)) is

pub those_of_second : (fits : List ℕ → Bool) (a b : List ℕ) → second_counts a b ≡ true → pair_records_of fits a b ≡ records_of fits b
those_of_second fits a b is = ap (λ (s : Bool). records_of fits (chosen s a b)) is

-- where an append is under way
pub appended_first : (fits : List ℕ → Bool) (a b c : List ℕ) (r : List (List ℕ)) → second_counts a b ≡ false → head_fault a ≡ None → SameHead a c
    → IsBeforeOrAll fits (records_of fits a) r c
    → HaveEither fits (pair_records_of fits a b) (pair_records_of fits a b ++ r) c b
appended_first fits a b c r is head kept = ⊎_elim
    (λ (before : records fits c ≡ Ok (records_of fits a)). inl (now ∙ before ∙ ap (λ (l : List (List ℕ)). Ok l) (sym (those_of_first fits a b is))))
    (λ (after : records fits c ≡ Ok (records_of fits a ++ r)). inr (now ∙ after ∙ ap (λ (l : List (List ℕ)). Ok (l ++ r)) (sym (those_of_first fits a b is))))
  where
    now : pair_records fits c b ≡ records fits c
    now = of_first fits c b (same_first a b c (same_open a c head kept ∙ sym (ap (λ (h : Option ℕ). is_none h) head)) (kept_epoch a c kept) ∙ is)

pub appended_second : (fits : List ℕ → Bool) (a b d : List ℕ) (r : List (List ℕ)) → second_counts a b ≡ true → head_fault b ≡ None → SameHead b d
    → IsBeforeOrAll fits (records_of fits b) r d
    → HaveEither fits (pair_records_of fits a b) (pair_records_of fits a b ++ r) a d
appended_second fits a b d r is head kept = ⊎_elim
    (λ (before : records fits d ≡ Ok (records_of fits b)). inl (now ∙ before ∙ ap (λ (l : List (List ℕ)). Ok l) (sym (those_of_second fits a b is))))
    (λ (after : records fits d ≡ Ok (records_of fits b ++ r)). inr (now ∙ after ∙ ap (λ (l : List (List ℕ)). Ok (l ++ r)) (sym (those_of_second fits a b is))))
  where
    now : pair_records fits a d ≡ records fits d
    now = of_second fits a d (same_second a b d (same_open b d head kept ∙ sym (ap (λ (h : Option ℕ). is_none h) head)) (kept_epoch b d kept) ∙ is)

-- where the other disk is written again
pub anew_second : (fits : List ℕ → Bool) (a b d : List ℕ) (rs : List (List ℕ)) (epoch : ℕ) → second_counts a b ≡ false → is_open a ≡ true
    → epoch_in a < epoch → records fits a ≡ Ok (records_of fits a) → IsSameOrAnew fits epoch rs b d
    → HaveEither fits (pair_records_of fits a b) rs a d
anew_second fits a b d rs epoch is open_a at all = ⊎_elim
    (λ same. ⊎_elim
    (λ (shut : is_open d ≡ false). inl (stay (second_shut a d shut)))
    (λ (opens, epochs). inl (stay (same_second a b d opens epochs ∙ is)))
    (shut_or_same b d same))
    (⊎_elim
    (λ (shut : is_open d ≡ false). inl (stay (second_shut a d shut)))
    (λ (open_d, above, filled). inr (of_second fits a d (second_above a d open_a open_d (omega (arith, at, above))) ∙ filled)))
  where
    stay : second_counts a d ≡ false → pair_records fits a d ≡ Ok (pair_records_of fits a b)
    stay first = of_first fits a d first ∙ all ∙ ap (λ (l : List (List ℕ)). Ok l) (sym (those_of_first fits a b is))

pub anew_first : (fits : List ℕ → Bool) (a b c : List ℕ) (rs : List (List ℕ)) (epoch : ℕ) → second_counts a b ≡ true → is_open b ≡ true
    → epoch_in b < epoch → records fits b ≡ Ok (records_of fits b) → IsSameOrAnew fits epoch rs a c
    → HaveEither fits (pair_records_of fits a b) rs c b
anew_first fits a b c rs epoch is open_b at all = ⊎_elim
    (λ same. ⊎_elim
    (λ (shut : is_open c ≡ false). inl (stay (first_shut c b shut open_b)))
    (λ (opens, epochs). inl (stay (same_first a b c opens epochs ∙ is)))
    (shut_or_same a c same))
    (⊎_elim
    (λ (shut : is_open c ≡ false). inl (stay (first_shut c b shut open_b)))
    (λ (open_c, above, filled). inr (of_first fits c b (first_above c b open_c open_b (omega (arith, at, above))) ∙ filled)))
  where
    stay : second_counts c b ≡ true → pair_records fits c b ≡ Ok (pair_records_of fits a b)
    stay second = of_second fits c b second ∙ all ∙ ap (λ (l : List (List ℕ)). Ok l) (sym (those_of_second fits a b is))

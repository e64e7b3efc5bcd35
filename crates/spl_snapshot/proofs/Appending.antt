-- What an append to one of two disks leaves of both.
use Rattle.std.proofs.Common.{◌≡◌, ℕ, List, ◌++◌, Bool, true, false, Option, None, Some, IfSome, Ok, refl, sym, ◌∙◌, ap, subst, arith}
use Rattle.spl_edge.specs.Devices.{Image, MayLeave}
use Rattle.spl_journal.specs.{Clear.IsAtRest, Gate.LeavesBetween, Records.{records, records_of, IsBeforeOrAll, SameHead, Standing}}
use Rattle.spl_journal.proofs.Heads.{standing_open}
use Rattle.spl_snapshot.{specs.Counting.{second_counts, pair_records_of, HaveRecords, HaveEither, IfBoth, PairLeavesBetween}, proofs.Counts.same_first}
use Rattle.spl_snapshot.proofs.Counts.{same_second, of_first, of_second, those_of_first, those_of_second, appended_first, appended_second}
use Rattle.spl_snapshot.proofs.Leaves.{pair_leaves, leaves_two, leaves_rest}

module _ (fits : List ℕ → Bool) (r : List (List ℕ)) (end extent epoch other : ℕ) where
  -- the first disk counts
  pub first_any : (o p : Option Image) (at other_at : ℕ → Option Image) (m last n : ℕ) → IfSome o (Standing fits end extent epoch)
      → IfSome p (IsAtRest other) → IfBoth o p (λ i j. second_counts i.bytes j.bytes ≡ false) → other_at n ≡ p
      → IfSome o (λ i. LeavesBetween at m last (IsBeforeOrAll fits (records_of fits i.bytes) r)) → IfSome o (λ i. LeavesBetween at m last (SameHead i.bytes))
      → IfBoth o p (λ i j. PairLeavesBetween at m last other_at n n
      (HaveEither fits (pair_records_of fits i.bytes j.bytes) (pair_records_of fits i.bytes j.bytes ++ r)))
  first_any None p at other_at m last n stands rest counts here left head = tt
  first_any (Some i) None at other_at m last n stands rest counts here left head = tt
  first_any (Some i) (Some j) at other_at m last n stands rest counts here left head =
      pair_leaves at other_at m last n n (λ c. IsBeforeOrAll fits (records_of fits i.bytes) r c × SameHead i.bytes c) (λ d. d ≡ j.bytes)
      (HaveEither fits (pair_records_of fits i.bytes j.bytes) (pair_records_of fits i.bytes j.bytes ++ r))
      (λ c d (now, kept) same. subst
      (λ (l : List ℕ). HaveEither fits (pair_records_of fits i.bytes j.bytes) (pair_records_of fits i.bytes j.bytes ++ r) c l) (sym same)
      (appended_first fits i.bytes j.bytes c r counts stands.holds.prefix.head kept now))
      (leaves_two at m last (IsBeforeOrAll fits (records_of fits i.bytes) r) (SameHead i.bytes) left head) (leaves_rest other_at n j here rest.settled)

  -- the second disk counts
  pub second_any : (o p : Option Image) (other_at at : ℕ → Option Image) (n m last : ℕ) → IfSome p (Standing fits end extent epoch)
      → IfSome o (IsAtRest other) → IfBoth o p (λ i j. second_counts i.bytes j.bytes ≡ true) → other_at n ≡ o
      → IfSome p (λ j. LeavesBetween at m last (IsBeforeOrAll fits (records_of fits j.bytes) r)) → IfSome p (λ j. LeavesBetween at m last (SameHead j.bytes))
      → IfBoth o p (λ i j. PairLeavesBetween other_at n n at m last
      (HaveEither fits (pair_records_of fits i.bytes j.bytes) (pair_records_of fits i.bytes j.bytes ++ r)))
  second_any None p other_at at n m last stands rest counts here left head = tt
  second_any (Some i) None other_at at n m last stands rest counts here left head = tt
  second_any (Some i) (Some j) other_at at n m last stands rest counts here left head =
      pair_leaves other_at at n n m last (λ c. c ≡ i.bytes) (λ d. IsBeforeOrAll fits (records_of fits j.bytes) r d × SameHead j.bytes d)
      (HaveEither fits (pair_records_of fits i.bytes j.bytes) (pair_records_of fits i.bytes j.bytes ++ r))
      (λ c d same (now, kept). subst
      (λ (l : List ℕ). HaveEither fits (pair_records_of fits i.bytes j.bytes) (pair_records_of fits i.bytes j.bytes ++ r) l d) (sym same)
      (appended_second fits i.bytes j.bytes d r counts stands.holds.prefix.head kept now))
      (leaves_rest other_at n i here rest.settled) (leaves_two at m last (IsBeforeOrAll fits (records_of fits j.bytes) r) (SameHead j.bytes) left head)

  module _ (new_end new_extent : ℕ) where
    -- the disk that counts stands with one record more
    pub first_after : (o p : Option Image) (at other_at : ℕ → Option Image) (last n : ℕ) → IfSome o (Standing fits end extent epoch)
        → IfSome p (IsAtRest other) → IfBoth o p (λ i j. second_counts i.bytes j.bytes ≡ false) → other_at n ≡ p
        → IfSome (at last) (Standing fits new_end new_extent epoch)
        → IfSome o (λ i. IfSome (at last) (λ k. records fits k.bytes ≡ Ok (records_of fits i.bytes ++ r)))
        → IfBoth o p (λ i j. PairLeavesBetween at last last other_at n n (HaveRecords fits (pair_records_of fits i.bytes j.bytes ++ r)))
    first_after None p at other_at last n stands rest counts here now all = tt
    first_after (Some i) None at other_at last n stands rest counts here now all = tt
    first_after (Some i) (Some j) at other_at last n stands rest counts here now all = by (at last) refl now all
      where
        goal : Type 0
        goal = PairLeavesBetween at last last other_at n n (HaveRecords fits (pair_records_of fits i.bytes j.bytes ++ r))

        by : (x : Option Image) → at last ≡ x → IfSome x (Standing fits new_end new_extent epoch)
            → IfSome x (λ k. records fits k.bytes ≡ Ok (records_of fits i.bytes ++ r)) → goal
        by None is s a =
            λ k l low high low2 high2. let same : k ≡ last = omega arith in
            subst (λ (y : Option Image). IfBoth y (other_at l)
            (λ u v. (c d : List ℕ) → MayLeave u c → MayLeave v d → HaveRecords fits (pair_records_of fits i.bytes j.bytes ++ r) c d))
            (sym (ap at same ∙ is)) tt
        by (Some k) is s a =
            pair_leaves at other_at last last n n (λ c. c ≡ k.bytes) (λ d. d ≡ j.bytes) (HaveRecords fits (pair_records_of fits i.bytes j.bytes ++ r))
            (λ c d here_c here_d.
            let counts_now : second_counts k.bytes j.bytes ≡ false =
            same_first i.bytes j.bytes k.bytes (standing_open fits new_end new_extent epoch k s ∙ sym (standing_open fits end extent epoch i stands))
            (s.epoch_is ∙ sym stands.epoch_is) ∙ counts in
            subst (λ (l : List ℕ). HaveRecords fits (pair_records_of fits i.bytes j.bytes ++ r) l d) (sym here_c)
            (subst (λ (l : List ℕ). HaveRecords fits (pair_records_of fits i.bytes j.bytes ++ r) k.bytes l) (sym here_d)
            (of_first fits k.bytes j.bytes counts_now ∙ a ∙ ap (λ (l : List (List ℕ)). Ok (l ++ r)) (sym (those_of_first fits i.bytes j.bytes counts)))))
            (leaves_rest at last k is s.holds.settled) (leaves_rest other_at n j here rest.settled)

    pub second_after : (o p : Option Image) (other_at at : ℕ → Option Image) (n last : ℕ) → IfSome p (Standing fits end extent epoch)
        → IfSome o (IsAtRest other) → IfBoth o p (λ i j. second_counts i.bytes j.bytes ≡ true) → other_at n ≡ o
        → IfSome (at last) (Standing fits new_end new_extent epoch)
        → IfSome p (λ j. IfSome (at last) (λ k. records fits k.bytes ≡ Ok (records_of fits j.bytes ++ r)))
        → IfBoth o p (λ i j. PairLeavesBetween other_at n n at last last (HaveRecords fits (pair_records_of fits i.bytes j.bytes ++ r)))
    second_after None p other_at at n last stands rest counts here now all = tt
    second_after (Some i) None other_at at n last stands rest counts here now all = tt
    second_after (Some i) (Some j) other_at at n last stands rest counts here now all = by (at last) refl now all
      where
        goal : Type 0
        goal = PairLeavesBetween other_at n n at last last (HaveRecords fits (pair_records_of fits i.bytes j.bytes ++ r))

        by : (x : Option Image) → at last ≡ x → IfSome x (Standing fits new_end new_extent epoch)
            → IfSome x (λ k. records fits k.bytes ≡ Ok (records_of fits j.bytes ++ r)) → goal
        by None is s a = λ l k low2 high2 low high. let same : k ≡ last = omega arith in none (other_at l) (at k) (ap at same ∙ is)
          where
            none : (x y : Option Image) → y ≡ None
                → IfBoth x y (λ u v. (c d : List ℕ) → MayLeave u c → MayLeave v d → HaveRecords fits (pair_records_of fits i.bytes j.bytes ++ r) c d)
            none None y is_none = tt
            none (Some u) y is_none =
                subst (λ (z : Option Image). IfSome z
                (λ v. (c d : List ℕ) → MayLeave u c → MayLeave v d → HaveRecords fits (pair_records_of fits i.bytes j.bytes ++ r) c d)) (sym is_none) tt
        by (Some k) is s a =
            pair_leaves other_at at n n last last (λ c. c ≡ i.bytes) (λ d. d ≡ k.bytes) (HaveRecords fits (pair_records_of fits i.bytes j.bytes ++ r))
            (λ c d here_c here_d.
            let counts_now : second_counts i.bytes k.bytes ≡ true =
            same_second i.bytes j.bytes k.bytes (standing_open fits new_end new_extent epoch k s ∙ sym (standing_open fits end extent epoch j stands))
            (s.epoch_is ∙ sym stands.epoch_is) ∙ counts in
            subst (λ (l : List ℕ). HaveRecords fits (pair_records_of fits i.bytes j.bytes ++ r) l d) (sym here_c)
            (subst (λ (l : List ℕ). HaveRecords fits (pair_records_of fits i.bytes j.bytes ++ r) i.bytes l) (sym here_d)
            (of_second fits i.bytes k.bytes counts_now ∙ a ∙ ap (λ (l : List (List ℕ)). Ok (l ++ r)) (sym (those_of_second fits i.bytes j.bytes counts)))))
            (leaves_rest other_at n i here rest.settled) (leaves_rest at last k is s.holds.settled)

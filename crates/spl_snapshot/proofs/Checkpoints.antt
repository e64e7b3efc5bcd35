-- What a checkpoint on one of two disks leaves of both.
use Rattle.std.{specs.Option.option_map, proofs.Common.{◌≡◌, inl, inr, ℕ, ◌+◌, ◌-◌, ◌<◌, ◌≤◌, List, Bool, IsTrue, true, false, Option, None, Some, IfSome}}
use Rattle.std.proofs.{Common.{Ok, refl, sym, ◌∙◌, ap, subst, arith, ⊎_elim}, lemmas.Bool.cases_lt}
use Rattle.spl_edge.specs.{Devices.{Image, MayLeave, settled_at, fails_at}, declared.disk.Armed.Armed}
use Rattle.spl_journal.specs.{Clear.{IsAtRest, IsShortOrSame, IsCleared}, Gate.LeavesBetween, Records.{closed_prefix, is_last, records, records_of, Standing}}
use Rattle.spl_journal.{specs.{Records.{Walking, IsClosedOrFilled}, declared.journal_form.JournalForm.JournalForm}, proofs.Heads.standing_open}
use Rattle.spl_journal.proofs.Heads.{standing_records, walking_open, walking_records, leaves_join}
use Rattle.spl_snapshot.specs.{Anew.{IsBelow, IsSameOrAnew}, Counting.{chosen, second_counts, pair_records, pair_records_of, HaveRecords, HaveEither, IfBoth}}
use Rattle.spl_snapshot.{specs.Counting.PairLeavesBetween, proofs.Counts.{second_above, first_above, of_first, of_second, those_of_first, those_of_second}}
use Rattle.spl_snapshot.proofs.{Counts.{anew_first, anew_second}, Leaves.{pair_leaves, leaves_map, leaves_rest}}

-- ---- on one disk

pub is_cleared : (epoch : ℕ) (told new : Option Image) → new ≡ option_map (λ i. settled_at (closed_prefix epoch)) told → IfSome new (IsCleared epoch)
is_cleared epoch None new is = subst (λ (o : Option Image). IfSome o (IsCleared epoch)) (sym is) tt
is_cleared epoch (Some i) new is = subst (λ (o : Option Image). IfSome o (IsCleared epoch)) (sym is) refl

module _ (fits : List ℕ → Bool) (epoch : ℕ) (rs : List (List ℕ)) where
  pub clear_leaves : (told : Option Image) (at : ℕ → Option Image) (first last : ℕ)
      → IfSome told (λ i. LeavesBetween at first last (IsShortOrSame i.bytes))
      → IfSome told (λ i. LeavesBetween at first last (IsSameOrAnew fits epoch rs i.bytes))
  clear_leaves None at first last left = tt
  clear_leaves (Some i) at first last left = leaves_map at first last (IsShortOrSame i.bytes) (IsSameOrAnew fits epoch rs i.bytes) (λ c short. inl short) left

  pub fill_leaves : (told : Option Image) (at later : ℕ → Option Image) (first m last : ℕ)
      → IfSome told (λ i. LeavesBetween at first m (IsShortOrSame i.bytes)) → at m ≡ option_map (λ i. settled_at (closed_prefix epoch)) told
      → ((t : ℕ) → t ≤ m → later t ≡ at t) → IfSome (at m) (λ i. LeavesBetween later m last (IsClosedOrFilled fits epoch rs))
      → IfSome told (λ i. LeavesBetween later first last (IsSameOrAnew fits epoch rs i.bytes))
  fill_leaves None at later first m last left is past filled = tt
  fill_leaves (Some i) at later first m last left is past filled =
      let after : LeavesBetween later m last (IsClosedOrFilled fits epoch rs) =
      subst (λ (o : Option Image). IfSome o (λ j. LeavesBetween later m last (IsClosedOrFilled fits epoch rs))) is filled in
      leaves_join at later first m last (IsSameOrAnew fits epoch rs i.bytes)
      (leaves_map at first m (IsShortOrSame i.bytes) (IsSameOrAnew fits epoch rs i.bytes) (λ c short. inl short) left) past
      (leaves_map later m last (IsClosedOrFilled fits epoch rs) (IsSameOrAnew fits epoch rs i.bytes) (λ c full. inr full) after)

-- none of eight calls was named by the arming
pub eight_passed : (armed then : Armed) (first m : ℕ) → m ≡ first + 4 → then ≡ armed → ((n : ℕ) → n < 4 → IsTrue (fails_at armed (first + n)) → ⊥)
    → ((n : ℕ) → n < 4 → IsTrue (fails_at then (m + n)) → ⊥)
    → (n : ℕ) → n < 8 → IsTrue (fails_at armed (first + n)) → ⊥
eight_passed armed then first m place same before after n lt due = ⊎_elim
    (λ (low : n < 4). before n low due)
    (λ (high : 4 ≤ n). after (n - 4) (omega (arith, lt, high))
    (subst IsTrue (ap (λ (a : Armed). fails_at a (first + n)) (sym same) ∙ ap (fails_at then) (omega (arith, place, high))) due))
    (cases_lt n 4)

-- ---- a journal that another is written above

pub standing_below : (fits : List ℕ → Bool) (end extent epoch above : ℕ) → above ≡ epoch + 1 → (i : Image) → Standing fits end extent epoch i
    → IsBelow fits above i
standing_below fits end extent epoch above is i s = record {
  is_opened = standing_open fits end extent epoch i s;
  lower = omega (arith, s.epoch_is, is);
  readable = standing_records fits end extent epoch i s;
  settled = s.holds.settled;
}

pub walking_below : (fits : List ℕ → Bool) (at extent epoch above : ℕ) (form : JournalForm) (ended : Bool) → ended ≡ true → is_last form epoch ≡ false
    → above ≡ epoch + 1 → (i : Image) → Walking fits at extent epoch form ended i → IsBelow fits above i
walking_below fits at extent epoch above form ended ends more is i walking =
    let w = subst (λ (b : Bool). Walking fits at extent epoch form b i) ends walking in
    record {
      is_opened = walking_open fits at extent epoch form i w;
      lower = omega (arith, w.epoch_is, is);
      readable = walking_records fits at extent epoch form i w more;
      settled = w.settled;
    }

-- ---- on both

module _ (fits : List ℕ → Bool) (rs : List (List ℕ)) (epoch : ℕ) where
  -- the first disk counts, and the second is written again
  pub second_anew : (o p : Option Image) (at other_at : ℕ → Option Image) (m n last : ℕ) → IfSome o (IsBelow fits epoch)
      → IfBoth o p (λ i j. second_counts i.bytes j.bytes ≡ false) → at m ≡ o
      → IfSome p (λ j. LeavesBetween other_at n last (IsSameOrAnew fits epoch rs j.bytes))
      → IfBoth o p (λ i j. PairLeavesBetween at m m other_at n last (HaveEither fits (pair_records_of fits i.bytes j.bytes) rs))
  second_anew None p at other_at m n last stands counts here left = tt
  second_anew (Some i) None at other_at m n last stands counts here left = tt
  second_anew (Some i) (Some j) at other_at m n last stands counts here left =
      pair_leaves at other_at m m n last (λ c. c ≡ i.bytes) (IsSameOrAnew fits epoch rs j.bytes) (HaveEither fits (pair_records_of fits i.bytes j.bytes) rs)
      (λ c d same anew. subst (λ (l : List ℕ). HaveEither fits (pair_records_of fits i.bytes j.bytes) rs l d) (sym same)
      (anew_second fits i.bytes j.bytes d rs epoch counts stands.is_opened stands.lower stands.readable anew))
      (leaves_rest at m i here stands.settled) left

  -- the second disk counts, and the first is written again
  pub first_anew : (o p : Option Image) (other_at at : ℕ → Option Image) (n last m : ℕ) → IfSome p (IsBelow fits epoch)
      → IfBoth o p (λ i j. second_counts i.bytes j.bytes ≡ true) → at m ≡ p
      → IfSome o (λ i. LeavesBetween other_at n last (IsSameOrAnew fits epoch rs i.bytes))
      → IfBoth o p (λ i j. PairLeavesBetween other_at n last at m m (HaveEither fits (pair_records_of fits i.bytes j.bytes) rs))
  first_anew None p other_at at n last m stands counts here left = tt
  first_anew (Some i) None other_at at n last m stands counts here left = tt
  first_anew (Some i) (Some j) other_at at n last m stands counts here left =
      pair_leaves other_at at n last m m (IsSameOrAnew fits epoch rs i.bytes) (λ d. d ≡ j.bytes) (HaveEither fits (pair_records_of fits i.bytes j.bytes) rs)
      (λ c d anew same. subst (λ (l : List ℕ). HaveEither fits (pair_records_of fits i.bytes j.bytes) rs c l) (sym same)
      (anew_first fits i.bytes j.bytes c rs epoch counts stands.is_opened stands.lower stands.readable anew))
      left (leaves_rest at m j here stands.settled)

  module _ (new_end new_extent : ℕ) where
    above_second : (i k : Image) → IsBelow fits epoch i → Standing fits new_end new_extent epoch k → second_counts i.bytes k.bytes ≡ true
    above_second i k old new =
        second_above i.bytes k.bytes old.is_opened (standing_open fits new_end new_extent epoch k new) (omega (arith, old.lower, new.epoch_is))

    above_first : (k j : Image) → IsBelow fits epoch j → Standing fits new_end new_extent epoch k → second_counts k.bytes j.bytes ≡ false
    above_first k j old new =
        first_above k.bytes j.bytes (standing_open fits new_end new_extent epoch k new) old.is_opened (omega (arith, old.lower, new.epoch_is))

    -- the disk written again counts
    pub counts_second : (o n : Option Image) → IfSome o (IsBelow fits epoch) → IfSome n (Standing fits new_end new_extent epoch)
        → IfBoth o n (λ i k. second_counts i.bytes k.bytes ≡ true)
    counts_second None n old new = tt
    counts_second (Some i) None old new = tt
    counts_second (Some i) (Some k) old new = above_second i k old new

    pub counts_first : (n p : Option Image) → IfSome p (IsBelow fits epoch) → IfSome n (Standing fits new_end new_extent epoch)
        → IfBoth n p (λ k j. second_counts k.bytes j.bytes ≡ false)
    counts_first None p old new = tt
    counts_first (Some k) None old new = tt
    counts_first (Some k) (Some j) old new = above_first k j old new

    -- and has the records
    pub second_records : (at other_at : ℕ → Option Image) (m last : ℕ) → IfSome (at m) (IsBelow fits epoch)
        → IfSome (other_at last) (Standing fits new_end new_extent epoch) → IfSome (other_at last) (λ k. records fits k.bytes ≡ Ok rs)
        → PairLeavesBetween at m m other_at last last (HaveRecords fits rs)
    second_records at other_at m last old new all = by (at m) (other_at last) refl refl old new all
      where
        by : (x y : Option Image) → at m ≡ x → other_at last ≡ y → IfSome x (IsBelow fits epoch) → IfSome y (Standing fits new_end new_extent epoch)
            → IfSome y (λ k. records fits k.bytes ≡ Ok rs) → PairLeavesBetween at m m other_at last last (HaveRecords fits rs)
        by None y is_x is_y o n a =
            λ k l low high low2 high2. let same : k ≡ m = omega arith in
            subst (λ (z : Option Image). IfBoth z (other_at l) (λ u v. (c d : List ℕ) → MayLeave u c → MayLeave v d → HaveRecords fits rs c d))
            (sym (ap at same ∙ is_x)) tt
        by (Some i) None is_x is_y o n a = λ k l low high low2 high2. let same : l ≡ last = omega arith in none (at k) (other_at l) (ap other_at same ∙ is_y)
          where
            none : (x y : Option Image) → y ≡ None → IfBoth x y (λ u v. (c d : List ℕ) → MayLeave u c → MayLeave v d → HaveRecords fits rs c d)
            none None y is_none = tt
            none (Some u) y is_none =
                subst (λ (z : Option Image). IfSome z (λ v. (c d : List ℕ) → MayLeave u c → MayLeave v d → HaveRecords fits rs c d)) (sym is_none) tt
        by (Some i) (Some k) is_x is_y o n a = pair_leaves at other_at m m last last (λ c. c ≡ i.bytes) (λ d. d ≡ k.bytes) (HaveRecords fits rs)
            (λ c d here_c here_d. subst (λ (l : List ℕ). HaveRecords fits rs l d) (sym here_c)
            (subst (λ (l : List ℕ). HaveRecords fits rs i.bytes l) (sym here_d) (of_second fits i.bytes k.bytes (above_second i k o n) ∙ a)))
            (leaves_rest at m i is_x o.settled) (leaves_rest other_at last k is_y n.holds.settled)

    pub first_records : (other_at at : ℕ → Option Image) (last m : ℕ) → IfSome (at m) (IsBelow fits epoch)
        → IfSome (other_at last) (Standing fits new_end new_extent epoch) → IfSome (other_at last) (λ k. records fits k.bytes ≡ Ok rs)
        → PairLeavesBetween other_at last last at m m (HaveRecords fits rs)
    first_records other_at at last m old new all = by (other_at last) (at m) refl refl new old all
      where
        by : (x y : Option Image) → other_at last ≡ x → at m ≡ y → IfSome x (Standing fits new_end new_extent epoch) → IfSome y (IsBelow fits epoch)
            → IfSome x (λ k. records fits k.bytes ≡ Ok rs) → PairLeavesBetween other_at last last at m m (HaveRecords fits rs)
        by None y is_x is_y n o a =
            λ k l low high low2 high2. let same : k ≡ last = omega arith in
            subst (λ (z : Option Image). IfBoth z (at l) (λ u v. (c d : List ℕ) → MayLeave u c → MayLeave v d → HaveRecords fits rs c d))
            (sym (ap other_at same ∙ is_x)) tt
        by (Some k) None is_x is_y n o a = λ x y low high low2 high2. let same : y ≡ m = omega arith in none (other_at x) (at y) (ap at same ∙ is_y)
          where
            none : (x y : Option Image) → y ≡ None → IfBoth x y (λ u v. (c d : List ℕ) → MayLeave u c → MayLeave v d → HaveRecords fits rs c d)
            none None y is_none = tt
            none (Some u) y is_none =
                subst (λ (z : Option Image). IfSome z (λ v. (c d : List ℕ) → MayLeave u c → MayLeave v d → HaveRecords fits rs c d)) (sym is_none) tt
        by (Some k) (Some j) is_x is_y n o a = pair_leaves other_at at last last m m (λ c. c ≡ k.bytes) (λ d. d ≡ j.bytes) (HaveRecords fits rs)
            (λ c d here_c here_d. subst (λ (l : List ℕ). HaveRecords fits rs l d) (sym here_c)
            (subst (λ (l : List ℕ). HaveRecords fits rs k.bytes l) (sym here_d) (of_first fits k.bytes j.bytes (above_first k j o n) ∙ a)))
            (leaves_rest other_at last k is_x n.holds.settled) (leaves_rest at m j is_y o.settled)

-- ---- two disks that are left as they are

records_still : (fits : List ℕ → Bool) (second : Bool) (a b : List ℕ) → second_counts a b ≡ second
    → records fits (chosen second a b) ≡ Ok (records_of fits (chosen second a b)) → HaveRecords fits (pair_records_of fits a b) a b
records_still fits true a b is all = of_second fits a b is ∙ all ∙ ap (λ (l : List (List ℕ)). Ok l) (sym (those_of_second fits a b is))
records_still fits false a b is all = of_first fits a b is ∙ all ∙ ap (λ (l : List (List ℕ)). Ok l) (sym (those_of_first fits a b is))

pub left_still : (fits : List ℕ → Bool) (rs : List (List ℕ)) (epoch other : ℕ) (second : Bool) (o p : Option Image) (at other_at : ℕ → Option Image)
    (m n : ℕ) → IfSome (chosen second o p) (IsBelow fits epoch) → IfSome (chosen second p o) (IsAtRest other)
    → IfBoth o p (λ i j. second_counts i.bytes j.bytes ≡ second) → at m ≡ o → other_at n ≡ p
    → IfBoth o p (λ i j. PairLeavesBetween at m m other_at n n (HaveEither fits (pair_records_of fits i.bytes j.bytes) rs))
left_still fits rs epoch other second None p at other_at m n below rest counts here there = tt
left_still fits rs epoch other second (Some i) None at other_at m n below rest counts here there = tt
left_still fits rs epoch other true (Some i) (Some j) at other_at m n below rest counts here there =
    pair_leaves at other_at m m n n (λ c. c ≡ i.bytes) (λ d. d ≡ j.bytes) (HaveEither fits (pair_records_of fits i.bytes j.bytes) rs)
    (λ c d same_c same_d. inl
    (ap (λ (l : List ℕ). pair_records fits l d) same_c ∙ ap (pair_records fits i.bytes) same_d
    ∙ records_still fits true i.bytes j.bytes counts below.readable))
    (leaves_rest at m i here rest.settled) (leaves_rest other_at n j there below.settled)
left_still fits rs epoch other false (Some i) (Some j) at other_at m n below rest counts here there =
    pair_leaves at other_at m m n n (λ c. c ≡ i.bytes) (λ d. d ≡ j.bytes) (HaveEither fits (pair_records_of fits i.bytes j.bytes) rs)
    (λ c d same_c same_d. inl
    (ap (λ (l : List ℕ). pair_records fits l d) same_c ∙ ap (pair_records fits i.bytes) same_d
    ∙ records_still fits false i.bytes j.bytes counts below.readable))
    (leaves_rest at m i here below.settled) (leaves_rest other_at n j there rest.settled)

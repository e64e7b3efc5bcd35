-- Which of two disks counts where an append or a checkpoint stopped.
use Rattle.std.{specs.Option.option_map, proofs.Common.{◌≡◌, inl, ⊎_elim, ℕ, zero, suc, ◌+◌, ◌-◌, ◌<◌, ◌≤◌, List, Bool, true, false, IsTrue, Option, None}}
use Rattle.std.proofs.{Common.{Some, IfSome, IsErrOf, Err, is_none, refl, sym, ◌∙◌, ap, subst, arith}, lemmas.Bool.cases_lt}
use Rattle.spl_edge.specs.{Devices.{fails_at, is_due, Image, MayLeave, settled_at, picked_bytes, DiskView, image_now}, declared.disk.Armed.Armed}
use Rattle.spl_edge.specs.declared.{disk.Arming.{Arming, TheVariants.Off}, fill.Fill.Fill}
use Rattle.spl_journal.specs.{Clear.{IsAtRest, IsCleared, IsShortOrSame}, Gate.{ByCalls, LeavesBetween, opened}, Records.{closed_prefix, filling, head_fault}}
use Rattle.spl_journal.{specs.Records.{is_open, SameHead, Standing, is_kept}, proofs.{Heads.{kept_epoch, same_open, shut_or_same}, Images.only_settled}}
use Rattle.spl_snapshot.specs.{Anew.IsBelow, Counting.{chosen, second_counts, IfBoth, PairLeavesBetween, TellsAs}, Stopped.{IsShutOrSame, PicksCount}}
use Rattle.spl_snapshot.{specs.Stopped.StopsShut, proofs.{Counts.{first_shut, same_first, same_second, second_shut}, Leaves.{leaves_rest, pair_leaves}}}

-- ---- on one disk

-- fewer calls keep no more
kept_fewer : (a b : ℕ) (fill : Fill) → b ≤ a → is_kept a fill ≡ false → is_kept b fill ≡ false
kept_fewer a zero fill le lost = refl
kept_fewer a (suc zero) fill le lost = refl
kept_fewer a (suc (suc zero)) fill le lost = refl
kept_fewer zero (suc (suc (suc b))) fill le lost = absurd (omega (arith, le))
kept_fewer (suc zero) (suc (suc (suc b))) fill le lost = absurd (omega (arith, le))
kept_fewer (suc (suc zero)) (suc (suc (suc b))) fill le lost = absurd (omega (arith, le))
kept_fewer (suc (suc (suc zero))) (suc (suc (suc zero))) fill le lost = lost
kept_fewer (suc (suc (suc zero))) (suc (suc (suc (suc b)))) fill le lost = absurd (omega (arith, le))
kept_fewer (suc (suc (suc (suc a)))) (suc (suc (suc b))) fill le lost = cc

-- an arming that names a call isn't off
armed_named : (armed : Armed) (m : ℕ) → IsTrue (fails_at armed m) → armed.arming ≡ Off → ⊥
armed_named armed m due off = let no : IsTrue (is_due Off (m - armed.since)) = subst (λ (a : Arming). IsTrue (is_due a (m - armed.since))) off due in cc

-- while a disk is cleared
pub cleared_shut : (told : Option Image) (at : ℕ → Option Image) (first last : ℕ) (fill : Fill) → first ≤ last
    → IfSome told (λ i. LeavesBetween at first last (IsShortOrSame i.bytes))
    → IfSome told (λ i. IfSome (at last) (λ j. MayLeave j (picked_bytes fill j) → IsShutOrSame i.bytes (picked_bytes fill j)))
cleared_shut None at first last fill later left = tt
cleared_shut (Some i) at first last fill later left = one (at last) (left last later (omega arith))
  where
    one : (o : Option Image) → IfSome o (λ j. (c : List ℕ) → MayLeave j c → IsShortOrSame i.bytes c)
        → IfSome o (λ j. MayLeave j (picked_bytes fill j) → IsShutOrSame i.bytes (picked_bytes fill j))
    one None h = tt
    one (Some j) h = λ may. shut_or_same i.bytes (picked_bytes fill j) (h (picked_bytes fill j) may)

-- while the journal is written, once four calls cleared the disk
module _ (epoch : ℕ) (rs : List (List ℕ)) (fill : Fill) (armed : Armed) (first : ℕ) (stops : StopsShut fill armed first)
    (x y : DiskView) {ok failed : Type 0} (calls : ByCalls 4 x y (opened 16 (filling rs)) ok failed)
    (same : x.armed ≡ armed) (place : x.moment ≡ first + 4) (before : ((n : ℕ) → n < 4 → IsTrue (fails_at armed (first + n)) → ⊥)) where
  few_calls : calls.calls ≤ stops.calls - 4
  few_calls = ⊎_elim
      (λ (low : stops.calls < 4). absurd (before stops.calls low stops.named))
      (λ (high : 4 ≤ stops.calls). ⊎_elim
      (λ (less : stops.calls - 4 < calls.calls). absurd (calls.passed (stops.calls - 4) less
      (subst IsTrue (ap (λ (a : Armed). fails_at a (first + stops.calls)) (sym same) ∙ ap (fails_at x.armed) (omega (arith, place, high))) stops.named)))
      (λ (le : calls.calls ≤ stops.calls - 4). le)
      (cases_lt (stops.calls - 4) calls.calls))
      (cases_lt stops.calls 4)

  pub filled_shut : (told : Option Image) → image_now x ≡ option_map (λ i. settled_at (closed_prefix epoch)) told → failed
      → ((e : ℕ) (l : List (List ℕ)) (i : Image) (n : ℕ) (f : Fill) → IsCleared e i → is_kept n f ≡ false
      → is_open (picked_bytes f (opened 16 (filling l) n i)) ≡ false)
      → IfSome told (λ i. IfSome (image_now y) (λ j. MayLeave j (picked_bytes fill j) → IsShutOrSame i.bytes (picked_bytes fill j)))
  filled_shut None is fault law = tt
  filled_shut (Some i) is fault law =
      let off = armed_named x.armed (first + stops.calls) (subst (λ (a : Armed). IsTrue (fails_at a (first + stops.calls))) (sym same) stops.named) in
      let now : image_now y ≡ Some (opened 16 (filling rs) calls.calls (settled_at (closed_prefix epoch))) =
      calls.still (calls.named fault off) ∙ calls.stands ∙ ap (option_map (opened 16 (filling rs) calls.calls)) is in
      subst (λ (o : Option Image). IfSome o (λ j. MayLeave j (picked_bytes fill j) → IsShutOrSame i.bytes (picked_bytes fill j))) (sym now)
      (λ may. inl (law epoch rs (settled_at (closed_prefix epoch)) calls.calls fill refl (kept_fewer (stops.calls - 4) calls.calls fill few_calls stops.shut)))

-- an error that is handed on
pub same_error : {A B E : Type 0} {x y : E} → IsErrOf {T = A} (Err x) y → IsErrOf {T = B} (Err x) y
same_error {x = x} {y = y} h = let is : x ≡ y = cc in ap Err is

-- ---- on both

stay_first : (a b c : List ℕ) → second_counts a b ≡ true → is_open b ≡ true → IsShutOrSame a c → second_counts c b ≡ true
stay_first a b c is open_b = ⊎_elim (λ (shut : is_open c ≡ false). first_shut c b shut open_b) (λ (opens, epochs). same_first a b c opens epochs ∙ is)

stay_second : (a b d : List ℕ) → second_counts a b ≡ false → IsShutOrSame b d → second_counts a d ≡ false
stay_second a b d is = ⊎_elim (λ (shut : is_open d ≡ false). second_shut a d shut) (λ (opens, epochs). same_second a b d opens epochs ∙ is)

same_head_first : (a b c : List ℕ) → head_fault a ≡ None → second_counts a b ≡ false → SameHead a c → second_counts c b ≡ false
same_head_first a b c head is same = same_first a b c (same_open a c head same ∙ sym (ap (λ (h : Option ℕ). is_none h) head)) (kept_epoch a c same) ∙ is

same_head_second : (a b d : List ℕ) → head_fault b ≡ None → second_counts a b ≡ true → SameHead b d → second_counts a d ≡ true
same_head_second a b d head is same = same_second a b d (same_open b d head same ∙ sym (ap (λ (h : Option ℕ). is_none h) head)) (kept_epoch b d same) ∙ is

module _ (fits : List ℕ → Bool) (epoch : ℕ) where
  -- the second disk counts, and the first was written again
  pub shut_first : (second : Bool) (fill : Fill) (o p n : Option Image) → second ≡ true → IfSome (chosen second o p) (IsBelow fits epoch)
      → IfBoth o p (λ i j. second_counts i.bytes j.bytes ≡ second)
      → IfSome o (λ i. IfSome n (λ k. MayLeave k (picked_bytes fill k) → IsShutOrSame i.bytes (picked_bytes fill k)))
      → IfBoth o p (λ i j. IfBoth n p (PicksCount fill second))
  shut_first false fill o p n is stands counts shut = cc
  shut_first true fill None p n is stands counts shut = tt
  shut_first true fill (Some i) None n is stands counts shut = tt
  shut_first true fill (Some i) (Some j) None is stands counts shut = tt
  shut_first true fill (Some i) (Some j) (Some k) is stands counts shut = λ left other_left.
      subst (λ (d : List ℕ). second_counts (picked_bytes fill k) d ≡ true) (sym (only_settled j (picked_bytes fill j) stands.settled other_left))
      (stay_first i.bytes j.bytes (picked_bytes fill k) counts stands.is_opened (shut left))

  -- the first disk counts, and the second was written again
  pub shut_second : (second : Bool) (fill : Fill) (o p n : Option Image) → second ≡ false → IfSome (chosen second o p) (IsBelow fits epoch)
      → IfBoth o p (λ i j. second_counts i.bytes j.bytes ≡ second)
      → IfSome p (λ j. IfSome n (λ k. MayLeave k (picked_bytes fill k) → IsShutOrSame j.bytes (picked_bytes fill k)))
      → IfBoth o p (λ i j. IfBoth o n (PicksCount fill second))
  shut_second true fill o p n is stands counts shut = cc
  shut_second false fill None p n is stands counts shut = tt
  shut_second false fill (Some i) None n is stands counts shut = tt
  shut_second false fill (Some i) (Some j) None is stands counts shut = tt
  shut_second false fill (Some i) (Some j) (Some k) is stands counts shut = λ left other_left.
      subst (λ (c : List ℕ). second_counts c (picked_bytes fill k) ≡ false) (sym (only_settled i (picked_bytes fill i) stands.settled left))
      (stay_second i.bytes j.bytes (picked_bytes fill k) counts (shut other_left))

module _ (fits : List ℕ → Bool) (end extent epoch other : ℕ) where
  -- the first disk counts, and an append to it is under way
  pub append_first : (second : Bool) (o p : Option Image) (at other_at : ℕ → Option Image) (m last n : ℕ) → second ≡ false
      → IfSome (chosen second o p) (Standing fits end extent epoch) → IfSome (chosen second p o) (IsAtRest other)
      → IfBoth o p (λ i j. second_counts i.bytes j.bytes ≡ second) → other_at n ≡ p → IfSome o (λ i. LeavesBetween at m last (SameHead i.bytes))
      → IfBoth o p (λ i j. PairLeavesBetween at m last other_at n n (λ c d. second_counts c d ≡ second))
  append_first true o p at other_at m last n is stands rest counts here head = cc
  append_first false None p at other_at m last n is stands rest counts here head = tt
  append_first false (Some i) None at other_at m last n is stands rest counts here head = tt
  append_first false (Some i) (Some j) at other_at m last n is stands rest counts here head =
      pair_leaves at other_at m last n n (SameHead i.bytes) (λ d. d ≡ j.bytes) (λ c d. second_counts c d ≡ false)
      (λ c d kept same. subst (λ (l : List ℕ). second_counts c l ≡ false) (sym same) (same_head_first i.bytes j.bytes c stands.holds.prefix.head counts kept))
      head (leaves_rest other_at n j here rest.settled)

  -- the second disk counts, and an append to it is under way
  pub append_second : (second : Bool) (o p : Option Image) (other_at at : ℕ → Option Image) (n m last : ℕ) → second ≡ true
      → IfSome (chosen second o p) (Standing fits end extent epoch) → IfSome (chosen second p o) (IsAtRest other)
      → IfBoth o p (λ i j. second_counts i.bytes j.bytes ≡ second) → other_at n ≡ o → IfSome p (λ j. LeavesBetween at m last (SameHead j.bytes))
      → IfBoth o p (λ i j. PairLeavesBetween other_at n n at m last (λ c d. second_counts c d ≡ second))
  append_second false o p other_at at n m last is stands rest counts here head = cc
  append_second true None p other_at at n m last is stands rest counts here head = tt
  append_second true (Some i) None other_at at n m last is stands rest counts here head = tt
  append_second true (Some i) (Some j) other_at at n m last is stands rest counts here head =
      pair_leaves other_at at n n m last (λ c. c ≡ i.bytes) (SameHead j.bytes) (λ c d. second_counts c d ≡ true)
      (λ c d same kept. subst (λ (l : List ℕ). second_counts l d ≡ true) (sym same) (same_head_second i.bytes j.bytes d stands.holds.prefix.head counts kept))
      (leaves_rest other_at n i here rest.settled) head

-- ---- a record that is kept

-- what a stop leaves, picked with a fill
pub count_picked : (second : Bool) (fill : Fill) (o p : Option Image) (at other_at : ℕ → Option Image) (from to start end : ℕ) → from ≤ to → start ≤ end
    → IfBoth o p (λ i j. PairLeavesBetween at from to other_at start end (λ c d. second_counts c d ≡ second))
    → IfBoth o p (λ i j. IfBoth (at to) (other_at end) (PicksCount fill second))
count_picked second fill None p at other_at from to start end later other_later left = tt
count_picked second fill (Some i) None at other_at from to start end later other_later left = tt
count_picked second fill (Some i) (Some j) at other_at from to start end later other_later left =
    one (at to) (other_at end) (left to end later (omega arith) other_later (omega arith))
  where
    one : (x y : Option Image) → IfBoth x y (λ u v. (c d : List ℕ) → MayLeave u c → MayLeave v d → second_counts c d ≡ second)
        → IfBoth x y (PicksCount fill second)
    one None y h = tt
    one (Some u) None h = tt
    one (Some u) (Some v) h = λ a b. h (picked_bytes fill u) (picked_bytes fill v) a b

-- two disks reported where they do now
pub told_before : (o p x y : Option Image) (P : Type 0) → TellsAs o x → TellsAs p y → IfBoth x y (λ i j. P) → IfBoth o p (λ i j. P)
told_before None p x y P told other_told h = tt
told_before (Some i) None x y P told other_told h = tt
told_before (Some i) (Some j) None y P told other_told h = cc
told_before (Some i) (Some j) (Some u) None P told other_told h = cc
told_before (Some i) (Some j) (Some u) (Some v) P told other_told h = h

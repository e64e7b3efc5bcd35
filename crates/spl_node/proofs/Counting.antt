-- Which disk counts in what a node picks that was stopped in an event.
use Rattle.std.{specs.Prelude.{nat_le, IsTrue, IsSome, if◌then◌else◌}, proofs.Common.{◌≡◌, ⊎_elim, ◌⊎◌, inl, inr, ℕ, ◌+◌, ◌-◌, ◌<◌, ◌≤◌, Bool, true, false}}
use Rattle.std.proofs.{Common.{true≢false, List, Option, Some, None, IfSome, refl, sym, ◌∙◌, subst, arith}, lemmas.Bool.cases_lt}
use Rattle.spl_edge.specs.{Devices.{armed_with, fails_at, Image, IsSettled, MayLeave, settled_at, picked_bytes}, declared.disk.Armed.Armed}
use Rattle.spl_edge.specs.declared.{disk.Arming.TheVariants.{After, At}, fill.Fill.{Fill, TheVariants.Old}}
use Rattle.spl_journal.{specs.Records.is_kept, proofs.Images.only_settled}
use Rattle.spl_snapshot.specs.{Counting.{second_counts, IfBoth}, Pairs.PairStands, Stopped.{PicksCount, StopsShut}, declared.pairing.Pairing.Pairing}
use Rattle.spl_node.specs.{Stopping.{fill_of, may_turn, other_arming}, declared.stopping.Stopping.{Stopping, TheVariants.{Cut, Fail}}}
use Rattle.spl_node.proofs.{Booleans.le_is, Disks.settled_pair, Halting.{eq_is, kept_four, not_le}, Hosting.both_told}

-- ---- the call at which the other disk stops

shut_cut : (calls m : ℕ) (fill : Fill) → is_kept (calls - 8) fill ≡ false → StopsShut fill (armed_with (After (calls - 4)) m) m
shut_cut calls m fill lost =
    let same : calls - 8 ≡ calls - 4 - 4 = omega arith in
    record {
      calls = calls - 4;
      named = le_is (calls - 4) (m + (calls - 4) - m) (omega arith);
      shut = subst (λ (k : ℕ). is_kept k fill ≡ false) same lost;
    }

shut_fail : (call m : ℕ) (low : Bool) → nat_le call 4 ≡ low → is_kept (call - 1 - 8) Old ≡ false
    → StopsShut Old (armed_with (if low then After 4 else At (call - 4)) m) m
shut_fail call m true is lost = record { calls = 4; named = le_is 4 (m + 4 - m) (omega arith); shut = refl }
shut_fail call m false is lost =
    let more : 4 < call = not_le call 4 is in
    let same : call - 1 - 8 ≡ call - 5 - 4 = omega arith in
    record {
      calls = call - 5;
      named = eq_is (m + (call - 5) - m + 1) (call - 4) (omega (arith, more));
      shut = subst (λ (k : ℕ). is_kept k Old ≡ false) same lost;
    }

-- the head gate of a checkpoint isn't open after it
pub shut_other : (h : Stopping) (armed : Armed) (m : ℕ) → armed ≡ armed_with (other_arming h) m → may_turn h ≡ false → StopsShut (fill_of h) armed m
shut_other (Cut calls fill) armed m is lost = subst (λ (a : Armed). StopsShut fill a m) (sym is) (shut_cut calls m fill lost)
shut_other (Fail call) armed m is lost = subst (λ (a : Armed). StopsShut Old a m) (sym is) (shut_fail call m (nat_le call 4) refl lost)

-- it is one of the eight
within_eight : (fill : Fill) (armed : Armed) (m : ℕ) (stops : StopsShut fill armed m) → stops.calls < 8
within_eight fill armed m stops = ⊎_elim
    (λ (less : stops.calls < 8). less)
    (λ (more : 8 ≤ stops.calls). absurd (true≢false (sym (kept_four (stops.calls - 4) fill (omega (arith, more))) ∙ stops.shut)))
    (cases_lt stops.calls 8)

-- ---- what is picked

-- of disks as a pairing takes them
pub standing_counts : {R : Type 0} (fits : List ℕ → Bool) (q : Pairing R) (fill : Fill) (o p : Option Image) → PairStands fits q o p
    → IfBoth o p (PicksCount fill q.second)
standing_counts fits q fill o p stands = by o p (settled_pair fits q o p stands).0 (settled_pair fits q o p stands).1 stands.counts
  where
    by : (x y : Option Image) → IfSome x IsSettled → IfSome y IsSettled → IfBoth x y (λ i j. second_counts i.bytes j.bytes ≡ q.second)
        → IfBoth x y (PicksCount fill q.second)
    by None y rest other_rest counts = tt
    by (Some i) None rest other_rest counts = tt
    by (Some i) (Some j) rest other_rest counts = λ left other_left.
        subst (λ (c : List ℕ). second_counts c (picked_bytes fill j) ≡ q.second) (sym (only_settled i (picked_bytes fill i) rest left))
        (subst (λ (d : List ℕ). second_counts i.bytes d ≡ q.second) (sym (only_settled j (picked_bytes fill j) other_rest other_left)) counts)

-- after a step that succeeded: no checkpoint turned them, since it would have come to the call that fails
pub went_on_counts : {R : Type 0} (fits : List ℕ → Bool) (q : Pairing R) (fill : Fill) (armed : Armed) (m : ℕ) (second : Bool) (o p : Option Image)
    → StopsShut fill armed m → PairStands fits q o p
    → (q.second ≡ second) ⊎ ((n : ℕ) → n < 8 → IsTrue (fails_at armed (m + n)) → ⊥) → IfBoth o p (PicksCount fill second)
went_on_counts fits q fill armed m second o p stops stands (inl same) =
    subst (λ (b : Bool). IfBoth o p (PicksCount fill b)) same (standing_counts fits q fill o p stands)
went_on_counts fits q fill armed m second o p stops stands (inr none) = absurd (none stops.calls (within_eight fill armed m stops) stops.named)

-- of two disks that report
pub told_counts : (fill : Fill) (second : Bool) (o p x y : Option Image) → IsSome o → IsSome p → IfBoth o p (λ i j. IfBoth x y (PicksCount fill second))
    → IfBoth x y (PicksCount fill second)
told_counts fill second o p x y told other_told h =
    both_told o p (λ i j. IfBoth x y (PicksCount fill second)) (IfBoth x y (PicksCount fill second)) told other_told h (λ i j is other_is c. c)

-- and of the disks once they picked
pub picked_counts : (fill : Fill) (second : Bool) (o p x y : Option Image) (i j : Image) → o ≡ Some i → p ≡ Some j → MayLeave i (picked_bytes fill i)
    → MayLeave j (picked_bytes fill j) → x ≡ Some (settled_at (picked_bytes fill i)) → y ≡ Some (settled_at (picked_bytes fill j))
    → IfBoth o p (PicksCount fill second) → IfBoth x y (λ u v. second_counts u.bytes v.bytes ≡ second)
picked_counts fill second o p x y i j is other_is left other_left holds other_holds counts =
    let all = subst (λ (v : Option Image). IfBoth (Some i) v (PicksCount fill second)) other_is
    (subst (λ (u : Option Image). IfBoth u p (PicksCount fill second)) is counts) in
    subst (λ (u : Option Image). IfBoth u y (λ a b. second_counts a.bytes b.bytes ≡ second)) (sym holds)
    (subst (λ (v : Option Image). IfBoth (Some (settled_at (picked_bytes fill i))) v (λ a b. second_counts a.bytes b.bytes ≡ second)) (sym other_holds)
    (all left other_left))

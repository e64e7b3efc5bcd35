-- Lanes that are put, taken and made.
use Rattle.std.proofs.Common.{◌≡◌, ◌≢◌, ℕ, zero, suc, ◌+◌, ◌-◌, ◌<◌, ◌≤◌, min, List, [], ◌∷◌, ◌++◌, length, take, drop, slice_get, slice_set, Option, None}
use Rattle.std.proofs.{Common.{Some, refl, sym, ◌∙◌, ap, arith, length-take, take-add}, lemmas.List.{take_at, take_min, take-append-le}}
use Rattle.spl_edge.specs.Devices.{IsOtherPair}
use Rattle.spl_memory.specs.{Lanes.{lane_put, lane_taken, put_if, taken_if, put_in, taken_in, lane_from}, declared.lane.Lane.Lane}

get-set_same : {A : Type 0} (xs : List A) (i : ℕ) (y : A) → i < length xs → slice_get (slice_set xs i y) i ≡ Some y
get-set_same [] i y lt = absurd (omega (arith, lt))
get-set_same (x ∷ xs) zero y lt = refl
get-set_same (x ∷ xs) (suc i) y lt = get-set_same xs i y (omega (arith, lt))

get-set_other : {A : Type 0} (xs : List A) (i k : ℕ) (y : A) → k ≢ i → slice_get (slice_set xs i y) k ≡ slice_get xs k
get-set_other [] i k y other = refl
get-set_other (x ∷ xs) zero zero y other = absurd (other refl)
get-set_other (x ∷ xs) zero (suc k) y other = refl
get-set_other (x ∷ xs) (suc i) zero y other = refl
get-set_other (x ∷ xs) (suc i) (suc k) y other = get-set_other xs i k y (λ same. other (ap suc same))

-- one lane is another
pub put_same : (lanes : List Lane) (i : ℕ) (x : Lane) → i < length lanes → put_in (slice_set lanes i x) i ≡ lane_put x
put_same lanes i x lt = ap put_if (get-set_same lanes i x lt)

pub put_other : (lanes : List Lane) (i k : ℕ) (x : Lane) → k ≢ i → put_in (slice_set lanes i x) k ≡ put_in lanes k
put_other lanes i k x other = ap put_if (get-set_other lanes i k x other)

pub taken_same : (lanes : List Lane) (i : ℕ) (x : Lane) → i < length lanes → taken_in (slice_set lanes i x) i ≡ lane_taken x
taken_same lanes i x lt = ap taken_if (get-set_same lanes i x lt)

pub taken_other : (lanes : List Lane) (i k : ℕ) (x : Lane) → k ≢ i → taken_in (slice_set lanes i x) k ≡ taken_in lanes k
taken_other lanes i k x other = ap taken_if (get-set_other lanes i k x other)

-- one lane more, with nothing on it
pub put_grown : (lanes : List Lane) (x : Lane) (k : ℕ) → lane_put x ≡ [] → put_in (lanes ++ x ∷ []) k ≡ put_in lanes k
put_grown [] x zero none = none
put_grown [] x (suc k) none = refl
put_grown (l ∷ lanes) x zero none = refl
put_grown (l ∷ lanes) x (suc k) none = put_grown lanes x k none

pub taken_grown : (lanes : List Lane) (x : Lane) (k : ℕ) → lane_taken x ≡ [] → taken_in (lanes ++ x ∷ []) k ≡ taken_in lanes k
taken_grown [] x zero none = none
taken_grown [] x (suc k) none = refl
taken_grown (l ∷ lanes) x zero none = refl
taken_grown (l ∷ lanes) x (suc k) none = taken_grown lanes x k none

-- bytes moved to the beginning of a buffer
pub taken_more : (put buf piece : List ℕ) (t n : ℕ) → length piece ≡ n → piece ≡ take n (drop t put)
    → take (t + n) put ≡ take t put ++ take n (piece ++ drop n buf)
taken_more put buf piece t n long is = take-add t n put ∙ ap (λ (l : List ℕ). take t put ++ l) (sym is ∙ sym (take_at piece (drop n buf) n long))

pub taken_still : (put more : List ℕ) (t : ℕ) → t ≤ length put → take t (put ++ more) ≡ take t put
taken_still put more t le = take-append-le t put more le

pub all_taken : (put : List ℕ) (t n room : ℕ) → n ≡ min room (length put - t) → n ≡ 0 → 0 < room → length put ≤ length (take t put)
all_taken put t n room is none some = omega (arith, length-take t put, is, none, some)

-- what was taken is a prefix
pub taken_prefix : (lanes : List Lane) (k : ℕ) → taken_in lanes k ≡ take (length (taken_in lanes k)) (put_in lanes k)
taken_prefix lanes k = by (slice_get lanes k)
  where
    by : (o : Option Lane) → taken_if o ≡ take (length (taken_if o)) (put_if o)
    by None = refl
    by (Some l) = sym (ap (λ (n : ℕ). take n l.put.items) (length-take l.taken l.put.items) ∙ take_min l.taken l.put.items)

-- different pairs of nodes have different lanes
pub other_lane : (a b from to : ℕ) → a < 256 → b < 256 → from < 256 → to < 256 → IsOtherPair a b from to → lane_from a b ≢ lane_from from to
other_lane a b from to a_small b_small from_small to_small other same = other (omega (arith, same, b_small, to_small)) (omega (arith, same, b_small, to_small))

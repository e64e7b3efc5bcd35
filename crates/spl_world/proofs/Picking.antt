-- Disks of one node that are picked from.
use Rattle.spl_edge.specs.declared.{disk.Arming.{Arming, TheVariants.Off}, fill.Fill.TheVariants.Old}
use Rattle.spl_node.{specs.{Stands.PicksOld, Stopping.PicksArmed, Benches.{IsPairUnarmed, NoneForgotten, IsUnarmed}}, proofs.Benches.{bench_here, bench_set}}
use Rattle.spl_node.proofs.Positions.{same_there, each_set, set_else, set_here, set_same}
use Rattle.spl_snapshot.specs.Counting.{second_counts}
use Rattle.spl_world.{specs.Picks.{HavePicked, HigherAt, OtherPicksHigher, PicksHigher, StopsAt}, proofs.Common.{◌≡◌, ℕ, ◌<◌, ◌≤◌, Bool, true, false}}
use Rattle.spl_world.proofs.Common.{true≢false, List, [], ◌∷◌, ◌++◌, slice_get, slice_set, Option, Some, None, refl, ap, sym, subst, ◌∙◌, arith}
use Rattle.spl_world.proofs.Common.{slice_get_within, Image, Picked, image_now, DiskView, PairView, pair_view, bench, Pair, Fill, IfBoth, chosen, length-set}

-- ---- a plain stop

-- which of two disks counts
counting : (o p : Option Image) → (b : Bool) × IfBoth o p (λ i j. second_counts i.bytes j.bytes ≡ b)
counting None p = (false, tt)
counting (Some i) None = (false, tt)
counting (Some i) (Some j) = (second_counts i.bytes j.bytes, refl)

chosen_same : {T : Type 0} (b : Bool) (x : T) → chosen b x x ≡ x
chosen_same true x = refl
chosen_same false x = refl

-- a disk that wasn't armed picked what was synced
plain : (b : Bool) (x y : DiskView) → IsUnarmed x → PicksOld x y → PicksArmed Old (chosen b Off Off) x y
plain b x y off one = record {
  image = one.picks.image.synced;
  kept = one.picks.kept ∙ ap (λ (a : Arming). more a x.faults) (off ∙ sym (chosen_same b Off)) ∙ ap (λ (f : ℕ). more (chosen b Off Off) f) (sym one.faults_stay);
  holds = one.picks.holds;
  disarmed = one.disarmed;
  past = one.past;
  later = omega (arith, one.tick);
  no_less = omega (arith, one.faults_stay);
}
  where
    more : Arming → ℕ → List Picked
    more a f = x.picks ++ record { image = one.picks.image.synced; fill = Old; arming = a; faults = f } ∷ []

pub plain_picks : (p q : PairView) → IsPairUnarmed p → PicksOld p.first q.first
    → PicksOld p.second q.second → HavePicked None p q
plain_picks p q off one other =
    let b = counting (image_now p.first) (image_now p.second) in
    record { second = b.0; counts = b.1; still = tt; first_is = plain b.0 p.first q.first off.0 one; second_is = plain b.0 p.second q.second off.1 other }

-- ---- a stop in a checkpoint

-- a disk that failed before it picked
higher : (fill : Fill) (arming : Arming) (x y : DiskView) → PicksArmed fill arming x y → x.faults < y.faults → PicksHigher x y
higher fill arming x y one rose = record { pick = record { image = one.image; fill = fill; arming = arming; faults = y.faults }; picks = one.kept; higher = rose }

pub other_higher : (p q : PairView) (second : Bool) (fill : Fill) (k l : Arming) → IfBoth (image_now p.first) (image_now p.second) (λ i j. second_counts i.bytes j.bytes ≡ second) → PicksArmed fill k p.first q.first → PicksArmed fill l p.second q.second
    → (chosen second p.second p.first).faults < (chosen second q.second q.first).faults → OtherPicksHigher p q
other_higher p q second fill k l counts one other rose = go (image_now p.first) (image_now p.second) counts
  where
    at : (b : Bool) → (chosen b p.second p.first).faults < (chosen b q.second q.first).faults → PicksHigher (chosen b p.second p.first) (chosen b q.second q.first)
    at true h = higher fill k p.first q.first one h
    at false h = higher fill l p.second q.second other h

    go : (u v : Option Image) → IfBoth u v (λ i j. second_counts i.bytes j.bytes ≡ second)
        → IfBoth u v (λ i j. PicksHigher (chosen (second_counts i.bytes j.bytes) p.second p.first) (chosen (second_counts i.bytes j.bytes) q.second q.first))
    go None v c = tt
    go (Some i) None c = tt
    go (Some i) (Some j) c = subst (λ (b : Bool). PicksHigher (chosen b p.second p.first) (chosen b q.second q.first)) (sym c) (at second rose)

-- ---- one pair of many

module _ (xs : List PairView) (k : ℕ) (x y : PairView) (there : slice_get xs k ≡ Some x) where
  -- its node stopped
  stops_one : (P : PairView → PairView → Type 0) (up : Bool) → (up ≡ true → P x y) → (up ≡ false → slice_set xs k y ≡ xs) → StopsAt P up k xs (slice_set xs k y)
  stops_one P up picked none = record {
    as_many = length-set xs k y;
    others = λ i off. set_else xs k i y (λ e. off (sym e));
    picks = λ u p q e f.
        let was : x ≡ p = same_there xs k x p there e in
        let at : Some y ≡ Some q = sym (set_here xs k y (slice_get_within xs k x there)) ∙ f in
        let now : y ≡ q = cc in
        subst (λ (z : PairView). P z q) was (subst (P x) now (picked u));
    none = none;
  }

  -- none of its faults is forgotten
  forgets_one : x.first.faults ≤ y.first.faults → x.second.faults ≤ y.second.faults → NoneForgotten xs (slice_set xs k y)
  forgets_one a b = record {
    as_many = length-set xs k y;
    first = λ i p q e f. go (λ (d : PairView). d.first.faults) a i p q e f;
    second = λ i p q e f. go (λ (d : PairView). d.second.faults) b i p q e f;
  }
    where
      go : (count : PairView → ℕ) → count x ≤ count y → (i : ℕ) (p q : PairView) → slice_get xs i ≡ Some p → slice_get (slice_set xs k y) i ≡ Some q → count p ≤ count q
      go count less i p q e f = each_set (λ (j : ℕ) (z : PairView). (u : PairView) → slice_get xs j ≡ Some u → count u ≤ count z) xs k y (λ u g. subst (λ (v : PairView). count v ≤ count y) (same_there xs k x u there g) less)
          (λ j z off h u g. subst (λ (v : PairView). count u ≤ count v) (same_there xs j u z g h) (omega arith)) i q f p e

-- where nothing happens nothing is forgotten
pub forgets_none : (xs : List PairView) → NoneForgotten xs xs
forgets_none xs = record {
  as_many = refl;
  first = λ i p q e f. subst (λ (z : PairView). p.first.faults ≤ z.first.faults) (same_there xs i p q e f) (omega arith);
  second = λ i p q e f. subst (λ (z : PairView). p.second.faults ≤ z.second.faults) (same_there xs i p q e f) (omega arith);
}

-- a node that was down stays so
pub stops_none : (P : PairView → PairView → Type 0) (up : Bool) (k : ℕ) (xs : List PairView) → up ≡ false → StopsAt P up k xs xs
stops_none P up k xs down = record { as_many = refl; others = λ i off. refl; picks = λ u. absurd (true≢false (sym u ∙ down)); none = λ d. refl }

-- ---- by the pair itself

-- the count of the disk that doesn't count, as it is reported
pub count_seen : {D : Type 0} (view : D → DiskView) (second : Bool) (p r : Pair D) → (view (chosen second p.second p.first)).faults < (view (chosen second r.second r.first)).faults
    → (chosen second (pair_view view p).second (pair_view view p).first).faults < (chosen second (pair_view view r).second (pair_view view r).first).faults
count_seen view true p r h = h
count_seen view false p r h = h

module _ {D : Type 0} (view : D → DiskView) (ps : List (Pair D)) (k : ℕ) (p r : Pair D) (pair : slice_get ps k ≡ Some p) where
  abbrev told : List (Pair D) → List PairView
  told qs = bench view qs

  abbrev one : Pair D → PairView
  one q = pair_view view q

  there : slice_get (told ps) k ≡ Some (one p)
  there = bench_here view ps k p pair

  -- what is said of all pairs after the write
  after : (P : List PairView → Type 0) → P (slice_set (told ps) k (one r)) → P (told (slice_set ps k r))
  after P h = subst P (sym (bench_set view ps k r)) h

  pub one_stops : (P : PairView → PairView → Type 0) (up : Bool) (position : ℕ) → k ≡ position → (up ≡ true → P (one p) (one r)) → (up ≡ false → r ≡ p)
      → StopsAt P up position (told ps) (told (slice_set ps k r))
  one_stops P up position place picked none = subst (λ (n : ℕ). StopsAt P up n (told ps) (told (slice_set ps k r))) place
      (after (StopsAt P up k (told ps)) (stops_one (told ps) k (one p) (one r) there P up picked
      (λ d. ap (λ (z : Pair D). slice_set (told ps) k (one z)) (none d) ∙ set_same (told ps) k (one p) there)))

  pub one_higher : (position : ℕ) → k ≡ position → OtherPicksHigher (one p) (one r) → HigherAt position (told ps) (told (slice_set ps k r))
  one_higher position place h = (one_stops OtherPicksHigher true position place (λ u. h) (λ down. absurd (true≢false down))).picks refl

  pub one_forgets : (view p.first).faults ≤ (view r.first).faults → (view p.second).faults ≤ (view r.second).faults → NoneForgotten (told ps) (told (slice_set ps k r))
  one_forgets a b = after (NoneForgotten (told ps)) (forgets_one (told ps) k (one p) (one r) there a b)

-- What the disks of nodes picked, line by line.
use Rattle.std.proofs.lemmas.List.{append-nil}
use Rattle.spl_edge.specs.declared.disk.Armed.{Armed}
use Rattle.spl_node.{specs.Benches.{IsUnarmed, AllGoOn, RoseAt, AllUnpicked, AreUnpicked, IsUnpicked, last_count}, proofs.Positions.mapped_there}
use Rattle.spl_world.specs.Held.{ArePickedAt, ArePicksAt, FailedSince, HasFailedSince, HasPicked, IsCounted, Point, picks_at, pick_points, point_at, stops_at}
use Rattle.spl_world.specs.{Picks.{AllPickBy, AllPicked, EachPair, KeepsPicks, PicksBy, PicksOnce}, Views.{IsPlace, world_node_ids, places_of, slot_id}}
use Rattle.spl_world.{specs.{Views.{slot_ids, slot_places}, declared.{slot.Slot.Slot, world.World.World}}, proofs.Common.{◌≡◌, ℕ, ◌<◌, ◌≤◌, ◌⊎◌, inl, inr}}
use Rattle.spl_world.proofs.Common.{Bool, true, false, true≢false, ◌&&◌, List, [], ◌∷◌, ◌++◌, length, slice_get, get_or, Some, if◌then◌else◌, refl, ap, sym}
use Rattle.spl_world.proofs.Common.{subst, ◌∙◌, append_assoc, arith, slice_get_within, slice_get-get_or, bool_cases, NodeId, Onward, Picked, DiskView}
use Rattle.spl_world.proofs.{Common.{PairView, is_up, Ran, Origin, PairOnward, HasRisen, length-map}, Slots.id_at}

pub as_many_places : (ss : List Slot) → length (slot_places ss) ≡ length (slot_ids ss)
as_many_places ss = length-map ss (λ (s : Slot). s.position) ∙ sym (length-map ss slot_id)

-- ---- points

points_from : (n : NodeId) (start rs : List Ran) (r : Ran) (before : List Ran) → before ≡ start ++ rs → pick_points n start (rs ++ r ∷ []) ≡ pick_points n start rs ++ point_at n before r
points_from n start [] r before e = append-nil (point_at n start r) ∙ ap (λ (bs : List Ran). point_at n bs r) (sym (e ∙ append-nil start))
points_from n start (x ∷ rs) r before e =
    ap (λ (ps : List Point). point_at n start x ++ ps) (points_from n (start ++ x ∷ []) rs r before (e ∙ sym (append_assoc start (x ∷ []) rs)))
    ∙ sym (append_assoc (point_at n start x) (pick_points n (start ++ x ∷ []) rs) (point_at n before r))

points_by : (n : NodeId) (rs : List Ran) (r : Ran) (b : Bool) → picks_at n rs r ≡ b → pick_points n [] (rs ++ r ∷ []) ≡ pick_points n [] rs ++ (if b then record { before = rs; ran = r } ∷ [] else [])
points_by n rs r b e = points_from n [] rs r rs refl ∙ ap (λ (c : Bool). pick_points n [] rs ++ (if c then record { before = rs; ran = r } ∷ [] else [])) e

-- one point more, or as many
pub points_stopped : (n : NodeId) (rs : List Ran) (r : Ran) → picks_at n rs r ≡ true → pick_points n [] (rs ++ r ∷ []) ≡ pick_points n [] rs ++ record { before = rs; ran = r } ∷ []
points_stopped n rs r e = points_by n rs r true e

pub points_stay : (n : NodeId) (rs : List Ran) (r : Ran) → picks_at n rs r ≡ false → pick_points n [] (rs ++ r ∷ []) ≡ pick_points n [] rs
points_stay n rs r e = points_by n rs r false e ∙ append-nil (pick_points n [] rs)

-- ---- picks

-- two picks more, of disks whose counts had come to these numbers
module _ (o : Origin) (n : NodeId) (t : Point) (x y : ℕ) (p q : Picked) (one : ArePicksAt o n t x y p q) where
  picks_later : (a b : ℕ) → a ≤ x → b ≤ y → ArePicksAt o n t a b p q
  picks_later a b h k = record {
    second = one.second;
    first_is = record { fill_is = one.first_is.fill_is; arming_is = one.first_is.arming_is; later = omega (arith, h, one.first_is.later) };
    second_is = record { fill_is = one.second_is.fill_is; arming_is = one.second_is.arming_is; later = omega (arith, k, one.second_is.later) };
    counts = one.counts;
    risen = λ torn. go (one.risen torn);
    stand = one.stand;
  }
    where
      go : (x < p.faults) ⊎ (y < q.faults) → (a < p.faults) ⊎ (b < q.faults)
      go (inl r) = inl (omega (arith, h, r))
      go (inr r) = inr (omega (arith, k, r))

  picked_more : (a b : ℕ) (ts : List Point) (ps qs : List Picked) → ArePickedAt o n a b ts ps qs → last_count a ps ≤ x → last_count b qs ≤ y
      → ArePickedAt o n a b (ts ++ t ∷ []) (ps ++ p ∷ []) (qs ++ q ∷ [])
  picked_more a b [] [] [] h k l = (picks_later a b k l, tt)
  picked_more a b (u ∷ ts) (c ∷ ps) (d ∷ qs) h k l = (h.0, picked_more c.faults d.faults ts ps qs h.1 k l)
  picked_more a b _ _ _ h k l = absurd h

last_picked : (a : ℕ) (ps : List Picked) (p : Picked) → last_count a (ps ++ p ∷ []) ≡ p.faults
last_picked a [] p = refl
last_picked a (x ∷ ps) p = last_picked x.faults ps p

-- the same points and picks under other names
picked_as : (o : Origin) (n : NodeId) (a b : ℕ) (xs ys : List Point) (ps qs us vs : List Picked) → ys ≡ xs → us ≡ ps → vs ≡ qs → ArePickedAt o n a b xs ps qs → ArePickedAt o n a b ys us vs
picked_as o n a b xs ys ps qs us vs e f g h =
    subst (λ (zs : List Point). ArePickedAt o n a b zs us vs) (sym e)
    (subst (λ (zs : List Picked). ArePickedAt o n a b xs zs vs) (sym f)
    (subst (λ (zs : List Picked). ArePickedAt o n a b xs ps zs) (sym g) h))

-- ---- one pair

counted_pick : (s p q : DiskView) (one : Picked) → q.picks ≡ p.picks ++ one ∷ [] → one.faults ≤ q.faults → IsUnarmed q → IsCounted s q
counted_pick s p q one kept less off =
    let last : last_count s.faults q.picks ≡ one.faults = ap (last_count s.faults) kept ∙ last_picked s.faults p.picks one in
    record { off = off; later = omega (arith, last, less) }

counted_on : (s p q : DiskView) → q.picks ≡ p.picks → q.armed ≡ p.armed → p.faults ≤ q.faults → IsCounted s p → IsCounted s q
counted_on s p q same armed less h =
    let last : last_count s.faults q.picks ≡ last_count s.faults p.picks = ap (last_count s.faults) same in
    record { off = ap (λ (a : Armed). a.arming) armed ∙ h.off; later = omega (arith, last, less, h.later) }

module _ (o : Origin) (before : List Ran) (r : Ran) (n : NodeId) (s p q : PairView) (h : HasPicked o before n s p) where
  abbrev point : Point
  point = record { before = before; ran = r }

  one_stopped : picks_at n before r ≡ true → PicksOnce o point n p q → HasPicked o (before ++ r ∷ []) n s q
  one_stopped e pick = record {
    picks = picked_as o n s.first.faults s.second.faults (pick_points n [] before ++ point ∷ []) (pick_points n [] (before ++ r ∷ []))
        (p.first.picks ++ pick.first ∷ []) (p.second.picks ++ pick.second ∷ []) q.first.picks q.second.picks
        (points_stopped n before r e) pick.first_picks pick.second_picks
        (picked_more o n point p.first.faults p.second.faults pick.first pick.second pick.at s.first.faults s.second.faults
        (pick_points n [] before) p.first.picks p.second.picks h.picks h.first.later h.second.later);
    first = counted_pick s.first p.first q.first pick.first pick.first_picks pick.first_count pick.first_off;
    second = counted_pick s.second p.second q.second pick.second pick.second_picks pick.second_count pick.second_off;
  }

  one_stays : picks_at n before r ≡ false → KeepsPicks p q → HasPicked o (before ++ r ∷ []) n s q
  one_stays e k = record {
    picks = picked_as o n s.first.faults s.second.faults (pick_points n [] before) (pick_points n [] (before ++ r ∷ [])) p.first.picks p.second.picks q.first.picks q.second.picks (points_stay n before r e) k.first_picks k.second_picks h.picks;
    first = counted_on s.first p.first q.first k.first_picks k.first_armed k.first_count h.first;
    second = counted_on s.second p.second q.second k.second_picks k.second_armed k.second_count h.second;
  }

  one_by : PicksBy o before r n p q → HasPicked o (before ++ r ∷ []) n s q
  one_by by = elim (bool_cases (picks_at n before r)) [ inl e ↦ one_stopped e (by.stopped e) | inr e ↦ one_stays e (by.went_on e) ]

-- ---- all pairs

-- the pair that stood there before
pub old_there : (old new : List PairView) (k : ℕ) (q : PairView) → length new ≡ length old → slice_get new k ≡ Some q → slice_get old k ≡ Some (get_or old k q)
old_there old new k q e there = slice_get-get_or old k q (subst (λ (n : ℕ). k < n) e (slice_get_within new k q there))

-- the same nodes at the same places, whatever is said of them
pub each_as : (P Q : NodeId → PairView → PairView → Type 0) (ids ns : List NodeId) (places ks : List ℕ) (start ps : List PairView) → ns ≡ ids → ks ≡ places
    → ((n : NodeId) (s p : PairView) → P n s p → Q n s p) → EachPair P ids places start ps → EachPair Q ns ks start ps
each_as P Q ids ns places ks start ps same put more h = λ i n k s p at place was there.
    more n s p (h i n k s p (ap (λ (xs : List NodeId). slice_get xs i) (sym same) ∙ at) (ap (λ (xs : List ℕ). slice_get xs i) (sym put) ∙ place) was there)

module _ (o : Origin) (start : List PairView) (before : List Ran) (r : Ran) (w v : World) (old new : List PairView)
    (same : world_node_ids v ≡ world_node_ids w) (put : places_of v ≡ places_of w) where
  -- where all pick by a line, they have picked after it
  pub all_picked_by : AllPicked o start before w old → AllPickBy o before r w old new → AllPicked o start (before ++ r ∷ []) v new
  all_picked_by h by = each_as (HasPicked o (before ++ r ∷ [])) (HasPicked o (before ++ r ∷ [])) (world_node_ids w) (world_node_ids v) (places_of w) (places_of v) start new same put
      (λ n s p x. x)
      (λ i n k s q at place first there.
      let was = old_there old new k q by.as_many there in
      let picked = h i n k s (get_or old k q) at place first was in
      one_by o before r n s (get_or old k q) q picked (by.each i n k (get_or old k q) q at place was there (picked.first.off, picked.second.off)))

  keeps_on : (p q : PairView) → PairOnward p q → KeepsPicks p q
  keeps_on p q on = record { first_picks = on.first.picks; second_picks = on.second.picks; first_armed = on.first.armed; second_armed = on.second.armed; first_count = on.first.no_less; second_count = on.second.no_less }

  -- a line that stops no node that is up lets all go on
  pub all_picked_on : ((n : NodeId) → picks_at n before r ≡ false) → AllGoOn old new → AllPicked o start before w old → AllPicked o start (before ++ r ∷ []) v new
  all_picked_on none on h = all_picked_by h (record {
    as_many = on.as_many;
    each = λ i n k p q at place was there off. record {
      stopped = λ e. absurd (true≢false (sym e ∙ none n));
      went_on = λ e. keeps_on p q (on.each k p q was there);
    };
  })

-- a line that stops no node
pub stops_none : (before : List Ran) (r : Ran) (n : NodeId) → stops_at n r.line ≡ false → picks_at n before r ≡ false
stops_none before r n e = ap (λ (b : Bool). b && is_up n before) e

-- ---- the first moment

-- nothing was picked from two disks that go on
pub pair_unpicked : (o : Origin) (n : NodeId) (s p : PairView) → AreUnpicked s → PairOnward s p → HasPicked o [] n s p
pair_unpicked o n s p u g = record {
  picks = picked_as o n s.first.faults s.second.faults [] [] [] [] p.first.picks p.second.picks refl (g.first.picks ∙ u.first.picks) (g.second.picks ∙ u.second.picks) tt;
  first = counted_first s.first p.first u.first g.first;
  second = counted_first s.second p.second u.second g.second;
}
  where
    counted_first : (x y : DiskView) → IsUnpicked x → Onward x y → IsCounted x y
    counted_first x y u g =
        let last : last_count x.faults y.picks ≡ x.faults = ap (last_count x.faults) (g.picks ∙ u.picks) in
        record { off = ap (λ (a : Armed). a.arming) g.armed ∙ u.off; later = omega (arith, last, g.no_less) }

pub none_picked : (o : Origin) (w : World) (start now : List PairView) → AllUnpicked start → AllGoOn start now → AllPicked o start [] w now
none_picked o w start now h on = λ i n k s p at place was there. pair_unpicked o n s p (h k s was) (on.each k s p was there)

-- ---- disks that go on

picked_still : (o : Origin) (rs : List Ran) (n : NodeId) (s p q : PairView) → PairOnward p q → HasPicked o rs n s p → HasPicked o rs n s q
picked_still o rs n s p q on h = record {
  picks = picked_as o n s.first.faults s.second.faults (pick_points n [] rs)
      (pick_points n [] rs) p.first.picks p.second.picks q.first.picks q.second.picks refl on.first.picks on.second.picks h.picks;
  first = counted_on s.first p.first q.first on.first.picks on.first.armed on.first.no_less h.first;
  second = counted_on s.second p.second q.second on.second.picks on.second.armed on.second.no_less h.second;
}

-- they have picked what they had
pub all_picked_still : (o : Origin) (ns : List NodeId) (places : List ℕ) (rs : List Ran) (start old new : List PairView) → AllGoOn old new
    → EachPair (HasPicked o rs) ns places start old → EachPair (HasPicked o rs) ns places start new
all_picked_still o ns places rs start old new on h = λ i n k s q at place first there.
    let was = old_there old new k q on.as_many there in
    picked_still o rs n s (get_or old k q) q (on.each k (get_or old k q) q was there) (h i n k s (get_or old k q) at place first was)

-- ---- disks that fail

failed_since : (s p q : PairView) → IsCounted s.first p.first → IsCounted s.second p.second → PairOnward p q → HasRisen p q → HasFailedSince s q
failed_since s p q one other on (inl rose) =
    let last : last_count s.first.faults q.first.picks ≡ last_count s.first.faults p.first.picks = ap (last_count s.first.faults) on.first.picks in
    inl (omega (arith, last, one.later, rose))
failed_since s p q one other on (inr rose) =
    let last : last_count s.second.faults q.second.picks ≡ last_count s.second.faults p.second.picks = ap (last_count s.second.faults) on.second.picks in
    inr (omega (arith, last, other.later, rose))

-- a disk that fails does so after its last pick
pub failed_after : (o : Origin) (start : List PairView) (before : List Ran) (w : World) (old new : List PairView) (slot : ℕ)
    → AllPicked o start before w old → AllGoOn old new → RoseAt slot old new → IsPlace (places_of w) slot → FailedSince slot start new
failed_after o start before w old new slot h on rose place = record {
  below = subst (λ (n : ℕ). slot < n) (sym on.as_many) rose.below;
  failed = λ s q first there.
      let was = old_there old new slot q on.as_many there in
      let p = get_or old slot q in
      let z = mapped_there (λ (x : Slot). x.position) w.slots.items place.0 slot place.1 in
      let picked = h place.0 (slot_id z.0) slot s p (id_at w.slots.items place.0 z.0 z.1) place.1 first was in
      failed_since s p q picked.first picked.second (on.each slot p q was there) (rose.rose p q was there);
}

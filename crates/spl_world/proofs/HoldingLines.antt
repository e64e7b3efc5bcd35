-- What the disks of nodes hold and picked after a line.
use Rattle.spl_agree.proofs.Tests.{eqb_not}
use Rattle.spl_edge.specs.Devices.{settled_at}
use Rattle.spl_node.{specs.{Stopping.may_turn, Benches.{AllUnarmed, IsPairUnarmed, images, Images, RoseAt, AllGoOn, AllUnpicked}}, proofs.Benches.all_itself}
use Rattle.spl_circuit_world.proofs.Ups.{whole-up}
use Rattle.spl_snapshot.specs.Counting.{second_counts}
use Rattle.spl_world.specs.{Disks.LeavesDisks, Held.{IsTorn, IsTornIn, Point, armed_counting, armed_other, after_point, cells_after_lines, pick_fill}}
use Rattle.spl_world.specs.{Held.{picks_at, stopping_of, stops_at, FailedSince, stops}, Picks.{AllPicked, FailsIn, HavePicked, HigherAt, IsInCheckpointIn}}
use Rattle.spl_world.specs.{Picks.{KeepsPicks, PickUnarmed, PicksBy, PicksOnce, StopsAt, StopsBy, StopsPair, AllHeld}, Views.StandsAfterLines}
use Rattle.spl_world.specs.{Views.{world_node_ids, nodes_over, places_of, slot_id, slot_ids, slot_up, IsPlace, Nodes}, declared.fault.WorldFault.WorldFault}
use Rattle.spl_world.{specs.declared.{fault.WorldFault.TheVariants.Disk, slot.Slot.Slot, world.World.World}, proofs.Common.{◌≡◌, ℕ, ◌≤◌, ◌⊎◌, inl, inr, Bool}}
use Rattle.spl_world.proofs.Common.{true, false, true≢false, ◌&&◌, eqb, List, [], ◌∷◌, ◌++◌, slice_get, get_or, Option, Some, None, IfSome, refl, ap, sym}
use Rattle.spl_world.proofs.Common.{subst, ◌∙◌, arith, Result, Ok, Err, OnOk, IsErrOf, bytes_eq, eqb_is, bool_cases, bytes_are, bytes_same, NodeId, CircuitId}
use Rattle.spl_world.proofs.Common.{Image, image_now, DiskView, PairView, bench, Pair, is_up, by_rule, Ran, Origin, CircuitWorld, StandFor, Stopping}
use Rattle.spl_world.proofs.{Common.{whole_world, Line, IfBoth, chosen, HasRisen}, Holding.{all_picked_by, all_picked_on, old_there, failed_after}}
use Rattle.spl_world.proofs.{Holding.{none_picked, stops_none}, HoldingNow.{IsSlot, pair_held, slot_there, all_held}, Slots.{apart, id_at, once, place_at}}
use Rattle.spl_sched.specs.declared.line.Line.TheVariants as line

-- ---- a node stops, and each of its disks picks

images_are : (o p : Option Image) (a b : Image) (P : Image → Image → Type 0) → o ≡ Some a → p ≡ Some b → IfBoth o p P → P a b
images_are o p a b P e f h = subst (λ (y : Option Image). IfBoth (Some a) y P) f (subst (λ (x : Option Image). IfBoth x p P) e h)

-- the disk that counts in what they hold counts in the images
still_there : (how : Option Stopping) (o p : Option Image) (a b : Image) (second : Bool) → o ≡ Some a → p ≡ Some b
    → IfSome how (λ h. may_turn h ≡ false → IfBoth o p (λ i j. second_counts i.bytes j.bytes ≡ second)) → IfSome how (λ h. may_turn h ≡ false → second_counts a.bytes b.bytes ≡ second)
still_there None o p a b second e f h = tt
still_there (Some w) o p a b second e f h = λ shut. images_are o p a b (λ i j. second_counts i.bytes j.bytes ≡ second) e f (h shut)

-- two disks picked by a line, and stand for the cells after it
pub picked_once : (o : Origin) (t : Point) (n : NodeId) (p q : PairView) → HavePicked (stopping_of t.ran.line) p q → (IsTorn o t.before t.ran.line → HasRisen p q)
    → IfBoth (image_now q.first) (image_now q.second) (λ i j. StandFor n (cells_after_lines o (after_point t) n) i.bytes j.bytes) → PicksOnce o t n p q
picked_once o t n p q one rose stand =
    let how = stopping_of t.ran.line in
    let b = one.second in
    record {
      first = record { image = one.first_is.image; fill = pick_fill how; arming = chosen b (armed_counting how) (armed_other how); faults = q.first.faults };
      second = record { image = one.second_is.image; fill = pick_fill how; arming = chosen b (armed_other how) (armed_counting how); faults = q.second.faults };
      at = record {
        second = b;
        first_is = record { fill_is = refl; arming_is = refl; later = one.first_is.no_less };
        second_is = record { fill_is = refl; arming_is = refl; later = one.second_is.no_less };
        counts = still_there how (image_now q.first) (image_now q.second) (settled_at one.first_is.image)
            (settled_at one.second_is.image) b one.first_is.holds one.second_is.holds one.still;
        risen = rose;
        stand = images_are (image_now q.first) (image_now q.second) (settled_at one.first_is.image) (settled_at one.second_is.image)
            (λ i j. StandFor n (cells_after_lines o (after_point t) n) i.bytes j.bytes) one.first_is.holds one.second_is.holds stand;
      };
      first_picks = one.first_is.kept;
      second_picks = one.second_is.kept;
      first_count = omega arith;
      second_count = omega arith;
      first_off = one.first_is.disarmed;
      second_off = one.second_is.disarmed;
    }

keeps_same : (p q : PairView) → q ≡ p → KeepsPicks p q
keeps_same p q e = record {
  first_picks = ap (λ (z : PairView). z.first.picks) e;
  second_picks = ap (λ (z : PairView). z.second.picks) e;
  first_armed = ap (λ (z : PairView). z.first.armed) e;
  second_armed = ap (λ (z : PairView). z.second.armed) e;
  first_count = subst (λ (z : PairView). p.first.faults ≤ z.first.faults) (sym e) (omega arith);
  second_count = subst (λ (z : PairView). p.second.faults ≤ z.second.faults) (sym e) (omega arith);
}

same_pair : (xs ys : List PairView) (k : ℕ) (p q : PairView) → slice_get ys k ≡ slice_get xs k → slice_get xs k ≡ Some p → slice_get ys k ≡ Some q → q ≡ p
same_pair xs ys k p q same e f = let h : Some q ≡ Some p = sym f ∙ same ∙ e in cc

same_slot : (ss : List Slot) (i j : ℕ) (x z : Slot) → slice_get ss i ≡ Some x → slice_get ss j ≡ Some z → j ≡ i → x ≡ z
same_slot ss i j x z e f at = let h : Some x ≡ Some z = sym e ∙ ap (λ (k : ℕ). slice_get ss k) (sym at) ∙ f in cc

-- where no disk was armed before a stop, none is after it
pub unarmed_after : (P : PairView → PairView → Type 0) (up : Bool) (k : ℕ) (xs ys : List PairView) → StopsAt P up k xs ys
    → ((p q : PairView) → P p q → IsPairUnarmed p → IsPairUnarmed q) → AllUnarmed xs → AllUnarmed ys
unarmed_after P up k xs ys stop off h = λ i q there. go i q there (bool_cases up) (bool_cases (eqb i k))
  where
    go : (i : ℕ) (q : PairView) → slice_get ys i ≡ Some q → (up ≡ true) ⊎ (up ≡ false) → (eqb i k ≡ true) ⊎ (eqb i k ≡ false) → IsPairUnarmed q
    go i q there (inr down) c = h i q (ap (λ (zs : List PairView). slice_get zs i) (sym (stop.none down)) ∙ there)
    go i q there (inl u) (inl e) =
        let place : i ≡ k = eqb_is i k e in
        let is : slice_get ys k ≡ Some q = ap (λ (j : ℕ). slice_get ys j) (sym place) ∙ there in
        let was = old_there xs ys k q stop.as_many is in
        off (get_or xs k q) q (stop.picks u (get_or xs k q) q was is) (h k (get_or xs k q) was)
    go i q there (inl u) (inr e) = h i q (sym (stop.others i (eqb_not i k e)) ∙ there)

-- where a line stopped its node in an event, its disks failed as they had to
torn_failed : (worlds : CircuitId → CircuitWorld) (l : Line) (x : Slot) (xs ys : List PairView) → FailsIn worlds l x xs ys → IsTornIn worlds l → RoseAt x.position xs ys
torn_failed worlds (line.Cut calls f s) x xs ys fails torn = fails.torn torn
torn_failed worlds (line.Fail call s) x xs ys fails torn = fails.torn torn
torn_failed worlds _ x xs ys fails torn = absurd torn

other_failed : (worlds : CircuitId → CircuitWorld) (l : Line) (x : Slot) (xs ys : List PairView) → FailsIn worlds l x xs ys → IsInCheckpointIn worlds l x → HigherAt x.position xs ys
other_failed worlds (line.Cut calls f s) x xs ys fails within = fails.checkpoint within
other_failed worlds (line.Fail call s) x xs ys fails within = fails.checkpoint within
other_failed worlds _ x xs ys fails within = absurd within

module _ {D : Type 0} (view : D → DiskView) where
  abbrev told : List (Pair D) → List PairView
  told ps = bench view ps

  abbrev held : List (Pair D) → List Images
  held ps = images view ps

  module _ {o : Origin} {others : ℕ} (before : List Ran) (r : Ran) (w v : World) (old new : List (Pair D)) (same : world_node_ids v ≡ world_node_ids w) (put : places_of v ≡ places_of w) (stands : StandsAfterLines o others before w (held old)) (after : StandsAfterLines o others (before ++ r ∷ []) v (held new))
      (stopped : StopsBy r.line (nodes_over w (held old)) (told old) (told new)) where
    abbrev x : Slot
    x = stopped.slot.slot

    abbrev i : ℕ
    i = stopped.slot.index

    there : slice_get w.slots.items i ≡ Some x
    there = stopped.slot.there

    at_x : (n : NodeId) → stops_at n r.line ≡ bytes_eq n (slot_id x)
    at_x n = stopped.named n ∙ ap (bytes_eq n) (sym stopped.slot.id_is)

    abbrev stop : StopsAt (PickUnarmed (stopping_of r.line)) (slot_up x) x.position (told old) (told new)
    stop = stopped.slot.stop

    -- what its disks hold after the line
    stand_after : (q : PairView) → slice_get (told new) x.position ≡ Some q
        → IfBoth (image_now q.first) (image_now q.second) (λ i j. StandFor (slot_id x) (cells_after_lines o (before ++ r ∷ []) (slot_id x)) i.bytes j.bytes)
    stand_after q is =
        pair_held view (before ++ r ∷ []) v new after i (slot_id x) x.position q (ap (λ (ns : List NodeId). slice_get ns i) same ∙ id_at w.slots.items i x there) (ap (λ (ks : List ℕ). slice_get ks i) put ∙ place_at w.slots.items i x there) is

    -- any slot of the node is that one
    own_slot : (j : ℕ) (s : Slot) → slice_get w.slots.items j ≡ Some s → stops_at (slot_id s) r.line ≡ true → x ≡ s
    own_slot j s at e =
        let id : slot_id s ≡ slot_id x = bytes_are (slot_id s) (slot_id x) (sym (at_x (slot_id s)) ∙ e) in
        let index : j ≡ i = once (world_node_ids w) i j (slot_id x) (stands.each []).ordered (id_at w.slots.items i x there) (id_at w.slots.items j s at ∙ ap Some id) in
        same_slot w.slots.items i j x s there at index

    pub stops_higher : (j : ℕ) (s : Slot) → slice_get w.slots.items j ≡ Some s → stops_at (slot_id s) r.line ≡ true
        → IsInCheckpointIn (λ c. whole_world o c before) r.line s → HigherAt s.position (told old) (told new)
    stops_higher j s at e within =
        let worlds : CircuitId → CircuitWorld = λ c. whole_world o c before in
        other_failed worlds r.line s (told old) (told new)
        (subst (λ (u : Slot). FailsIn worlds r.line u (told old) (told new)) (own_slot j s at e) (stopped.slot.risen worlds stands.each)) within

    pub stops_pair : (j : ℕ) (s : Slot) → slice_get w.slots.items j ≡ Some s → AllUnarmed (told old) → stops_at (slot_id s) r.line ≡ true
        → StopsPair (slot_id s) (slot_up s) (stopping_of r.line) (cells_after_lines o (before ++ r ∷ []) (slot_id s)) s.position (told old) (told new)
    stops_pair j s at off e =
        subst (λ (u : Slot). StopsPair (slot_id u) (slot_up u) (stopping_of r.line) (cells_after_lines o (before ++ r ∷ []) (slot_id u)) u.position
        (told old) (told new)) (own_slot j s at e)
        (record {
          as_many = stop.as_many;
          others = stop.others;
          picks = λ u p q was is. record { picked = stop.picks u p q was is (off x.position p was); stand = stand_after q is };
          none = stop.none;
        })

    up_is : is_up (slot_id x) before ≡ slot_up x
    up_is = sym (whole-up o [] before (slot_id x)) ∙ sym ((stands.each []).each i x there).up

    picks_else : (n : NodeId) → bytes_eq n (slot_id x) ≡ false → picks_at n before r ≡ false
    picks_else n off = ap (λ (b : Bool). b && is_up n before) (at_x n ∙ off)

    -- where it was down nothing was picked
    picks_down : slot_up x ≡ false → (n : NodeId) → picks_at n before r ≡ false
    picks_down down n = elim (bool_cases (bytes_eq n (slot_id x))) [
      | inl e ↦ ap (λ (b : Bool). b && is_up n before) (at_x n ∙ e) ∙ ap (λ (m : NodeId). is_up m before) (bytes_are n (slot_id x) e) ∙ up_is ∙ down
      | inr e ↦ picks_else n e
    ]

    module _ (up : slot_up x ≡ true) where
      picks_here : picks_at (slot_id x) before r ≡ true
      picks_here = ap (λ (b : Bool). b && is_up (slot_id x) before) (at_x (slot_id x) ∙ bytes_same (slot_id x)) ∙ up_is ∙ up

      -- its own pair
      by_own : (p q : PairView) → slice_get (told old) x.position ≡ Some p → slice_get (told new) x.position ≡ Some q → IsPairUnarmed p → PicksBy o before r (slot_id x) p q
      by_own p q was is off = record {
        stopped = λ e. picked_once o (record { before = before; ran = r }) (slot_id x) p q (stop.picks up p q was is off)
            (λ torn. (torn_failed (λ c. whole_world o c before) r.line x (told old) (told new)
            (stopped.slot.risen (λ c. whole_world o c before) stands.each) torn).rose p q was is) (stand_after q is);
        went_on = λ e. absurd (true≢false (sym picks_here ∙ e));
      }

      -- that of another node
      by_else : (n : NodeId) (p q : PairView) → bytes_eq n (slot_id x) ≡ false → q ≡ p → PicksBy o before r n p q
      by_else n p q off e = record { stopped = λ f. absurd (true≢false (sym f ∙ picks_else n off)); went_on = λ f. keeps_same p q e }

      by_slot : (j : ℕ) (z : Slot) (p q : PairView) → slice_get w.slots.items j ≡ Some z → slice_get (told old) z.position ≡ Some p
          → slice_get (told new) z.position ≡ Some q → IsPairUnarmed p → PicksBy o before r (slot_id z) p q
      by_slot j z p q here was is off = elim (bool_cases (eqb z.position x.position)) [
        | inl e ↦
            let index : j ≡ i = stands.sits.apart i j x z there here (sym (eqb_is z.position x.position e)) in
            let slot : x ≡ z = same_slot w.slots.items i j x z there here index in
            subst (λ (u : Slot). PicksBy o before r (slot_id u) p q) slot
            (by_own p q (ap (λ (u : Slot). slice_get (told old) u.position) slot ∙ was) (ap (λ (u : Slot). slice_get (told new) u.position) slot ∙ is) off)
        | inr e ↦
            let other : z.position ≡ x.position → ⊥ = eqb_not z.position x.position e in
            let index : j ≡ i → ⊥ = λ f. other (ap (λ (u : Slot). u.position) (sym (same_slot w.slots.items i j x z there here f))) in
            by_else (slot_id z) p q (apart (slot_ids w.slots.items) i j (slot_id x) (slot_id z) (stands.each []).ordered (id_at w.slots.items i x there)
            (id_at w.slots.items j z here) index)
            (same_pair (told old) (told new) z.position p q (stop.others z.position other) was is)
      ]

      by_node : (j : ℕ) (n : NodeId) (k : ℕ) (p q : PairView) → slice_get (world_node_ids w) j ≡ Some n → slice_get (places_of w) j ≡ Some k
          → slice_get (told old) k ≡ Some p → slice_get (told new) k ≡ Some q → IsPairUnarmed p → PicksBy o before r n p q
      by_node j n k p q at place was is off =
          let f = slot_there w.slots.items j n k at place in
          let z = f.0 in
          let s : IsSlot w.slots.items j n k z = f.1 in
          subst (λ (m : NodeId). PicksBy o before r m p q) s.id_is
          (by_slot j z p q s.there (ap (slice_get (told old)) s.place_is ∙ was) (ap (slice_get (told new)) s.place_is ∙ is) off)

    -- after the stop all have picked
    pub picked_after_stop : (start : List PairView) → AllPicked o start before w (told old) → AllPicked o start (before ++ r ∷ []) v (told new)
    picked_after_stop start h = elim (bool_cases (slot_up x)) [
      | inl up ↦ all_picked_by o start before r w v (told old) (told new) same put h (record { as_many = stop.as_many; each = by_node up })
      | inr down ↦ subst (λ (ps : List PairView). AllPicked o start (before ++ r ∷ []) v ps) (sym (stop.none down))
          (all_picked_on o start before r w v (told old) (told old) same put (picks_down down) (all_itself (told old)) h)
    ]

-- ---- after each line the disks of all nodes hold what the nodes keep

-- which lines stop no node
pub steps_none : (l : Line) → stops l ≡ false → (n : NodeId) → stops_at n l ≡ false
steps_none (line.Stop m) h n = absurd (true≢false h)
steps_none (line.Cut calls f s) h n = absurd (true≢false h)
steps_none (line.Fail call s) h n = absurd (true≢false h)
steps_none _ h n = refl

-- after one that does no disk is armed, where none was
pub unarmed_halt : {A : Type 0} (x : Result A WorldFault) (l : Line) (xs : Nodes) (old new : List PairView) → OnOk x (StopsBy l xs old new) → AllUnarmed old → OnOk x (AllUnarmed new)
unarmed_halt (Ok a) l xs old new s off =
    unarmed_after _ _ s.slot.slot.position old new s.slot.stop (λ p q picked h. let both = picked h in (both.first_is.disarmed, both.second_is.disarmed)) off
unarmed_halt (Err e) l xs old new s off = tt

module _ {D : Type 0} (view : D → DiskView) where
  abbrev kept : List (Pair D) → List Images
  kept ps = images view ps

  -- nothing ran yet
  pub held_first : {o : Origin} {others : ℕ} (w : World) (old new : List (Pair D)) → StandsAfterLines o others [] w (kept new)
      → AllUnpicked (bench view old) → AllGoOn (bench view old) (bench view new) → AllHeld o (bench view old) [] w (bench view new)
  held_first {o} w old new stands h on = all_held view (bench view old) [] w new stands (none_picked o w (bench view old) (bench view new) h on)

  picked_in : (o : Origin) (start : List PairView) (rs : List Ran) (w : World) (ps : List PairView) → AllHeld o start rs w ps → AllPicked o start rs w ps
  picked_in o start rs w ps h = λ i n k s p at place was there. (h i n k s p at place was there).picked

  module _ (before : List Ran) (l : Line) (w v : World) (old new : List (Pair D)) (same : world_node_ids v ≡ world_node_ids w) (put : places_of v ≡ places_of w) where
    abbrev later : List Ran
    later = before ++ by_rule l ∷ []

    -- a line that stops no node
    pub held_step : (o : Origin) (others : ℕ) {A : Type 0} (x : Result A WorldFault) (start : List PairView) → AllHeld o start before w (bench view old) → ((n : NodeId) → stops_at n l ≡ false) → OnOk x (StandsAfterLines o others later v (kept new)) → LeavesDisks x (bench view old) (bench view new) → OnOk x (AllHeld o start later v (bench view new))
    held_step o others (Ok a) start held none after leaves =
        all_held view start later v new after
        (all_picked_on o start before (by_rule l) w v (bench view old) (bench view new) same put
        (λ n. stops_none before (by_rule l) n (none n)) leaves.onward (picked_in o start before w (bench view old) held))
    held_step o others (Err e) start held none after leaves = tt

    -- and that ends as a disk fails
    pub failed_step : (o : Origin) {A : Type 0} (x : Result A WorldFault) (start : List PairView) (slot : ℕ) → AllHeld o start before w (bench view old)
        → LeavesDisks x (bench view old) (bench view new) → IsErrOf x (Disk slot) → IsPlace (places_of w) slot → FailedSince slot start (bench view new)
    failed_step o x start slot held leaves e place = failed_after o start before w (bench view old) (bench view new) slot (picked_in o start before w (bench view old) held) leaves.onward (leaves.failed slot e) place

    -- a line that stops one
    pub held_halt : {o : Origin} {others : ℕ} {A : Type 0} (x : Result A WorldFault) (start : List PairView) → AllHeld o start before w (bench view old) → StandsAfterLines o others before w (kept old) → OnOk x (StandsAfterLines o others later v (kept new)) → OnOk x (StopsBy l (nodes_over w (kept old)) (bench view old) (bench view new)) → OnOk x (AllHeld o start later v (bench view new))
    held_halt {o} (Ok a) start held stands after stop =
        all_held view start later v new after
        (picked_after_stop view before (by_rule l) w v old new same put stands after stop start (picked_in o start before w (bench view old) held))
    held_halt {o} (Err e) start held stands after stop = tt

    pub higher_halt : {o : Origin} {others : ℕ} {A : Type 0} (x : Result A WorldFault) → StandsAfterLines o others before w (kept old) → OnOk x (StandsAfterLines o others later v (kept new)) → OnOk x (StopsBy l (nodes_over w (kept old)) (bench view old) (bench view new)) → (i : ℕ) (s : Slot) → slice_get w.slots.items i ≡ Some s → stops_at (slot_id s) l ≡ true → IsInCheckpointIn (λ c. whole_world o c before) l s
        → OnOk x (HigherAt s.position (bench view old) (bench view new))
    higher_halt (Ok a) stands after stop i s at e within = stops_higher view before (by_rule l) w v old new same put stands after stop i s at e within
    higher_halt (Err f) stands after stop i s at e within = tt

    pub picks_halt : {o : Origin} {others : ℕ} {A : Type 0} (x : Result A WorldFault) → StandsAfterLines o others before w (kept old) → OnOk x (StandsAfterLines o others later v (kept new)) → OnOk x (StopsBy l (nodes_over w (kept old)) (bench view old) (bench view new)) → (i : ℕ) (s : Slot) → slice_get w.slots.items i ≡ Some s → AllUnarmed (bench view old) → stops_at (slot_id s) l ≡ true
        → OnOk x (StopsPair (slot_id s) (slot_up s) (stopping_of l) (cells_after_lines o later (slot_id s)) s.position (bench view old) (bench view new))
    picks_halt (Ok a) stands after stop i s at off e = stops_pair view before (by_rule l) w v old new same put stands after stop i s at off e
    picks_halt (Err f) stands after stop i s at off e = tt

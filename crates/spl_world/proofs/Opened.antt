-- The nodes of a registry, each opened over the pair of disks at its position.
use Rattle.std.{specs.List.Sorted.{IsPermutation, IsSortedBy}, proofs.lemmas.{Bool.{cases_eq, cases_lt}, List.{get_or-map, Sorted.All-permutation}}}
use Rattle.std.proofs.lemmas.List.Sorted.{IsPermutation-map}
use Rattle.spl_circuit.proofs.Sorting.{sort_is_sorted}
use Rattle.spl_circuit_world.specs.{Origins.is-blank, Worlds.blank}
use Rattle.spl_node.specs.{Stands.{HostStands, made_cell, HoldAs, StandAs, StandOn, WereBlank}, Benches.{TellAs, images, images_of, AllGoOn, AllTell}}
use Rattle.spl_node.{specs.Benches.{AreBlank, Images, Tell, images_at, images_now, AllReadableTo, IsUnread}, proofs.Starting.{blank_read, made_blank}}
use Rattle.spl_node.proofs.{Benches.{seen_at, images_seen, own_images, one_else}, Positions.{some_at, set_here, mapped_there}}
use Rattle.spl_snapshot.specs.Counting.{PairLeaves, TellsAs}
use Rattle.spl_world.specs.{Calls.{DisksView, disks_view}, Held.{HoldNothing, AreKept, AreDisksLeft, AreOpenedBut, IsFirstUnread, kept_at, origin_on}}
use Rattle.spl_world.specs.{Kept.{Posted, lists_about, sent_to}, Opening.{AreOpened, HoldAll, IsOpened, IsOriginOf, OpensAt, OpensEach}, Slots.EndsAtSlot}
use Rattle.spl_world.specs.{Slots.{IsMadeOn, IsNode}, Views.{HoldsWorld, IsPlace, Sits, node_view, slot_id, slot_ids, slot_places}}
use Rattle.spl_world.{specs.declared.{fault.WorldFault.{WorldFault, TheVariants.{Disk, NoMemory, NotAJournal}}, slot.Slot.Slot}, proofs.Calls.done}
use Rattle.spl_world.proofs.{Calls.{fails_is, fails_too}, Common.{get_or_from_slice_get, ◌≡◌, ◌≢◌, ◌⊎◌, inl, inr, ℕ, suc, ◌+◌, ◌<◌, ◌≤◌, true, List, [], ◌∷◌}}
use Rattle.spl_world.proofs.Common.{◌++◌, length, length-append, get_or, slice_get, slice_set, Option, Some, None, IsSome, Result, IfOk, refl, ap, sym, ◌∙◌}
use Rattle.spl_world.proofs.Common.{subst, arith, slice_get-get_or, slice_get_read, slice_get_within, Vec, AllPairs, IsErr, IsErrOf, IsErrAnd, CircuitId}
use Rattle.spl_world.proofs.Common.{NodeId, is_below, sorted, ascends, Image, DiskView, PairView, bench, image_now, pair_view, Pair, Origin, first_world}
use Rattle.spl_world.proofs.{Common.{StandFor, Entry, registered, node_at, Empty, IfBoth}, Ending.{MayStay, host_kept, stands_hold}, Handling.one_leaves}
use Rattle.spl_world.proofs.{HoldingNow.{IsSlot, slot_there, stand_as}, HoldingSeats.{node_below, position_is}, Leaving.{leaves_failed, leaves_then}}
use Rattle.spl_world.proofs.{Origins.is_origin_on, Results.failed, Slots.{id_at, length_ids, once}, Telling.told_as, Turns.each_more}
use Rattle.spl_edge.proofs.Results.{when_ok}

-- a disk that reports where another did
told_back : (o p : Option Image) → TellsAs o p → IsSome p → IsSome o
told_back o p same told = sym same ∙ told

module _ (s : Slot) (start now : Images) (stands : HostStands s.host now.0 now.1) (tells : TellAs start now)
    (cells : Tell start → (is : Images) (c : CircuitId) → (node_view s is).cells c ≡ made_cell (slot_id s) c start.0 start.1) where
  -- over blank disks it keeps nothing
  blank_nothing : AreBlank start → HoldNothing (slot_id s) now
  blank_nothing blank = go now.0 now.1 refl refl
    where
      nothing : Tell now → HoldNothing (slot_id s) now
      nothing tell =
          stand_as (slot_id s) (node_view s now).cells (λ c. Empty)
          (λ c. cells (told_back start.0 now.0 tells.0 tell.0, told_back start.1 now.1 tells.1 tell.1) now c ∙ made_blank (slot_id s) c start.0 start.1 blank.first blank.second)
          now.0 now.1 (stands_hold s now stands).read

      Nothing : Option Image → Option Image → Type 0
      Nothing x y = IfBoth x y (λ i j. StandFor (slot_id s) (λ c. Empty) i.bytes j.bytes)

      go : (x y : Option Image) → now.0 ≡ x → now.1 ≡ y → HoldNothing (slot_id s) now
      go None y e f = subst (λ (o : Option Image). Nothing o now.1) (sym e) tt
      go (Some i) None e f = subst (λ (o : Option Image). Nothing o now.1) (sym e) (subst (λ (o : Option Image). Nothing (Some i) o) (sym f) tt)
      go (Some i) (Some j) e f = nothing (subst (λ (o : Option Image). IsSome o) (sym e) refl, subst (λ (o : Option Image). IsSome o) (sym f) refl)

-- the cells that two disks make, by other words
made_on : (n : NodeId) (o p : Option Image) (Q : (List ℕ → List ℕ → Type 0) → Type 0) → IfBoth o p (λ i j. Q (StandAs n i.bytes j.bytes))
    → IfBoth o p (λ i j. Q (StandFor n (λ c. made_cell n c o p)))
made_on n None p Q h = tt
made_on n (Some i) None Q h = tt
made_on n (Some i) (Some j) Q h = h

module _ {D : Type 0} (view : D → DiskView) (old new : Pair D) where
  pub still_images : HoldAs (pair_view view old) (pair_view view new) → images_of view new ≡ images_of view old
  still_images h =
      ap (λ (o : Option Image). (o, (images_of view new).1)) h.first ∙ ap (λ (o : Option Image). ((images_of view old).0, o)) h.second

  -- whatever the result
  pub kept_images : (n : NodeId) → (view old.first).moment ≤ (view new.first).moment → (view old.second).moment ≤ (view new.second).moment
      → MayStay (image_now (view new.first)) → MayStay (image_now (view new.second))
      → HoldAs (pair_view view old) (pair_view view new) ⊎ (WereBlank (pair_view view old) ⊎ StandOn n (pair_view view old) (pair_view view new))
      → AreKept n (images_of view old) (images_of view new) ⊎ AreBlank (images_of view old)
  kept_images n low other_low stay other_stay (inl h) = inl (inl (still_images h))
  kept_images n low other_low stay other_stay (inr (inl h)) = inr (record { first = h.first; second = h.second })
  kept_images n low other_low stay other_stay (inr (inr on)) = inl (inr (λ tell.
      host_kept view n (λ c. made_cell n c (images_of view old).0 (images_of view old).1) old new tell.0 tell.1 low other_low
      (made_on n (image_now (view old.first)) (image_now (view old.second)) (PairLeaves (pair_view view old) (pair_view view new)) on) stay other_stay))

  pub left_images : (s : Slot) → HostStands s.host (images_of view new).0 (images_of view new).1 → TellAs (images_of view old) (images_of view new)
      → (Tell (images_of view old) → (is : Images) (c : CircuitId) → (node_view s is).cells c ≡ made_cell (slot_id s) c (images_of view old).0 (images_of view old).1)
      → AreKept (slot_id s) (images_of view old) (images_of view new) ⊎ AreBlank (images_of view old) → AreDisksLeft (slot_id s) (images_of view old) (images_of view new)
  left_images s stands tells cells (inl h) = inl h
  left_images s stands tells cells (inr blank) = inr (blank, blank_nothing s (images_of view old) (images_of view new) stands tells cells blank)

-- the same by other words
pub left_as : {n m : NodeId} {start was now is : Images} → n ≡ m → was ≡ start → is ≡ now → AreKept n start now ⊎ AreBlank start → AreKept m was is ⊎ AreBlank was
left_as {n} {m} {start} {was} {now} {is} id first last h =
    subst (λ (p : Images). AreKept m p is ⊎ AreBlank p) (sym first)
    (subst (λ (p : Images). AreKept m start p ⊎ AreBlank start) (sym last)
    (subst (λ (x : NodeId). AreKept x start now ⊎ AreBlank start) id h))

-- so is one that was made over blank disks
pub made_opened : (x y : PairView) (s : Slot) → AreBlank (images_now x) → IsMadeOn x y s → IsOpened s (images_now x) (images_now y)
made_opened x y s blank made =
    let start = images_now x in
    let cells : Tell start → (is : Images) (c : CircuitId) → (node_view s is).cells c ≡ made_cell (slot_id s) c start.0 start.1 =
    λ tell is c. made.fresh.empty is c ∙ sym (made_blank (slot_id s) c start.0 start.1 blank.first blank.second) in
    record {
      up = made.fresh.up;
      silent = made.fresh.silent;
      stands = made.stands;
      tells = made.tells;
      journal = blank_read start.0 start.1 blank.first blank.second;
      cells = cells;
      disks = inr (blank, blank_nothing s start (images_now y) made.stands made.tells cells blank);
    }

-- ---- pairs that stay

pub images_still : {D : Type 0} (view : D → DiskView) (ps qs : List (Pair D)) (k : ℕ) → slice_get (bench view qs) k ≡ slice_get (bench view ps) k
    → images_at (images view qs) k ≡ images_at (images view ps) k
images_still view ps qs k same = images_seen view qs k ∙ ap seen_at same ∙ sym (images_seen view ps k)

-- pairs that went on are as many
bench_length : {D : Type 0} (view : D → DiskView) (ps : List (Pair D)) → length (bench view ps) ≡ length ps
bench_length view [] = refl
bench_length view (p ∷ ps) = ap suc (bench_length view ps)

pub as_many_pairs : {D : Type 0} (view : D → DiskView) (ps qs : List (Pair D)) → AllGoOn (bench view ps) (bench view qs) → length qs ≡ length ps
as_many_pairs view ps qs on = sym (bench_length view qs) ∙ on.as_many ∙ bench_length view ps

-- ---- the pair at one position

-- as it is read
pub read_there : {D : Type 0} (ps : List (Pair D)) (j k : ℕ) (p : Pair D) → j ≡ k → k < length ps → p ≡ get_or ps j p → slice_get ps j ≡ Some p
read_there ps j k p place below read = slice_get_read ps (length ps) j p refl (subst (λ (n : ℕ). n < length ps) (sym place) below) read

module _ {D : Type 0} (view : D → DiskView) (es : List Entry) (ps : List (Pair D)) (j k : ℕ) (p q : Pair D) (place : j ≡ k) (pair : slice_get ps j ≡ Some p) where
  pub opens_at : (n : NodeId) (r : Result Slot WorldFault) → node_at es k ≡ Some n → IfOk r (IsNode n k) → IfOk r (λ s. IsOpened s (images_of view p) (images_of view q))
      → ((slot at : ℕ) → IsErrOf r (NotAJournal slot at) → (slot ≡ k) × (images_of view q ≡ images_of view p) × IsUnread at (images_of view p))
      → AreKept n (images_of view p) (images_of view q) ⊎ AreBlank (images_of view p) → EndsAtSlot r k (pair_view view p) (pair_view view q)
      → OpensAt es k r (disks_view view ps) (disks_view view (slice_set ps j q))
  opens_at n r at node opened unread left ends =
      let is = images_at (images view (slice_set ps j q)) k in
      let own = own_images view ps j p pair k place in
      let now = own_images view (slice_set ps j q) j q (set_here ps j q (slice_get_within ps j p pair)) k place in
      record {
        node = when_ok r (λ s own. at ∙ ap (λ (m : NodeId). Some m) (sym own.id)) node;
        position = when_ok r (λ s own. own.position) node;
        opened = when_ok r (λ s one. subst (λ (x : Images). IsOpened s x is) (sym own) (subst (IsOpened s (images_of view p)) (sym now) one)) opened;
        unread = λ slot at e. let u = unread slot at e in (u.0, now ∙ u.1 ∙ sym own, subst (IsUnread at) (sym own) u.2);
        left = λ m there.
            let named : Some n ≡ Some m = sym at ∙ there in
            let id : n ≡ m = cc in
            left_as id own now left;
        place = λ slot e. (ends.failed slot e).0;
        disks = one_leaves view r ps j p q k pair place ends.onward ends.failed;
        others = one_else view ps j k q place;
        few = ends.few;
        unlinked = ends.unlinked;
      }

-- ---- those so far

pub none_opened : (es : List Entry) (start : List Images) → AreOpened es 0 [] start start
none_opened es start = record { as_many = refl; nodes = λ i s e. absurd (empty i s e); places = λ i s e. absurd (empty i s e); each = λ i s e. absurd (empty i s e); rest = λ k h. refl }
  where
    empty : (i : ℕ) (s : Slot) → slice_get [] i ≡ Some s → ⊥
    empty i s e = cc

module _ (es : List Entry) (n : ℕ) (ss : List Slot) (start mid : List Images) (so_far : AreOpened es n ss start mid) where
  index_below : (i : ℕ) (s : Slot) → slice_get ss i ≡ Some s → i < n
  index_below i s there = subst (λ (m : ℕ). i < m) so_far.as_many (slice_get_within ss i s there)

  -- their disks could be read
  pub so_far_read : AllReadableTo n start
  so_far_read k below = let s = some_at ss k (subst (λ (m : ℕ). k < m) (sym so_far.as_many) below) in (so_far.each k s.0 s.1).journal

  -- those of the next one hold what they held
  pub next_still : images_at mid n ≡ images_at start n
  next_still = let here : n ≤ n = omega arith in so_far.rest n here

  module _ (now : List Images) (others : (k : ℕ) → (k ≡ n → ⊥) → images_at now k ≡ images_at mid k) where
    pub opened_more : (t : Slot) → node_at es n ≡ Some (slot_id t) → t.position ≡ n → IsOpened t (images_at mid n) (images_at now n) → AreOpened es (n + 1) (ss ++ t ∷ []) start now
    opened_more t node place one = record {
      as_many = (let e = so_far.as_many in let m = length-append ss (t ∷ []) in omega (arith, e, m));
      nodes = with_one (λ (i : ℕ) (s : Slot). node_at es i ≡ Some (slot_id s)) so_far.nodes node;
      places = with_one (λ (i : ℕ) (s : Slot). s.position ≡ i) so_far.places place;
      each = with_one (λ (i : ℕ) (s : Slot). IsOpened s (images_at start i) (images_at now i))
          (λ i s e. let below = index_below i s e in subst (IsOpened s (images_at start i)) (sym (others i (λ same. omega (arith, same, below)))) (so_far.each i s e))
          (subst (λ (p : Images). IsOpened t p (images_at now n)) next_still one);
      rest = λ k h. (let past : n ≤ k = omega (arith, h) in others k (λ same. omega (arith, same, h)) ∙ so_far.rest k past);
    }
      where
        with_one : (P : ℕ → Slot → Type 0) → ((i : ℕ) (s : Slot) → slice_get ss i ≡ Some s → P i s) → P n t → (i : ℕ) (s : Slot) → slice_get (ss ++ t ∷ []) i ≡ Some s → P i s
        with_one P each last = each_more P ss t each (subst (λ (k : ℕ). P k t) (sym so_far.as_many) last)

    -- and where it ends with an error
    pub opened_but : (f : WorldFault) → ((k : ℕ) → f ≡ Disk k → k ≡ n) → ((k at : ℕ) → f ≡ NotAJournal k at → (k ≡ n) × (images_at now n ≡ images_at mid n))
        → ((m : NodeId) → node_at es n ≡ Some m → AreKept m (images_at mid n) (images_at now n) ⊎ AreBlank (images_at mid n)) → AreOpenedBut es f start now
    opened_but f named unread own = record {
      one = n;
      named = named;
      unread = λ k at q. let u = unread k at q in (u.0, λ j past. unchanged u.1 j past (cases_eq j n));
      own = λ m at. subst (λ (p : Images). AreKept m p (images_at now n) ⊎ AreBlank p) next_still (own m at);
      others = λ k m at off. left k m at off (cases_lt k n);
    }
      where
        unchanged : images_at now n ≡ images_at mid n → (j : ℕ) → n ≤ j → (j ≡ n) ⊎ (j ≡ n → ⊥) → images_at now j ≡ images_at start j
        unchanged own j past (inl same) = ap (images_at now) same ∙ own ∙ next_still ∙ ap (images_at start) (sym same)
        unchanged own j past (inr off) = others j off ∙ so_far.rest j past

        left : (k : ℕ) (m : NodeId) → node_at es k ≡ Some m → (k ≡ n → ⊥) → (k < n) ⊎ (n ≤ k) → AreDisksLeft m (images_at start k) (images_at now k)
        left k m at off (inr past) = inl (inl (others k off ∙ so_far.rest k past))
        left k m at off (inl below) =
            let s = some_at ss k (subst (λ (l : ℕ). k < l) (sym so_far.as_many) below) in
            let same : Some (slot_id s.0) ≡ Some m = sym (so_far.nodes k s.0 s.1) ∙ at in
            let id : slot_id s.0 ≡ m = cc in
            subst (λ (p : Images). AreDisksLeft m (images_at start k) p) (sym (others k off))
            (subst (λ (x : NodeId). AreDisksLeft x (images_at start k) (images_at mid k)) id (so_far.each k s.0 s.1).disks)

-- and all around them
module _ (es : List Entry) (n : ℕ) (ss : List Slot) (x y z : DisksView) (so_far : AreOpened es n ss x.held y.held) (onward : AllGoOn x.pairs y.pairs)
    (spare : (k : ℕ) → length es ≤ k → slice_get y.pairs k ≡ slice_get x.pairs k) (below : n < length es) (held : (k : ℕ) → (k ≡ n → ⊥) → images_at z.held k ≡ images_at y.held k) where
  pub spare_on : ((k : ℕ) → (k ≡ n → ⊥) → slice_get z.pairs k ≡ slice_get y.pairs k) → (k : ℕ) → length es ≤ k → slice_get z.pairs k ≡ slice_get x.pairs k
  spare_on others k far = others k (λ same. omega (arith, same, far, below)) ∙ spare k far

  -- the next one isn't opened
  pub each_failed : {f : WorldFault} (r : Result (Vec Slot) WorldFault) → IsErr r × IsErrAnd r (λ e. e ≡ f) → OpensAt es n (failed Slot f) y z → OpensEach es r x z
  each_failed {f} r is h = subst (λ (q : Result (Vec Slot) WorldFault). OpensEach es q x z) (sym (fails_is r f is)) (record {
    opened = tt;
    apart = tt;
    unread = λ slot at q.
        let u = h.unread slot at (fails_too q) in
        subst (λ (k : ℕ). IsFirstUnread k at es x.held) (sym u.0) (record {
          below = below;
          here = subst (IsUnread at) (next_still es n ss x.held y.held so_far) u.2;
          before = so_far_read es n ss x.held y.held so_far;
        });
    place = λ slot q. let at = h.place slot (fails_too q) in omega (arith, at, below);
    unopened = opened_but es n ss x.held y.held so_far z.held held f (λ k q. h.place k (ap (failed Slot) q)) (λ k at q. let u = h.unread k at (ap (failed Slot) q) in (u.0, u.1)) h.left;
    disks = leaves_then (failed (Vec Slot) f) x.pairs y.pairs z.pairs onward (leaves_failed (failed (Vec Slot) f) f (refl, refl) y.pairs z.pairs h.disks);
    spare = spare_on h.others;
    few = λ which q. h.few which (fails_too q);
    unlinked = h.unlinked;
  })

  -- it was, and no memory is left for it
  pub each_short : {s : Slot} (r : Result (Vec Slot) WorldFault) → IsErr r × IsErrAnd r (λ e. e ≡ NoMemory) → OpensAt es n (done Slot s) y z → OpensEach es r x z
  each_short r is h = each_failed r is (record {
    node = tt;
    position = tt;
    opened = tt;
    unread = λ slot at q. absurd cc;
    left = h.left;
    place = λ slot q. absurd cc;
    disks = record { onward = h.disks.onward; failed = λ slot q. absurd cc };
    others = h.others;
    few = λ which q. absurd cc;
    unlinked = refl;
  })

-- ---- in the order of their ids

-- sorted by their ids, the ids are sorted
ids_sorted : (xs : List Slot) → IsSortedBy (λ x y. is_below (slot_id x) (slot_id y)) xs → IsSortedBy is_below (slot_ids xs)
ids_sorted [] up k n low last = absurd (omega (arith, last))
ids_sorted (x ∷ xs) up k n low last =
    let next : k + 1 < length (x ∷ xs) = omega (arith, last, length_ids (x ∷ xs)) in
    let here : k < length (x ∷ xs) = omega (arith, next) in
    ap (λ (m : NodeId). is_below m (get_or (slot_ids (x ∷ xs)) k n)) (get_or-map slot_id (x ∷ xs) (k + 1) x n next)
    ∙ ap (is_below (slot_id (get_or (x ∷ xs) (k + 1) x))) (get_or-map slot_id (x ∷ xs) k x n here)
    ∙ up k x low next

pub sorted_slots : (xs ys : List Slot) → AllPairs (λ a b. a ≢ b) (slot_ids xs) → IsPermutation xs ys
    → IsSortedBy (λ x y. is_below (slot_id x) (slot_id y)) ys → (slot_ids ys ≡ sorted (slot_ids xs)) × (ascends (slot_ids ys) ≡ true)
sorted_slots xs ys apart moved up =
    let ids : IsPermutation (slot_ids xs) (slot_ids ys) = IsPermutation-map slot_id xs ys moved in
    let found = sort_is_sorted (slot_ids xs) (slot_ids ys) apart ids (ids_sorted ys up) in
    (sym found.0, found.1)

-- ---- all of them

-- nodes that have the ids of a registry, one at each position
pub ids_are : (es : List Entry) (ss : List Slot) → length ss ≡ length es → ((i : ℕ) (s : Slot) → slice_get ss i ≡ Some s → node_at es i ≡ Some (slot_id s)) → slot_ids ss ≡ registered es
ids_are [] [] same nodes = refl
ids_are [] (s ∷ ss) same nodes = absurd (omega (arith, same))
ids_are (e ∷ es) [] same nodes = absurd (omega (arith, same))
ids_are (e ∷ es) (s ∷ ss) same nodes =
    let here : Some e.identity ≡ Some (slot_id s) = nodes 0 s refl in
    let id : e.identity ≡ slot_id s = cc in
    let rest : length ss ≡ length es = omega (arith, same) in
    ap (λ (n : NodeId). n ∷ slot_ids ss) (sym id) ∙ ap (λ (ns : List NodeId). e.identity ∷ ns) (ids_are es ss rest (λ i t there. nodes (suc i) t there))

-- in another order
module _ (es : List Entry) (ss ts : List Slot) (start now : List Images) (opened : AreOpened es (length es) ss start now) (moved : IsPermutation ss ts) where
  abbrev IsOne : Slot → Type 0
  IsOne s = (i : ℕ) × (slice_get ss i ≡ Some s)

  from_first : (j : ℕ) (s : Slot) → slice_get ts j ≡ Some s → IsOne s
  from_first j s there =
      subst IsOne (get_or_from_slice_get ts j s s there)
      (All-permutation IsOne ss ts moved (λ k d below. (k, slice_get-get_or ss k d below)) j s (slice_get_within ts j s there))

  -- each is over the pair at its position
  pub at_place : (j : ℕ) (s : Slot) → slice_get ts j ≡ Some s → slice_get ss s.position ≡ Some s
  at_place j s there = let one = from_first j s there in ap (slice_get ss) (opened.places one.0 s one.1) ∙ one.1

  opened_there : (j : ℕ) (s : Slot) → slice_get ts j ≡ Some s → IsOpened s (images_at start s.position) (images_at now s.position)
  opened_there j s there = opened.each s.position s (at_place j s there)

  node_there : (j : ℕ) (s : Slot) → slice_get ts j ≡ Some s → node_at es s.position ≡ Some (slot_id s)
  node_there j s there = opened.nodes s.position s (at_place j s there)

  pub opened_placed : (i : ℕ) (n : NodeId) (p : ℕ) → slice_get (slot_ids ts) i ≡ Some n → slice_get (slot_places ts) i ≡ Some p → node_at es p ≡ Some n
  opened_placed i n p at place =
      let f = slot_there ts i n p at place in
      let is : IsSlot ts i n p f.0 = f.1 in
      ap (node_at es) (sym is.place_is) ∙ node_there i f.0 is.there ∙ ap Some is.id_is

  pub opened_below : (p : ℕ) → IsPlace (slot_places ts) p → p < length es
  opened_below p at =
      let s = mapped_there (λ (t : Slot). t.position) ts at.0 p at.1 in
      subst (λ (q : ℕ). q < length es) s.2 (node_below es s.0.position (slot_id s.0) (node_there at.0 s.0 s.1))

  module _ (ordered : ascends (slot_ids ts) ≡ true) where
    apart_there : (i j : ℕ) (s t : Slot) → slice_get ts i ≡ Some s → slice_get ts j ≡ Some t → s.position ≡ t.position → j ≡ i
    apart_there i j s t e f same =
        let id : Some (slot_id s) ≡ Some (slot_id t) = sym (node_there i s e) ∙ ap (node_at es) same ∙ node_there j t f in
        once (slot_ids ts) i j (slot_id s) ordered (id_at ts i s e) (id_at ts j t f ∙ sym id)

    -- each stands over its own disks
    pub opened_sits : length es ≤ length now → Sits (record { slots = ts; disks = now })
    opened_sits room = record {
      below = λ i s e. let b = node_below es s.position (slot_id s) (node_there i s e) in omega (arith, b, room);
      apart = apart_there;
      each = λ i s e. (opened_there i s e).stands;
    }

    module _ (o : Origin) (of : IsOriginOf es start o) (apart : AllPairs (λ x y. x ≢ y) (registered es)) (ids : slot_ids ts ≡ sorted (registered es))
        (tell : AllTell (length es) start) where
      told_there : (i : ℕ) (s : Slot) → slice_get ts i ≡ Some s → Tell (images_at start s.position)
      told_there i s e = tell s.position (node_below es s.position (slot_id s) (node_there i s e))

      -- and keeps what they made
      pub opened_holds : (c : CircuitId) → HoldsWorld c (first_world o c) (record { slots = ts; disks = now })
      opened_holds c = record {
        ordered = ordered;
        nodes = of.nodes ∙ sym ids;
        each = λ i s e. let one = opened_there i s e in record {
          up = one.up;
          state = one.cells (told_there i s e) (images_at now s.position) c ∙ sym (of.kept apart s.position (slot_id s) c (node_there i s e));
          sent = λ b known. ap (λ (ps : Posted). sent_to (lists_about ps c) b) one.silent;
        };
        told = λ i s e. told_as (images_at start s.position) (images_at now s.position) (opened_there i s e).tells (told_there i s e);
      }

-- the disks of all nodes stand for that
module _ (es : List Entry) (ss : List Slot) (start now : List Images) (opened : AreOpened es (length es) ss start now) (o : Origin)
    (of : IsOriginOf es start o) (apart : AllPairs (λ x y. x ≢ y) (registered es)) (tell : AllTell (length es) start) where
  slot_held : (k : ℕ) (s : Slot) → slice_get ss k ≡ Some s → IfBoth (images_at now k).0 (images_at now k).1 (λ i j. StandFor (slot_id s) (λ c. o.kept c (slot_id s)) i.bytes j.bytes)
  slot_held k s there =
      let one = opened.each k s there in
      let at = opened.nodes k s there in
      let is = images_at now k in
      stand_as (slot_id s) (node_view s is).cells (λ c. o.kept c (slot_id s))
      (λ c. one.cells (tell k (node_below es k (slot_id s) at)) is c ∙ sym (of.kept apart k (slot_id s) c at)) is.0 is.1 (stands_hold s is one.stands).read

  pub opened_held : HoldAll o es now
  opened_held k n at =
      let below : k < length ss = subst (λ (m : ℕ). k < m) (sym opened.as_many) (node_below es k n at) in
      let s = some_at ss k below in
      let same : Some (slot_id s.0) ≡ Some n = sym (opened.nodes k s.0 s.1) ∙ at in
      let id : slot_id s.0 ≡ n = cc in
      subst (λ (m : NodeId). IfBoth (images_at now k).0 (images_at now k).1 (λ i j. StandFor m (λ c. o.kept c m) i.bytes j.bytes)) id (slot_held k s.0 s.1)

-- what they begin with
pub origin_of : (es : List Entry) (is : List Images) → IsOriginOf es is (origin_on es is)
origin_of es is = record { begins = is_origin_on es is; nodes = refl; kept = λ apart k n c at. ap (kept_at is c n) (position_is es k n apart at) }

pub origin_blank : (es : List Entry) (is : List Images) → ((k : ℕ) → k < length es → AreBlank (images_at is k)) → IsOriginOf es is (blank (sorted (registered es)))
origin_blank es is blanks = record {
  begins = is-blank (sorted (registered es));
  nodes = refl;
  kept = λ apart k n c at. let b = blanks k (node_below es k n at) in sym (made_blank n c (images_at is k).0 (images_at is k).1 b.first b.second);
}

-- nothing was begun
pub made_none : (es : List Entry) (e : WorldFault) (start : List Images) → ((k : ℕ) → e ≡ Disk k → ⊥) → ((k at : ℕ) → e ≡ NotAJournal k at → ⊥) → AreOpenedBut es e start start
made_none es e start other sound = record {
  one = 0;
  named = λ k q. absurd (other k q);
  unread = λ k at q. absurd (sound k at q);
  own = λ n at. inl (inl refl);
  others = λ k n at off. inl (inl refl);
}

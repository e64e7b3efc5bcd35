-- What a stop leaves of disks where an event ended with an error.
use Rattle.spl_edge.specs.{Sources.limit, Devices.{IsSettled, MayLeave}}
use Rattle.spl_journal.proofs.Images.{only_settled}
use Rattle.spl_cell_rules.specs.Cells.{site_at}
use Rattle.spl_node.specs.{Kept.cells_after, Stands.{HostStands, host_cell, host_id, host_second}, Benches.{images, images_of, Images, images_at}}
use Rattle.spl_node.{proofs.{Disks.safe_map, Hosting.{both_told, kept_settled, kept_stand}, Leaving.leaves_last}, specs.Benches.images_or_none}
use Rattle.spl_node.proofs.{Standing.stand_same, Benches.{images_set, pair_here}, Positions.{set_else, set_here}}
use Rattle.spl_snapshot.{proofs.Keeps.both_if, specs.Counting.{PairLeaves, PairLeavesInTurn, PairLeavesBetween, PairLeavesBetweenInTurn}}
use Rattle.spl_world.specs.{Ended.{EventEnds, cells_in}, Halts.IsEventOf, Held.{Hold, LeaveEither, HoldFor, LeaveNow}, Kept.NodeView, Views.HoldsWorld}
use Rattle.spl_world.specs.{Views.{Nodes, node_view, slot_id, slot_ids, slot_up, view_in, NodeSeat}, declared.fault.WorldFault.{WorldFault, TheVariants.Disk}}
use Rattle.spl_world.{specs.declared.{fault.WorldFault.TheVariants.{NoMemory, TooMany}, slot.Slot.Slot}, proofs.Common.{◌≡◌, ◌⊎◌, inl, inr, ℕ, ◌≤◌, Bool}}
use Rattle.spl_world.proofs.Common.{true, List, slice_get, slice_set, Option, Some, None, IfSome, Result, Ok, Err, refl, ap, sym, subst, ◌∙◌, arith, IsErrOf}
use Rattle.spl_world.proofs.Common.{IsSome, IfErr, if◌then◌else◌, bytes_eq, bool_cases, bytes_are, bytes_same, NodeId, CircuitId, Image, image_now, DiskView}
use Rattle.spl_world.proofs.Common.{pair_view, Pair, put_at-here, CircuitWorld, Halts, circuit_carried_out, circuit_happens, StandFor, cells_stopped}
use Rattle.spl_world.proofs.Common.{event_changes, Host, Cell, after_plan, stopped_cell, plan_of, step_circuit, step_node, Step, IfBoth, Event}
use Rattle.spl_world.proofs.{Cutting.after_halt, Handling.{disks_are, own_view}, Results.failed, Slots.same_at}

-- ---- two disks

pub left_last : (at other : ℕ → Option Image) (m n : ℕ) (P : List ℕ → List ℕ → Type 0) → PairLeavesBetween at m m other n n P → LeaveNow P (at m, other n)
left_last at other m n P left = left m n (omega arith) (omega arith) (omega arith) (omega arith)

-- what a stop at any moment leaves it leaves at the last
pub left_in_turn : (second : Bool) (o p : Option Image) (at other : ℕ → Option Image) (k m l n : ℕ) (P : List ℕ → List ℕ → Type 0) → IsSome o → IsSome p
    → k ≤ m → l ≤ n → IfBoth o p (λ i j. PairLeavesBetweenInTurn second at k m other l n P) → LeaveNow P (at m, other n)
left_in_turn second o p at other k m l n P told other_told low other_low h =
    both_told o p (λ i j. PairLeavesBetweenInTurn second at k m other l n P) (LeaveNow P (at m, other n)) told other_told h
    (λ i j is other_is left. left_last at other m n P (leaves_last second at other k m l n P low other_low left))

-- a read gives one of the contents that a stop may leave
abbrev pub MayStay : Option Image → Type 0
MayStay o = IfSome o (λ i. MayLeave i i.bytes)

read_left : (P : List ℕ → List ℕ → Type 0) (o p : Option Image) → MayStay o → MayStay p → LeaveNow P (o, p) → IfBoth o p (λ i j. P i.bytes j.bytes)
read_left P None p a b h = tt
read_left P (Some i) None a b h = tt
read_left P (Some i) (Some j) a b h = h i.bytes j.bytes a b

pub hold_left : (P : List ℕ → List ℕ → Type 0) (is : Images) → MayStay is.0 → MayStay is.1 → LeaveNow P is → Hold P is
hold_left P is a b h = record { read = read_left P is.0 is.1 a b h; left = h }

pub hold_map : (P Q : List ℕ → List ℕ → Type 0) → ((c d : List ℕ) → P c d → Q c d) → (is : Images) → Hold P is → Hold Q is
hold_map P Q f is h = record {
  read = both_if is.0 is.1 (λ i j. P i.bytes j.bytes) (λ i j. Q i.bytes j.bytes) h.read (λ i j p. f i.bytes j.bytes p);
  left = safe_map P Q f is.0 is.1 h.left;
}

-- a call during which both disks stood for these cells
pub host_kept : {D : Type 0} (view : D → DiskView) (n : NodeId) (cells : CircuitId → Cell) (old new : Pair D) → IsSome (image_now (view old.first))
    → IsSome (image_now (view old.second)) → (view old.first).moment ≤ (view new.first).moment → (view old.second).moment ≤ (view new.second).moment
    → IfBoth (image_now (view old.first)) (image_now (view old.second)) (λ i j. PairLeaves (pair_view view old) (pair_view view new) (StandFor n cells))
    → MayStay (image_now (view new.first)) → MayStay (image_now (view new.second)) → HoldFor n cells (images_of view new)
host_kept view n cells old new told other_told low other_low left stay other_stay =
    hold_left (StandFor n cells) (images_of view new) stay other_stay
    (both_told (image_now (view old.first)) (image_now (view old.second)) (λ i j. PairLeaves (pair_view view old) (pair_view view new) (StandFor n cells))
    (LeaveNow (StandFor n cells) (images_of view new)) told other_told left
    (λ i j is other_is leaves. leaves (view new.first).moment (view new.second).moment low (omega arith) other_low (omega arith)))

-- an event at a host
pub host_left : {D : Type 0} (view : D → DiskView) (h : Host) (old new : Pair D) (c : CircuitId) (e : Event) → IsSome (image_now (view old.first))
    → IsSome (image_now (view old.second)) → (view old.first).moment ≤ (view new.first).moment → (view old.second).moment ≤ (view new.second).moment
    → IfBoth (image_now (view old.first)) (image_now (view old.second)) (λ i j. PairLeavesInTurn (host_second h) (pair_view view old) (pair_view view new)
    (λ x y. StandFor (host_id h) (host_cell h (image_now (view old.first)) (image_now (view old.second))) x y
    ⊎ StandFor (host_id h) (cells_after (host_id h) (host_cell h (image_now (view old.first)) (image_now (view old.second))) c e) x y))
    → MayStay (image_now (view new.first)) → MayStay (image_now (view new.second))
    → LeaveEither (host_id h) (host_cell h (image_now (view old.first)) (image_now (view old.second)))
    (cells_after (host_id h) (host_cell h (image_now (view old.first)) (image_now (view old.second))) c e) (images_of view new)
host_left view h old new c e told other_told low other_low left stay other_stay =
    hold_left (λ x y. StandFor (host_id h) (host_cell h (image_now (view old.first)) (image_now (view old.second))) x y ⊎ StandFor (host_id h) (cells_after (host_id h) (host_cell h (image_now (view old.first)) (image_now (view old.second))) c e) x y) (images_of view new) stay other_stay
    (left_in_turn (host_second h) (image_now (view old.first)) (image_now (view old.second)) (view new.first).image_at (view new.second).image_at
    (view old.first).moment (view new.first).moment (view old.second).moment (view new.second).moment
    (λ x y. StandFor (host_id h) (host_cell h (image_now (view old.first)) (image_now (view old.second))) x y
    ⊎ StandFor (host_id h) (cells_after (host_id h) (host_cell h (image_now (view old.first)) (image_now (view old.second))) c e) x y)
    told other_told low other_low left)

left_settled : (P : List ℕ → List ℕ → Type 0) (o p : Option Image) → IfSome o IsSettled → IfSome p IsSettled → IfBoth o p (λ i j. P i.bytes j.bytes) → LeaveNow P (o, p)
left_settled P None p a b h = tt
left_settled P (Some i) None a b h = tt
left_settled P (Some i) (Some j) a b h = λ c d x y. subst (λ (e : List ℕ). P e d) (sym (only_settled i c a x)) (subst (λ (e : List ℕ). P i.bytes e) (sym (only_settled j d b y)) h)

-- the disks of a host that stands
pub stands_hold : (s : Slot) (is : Images) → HostStands s.host is.0 is.1 → HoldFor (slot_id s) (node_view s is).cells is
stands_hold s is h =
    let rest = kept_settled s.host.id s.host.node is.0 is.1 h.up h.down in
    let stand = kept_stand s.host.id s.host.node is.0 is.1 h.up h.down in
    record { read = stand; left = left_settled (StandFor (slot_id s) (node_view s is).cells) is.0 is.1 rest.0 rest.1 stand }

-- ---- the same cells by other words

stand_as : (n : NodeId) (f g : CircuitId → Cell) → ((c : CircuitId) → f c ≡ g c) → (x y : List ℕ) → StandFor n f x y → StandFor n g x y
stand_as n f g same x y h = stand_same n f g x y (λ c. ap stopped_cell (same c)) h

pub hold_as : (n : NodeId) (f g : CircuitId → Cell) → ((c : CircuitId) → f c ≡ g c) → (is : Images) → HoldFor n f is → HoldFor n g is
hold_as n f g same is h = hold_map (StandFor n f) (StandFor n g) (stand_as n f g same) is h

pub either_as : (n : NodeId) (f g k l : CircuitId → Cell) → ((c : CircuitId) → f c ≡ k c) → ((c : CircuitId) → g c ≡ l c) → (is : Images) → LeaveEither n f g is → LeaveEither n k l is
either_as n f g k l same other is h = hold_map (λ x y. StandFor n f x y ⊎ StandFor n g x y) (λ x y. StandFor n k x y ⊎ StandFor n l x y) both is h
  where
    both : (x y : List ℕ) → StandFor n f x y ⊎ StandFor n g x y → StandFor n k x y ⊎ StandFor n l x y
    both x y (inl p) = inl (stand_as n f k same x y p)
    both x y (inr p) = inr (stand_as n g l other x y p)

pub hold_either : (n : NodeId) (f g : CircuitId → Cell) (is : Images) → HoldFor n f is → LeaveEither n f g is
hold_either n f g is h = hold_map (StandFor n f) (λ x y. StandFor n f x y ⊎ StandFor n g x y) (λ x y p. inl p) is h

-- the same except open rounds
either_stands : (n : NodeId) (f g k : CircuitId → Cell) → ((c : CircuitId) → stopped_cell (g c) ≡ stopped_cell (k c)) → (is : Images) → LeaveEither n f g is → LeaveEither n f k is
either_stands n f g k same is h = hold_map (λ x y. StandFor n f x y ⊎ StandFor n g x y) (λ x y. StandFor n f x y ⊎ StandFor n k x y) one is h
  where
    one : (x y : List ℕ) → StandFor n f x y ⊎ StandFor n g x y → StandFor n f x y ⊎ StandFor n k x y
    one x y (inl p) = inl p
    one x y (inr p) = inr (stand_same n g k x y same p)

-- ---- an event

-- it ended before a call of a disk
pub still_ended : (c : CircuitId) (after : CircuitWorld) (e : WorldFault) (xs : Nodes) → EventEnds c after e xs xs.disks
still_ended c after e xs = record { limit = λ which q. refl; others = inl refl }

module _ (c : CircuitId) (after : CircuitWorld) (xs : Nodes) (is : List Images) (i : ℕ) (s : Slot) (there : slice_get xs.slots i ≡ Some s) where
  one_ended : {A : Type 0} (r : Result A WorldFault) → ((which : ℕ) → IsErrOf r (TooMany which) → ⊥) → ((k : ℕ) → IsErrOf r (Disk k) → k ≡ s.position)
      → ((k : ℕ) → (k ≡ s.position → ⊥) → images_at is k ≡ images_at xs.disks k)
      → LeaveEither (slot_id s) (view_in xs s).cells (cells_in c after (slot_id s) (view_in xs s).cells) (images_at is s.position) → IfErr r (λ e. EventEnds c after e xs is)
  one_ended (Ok a) few place others own = tt
  one_ended {A} (Err e) few place others own = record {
    limit = λ which q. absurd (few which (ap (failed A) q));
    others = inr (record { index = i; slot = s; there = there; place = λ k q. place k (ap (failed A) q); others = others; own = own });
  }

module _ {D : Type 0} {view : D → DiskView} {ss : List Slot} {ps : List (Pair D)} {i : ℕ} {k : ℕ} {s : Slot} {p : Pair D} (seat : NodeSeat view ss ps i k s p) (t : Slot) (r : Pair D) where
  abbrev nodes : Nodes
  nodes = record { slots = ss; disks = images view ps }

  else_disks : (j : ℕ) → (j ≡ s.position → ⊥) → images_at (images view (slice_set ps k r)) j ≡ images_at (images view ps) j
  else_disks j off = ap (λ (is : List Images). images_at is j) (images_set view ps k r) ∙ ap images_or_none (set_else (images view ps) k j (images_of view r) (λ e. off (sym e ∙ seat.place)))

  own_disks : images_at (images view (slice_set ps k r)) s.position ≡ images_of view r
  own_disks =
      let q : Images = images_of view r in
      ap (λ (is : List Images). images_at is s.position) (sym (disks_are seat t r))
      ∙ pair_here (slice_set (images view ps) s.position q) s.position q (set_here (images view ps) s.position q (seat.sits.below i s seat.there))

  -- a stop found no memory at a node over its own pair
  own_memory : (c : CircuitId) (after : CircuitWorld) (later : CircuitId → Cell)
      → ((d : CircuitId) → stopped_cell (later d) ≡ stopped_cell (cells_in c after (slot_id s) (view_in nodes s).cells d))
      → LeaveEither (slot_id s) (view_in nodes s).cells later (images_of view r) → EventEnds c after NoMemory nodes (images view (slice_set ps k r))
  own_memory c after later same left =
      one_ended c after nodes (images view (slice_set ps k r)) i s seat.there (failed (Unit {0}) NoMemory) (λ which q. cc) (λ j q. cc) else_disks
      (subst (λ (is : Images). LeaveEither (slot_id s) (view_in nodes s).cells (cells_in c after (slot_id s) (view_in nodes s).cells) is) (sym own_disks)
      (either_stands (slot_id s) (view_in nodes s).cells later (cells_in c after (slot_id s) (view_in nodes s).cells) same (images_of view r) left))

  -- nothing happened in the world of the circuit
  same_cells : (c : CircuitId) (m : CircuitWorld) → HoldsWorld c m nodes → (d : CircuitId) → (view_in nodes s).cells d ≡ cells_in c m (slot_id s) (view_in nodes s).cells d
  same_cells c m h d = elim (bool_cases (bytes_eq c d)) [
    | inl q ↦ ap (view_in nodes s).cells (sym (bytes_are c d q)) ∙ (h.each i s seat.there).state ∙ ap (λ (b : Bool). if b then m.at (slot_id s) else (view_in nodes s).cells d) (sym q)
    | inr q ↦ ap (λ (b : Bool). if b then m.at (slot_id s) else (view_in nodes s).cells d) (sym q)
  ]

  held_here : HoldFor (slot_id s) (node_view s (images_of view p)).cells (images_of view r) → HoldFor (slot_id s) (view_in nodes s).cells (images_of view r)
  held_here left = subst (λ (v : NodeView). HoldFor (slot_id s) v.cells (images_of view r)) (sym (own_view seat)) left

  pub own_stopped : (c : CircuitId) (m : CircuitWorld) → HoldsWorld c m nodes
      → HoldFor (slot_id s) (node_view s (images_of view p)).cells (images_of view r) → EventEnds c m NoMemory nodes (images view (slice_set ps k r))
  own_stopped c m h left = own_memory c m (view_in nodes s).cells (λ d. ap stopped_cell (same_cells c m h d)) (hold_either (slot_id s) (view_in nodes s).cells (view_in nodes s).cells (images_of view r) (held_here left))

  -- a node came up, or didn't, and its disks stand for what they stood for
  pub own_started : {A : Type 0} (c : CircuitId) (m : CircuitWorld) → HoldsWorld c m nodes → (x : Result A WorldFault)
      → ((which : ℕ) → IsErrOf x (TooMany which) → ⊥) → ((slot : ℕ) → IsErrOf x (Disk slot) → slot ≡ s.position)
      → HoldFor (slot_id s) (node_view s (images_of view p)).cells (images_of view r) → IfErr x (λ f. EventEnds c m f nodes (images view (slice_set ps k r)))
  own_started c m h x few failed left =
      let own_cells : CircuitId → Cell = (view_in nodes s).cells in
      one_ended c m nodes (images view (slice_set ps k r)) i s seat.there x few failed else_disks
      (either_as (slot_id s) own_cells own_cells own_cells (cells_in c m (slot_id s) own_cells) (λ d. refl) (same_cells c m h) (images_at (images view (slice_set ps k r)) s.position)
      (subst (λ (is : Images). LeaveEither (slot_id s) own_cells own_cells is) (sym own_disks) (hold_either (slot_id s) own_cells own_cells (images_of view r) (held_here left))))

  pub own_halted : (c : CircuitId) (e : Option Event) (m : CircuitWorld) (t : Step) → HoldsWorld c m nodes → slot_up s ≡ true → slot_id s ≡ step_node t → step_circuit t ≡ c → IsEventOf e m t
      → LeaveEither (slot_id s) (node_view s (images_of view p)).cells (cells_stopped (slot_id s) (node_view s (images_of view p)).cells c (event_changes (slot_id s) (node_view s (images_of view p)).cells c e) true) (images_of view r)
      → EventEnds c (circuit_happens m (Halts true t)) NoMemory nodes (images view (slice_set ps k r))
  own_halted c e m t h up id about is left = own_memory c (circuit_happens m (Halts true t)) (cells_stopped (slot_id s) (view_in nodes s).cells c (event_changes (slot_id s) (view_in nodes s).cells c e) true)
      (after_halt nodes i s m t c e h seat.there id about is up)
      (subst (λ (v : NodeView). LeaveEither (slot_id s) v.cells (cells_stopped (slot_id s) v.cells c (event_changes (slot_id s) v.cells c e) true)
      (images_of view r)) (sym (own_view seat)) left)

  module _ (c : CircuitId) (n : NodeId) (e : Event) (m : CircuitWorld) (at : slice_get (slot_ids ss) i ≡ Some n) (h : HoldsWorld c m nodes) where
    abbrev after : CircuitWorld
    after = circuit_carried_out m n (plan_of (site_at n c) (m.at n) e)

    abbrev old_cells : CircuitId → Cell
    old_cells = (view_in nodes s).cells

    own_cell : after_plan (slot_id s) (old_cells c) (plan_of (site_at (slot_id s) c) (old_cells c) e) ≡ after.at (slot_id s)
    own_cell =
        let here : slot_id s ≡ n = same_at ss i s n seat.there at in
        ap (λ (x : Cell). after_plan (slot_id s) x (plan_of (site_at (slot_id s) c) x e)) (h.each i s seat.there).state
        ∙ ap (λ (j : NodeId). after_plan j (m.at j) (plan_of (site_at j c) (m.at j) e)) here
        ∙ sym (put_at-here m.at n (slot_id s) (after_plan n (m.at n) (plan_of (site_at n c) (m.at n) e)) (ap (λ (j : NodeId). bytes_eq j n) here ∙ bytes_same n))

    cells_later : (d : CircuitId) → cells_after (slot_id s) old_cells c e d ≡ cells_in c after (slot_id s) old_cells d
    cells_later d = ap (λ (x : Cell). if bytes_eq c d then x else old_cells d) own_cell

    -- an event at a node over its own pair
    pub own_ended : {A : Type 0} (x : Result A WorldFault) → ((which : ℕ) → IsErrOf x (TooMany which) → ⊥) → ((slot : ℕ) → IsErrOf x (Disk slot) → slot ≡ s.position)
        → LeaveEither (slot_id s) (node_view s (images_of view p)).cells (cells_after (slot_id s) (node_view s (images_of view p)).cells c e) (images_of view r)
        → IfErr x (λ f. EventEnds c after f nodes (images view (slice_set ps k r)))
    own_ended x few failed left =
        one_ended c after nodes (images view (slice_set ps k r)) i s seat.there x few failed else_disks
        (either_as (slot_id s) old_cells (cells_after (slot_id s) old_cells c e) old_cells (cells_in c after (slot_id s) old_cells) (λ d. refl) cells_later
        (images_at (images view (slice_set ps k r)) s.position)
        (subst (λ (is : Images). LeaveEither (slot_id s) old_cells (cells_after (slot_id s) old_cells c e) is) (sym own_disks)
        (subst (λ (v : NodeView). LeaveEither (slot_id s) v.cells (cells_after (slot_id s) v.cells c e) (images_of view r)) (sym (own_view seat)) left)))

-- What a stop leaves of two disks that were called or picked from, whatever the result.
use Rattle.std.{specs.Prelude.{IsSome, IfNone}, proofs.Common.{◌≡◌, ◌⊎◌, inl, inr, ℕ, ◌≤◌, Bool, true, false, List, [], ◌∷◌, ◌++◌, Option, Some, None}}
use Rattle.std.proofs.Common.{IfSome, OnOk, OnErr, Result, Ok, Err, refl, sym, ap, ◌∙◌, subst, arith}
use Rattle.spl_circuit.specs.Nodes.{NodeId, CircuitId}
use Rattle.spl_edge.specs.Devices.{Image, IsSettled, MayLeave, settled_at, Picked, Picks, picked_bytes, picked_of, DiskView, image_now}
use Rattle.spl_edge.specs.declared.{disk.Arming.Arming, fill.Fill.Fill}
use Rattle.spl_journal.proofs.Images.{only_settled}
use Rattle.spl_cell_rules.specs.{Cells.{Cell, Empty, Held, Purged, site_at}, Changes.stopped_cell, Plans.plan_of}
use Rattle.spl_snapshot.specs.Counting.{IfBoth, IsInTurn, PairLeavesBetween, PairLeavesBetweenInTurn}
use Rattle.spl_wire.specs.declared.event.Event.{Event}
use Rattle.spl_node.specs.{Stands.{Rests, Runs, kept_cell, StandFor}, Kept.cells_after, Stopping.{LeavesNoMore, PicksAtMostOnce, StandForEither}}
use Rattle.spl_node.{specs.{Stopping.cells_stopped, declared.node.Node.Node}, proofs.{Disks.{leaves_map, rest_leaves}, Halting.{after_cells, stand_then}}}
use Rattle.spl_node.proofs.{Hosting.{kept_settled, kept_stand, settled_now}, Standing.stand_same}

-- ---- one disk

-- a disk that holds what it held
pub no_more_still : (o p : Option Image) → p ≡ o → IfBoth o p LeavesNoMore
no_more_still None p is = tt
no_more_still (Some i) p is = subst (λ (q : Option Image). IfSome q (λ j. LeavesNoMore i j)) (sym is) (λ c left. left)

-- one that was picked from
pub no_more_picked : (fill : Fill) (arming : Arming) (faults : ℕ) (before after : List Picked) (o p : Option Image)
    → Picks fill arming faults before after o p → IfBoth o p LeavesNoMore
no_more_picked fill arming faults before after o p picks =
    subst (λ (x : Option Image). IfBoth x p LeavesNoMore) (sym picks.told)
    (subst (λ (y : Option Image). IfSome y (λ j. LeavesNoMore picks.image j)) (sym picks.holds)
    (λ c left. subst (MayLeave picks.image)
    (sym (only_settled (settled_at (picked_bytes fill picks.image)) c (settled_now (picked_bytes fill picks.image)) left)) picks.allowed))

-- one of which a pick was asked
pub no_more_asked : {A E : Type 0} (r : Result A E) (fill : Fill) (arming : Arming) (faults : ℕ) (before after : List Picked)
    (at new_at : ℕ → Option Image) (m n : ℕ)
    → OnOk r (Picks fill arming faults before after (at m) (new_at n)) → ((t : ℕ) → t ≤ m → new_at t ≡ at t) → OnErr r (n ≡ m)
    → IfBoth (at m) (new_at n) LeavesNoMore
no_more_asked (Ok a) fill arming faults before after at new_at m n ok past err = no_more_picked fill arming faults before after (at m) (new_at n) ok
no_more_asked (Err e) fill arming faults before after at new_at m n ok past err = no_more_still (at m) (new_at n) (ap new_at err ∙ past m (omega arith))

-- ---- two disks

turn_last : (second : Bool) (k m l n : ℕ) → IsInTurn second m k m n l n
turn_last false k m l n = inr refl
turn_last true k m l n = inr refl

-- what a stop at any moment leaves it leaves at the last
pub leaves_last : (second : Bool) (at other : ℕ → Option Image) (k m l n : ℕ) (P : List ℕ → List ℕ → Type 0) → k ≤ m → l ≤ n
    → PairLeavesBetweenInTurn second at k m other l n P → PairLeavesBetween at m m other n n P
leaves_last second at other k m l n P low other_low left a b c d e f =
    let same : m ≡ a = omega (arith, c, d) in
    let other_same : n ≡ b = omega (arith, e, f) in
    subst (λ (x : ℕ). IfBoth (at x) (other b) (λ i j. (c d : List ℕ) → MayLeave i c → MayLeave j d → P c d)) same
    (subst (λ (y : ℕ). IfBoth (at m) (other y) (λ i j. (c d : List ℕ) → MayLeave i c → MayLeave j d → P c d)) other_same
    (left m n low (omega arith) other_low (omega arith) (turn_last second k m l n)))

no_more_both : (o p x y : Option Image) (P : List ℕ → List ℕ → Type 0) → IsSome o → IsSome p → IfBoth o x LeavesNoMore → IfBoth p y LeavesNoMore
    → IfBoth o p (λ i j. (c d : List ℕ) → MayLeave i c → MayLeave j d → P c d) → IfBoth x y (λ i j. (c d : List ℕ) → MayLeave i c → MayLeave j d → P c d)
no_more_both None p x y P told other_told one other left = cc
no_more_both (Some i) None x y P told other_told one other left = cc
no_more_both (Some i) (Some j) None y P told other_told one other left = tt
no_more_both (Some i) (Some j) (Some u) None P told other_told one other left = tt
no_more_both (Some i) (Some j) (Some u) (Some v) P told other_told one other left = λ c d a b. left c d (one c a) (other d b)

-- both were picked from
pub leaves_picked : (at other new_at new_other : ℕ → Option Image) (m n k l : ℕ) (P : List ℕ → List ℕ → Type 0) → IsSome (at m) → IsSome (other n)
    → IfBoth (at m) (new_at k) LeavesNoMore → IfBoth (other n) (new_other l) LeavesNoMore
    → PairLeavesBetween at m m other n n P → PairLeavesBetween new_at k k new_other l l P
leaves_picked at other new_at new_other m n k l P told other_told one other_one left a b c d e f =
    let same : k ≡ a = omega (arith, c, d) in
    let other_same : l ≡ b = omega (arith, e, f) in
    subst (λ (x : ℕ). IfBoth (new_at x) (new_other b) (λ i j. (c d : List ℕ) → MayLeave i c → MayLeave j d → P c d)) same
    (subst (λ (y : ℕ). IfBoth (new_at k) (new_other y) (λ i j. (c d : List ℕ) → MayLeave i c → MayLeave j d → P c d)) other_same
    (no_more_both (at m) (other n) (new_at k) (new_other l) P told other_told one other_one (left m n (omega arith) (omega arith) (omega arith) (omega arith))))

-- ---- the cells

pub still_stopped : (k : Cell) → stopped_cell k ≡ stopped_cell (stopped_cell k)
still_stopped Empty = refl
still_stopped (Held h) = refl
still_stopped (Purged old) = refl

module _ (here : NodeId) (before : CircuitId → Cell) (c : CircuitId) where
  -- those after an event are those after a stop in it whose record is kept
  either_stopped : (e : Event) (x y : List ℕ) → StandFor here before x y ⊎ StandFor here (cells_after here before c e) x y
      → StandForEither here before c (plan_of (site_at here c) (before c) e).changes x y
  either_stopped e x y (inl h) = inl h
  either_stopped e x y (inr h) =
      inr (stand_same here (cells_after here before c e) (cells_stopped here before c (plan_of (site_at here c) (before c) e).changes true) x y same h)
    where
      same : (i : CircuitId) → stopped_cell (cells_after here before c e i)
          ≡ stopped_cell (cells_stopped here before c (plan_of (site_at here c) (before c) e).changes true i)
      same i = still_stopped (cells_after here before c e i) ∙ ap stopped_cell (after_cells here c before e true (inl refl) i)

  -- a step, at its last moments
  pub step_leaves : (e : Event) (second : Bool) (o p : Option Image) (at other : ℕ → Option Image) (from to start end : ℕ) → IsSome o → IsSome p
      → from ≤ to → start ≤ end → IfBoth o p (λ i j. StandFor here before i.bytes j.bytes)
      → IfBoth o p (λ i j. StandFor here before i.bytes j.bytes
      → PairLeavesBetweenInTurn second at from to other start end (λ x y. StandFor here before x y ⊎ StandFor here (cells_after here before c e) x y))
      → PairLeavesBetween at to to other end end (StandForEither here before c (plan_of (site_at here c) (before c) e).changes)
  step_leaves e second o p at other from to start end told other_told low other_low stands left =
      leaves_map at other to to end end (λ x y. StandFor here before x y ⊎ StandFor here (cells_after here before c e) x y)
      (StandForEither here before c (plan_of (site_at here c) (before c) e).changes) (either_stopped e)
      (leaves_last second at other from to start end (λ x y. StandFor here before x y ⊎ StandFor here (cells_after here before c e) x y) low other_low
      (stand_then here before o p
      (PairLeavesBetweenInTurn second at from to other start end
      (λ x y. StandFor here before x y ⊎ StandFor here (cells_after here before c e) x y)) told other_told stands left))

-- ---- disks that hold what they held

pub rest_told : (here : NodeId) (cells : CircuitId → Cell) (Q : List ℕ → List ℕ → Type 0) (at other : ℕ → Option Image) (m n : ℕ) → IsSome (at m)
    → IsSome (other n) → IfSome (at m) IsSettled → IfSome (other n) IsSettled
    → ((x y : List ℕ) → StandFor here cells x y → Q x y) → IfBoth (at m) (other n) (λ i j. StandFor here cells i.bytes j.bytes)
    → PairLeavesBetween at m m other n n Q
rest_told here cells Q at other m n told other_told rest other_rest f stands =
    stand_then here cells (at m) (other n) (PairLeavesBetween at m m other n n Q) told other_told stands
    (rest_leaves at other m n rest other_rest (λ i j. StandFor here cells i.bytes j.bytes) Q (λ i j h. f i.bytes j.bytes h))

-- those of a host that stands
pub host_leaves : (here : NodeId) (o : Option Node) (at other : ℕ → Option Image) (m n : ℕ) → IsSome (at m) → IsSome (other n)
    → IfSome o (Runs here (at m) (other n)) → IfNone o (Rests (at m) (other n))
    → PairLeavesBetween at m m other n n (StandFor here (kept_cell here o (at m) (other n)))
host_leaves here o at other m n told other_told up down =
    let rest = kept_settled here o (at m) (other n) up down in
    rest_told here (kept_cell here o (at m) (other n)) (StandFor here (kept_cell here o (at m) (other n))) at other m n told other_told rest.0 rest.1
    (λ x y h. h) (kept_stand here o (at m) (other n) up down)

-- ---- how often a disk was picked from

-- after calls that pick nothing
pub picks_then : (x y z : DiskView) → y.picks ≡ x.picks → PicksAtMostOnce y z → PicksAtMostOnce x z
picks_then x y z same (inl e) = inl (e ∙ same)
picks_then x y z same (inr (pick, e)) = inr (pick, e ∙ ap (λ (l : List Picked). l ++ pick ∷ []) same)

pub picks_asked : {A E : Type 0} (r : Result A E) (fill : Fill) (x y : DiskView)
    → OnOk r (Picks fill x.armed.arming x.faults x.picks y.picks (image_now x) (image_now y)) → OnErr r (y.picks ≡ x.picks) → PicksAtMostOnce x y
picks_asked (Ok a) fill x y picks same = inr (picked_of fill x.armed.arming x.faults picks.image, picks.kept)
picks_asked (Err e) fill x y picks same = inl same

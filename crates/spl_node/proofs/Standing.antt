-- What the disks stand for while a record is kept.
use Rattle.std.{specs.{Prelude.if◌then◌else◌, Result.{IsOkAnd, result_unwrap_or}, Str.bytes_eq}, proofs.Common.{◌≡◌, ◌⊎◌, inl, inr, ⊎_elim, ℕ, Bool, true}}
use Rattle.std.proofs.Common.{false, List, [], ◌∷◌, ◌++◌, Option, None, Some, IfSome, Result, Ok, Err, refl, sym, ◌∙◌, ap, subst}
use Rattle.spl_edge.specs.Devices.{Image, IsSettled}
use Rattle.spl_journal.specs.{Journals.Stands, Records.kept_all}
use Rattle.spl_snapshot.specs.{Pairs.PairStands, Counting.{chosen, second_counts, pair_records, pair_records_of, HaveRecords, HaveEither, HaveOneOf, IfBoth}}
use Rattle.spl_snapshot.{proofs.Keeps.both_if, specs.{Counting.{PairLeavesBetween, PairLeavesBetweenInTurn}, declared.pairing.Pairing.Pairing}}
use Rattle.spl_agree.proofs.Tests.{bool_cases}
use Rattle.spl_circuit.specs.Nodes.{NodeId, CircuitId}
use Rattle.spl_wire.specs.{Grouping.record_of, declared.{change.Change.Change, event.Event.Event, plan.Plan.Plan}}
use Rattle.spl_wire.specs.declared.record.Record.{Record}
use Rattle.spl_cell_rules.specs.{Cells.{Cell, site_at}, Changes.{applied, changes_made, stopped_cell, after_plan}, Plans.plan_of}
use Rattle.spl_node.specs.{Kept.{cells_after, cells_with}, Records.{is_record, record_in, recorded_cell}, Stands.{Make, StandFor}}
use Rattle.spl_node.proofs.{Booleans.bytes_are, Disks.{leaves_map, turn_map}, Reading.recorded_more, Stops.{stopped-moved, applied-stopped}}
use Rattle.spl_node.proofs.Disks.{left_now, rest_leaves}

-- records that make the cells
pub stand_for : (here : NodeId) (cells : CircuitId → Cell) (rs : List (List ℕ)) (c d : List ℕ) → Make here cells rs → HaveRecords is_record rs c d
    → StandFor here cells c d
stand_for here cells rs c d make have = subst (λ (r : Result (List (List ℕ)) ℕ). IsOkAnd r (Make here cells)) (sym have) make

make_of : (here : NodeId) (cells : CircuitId → Cell) (r : Result (List (List ℕ)) ℕ) → IsOkAnd r (Make here cells) → Make here cells (result_unwrap_or r [])
make_of here cells (Ok rs) h = h
make_of here cells (Err at) h = absurd h

-- the records of disks that stand for the cells make them
pub makes : (here : NodeId) (cells : CircuitId → Cell) (c d : List ℕ) → StandFor here cells c d → Make here cells (pair_records_of is_record c d)
makes here cells c d stands = make_of here cells (pair_records is_record c d) stands

-- cells that are the same except open rounds
pub stand_same : (here : NodeId) (cells other : CircuitId → Cell) (c d : List ℕ) → ((i : CircuitId) → stopped_cell (cells i) ≡ stopped_cell (other i))
    → StandFor here cells c d → StandFor here other c d
stand_same here cells other c d same stands = by (pair_records is_record c d) stands
  where
    by : (r : Result (List (List ℕ)) ℕ) → IsOkAnd r (Make here cells) → IsOkAnd r (Make here other)
    by (Ok rs) h = λ i. h i ∙ same i
    by (Err at) h = h

-- ---- an event

module _ (here : NodeId) (c : CircuitId) (before : CircuitId → Cell) (e : Event) where
  abbrev plan : Plan
  plan = plan_of (site_at here c) (before c) e

  -- without changes the durable cells stay
  pub quiet : plan.changes ≡ [] → (i : CircuitId) → stopped_cell (cells_after here before c e i) ≡ stopped_cell (before i)
  quiet none i = by (bool_cases (bytes_eq c i))
    where
      by : (bytes_eq c i ≡ true) ⊎ (bytes_eq c i ≡ false) → stopped_cell (cells_after here before c e i) ≡ stopped_cell (before i)
      by (inl h) =
          rw h (stopped-moved here (changes_made here (before c) (plan_of (site_at here c) (before c) e).changes)
          (plan_of (site_at here c) (before c) e).admin (plan_of (site_at here c) (before c) e).service
          ∙ (ap (λ (xs : List Change). stopped_cell (changes_made here (before c) xs)) none
          ∙ ap (λ (k : CircuitId). stopped_cell (before k)) (bytes_are c i h)))
      by (inr h) = rw h refl

  -- the record of its changes after those of the cells before it
  pub more_made : (bytes : List ℕ) → record_in bytes ≡ Some (record_of c plan.changes)
      → applied (site_at here c) (before c) plan.changes ≡ changes_made here (before c) plan.changes
      → (rs : List (List ℕ)) → Make here before rs → Make here (cells_after here before c e) (rs ++ bytes ∷ [])
  more_made bytes is fits rs make i =
      recorded_more here i rs bytes (record_of c (plan_of (site_at here c) (before c) e).changes) is ∙ by (bool_cases (bytes_eq c i))
    where
      by : (bytes_eq c i ≡ true) ⊎ (bytes_eq c i ≡ false)
          → (if bytes_eq c i then applied (site_at here i) (recorded_cell here i rs) (plan_of (site_at here c) (before c) e).changes
          else recorded_cell here i rs) ≡ stopped_cell (cells_after here before c e i)
      by (inl h) =
          rw h (subst (λ (k : CircuitId). applied (site_at here k) (recorded_cell here k rs) (plan_of (site_at here c) (before c) e).changes
          ≡ stopped_cell (after_plan here (before c) (plan_of (site_at here c) (before c) e))) (bytes_are c i h)
          (ap (λ (k : Cell). applied (site_at here c) k (plan_of (site_at here c) (before c) e).changes) (make c)
          ∙ (applied-stopped (site_at here c) (before c) (plan_of (site_at here c) (before c) e).changes
          ∙ (ap stopped_cell fits
          ∙ sym (stopped-moved here (changes_made here (before c) (plan_of (site_at here c) (before c) e).changes)
          (plan_of (site_at here c) (before c) e).admin (plan_of (site_at here c) (before c) e).service)))))
      by (inr h) = rw h (make i)

-- ---- a record that was read

pub more_read : (here : NodeId) (cells : CircuitId → Cell) (rs : List (List ℕ)) (bytes : List ℕ) (r : Record) → record_in bytes ≡ Some r
    → ((i : CircuitId) → cells i ≡ recorded_cell here i rs)
    → (i : CircuitId) → cells_with here cells r.circuit r.changes i ≡ recorded_cell here i (rs ++ bytes ∷ [])
more_read here cells rs bytes r is all i = by (bool_cases (bytes_eq r.circuit i)) ∙ sym (recorded_more here i rs bytes r is)
  where
    by : (bytes_eq r.circuit i ≡ true) ⊎ (bytes_eq r.circuit i ≡ false)
        → cells_with here cells r.circuit r.changes i
        ≡ (if bytes_eq r.circuit i then applied (site_at here i) (recorded_cell here i rs) r.changes else recorded_cell here i rs)
    by (inl h) =
        rw h (ap (λ (k : Cell). applied (site_at here r.circuit) k r.changes) (all r.circuit)
        ∙ ap (λ (k : CircuitId). applied (site_at here k) (recorded_cell here k rs) r.changes) (bytes_are r.circuit i h))
    by (inr h) = rw h (all i)

-- ---- the two disks while a record is kept

pub chosen_some : (second : Bool) (i j : Image) (P : Image → Type 0) → IfSome (chosen second (Some i) (Some j)) P → P (chosen second i j)
chosen_some false i j P h = h
chosen_some true i j P h = h

module _ (here : NodeId) (before after : CircuitId → Cell) (bytes : List (List ℕ)) (packed : List (List ℕ))
    (more : (rs : List (List ℕ)) → Make here before rs → Make here after (rs ++ bytes)) (again : Make here after packed) where
  one_of : (rs : List (List ℕ)) → Make here before rs → (c d : List ℕ) → HaveOneOf is_record rs (rs ++ bytes) packed c d
      → StandFor here before c d ⊎ StandFor here after c d
  one_of rs make c d =
      ⊎_elim (λ h. inl (stand_for here before rs c d make h))
      (⊎_elim (λ h. inr (stand_for here after (rs ++ bytes) c d (more rs make) h)) (λ h. inr (stand_for here after packed c d again h)))

  either : (rs : List (List ℕ)) → Make here before rs → (c d : List ℕ) → HaveEither is_record (rs ++ bytes) packed c d → StandFor here after c d
  either rs make c d = ⊎_elim (λ h. stand_for here after (rs ++ bytes) c d (more rs make) h) (λ h. stand_for here after packed c d again h)

  -- an append that stopped, of whose record something is known
  module _ {R : Type 0} (q : Pairing R) (kept : Bool) (x y : Image → List ℕ)
      (have : (i j : Image) → Stands is_record q.journal (chosen q.second i j) → second_counts i.bytes j.bytes ≡ q.second
      → HaveRecords is_record (kept_all kept (pair_records_of is_record i.bytes j.bytes) bytes) (x i) (y j)) where
    stand_by : (i j : Image) (k : Bool) → Make here before (pair_records_of is_record i.bytes j.bytes)
        → HaveRecords is_record (kept_all k (pair_records_of is_record i.bytes j.bytes) bytes) (x i) (y j) → StandFor here (chosen k before after) (x i) (y j)
    stand_by i j false make h = stand_for here before (pair_records_of is_record i.bytes j.bytes) (x i) (y j) make h
    stand_by i j true make h =
        stand_for here after (pair_records_of is_record i.bytes j.bytes ++ bytes) (x i) (y j) (more (pair_records_of is_record i.bytes j.bytes) make) h

    pub stopped_kept : (o p : Option Image) → PairStands is_record q o p
        → IfBoth o p (λ i j. StandFor here before i.bytes j.bytes → StandFor here (chosen kept before after) (x i) (y j))
    stopped_kept None p pair = tt
    stopped_kept (Some i) None pair = tt
    stopped_kept (Some i) (Some j) pair =
        λ stands. stand_by i j kept (makes here before i.bytes j.bytes stands)
        (have i j (chosen_some q.second i j (Stands is_record q.journal) pair.counting) pair.counts)

  module _ (o p : Option Image) (at other : ℕ → Option Image) (from to start end : ℕ) where
    pub any_kept : (second : Bool)
        → IfBoth o p (λ i j. PairLeavesBetweenInTurn second at from to other start end
        (HaveOneOf is_record (pair_records_of is_record i.bytes j.bytes) (pair_records_of is_record i.bytes j.bytes ++ bytes) packed))
        → IfBoth o p (λ i j. StandFor here before i.bytes j.bytes
        → PairLeavesBetweenInTurn second at from to other start end (λ c d. StandFor here before c d ⊎ StandFor here after c d))
    any_kept second left =
        both_if o p (λ i j. PairLeavesBetweenInTurn second at from to other start end
        (HaveOneOf is_record (pair_records_of is_record i.bytes j.bytes) (pair_records_of is_record i.bytes j.bytes ++ bytes) packed))
        (λ i j. StandFor here before i.bytes j.bytes
        → PairLeavesBetweenInTurn second at from to other start end (λ c d. StandFor here before c d ⊎ StandFor here after c d)) left
        (λ i j h stands. turn_map second at other from to start end
        (HaveOneOf is_record (pair_records_of is_record i.bytes j.bytes) (pair_records_of is_record i.bytes j.bytes ++ bytes) packed)
        (λ c d. StandFor here before c d ⊎ StandFor here after c d)
        (one_of (pair_records_of is_record i.bytes j.bytes) (makes here before i.bytes j.bytes stands)) h)

    pub after_kept : IfBoth o p
        (λ i j. PairLeavesBetween at from to other start end (HaveEither is_record (pair_records_of is_record i.bytes j.bytes ++ bytes) packed))
        → IfBoth o p (λ i j. StandFor here before i.bytes j.bytes → PairLeavesBetween at from to other start end (StandFor here after))
    after_kept left =
        both_if o p (λ i j. PairLeavesBetween at from to other start end (HaveEither is_record (pair_records_of is_record i.bytes j.bytes ++ bytes) packed))
        (λ i j. StandFor here before i.bytes j.bytes → PairLeavesBetween at from to other start end (StandFor here after)) left
        (λ i j h stands. leaves_map at other from to start end (HaveEither is_record (pair_records_of is_record i.bytes j.bytes ++ bytes) packed)
        (StandFor here after)
        (either (pair_records_of is_record i.bytes j.bytes) (makes here before i.bytes j.bytes stands)) h)

-- what each image of the last moments stands for, the disks stand for
pub stands_now : (here : NodeId) (before after : CircuitId → Cell) (o p : Option Image) (at other : ℕ → Option Image) (m n : ℕ) → IfSome (at m) IsSettled
    → IfSome (other n) IsSettled
    → IfBoth o p (λ i j. StandFor here before i.bytes j.bytes → PairLeavesBetween at m m other n n (StandFor here after))
    → IfBoth o p (λ i j. StandFor here before i.bytes j.bytes → IfBoth (at m) (other n) (λ k l. StandFor here after k.bytes l.bytes))
stands_now here before after o p at other m n a b left =
    both_if o p (λ i j. StandFor here before i.bytes j.bytes → PairLeavesBetween at m m other n n (StandFor here after))
    (λ i j. StandFor here before i.bytes j.bytes → IfBoth (at m) (other n) (λ k l. StandFor here after k.bytes l.bytes)) left
    (λ i j h stands. left_now at other m n (StandFor here after) a b (h stands))

-- ---- an event without a call

module _ (here : NodeId) (before after : CircuitId → Cell) (at other : ℕ → Option Image) (m n : ℕ) (a : IfSome (at m) IsSettled)
    (b : IfSome (other n) IsSettled) where
  pub any_still : (second : Bool)
      → IfBoth (at m) (other n)
      (λ i j. StandFor here before i.bytes j.bytes
      → PairLeavesBetweenInTurn second at m m other n n (λ c d. StandFor here before c d ⊎ StandFor here after c d))
  any_still second =
      both_if (at m) (other n)
      (λ i j. StandFor here before i.bytes j.bytes → PairLeavesBetween at m m other n n (λ c d. StandFor here before c d ⊎ StandFor here after c d))
      (λ i j. StandFor here before i.bytes j.bytes
      → PairLeavesBetweenInTurn second at m m other n n (λ c d. StandFor here before c d ⊎ StandFor here after c d))
      (rest_leaves at other m n a b (λ i j. StandFor here before i.bytes j.bytes) (λ c d. StandFor here before c d ⊎ StandFor here after c d) (λ i j h. inl h))
      (λ i j h stands k l low high low2 high2 turn. h stands k l low high low2 high2)

  pub after_still : ((i : CircuitId) → stopped_cell (after i) ≡ stopped_cell (before i))
      → IfBoth (at m) (other n) (λ i j. StandFor here before i.bytes j.bytes → PairLeavesBetween at m m other n n (StandFor here after))
  after_still same =
      rest_leaves at other m n a b (λ i j. StandFor here before i.bytes j.bytes) (StandFor here after)
      (λ i j h. stand_same here before after i.bytes j.bytes (λ k. sym (same k)) h)

-- Where a line ended with an error.
use Rattle.std.proofs.Common.{append-nil}
use Rattle.spl_edge.specs.Sources.{limit}
use Rattle.spl_circuit_world.specs.{Answers.occurrences_in, Projection.{names_circuit, names}, Worlds.{node_stopped, started, node_of}}
use Rattle.spl_circuit_world.proofs.LinesAsOccurrences.{run-append}
use Rattle.spl_sched.specs.Grammar.{line_circuit}
use Rattle.spl_sched.specs.declared.line.Line.TheVariants as line
use Rattle.spl_world.specs.{Ended.{EventEnds, IsLeftAtOne, cells_in}, Held.{EachAt, HoldFor, IsEventOf, LeaveEither, LineEnds, cells_so_far}}
use Rattle.spl_world.specs.Views.{HoldsWorld, IsPlace, Nodes, Sits, StandsAfterLines, ids_in, world_node_ids, nodes_over, places_of, slot_id, slot_places}
use Rattle.spl_world.specs.{Views.view_in, declared.{fault.WorldFault.{WorldFault, TheVariants.{Disk, NoMemory, TooMany}}, slot.Slot.Slot, world.World.World}}
use Rattle.spl_world.proofs.Common.{◌≡◌, ◌⊎◌, inl, inr, ℕ, Bool, true, false, true≢false, List, [], ◌∷◌, ◌++◌, append_assoc, slice_get, Option, Some, None}
use Rattle.spl_world.proofs.Common.{Result, Ok, Err, refl, ap, sym, subst, ◌∙◌, IfErr, IsErrOf, if◌then◌else◌, bytes_eq, bool_cases, bytes_are, bytes_same}
use Rattle.spl_world.proofs.Common.{NodeId, CircuitId, Fill, calm, Ran, put_at-other, Origin, CircuitWorld, Occurrence, Halts, Starts, Steps, Stops}
use Rattle.spl_world.proofs.Common.{circuit_happens, halted, occur, step_plan, step_world, whole_world, Cell, after_plan, changes_made, stopped_cell}
use Rattle.spl_world.proofs.{Common.{step_circuit, step_node, Line, Step, if_holds}, Ending.{either_as, hold_as, hold_either, stands_hold}, HoldingNow.IsSlot}
use Rattle.spl_world.proofs.{HoldingNow.slot_there, Results.failed, Slots.{id_at, place_at}}
use Rattle.spl_node.specs.Benches.{Images, images_at}

-- a world of one circuit, and the given ones of all others
abbrev pub with_world : CircuitId → CircuitWorld → (CircuitId → CircuitWorld) → CircuitId → CircuitWorld
with_world c m others d = if bytes_eq c d then m else others d

-- ---- nodes that stand

module _ (xs : Nodes) (worlds : CircuitId → CircuitWorld) (sits : Sits xs) (holds : (d : CircuitId) → HoldsWorld d (worlds d) xs) where
  seen_cell : (i : ℕ) (s : Slot) → slice_get xs.slots i ≡ Some s → (d : CircuitId) → (view_in xs s).cells d ≡ (worlds d).at (slot_id s)
  seen_cell i s there d = ((holds d).each i s there).state

  node_holds : (i : ℕ) (n : NodeId) (k : ℕ) (s : Slot) → IsSlot xs.slots i n k s → HoldFor n (λ d. (worlds d).at n) (images_at xs.disks k)
  node_holds i n k s is =
      subst (λ (m : NodeId). HoldFor m (λ d. (worlds d).at m) (images_at xs.disks k)) is.id_is
      (subst (λ (l : ℕ). HoldFor (slot_id s) (λ d. (worlds d).at (slot_id s)) (images_at xs.disks l)) is.place_is
      (hold_as (slot_id s) (view_in xs s).cells (λ d. (worlds d).at (slot_id s)) (seen_cell i s is.there) (images_at xs.disks s.position)
      (stands_hold s (images_at xs.disks s.position) (sits.each i s is.there))))

  all_hold : EachAt (λ i n p. HoldFor n (λ d. (worlds d).at n) p) (ids_in xs) (slot_places xs.slots) xs.disks
  all_hold = λ i n k at place. let f = slot_there xs.slots i n k at place in node_holds i n k f.0 f.1

  -- ---- where an event ended at one of them
  module _ (c : CircuitId) (after : CircuitWorld) (e : WorldFault) (is : List Images) (one : IsLeftAtOne c after e xs is) where
    abbrev later : CircuitId → CircuitWorld
    later = with_world c after worlds

    same_slot : (i : ℕ) (s : Slot) → slice_get xs.slots i ≡ Some s → i ≡ one.index → one.slot ≡ s
    same_slot i s there e = let q : Some one.slot ≡ Some s = sym one.there ∙ ap (λ (j : ℕ). slice_get xs.slots j) (sym e) ∙ there in cc

    else_hold : EachAt (λ i n p. (i ≡ one.index → ⊥) → HoldFor n (λ d. (worlds d).at n) p) (ids_in xs) (slot_places xs.slots) is
    else_hold = λ i n k at place off.
        let f = slot_there xs.slots i n k at place in
        let s : Slot = f.0 in
        let there : IsSlot xs.slots i n k s = f.1 in
        subst (HoldFor n (λ d. (worlds d).at n))
        (sym (one.others k (λ e. off (sits.apart one.index i one.slot s one.there there.there (sym e ∙ sym there.place_is))))) (node_holds i n k s there)

    later_cell : (d : CircuitId) → cells_in c after (slot_id one.slot) (view_in xs one.slot).cells d ≡ (later d).at (slot_id one.slot)
    later_cell d = go (bytes_eq c d)
      where
        go : (b : Bool) → (if b then after.at (slot_id one.slot) else (view_in xs one.slot).cells d) ≡ (if b then after else worlds d).at (slot_id one.slot)
        go true = refl
        go false = seen_cell one.index one.slot one.there d

    own_leaves : EachAt (λ i n p. i ≡ one.index → LeaveEither n (λ d. (worlds d).at n) (λ d. (later d).at n) p) (ids_in xs) (slot_places xs.slots) is
    own_leaves = λ i n k at place here.
        let f = slot_there xs.slots i n k at place in
        let s : Slot = f.0 in
        let there : IsSlot xs.slots i n k s = f.1 in
        let same : one.slot ≡ s = same_slot i s there.there here in
        let id : slot_id one.slot ≡ n = ap slot_id same ∙ there.id_is in
        let position : one.slot.position ≡ k = ap (λ (t : Slot). t.position) same ∙ there.place_is in
        subst (λ (m : NodeId). LeaveEither m (λ d. (worlds d).at m) (λ d. (later d).at m) (images_at is k)) id
        (subst (λ (l : ℕ). LeaveEither (slot_id one.slot) (λ d. (worlds d).at (slot_id one.slot)) (λ d. (later d).at (slot_id one.slot)) (images_at is l)) position
        (either_as (slot_id one.slot) (view_in xs one.slot).cells (cells_in c after (slot_id one.slot) (view_in xs one.slot).cells)
        (λ d. (worlds d).at (slot_id one.slot)) (λ d. (later d).at (slot_id one.slot))
        (seen_cell one.index one.slot one.there) later_cell (images_at is one.slot.position) one.own))

    one_at : (k : ℕ) → e ≡ Disk k → slice_get (slot_places xs.slots) one.index ≡ Some k
    one_at k q = place_at xs.slots one.index one.slot one.there ∙ ap Some (sym (one.place k q))

-- ---- lines

-- the place of the disk that an error names, or any
some_place : (ks : List ℕ) (e : WorldFault) → ((k : ℕ) → e ≡ Disk k → IsPlace ks k) → (i : ℕ) × ((k : ℕ) → e ≡ Disk k → slice_get ks i ≡ Some k)
some_place ks (Disk slot) h = let p = h slot refl in (p.0, λ k q. let same : slot ≡ k = cc in p.1 ∙ ap Some same)
some_place ks _ h = (0, λ k q. cc)

-- before anything happened of a line
nothing_yet : (own : CircuitId → CircuitWorld) (l : Line) (n : NodeId) (d : CircuitId) → (own d).at n ≡ cells_so_far own l [] n d
nothing_yet own l n d = if_holds (λ (k : Cell). (own d).at n ≡ k) (names d l) ((own d).at n) ((own d).at n) (λ q. refl) (λ q. refl)

-- what happens in it
abbrev whole_of : (CircuitId → CircuitWorld) → Line → Option CircuitId → List Occurrence
whole_of own l None = []
whole_of own l (Some c) = occurrences_in (own c) l true

whole_is : (own : CircuitId → CircuitWorld) (l : Line) (d : CircuitId) → names d l ≡ true → whole_of own l (line_circuit l) ≡ occurrences_in (own d) l true
whole_is own l d named = go (line_circuit l) named
  where
    go : (i : Option CircuitId) → names_circuit d i ≡ true → whole_of own l i ≡ occurrences_in (own d) l true
    go None h = absurd (true≢false (sym h))
    go (Some c) h = ap (λ (k : CircuitId). occurrences_in (own k) l true) (bytes_are c d h)

-- what happens at one node leaves the cells of all others
elsewhere : (w : CircuitWorld) (x : Occurrence) (n : NodeId) → bytes_eq n (node_of x) ≡ false → (circuit_happens w x).at n ≡ w.at n
elsewhere w (Steps s) n off = put_at-other w.at (step_node s) n (after_plan (step_node s) (w.at (step_node s)) (step_plan w s)) off
elsewhere w (Stops m) n off = if_holds (λ (v : CircuitWorld). v.at n ≡ w.at n) (w.up m) (node_stopped w m) w (λ q. put_at-other w.at m n (stopped_cell (w.at m)) off) (λ q. refl)
elsewhere w (Starts m) n off = if_holds (λ (v : CircuitWorld). v.at n ≡ w.at n) (w.up m) w (started w m) (λ q. refl) (λ q. refl)
elsewhere w (Halts kept s) n off = if_holds (λ (v : CircuitWorld). v.at n ≡ w.at n) (w.up (step_node s)) (halted w (step_node s) kept (step_plan w s)) w
    (λ q. put_at-other w.at (step_node s) n (stopped_cell (if kept then changes_made (step_node s) (w.at (step_node s)) (step_plan w s).changes else w.at (step_node s))) off) (λ q. refl)

module _ (own : CircuitId → CircuitWorld) (l : Line) (e : WorldFault) (xs : Nodes) (sits : Sits xs) (holds : (d : CircuitId) → HoldsWorld d (own d) xs)
    (named : (k : ℕ) → e ≡ Disk k → IsPlace (slot_places xs.slots) k) where
  so_far : (n : NodeId) (p : Images) → HoldFor n (λ d. (own d).at n) p → HoldFor n (cells_so_far own l [] n) p
  so_far n p h = hold_as n (λ d. (own d).at n) (cells_so_far own l [] n) (nothing_yet own l n) p h

  -- the disks hold what the nodes keep
  line_still : LineEnds own l e (ids_in xs) (slot_places xs.slots) xs.disks
  line_still =
      let p = some_place (slot_places xs.slots) e named in
      let all = all_hold xs own sits holds in record {
        done = [];
        next = [];
        rest = whole_of own l (line_circuit l);
        all = λ c q. whole_is own l c q;
        first = λ q. refl;
        one = p.0;
        event = tt;
        one_place = p.1;
        limit = λ which q i n k at place. so_far n (images_at xs.disks k) (all i n k at place);
        others = λ i n k at place off. so_far n (images_at xs.disks k) (all i n k at place);
        own_disks = λ i n k at place here. hold_either n (cells_so_far own l [] n) (cells_so_far own l [] n) (images_at xs.disks k) (so_far n (images_at xs.disks k) (all i n k at place));
      }

  module _ (c : CircuitId) (after : CircuitWorld) (is : List Images) (few : (which : ℕ) → e ≡ TooMany which → is ≡ xs.disks) (one : IsLeftAtOne c after e xs is) where
    here : NodeId
    here = slot_id one.slot

    limits : (which : ℕ) → e ≡ TooMany which → EachAt (λ i n p. HoldFor n (cells_so_far own l [] n) p) (ids_in xs) (slot_places xs.slots) is
    limits which q = λ i n k at place. so_far n (images_at is k)
        (subst (λ (ps : List Images). HoldFor n (λ d. (own d).at n) (images_at ps k)) (sym (few which q)) (all_hold xs own sits holds i n k at place))

    -- an event of this line ended with an error at this node
    line_at : (x : Occurrence) (next rest : List Occurrence) → ((d : CircuitId) → names d l ≡ true → next ++ rest ≡ occurrences_in (own d) l true) → IsEventOf (ids_in xs) one.index next
        → ((d : CircuitId) → (with_world c after own d).at (slot_id one.slot) ≡ cells_so_far own l next (slot_id one.slot) d) → LineEnds own l e (ids_in xs) (slot_places xs.slots) is
    line_at x next rest all event later = record {
      done = [];
      next = next;
      rest = rest;
      all = all;
      first = λ q. refl;
      one = one.index;
      event = event;
      one_place = one_at xs own sits holds c after e is one;
      limit = limits;
      others = λ i n k at place off. so_far n (images_at is k) (else_hold xs own sits holds c after e is one i n k at place off);
      own_disks = λ i n k at place q.
          let ids : slice_get (ids_in xs) one.index ≡ Some (slot_id one.slot) = id_at xs.slots one.index one.slot one.there in
          let found : Some (slot_id one.slot) ≡ Some n = sym ids ∙ ap (slice_get (ids_in xs)) (sym q) ∙ at in
          let same : slot_id one.slot ≡ n = cc in
          either_as n (λ d. (own d).at n) (λ d. (with_world c after own d).at n) (cells_so_far own l [] n) (cells_so_far own l next n) (nothing_yet own l n)
          (subst (λ (m : NodeId). (d : CircuitId) → (with_world c after own d).at m ≡ cells_so_far own l next m d) same later)
          (images_at is k) (own_leaves xs own sits holds c after e is one i n k at place q);
    }

  -- an event that changes no cell
  line_unchanged : (c : CircuitId) (is : List Images) → EventEnds c (own c) e xs is → LineEnds own l e (ids_in xs) (slot_places xs.slots) is
  line_unchanged c is ends = go ends.others
    where
      go : (is ≡ xs.disks) ⊎ IsLeftAtOne c (own c) e xs is → LineEnds own l e (ids_in xs) (slot_places xs.slots) is
      go (inl same) = subst (λ (ps : List Images). LineEnds own l e (ids_in xs) (slot_places xs.slots) ps) (sym same) line_still
      go (inr one) = line_at c (own c) is ends.limit one (Starts (slot_id one.slot)) [] (whole_of own l (line_circuit l)) (λ d q. whole_is own l d q) tt (λ d. unchanged d ∙ nothing_yet own l (slot_id one.slot) d)
        where
          unchanged : (d : CircuitId) → (with_world c (own c) own d).at (slot_id one.slot) ≡ (own d).at (slot_id one.slot)
          unchanged d = if_holds (λ (w : CircuitWorld). w.at (slot_id one.slot) ≡ (own d).at (slot_id one.slot)) (bytes_eq c d) (own c) (own d)
              (λ q. ap (λ (k : CircuitId). (own k).at (slot_id one.slot)) (bytes_are c d q)) (λ q. refl)

  -- the one event of a line
  line_event : (c : CircuitId) (x : Occurrence) (is : List Images) → line_circuit l ≡ Some c → ((d : CircuitId) → occurrences_in (own d) l true ≡ x ∷ [])
      → EventEnds c (circuit_happens (own c) x) e xs is → LineEnds own l e (ids_in xs) (slot_places xs.slots) is
  line_event c x is about single ends = go ends.others
    where
      names_as : (d : CircuitId) → names d l ≡ bytes_eq c d
      names_as d = ap (names_circuit d) about

      go : (is ≡ xs.disks) ⊎ IsLeftAtOne c (circuit_happens (own c) x) e xs is → LineEnds own l e (ids_in xs) (slot_places xs.slots) is
      go (inl same) = subst (λ (ps : List Images). LineEnds own l e (ids_in xs) (slot_places xs.slots) ps) (sym same) line_still
      go (inr one) = at_node (bool_cases (bytes_eq (slot_id one.slot) (node_of x)))
        where
          at_node : (bytes_eq (slot_id one.slot) (node_of x) ≡ true) ⊎ (bytes_eq (slot_id one.slot) (node_of x) ≡ false) → LineEnds own l e (ids_in xs) (slot_places xs.slots) is
          at_node (inl q) = line_at c (circuit_happens (own c) x) is ends.limit one x (x ∷ []) [] (λ d r. sym (single d)) (id_at xs.slots one.index one.slot one.there ∙ ap Some (bytes_are (slot_id one.slot) (node_of x) q)) later
            where
              later : (d : CircuitId) → (with_world c (circuit_happens (own c) x) own d).at (slot_id one.slot) ≡ cells_so_far own l (x ∷ []) (slot_id one.slot) d
              later d = if_holds (λ (w : CircuitWorld). w.at (slot_id one.slot) ≡ cells_so_far own l (x ∷ []) (slot_id one.slot) d) (bytes_eq c d) (circuit_happens (own c) x) (own d)
                  (λ r. ap (λ (k : CircuitId). (circuit_happens (own k) x).at (slot_id one.slot)) (bytes_are c d r)
                  ∙ sym (ap (λ (b : Bool). if b then (circuit_happens (own d) x).at (slot_id one.slot) else (own d).at (slot_id one.slot)) (names_as d ∙ r)))
                  (λ r. sym (ap (λ (b : Bool). if b then (circuit_happens (own d) x).at (slot_id one.slot) else (own d).at (slot_id one.slot)) (names_as d ∙ r)))
          at_node (inr q) = line_at c (circuit_happens (own c) x) is ends.limit one x [] (whole_of own l (line_circuit l)) (λ d r. whole_is own l d r) tt (λ d. same d ∙ nothing_yet own l (slot_id one.slot) d)
            where
              same : (d : CircuitId) → (with_world c (circuit_happens (own c) x) own d).at (slot_id one.slot) ≡ (own d).at (slot_id one.slot)
              same d = if_holds (λ (w : CircuitWorld). w.at (slot_id one.slot) ≡ (own d).at (slot_id one.slot)) (bytes_eq c d) (circuit_happens (own c) x) (own d)
                  (λ r. elsewhere (own c) x (slot_id one.slot) q ∙ ap (λ (k : CircuitId). (own k).at (slot_id one.slot)) (bytes_are c d r)) (λ r. refl)

-- ---- lines that stop a node

pub memory_named : (ks : List ℕ) (k : ℕ) → NoMemory ≡ Disk k → IsPlace ks k
memory_named ks k q = absurd cc

module _ (worlds : CircuitId → CircuitWorld) (xs : Nodes) (sits : Sits xs) (holds : (d : CircuitId) → HoldsWorld d (worlds d) xs) (is : List Images) where
  -- between events
  pub ended_stop : (l : Line) (c : CircuitId) → EventEnds c (worlds c) NoMemory xs is → LineEnds worlds l NoMemory (ids_in xs) (slot_places xs.slots) is
  ended_stop l c ends = line_unchanged worlds l NoMemory xs sits holds (memory_named (slot_places xs.slots)) c is ends

  -- in one
  pub ended_cut : (calls : ℕ) (f : Fill) (s : Step) → EventEnds (step_circuit s) (circuit_happens (worlds (step_circuit s)) (Halts true s)) NoMemory xs is
      → LineEnds worlds (line.Cut calls f s) NoMemory (ids_in xs) (slot_places xs.slots) is
  ended_cut calls f s ends = line_event worlds (line.Cut calls f s) NoMemory xs sits holds (memory_named (slot_places xs.slots)) (step_circuit s) (Halts true s) is refl (λ d. refl) ends

  pub ended_fail : (call : ℕ) (s : Step) → EventEnds (step_circuit s) (circuit_happens (worlds (step_circuit s)) (Halts true s)) NoMemory xs is
      → LineEnds worlds (line.Fail call s) NoMemory (ids_in xs) (slot_places xs.slots) is
  ended_fail call s ends = line_event worlds (line.Fail call s) NoMemory xs sits holds (memory_named (slot_places xs.slots)) (step_circuit s) (Halts true s) is refl (λ d. refl) ends

-- ---- the lines of a world

module _ {o : Origin} {others : ℕ} (before : List Ran) (w : World) (was : List Images) (stands : StandsAfterLines o others before w was) (e : WorldFault)
    (named : (k : ℕ) → e ≡ Disk k → IsPlace (places_of w) k) where
  abbrev own : CircuitId → CircuitWorld
  own = λ c. whole_world o c before

  -- no disk changed
  pub ended_still : (l : Line) (is : List Images) → is ≡ was → LineEnds own l e (world_node_ids w) (places_of w) is
  ended_still l is same = subst (λ (ps : List Images). LineEnds own l e (world_node_ids w) (places_of w) ps) (sym same) (line_still own l e (nodes_over w was) stands.sits stands.each named)

  pub ended_step : (l : Line) (s : Step) (is : List Images) → l ≡ line.Step s
      → EventEnds (step_circuit s) (step_world (own (step_circuit s)) s) e (nodes_over w was) is → LineEnds own l e (world_node_ids w) (places_of w) is
  ended_step l s is l_is ends =
      subst (λ (x : Line). LineEnds own x e (world_node_ids w) (places_of w) is) (sym l_is)
      (line_event own (line.Step s) e (nodes_over w was) stands.sits stands.each named (step_circuit s) (Steps s) is refl (λ d. refl) ends)

  pub ended_start : (l : Line) (c : CircuitId) (is : List Images) → EventEnds c (own c) e (nodes_over w was) is → LineEnds own l e (world_node_ids w) (places_of w) is
  ended_start l c is ends = line_unchanged own l e (nodes_over w was) stands.sits stands.each named c is ends

-- ---- where the error comes from

-- a step as it ended
pub ended_by : {o : Origin} {others : ℕ} {A : Type 0} (before : List Ran) (w : World) (was : List Images) → StandsAfterLines o others before w was
    → (r : Result A WorldFault) (l : Line) (s : Step) (is : List Images) → l ≡ line.Step s → ((k : ℕ) → IsErrOf r (Disk k) → IsPlace (places_of w) k)
    → IfErr r (λ e. EventEnds (step_circuit s) (step_world (whole_world o (step_circuit s) before) s) e (nodes_over w was) is)
    → IfErr r (λ e. LineEnds (λ c. whole_world o c before) l e (world_node_ids w) (places_of w) is)
ended_by before w was stands (Ok a) l s is l_is place h = tt
ended_by {A} before w was stands (Err e) l s is l_is place h = ended_step before w was stands e (λ k q. place k (ap (failed A) q)) l s is l_is h

-- ---- a calm

-- A calm ended with an error in one of its steps: these had happened, and the worlds were those after them
module _ (own now : CircuitId → CircuitWorld) (c : CircuitId) (k : ℕ) (e : WorldFault) (ids : List NodeId) (places : List ℕ) (is : List Images)
    (es rest : List Occurrence) (s : Step) (about : step_circuit s ≡ c) (all : es ++ (Steps s ∷ rest) ≡ (calm c (own c) k).happened)
    (here : (d : CircuitId) → bytes_eq c d ≡ true → now d ≡ occur (own d) es) (else_same : (d : CircuitId) → bytes_eq c d ≡ false → now d ≡ own d) where
  abbrev one : Line
  one = line.Step s

  names_as : (d : CircuitId) → names d (line.Step s) ≡ bytes_eq c d
  names_as d = ap (λ (i : CircuitId). bytes_eq i d) about

  -- what a node keeps after so much of the step is what it keeps after so much of the calm
  cells_as : (xs : List Occurrence) (n : NodeId) (d : CircuitId) → cells_so_far now (line.Step s) xs n d ≡ cells_so_far own (line.Calm c k) (es ++ xs) n d
  cells_as xs n d = elim (bool_cases (bytes_eq c d)) [
    | inl q ↦
        ap (λ (b : Bool). if b then (occur (now d) xs).at n else (now d).at n) (names_as d ∙ q)
        ∙ ap (λ (w : CircuitWorld). (occur w xs).at n) (here d q)
        ∙ ap (λ (w : CircuitWorld). w.at n) (sym (run-append (own d) es xs))
        ∙ sym (ap (λ (b : Bool). if b then (occur (own d) (es ++ xs)).at n else (own d).at n) q)
    | inr q ↦
        ap (λ (b : Bool). if b then (occur (now d) xs).at n else (now d).at n) (names_as d ∙ q)
        ∙ ap (λ (w : CircuitWorld). w.at n) (else_same d q)
        ∙ sym (ap (λ (b : Bool). if b then (occur (own d) (es ++ xs)).at n else (own d).at n) q)
  ]

  module _ (x : LineEnds now (line.Step s) e ids places is) where
    nothing : x.done ≡ []
    nothing = x.first refl

    cells_done : (n : NodeId) (d : CircuitId) → cells_so_far now (line.Step s) x.done n d ≡ cells_so_far own (line.Calm c k) es n d
    cells_done n d =
        ap (λ (ys : List Occurrence). cells_so_far now (line.Step s) ys n d) nothing
        ∙ cells_as [] n d ∙ ap (λ (ys : List Occurrence). cells_so_far own (line.Calm c k) ys n d) (append-nil es)

    cells_next : (n : NodeId) (d : CircuitId) → cells_so_far now (line.Step s) (x.done ++ x.next) n d ≡ cells_so_far own (line.Calm c k) (es ++ x.next) n d
    cells_next n d = ap (λ (ys : List Occurrence). cells_so_far now (line.Step s) (ys ++ x.next) n d) nothing ∙ cells_as x.next n d

    step_all : x.next ++ x.rest ≡ Steps s ∷ []
    step_all = ap (λ (ys : List Occurrence). ys ++ (x.next ++ x.rest)) (sym nothing) ∙ x.all c (names_as c ∙ bytes_same c)

    pub ended_in_calm : LineEnds own (line.Calm c k) e ids places is
    ended_in_calm = record {
      done = es;
      next = x.next;
      rest = x.rest ++ rest;
      all = λ d q.
          ap (λ (ys : List Occurrence). es ++ ys) (sym (append_assoc x.next x.rest rest) ∙ ap (λ (ys : List Occurrence). ys ++ rest) step_all)
          ∙ all ∙ ap (λ (i : CircuitId). (calm c (own i) k).happened) (bytes_are c d q);
      first = λ q. absurd (true≢false q);
      one = x.one;
      event = x.event;
      one_place = x.one_place;
      limit = λ which q i n l at place. hold_as n (cells_so_far now (line.Step s) x.done n) (cells_so_far own (line.Calm c k) es n) (cells_done n)
          (images_at is l) (x.limit which q i n l at place);
      others = λ i n l at place off. hold_as n (cells_so_far now (line.Step s) x.done n) (cells_so_far own (line.Calm c k) es n) (cells_done n)
          (images_at is l) (x.others i n l at place off);
      own_disks = λ i n l at place q. either_as n (cells_so_far now (line.Step s) x.done n) (cells_so_far now (line.Step s) (x.done ++ x.next) n) (cells_so_far own (line.Calm c k) es n) (cells_so_far own (line.Calm c k) (es ++ x.next) n)
          (cells_done n) (cells_next n) (images_at is l) (x.own_disks i n l at place q);
    }

-- or before any of those that are left, and the nodes kept what they have after these
module _ (own now : CircuitId → CircuitWorld) (c : CircuitId) (k : ℕ) (e : WorldFault) (xs : Nodes) (sits : Sits xs)
    (holds : (d : CircuitId) → HoldsWorld d (now d) xs) (es rest : List Occurrence) (all : es ++ rest ≡ (calm c (own c) k).happened)
    (here : (d : CircuitId) → bytes_eq c d ≡ true → now d ≡ occur (own d) es) (else_same : (d : CircuitId) → bytes_eq c d ≡ false → now d ≡ own d) where
  abbrev kept : NodeId → CircuitId → Cell
  kept = cells_so_far own (line.Calm c k) es

  cells_now : (n : NodeId) (d : CircuitId) → (now d).at n ≡ cells_so_far own (line.Calm c k) es n d
  cells_now n d = elim (bool_cases (bytes_eq c d)) [
    | inl q ↦ ap (λ (w : CircuitWorld). w.at n) (here d q) ∙ sym (ap (λ (b : Bool). if b then (occur (own d) es).at n else (own d).at n) q)
    | inr q ↦ ap (λ (w : CircuitWorld). w.at n) (else_same d q) ∙ sym (ap (λ (b : Bool). if b then (occur (own d) es).at n else (own d).at n) q)
  ]

  each_now : EachAt (λ i n p. HoldFor n (kept n) p) (ids_in xs) (slot_places xs.slots) xs.disks
  each_now = λ i n j at place. hold_as n (λ d. (now d).at n) (kept n) (cells_now n) (images_at xs.disks j) (all_hold xs now sits holds i n j at place)

  pub ended_between : ((j : ℕ) → e ≡ Disk j → ⊥) → LineEnds own (line.Calm c k) e (ids_in xs) (slot_places xs.slots) xs.disks
  ended_between unnamed = record {
    done = es;
    next = [];
    rest = rest;
    all = λ d q. all ∙ ap (λ (i : CircuitId). (calm c (own i) k).happened) (bytes_are c d q);
    first = λ q. absurd (true≢false q);
    one = 0;
    event = tt;
    one_place = λ j q. absurd (unnamed j q);
    limit = λ which q. each_now;
    others = λ i n j at place off. each_now i n j at place;
    own_disks = λ i n j at place here. hold_either n (kept n) (cells_so_far own (line.Calm c k) (es ++ []) n) (images_at xs.disks j) (each_now i n j at place);
  }
